-- What is of the grammar is read.
use Rattle.std.proofs.Common.{◌≡◌, ℕ, ◌+◌, ◌-◌, ◌<◌, ◌≤◌, ◌==◌, zero, suc, Bool, true, false, bytes_eq, List, [], ◌∷◌, length, refl, sym, ◌∙◌, ap, subst, arith, ◌⊎◌, inl, inr, lit<}
use Rattle.std.specs.Prelude.{Option, Some}
use Rattle.std.proofs.lemmas.Bool.{eqb-true, eqb-false}
use Rattle.std.proofs.lemmas.Bool.Decides.{leb_tells}
use Rattle.std.specs.Prelude.{leb}
use Rattle.java_lex.specs.declared.spelling.Terminal.{Terminal}
use Rattle.java_lex.specs.declared.spelling.Terminal.TheVariants as terminal
use Rattle.java_lex.specs.declared.token.Token.{Token}
use Rattle.java_lex.specs.declared.token.TokenKind.TheVariants.{Word}
use Rattle.java_lex.specs.declared.words.TheConstants.{HAS, INT_SIZE}
use Rattle.java_tree.specs.declared.expressions.Sign.{Sign}
use Rattle.java_tree.specs.declared.expressions.Sign.TheVariants as sign
use Rattle.java_tree.specs.declared.names.Ident.{Ident}
use Rattle.java_tree.specs.Trees.{Expr, num, flag, null, this, outcome, make, named, call, read, call_on, paren, negation, minus, bin, old, quant, quant_in, has, size, Exprs, none, also}
use Rattle.java_tree.specs.Phrases.{Phrase, ◌▸◌, letter, ident_of, text_of, one, name, opens, closed, nothing, token}
use Rattle.java_tree.specs.Expressions.{arguments, more_arguments, more_fields, fields_of, bracketed, chained, is_steps, is_chain, left_tier, right_tier, whole, place, tier_of, quantifier, unary, post}
use Rattle.reading_core.specs.Read.{Read, Got, Bad, ◌>>=◌, at_side, expect, is_name, is_close, is_comma, is_semicolon, is_open, is_open_terminal, is_close_terminal, is_comma_terminal, is_semicolon_terminal, is_name_terminal, number_of}
use Rattle.reading_core.specs.Deeper.{Level, deeper, enclosed, bracket}
use Rattle.reading_core.specs.Loops.{repeat}
use Rattle.reading_core.specs.Machine.{Test}
use Rattle.reading_core.specs.Exact.{Decided, Counts}
use Rattle.reading_core.proofs.Runs.{tested, when_true, when_false}
use Rattle.reading_core.proofs.ReadLaws.{on_bind, on_weaken, on_expect, IsFirst, Short, expect_got, repeat_got, repeat_end}
use Rattle.reading_core.proofs.Follows.{bracket_first}
use Rattle.reading_core.proofs.Tokens.{at_letter}
use Rattle.reading_core.proofs.Parts.{from_token, from_opens, from_closed}
use Rattle.expression_reading.specs.Operators.{top}
use Rattle.expression_reading.specs.Reading.{Below, exprs, link_in, chain_in, steps_in, argument_in, arguments_in, called_by, called_in, step_in, field_in, reach_in, is_word, is_dot, is_plus, is_dot_terminal, is_plus_terminal, first_is, question_in, second_by, second_in, quantified_in, paren_in, group_by, group_in, unary_by, unary_in, operand_in, below}
use Rattle.expression_reading.specs.Free.{IsFree, NotCalled}
use Rattle.expression_reading.proofs.Links.{is_of, left_of, left_tier_of, right_tier_of, is_chain_of, implies_of, tier_from_2}
use Rattle.expression_reading.proofs.Sound.{Is, operand_sound, operand_short}
use Rattle.expression_reading.proofs.Below.{below_sound}
use Rattle.expression_reading.proofs.Following.{link_own, uncalled, free_less, free_letter, free_sign, free_first}

-- each field of a reach has a token
pub field_short : Short (first_is (is_plus true)) field_in
field_short ts =
    on_bind (IsFirst (is_plus true) ts) _ (expect (is_plus true) ts) _ (on_expect (is_plus true) ts) (λ t rest is.
    on_bind (IsFirst (is_name true) rest) _ (expect (is_name true) rest) _ (on_expect (is_name true) rest) (λ u rest' is'.
    let one_ : ts ≡ t ∷ rest = is.1 in
    let two : rest ≡ u ∷ rest' = is'.1 in
    omega (arith, ap length one_, ap length two)))

module _ (may : ℕ → List Token → Bool) (test : Test) (cap : ℕ) (counts : Counts may test cap) where
  -- LEVELS

  -- what is read one level deeper than the level l
  abbrev pub At : Bool → ℕ → Option (Level Below)
  At side l = below side may (cap - l)

  abbrev pub readers : Bool → ℕ → Below
  readers side l = record { operand = operand_in side (At side l); chain = chain_in side (At side l); step = step_in side (At side l) }

  at_deeper : (side : Bool) (l : ℕ) → suc l ≤ cap → At side l ≡ Some (record { may = may (cap - suc l); readers = readers side (suc l) })
  unfolding below
  at_deeper side l low = let less : cap - l ≡ suc (cap - suc l) = omega arith in ap (below side may) less

  low_of : (l : ℕ) (ts : List Token) → test l ts ≡ true → l ≤ cap
  low_of l ts opened = by (leb_tells l cap)
    where
      by : ((leb l cap ≡ true) × (l ≤ cap)) ⊎ ((leb l cap ≡ false) × (cap < l)) → l ≤ cap
      by (inl x) = x.1
      by (inr x) = let no : true ≡ false = sym opened ∙ counts.shuts l ts x.1 in absurd (cc)

  -- a level that may be opened
  deeper_at : {A : Type 0} (side : Bool) (l : ℕ) (ts rest : List Token) (go : Below → Read A) → test (suc l) rest ≡ true → deeper (At side l) ts rest go ≡ go (readers side (suc l))
  deeper_at side l ts rest go opened =
      let low : suc l ≤ cap = low_of (suc l) rest opened in
      ap (λ level. deeper level ts rest go) (at_deeper side l low)
      ∙ when_true (may (cap - suc l) rest) _ _ (counts.opens (suc l) (cap - suc l) rest (omega arith) ∙ opened)

  -- OPERANDS AND CHAINS

  -- behind an operand with which nothing goes on
  chain_ends : (side : Bool) (l n m : ℕ) (e : Expr) (rest : List Token) → m < n → IsFree side n rest → chain_in side (At side l) m e rest ≡ Got e rest
  chain_ends side l n m e [] less free = refl
  chain_ends side l n m e (t ∷ ts) less free = ap (link_in (At side l) m e t ts) (free.0 m less)

  -- an operand is one of each higher number
  up : (side : Bool) (l : ℕ) (ts : List Token) (e : Expr) (rest : List Token) (m d : ℕ) → operand_in side (At side l) m ts ≡ Got e rest → IsFree side (d + m) rest → operand_in side (At side l) (d + m) ts ≡ Got e rest
  up side l ts e rest m zero got free = let none_ : zero + m ≡ m = omega arith in ap (λ n. operand_in side (At side l) n ts) none_ ∙ got
  up side l ts e rest m (suc d) got free =
      let more : suc d + m ≡ suc (d + m) = omega arith in
      ap (λ n. operand_in side (At side l) n ts) more
      ∙ ap (λ (r : Read Expr). r >>= (λ e rest. chain_in side (At side l) (d + m) e rest)) (up side l ts e rest m d got (free_less side (d + m) (suc d + m) (omega arith) rest free))
      ∙ chain_ends side l (suc d + m) (d + m) e rest (omega arith) free

  up_to : (side : Bool) (l : ℕ) (ts : List Token) (e : Expr) (rest : List Token) (m n : ℕ) → m ≤ n → operand_in side (At side l) m ts ≡ Got e rest → IsFree side n rest → operand_in side (At side l) n ts ≡ Got e rest
  up_to side l ts e rest m n low got free =
      let same : (n - m) + m ≡ n = omega arith in
      subst (λ (i : ℕ). operand_in side (At side l) i ts ≡ Got e rest) same (up side l ts e rest m (n - m) got (subst (λ (i : ℕ). IsFree side i rest) (sym same) free))

  steps_end : (side : Bool) (l n : ℕ) (e : Expr) (rest : List Token) → IsFree side n rest → steps_in side (At side l) e rest ≡ Got e rest
  steps_end side l n e [] free = refl
  steps_end side l n e (t ∷ ts) free = when_false (is_dot side t) _ _ free.1

  -- at what level steps go on behind an expression
  abbrev resumes : Expr → ℕ → ℕ → ℕ
  resumes e k l = elim (is_steps e) [ true ↦ k | false ↦ l ]

  -- no `(` comes first
  abbrev NotOpen : Bool → List Token → Type 0
  NotOpen side [] = Unit {0}
  NotOpen side (t ∷ ts) = NotCalled side t

  -- behind a name that is not called
  called_plain : (side : Bool) (l : ℕ) (plain : Expr) (with_ : Exprs → Expr) (rest : List Token) → NotOpen side rest → called_in side (At side l) plain with_ rest ≡ steps_in side (At side l) plain rest
  called_plain true l plain with_ rest not = refl
  called_plain false l plain with_ [] not = refl
  called_plain false l plain with_ (t ∷ ts) not = by (at_side false t) not
    where
      by : (x : Terminal) → is_open_terminal x ≡ false → called_by x (At false l) plain with_ t ts ≡ steps_in false (At false l) plain (t ∷ ts)
      by terminal.OpenParen is = absurd (cc)
      by x is = refl

  -- what is of a tier and no chain of it is of the tier below
  lower : (e : Expr) (side : Bool) (tier l : ℕ) (ts : List Token) (k : ℕ) (rest : List Token) → is_of (suc (suc tier)) e ≡ false → Is test e side (suc (suc tier)) l ts k rest → Is test e side (suc tier) l ts k rest
  lower (num at n) side tier l ts k rest not (low, x) = (omega arith, x)
  lower (flag at true) side tier l ts k rest not (low, x) = (omega arith, x)
  lower (flag at false) side tier l ts k rest not (low, x) = (omega arith, x)
  lower (null at) side tier l ts k rest not (low, x) = (omega arith, x)
  lower (this at) side tier l ts k rest not x = x
  lower (outcome at) side tier l ts k rest not x = x
  lower (make at i) side tier l ts k rest not x = x
  lower (named at i) side tier l ts k rest not x = x
  lower (call at i args) side tier l ts k rest not x = x
  lower (read at e i) side tier l ts k rest not x = x
  lower (call_on at e i args) side tier l ts k rest not x = x
  lower (paren at e) side tier l ts k rest not x = x
  lower (negation at e) side tier l ts k rest not (low, x) = (omega arith, x)
  lower (minus at e) side tier l ts k rest not (low, x) = (omega arith, x)
  lower (bin at s e f) side tier l ts k rest not (low, x) = (le_but (tier_of s) (suc tier) low (eqb-false (tier_of s) (suc (suc tier)) not), x)
    where
      le_but : (a b : ℕ) → a ≤ suc b → (a ≡ suc b → ⊥) → a ≤ b
      le_but a b le ne = omega arith
  lower (old at e) side tier l ts k rest not x = x
  lower (quant at all kind i body) side tier l ts k rest not (on_side, (low, x)) = (on_side, (omega arith, x))
  lower (quant_in at all kind i range body) side tier l ts k rest not (on_side, (low, x)) = (on_side, (omega arith, x))
  lower (has at e kind fields f) side tier l ts k rest not (on_side, (low, x)) = (on_side, (omega arith, x))
  lower (size at e kind fields) side tier l ts k rest not (on_side, (low, x)) = (on_side, (omega arith, x))

  -- What is of the grammar is read: whole, where nothing goes on with it; as the left part of a chain; and before its steps.
  pub record IsComplete (e : Expr) : Type 0 where
    pub got : (side : Bool) (n l : ℕ) (ts : List Token) (k : ℕ) (rest : List Token) → Is test e side (suc n) l ts k rest → IsFree side n rest → operand_in side (At side l) n ts ≡ Got e rest
    pub chained_ : (side : Bool) (n l : ℕ) (ts : List Token) (k : ℕ) (rest : List Token) → Is test e side (suc (suc n)) l ts k rest → is_of (suc (suc n)) e ≡ true → (n ≡ 6 → ⊥) → IsFree side n rest
        → operand_in side (At side l) (suc n) ts ≡ chain_in side (At side k) n e rest
    pub stepped : (side : Bool) (l : ℕ) (ts : List Token) (k : ℕ) (rest : List Token) → Is test e side post l ts k rest → NotOpen side rest → unary_in side (At side l) ts ≡ steps_in side (At side (resumes e k l)) e rest

  not_open : (side : Bool) (n : ℕ) (rest : List Token) → IsFree side n rest → NotOpen side rest
  not_open side n [] free = tt {0}
  not_open side n (t ∷ ts) free = free.2

  -- what begins with the token
  unary_at : (side : Bool) (l : ℕ) (x : Terminal) (t : Token) (us ts : List Token) → ts ≡ t ∷ us → letter t ≡ (side, x) → unary_in side (At side l) ts ≡ unary_by side (At side l) x t us
  unary_at side l x t us ts parts is = ap (unary_in side (At side l)) parts ∙ ap (λ y. unary_by side (At side l) y t us) (at_letter side t x is)

  -- one token of a kind
  expect_at : (side : Bool) (p : Terminal → Bool) (x : Terminal) (t : Token) (us ts : List Token) → ts ≡ t ∷ us → letter t ≡ (side, x) → p x ≡ true → expect (λ u. p (at_side side u)) ts ≡ Got t us
  expect_at side p x t us ts parts is so = ap (expect (λ u. p (at_side side u))) parts ∙ expect_got (λ u. p (at_side side u)) t us (ap p (at_letter side t x is) ∙ so)

  -- what is neither a chain nor goes on by steps
  plain : (e : Expr) → ((tier : ℕ) → is_of tier e ≡ false) → ((side : Bool) (l : ℕ) (ts : List Token) (k : ℕ) (rest : List Token) → Is test e side post l ts k rest → ⊥)
      → ((side : Bool) (n l : ℕ) (ts : List Token) (k : ℕ) (rest : List Token) → Is test e side (suc n) l ts k rest → IsFree side n rest → unary_in side (At side l) ts ≡ Got e rest) → IsComplete e
  plain e no_chain no_post unary_ = record {
    got = λ side n l ts k rest x free. up_to side l ts e rest 0 n (omega arith) (unary_ side n l ts k rest x free) free;
    chained_ = λ side n l ts k rest x is other free. let no : true ≡ false = sym is ∙ no_chain (suc (suc n)) in absurd (cc);
    stepped = λ side l ts k rest x not. absurd (no_post side l ts k rest x);
  }

  -- what may go on by steps
  posted : (e : Expr) → ((tier : ℕ) → is_of tier e ≡ false) → ((side : Bool) (n l : ℕ) (ts : List Token) (k : ℕ) (rest : List Token) → Is test e side (suc n) l ts k rest → Is test e side post l ts k rest)
      → ((side : Bool) (l : ℕ) (ts : List Token) (k : ℕ) (rest : List Token) → Is test e side post l ts k rest → NotOpen side rest → unary_in side (At side l) ts ≡ steps_in side (At side (resumes e k l)) e rest) → IsComplete e
  posted e no_chain to_post stepped_ = record {
    got = λ side n l ts k rest x free.
        up_to side l ts e rest 0 n (omega arith) (stepped_ side l ts k rest (to_post side n l ts k rest x) (not_open side n rest free) ∙ steps_end side (resumes e k l) n e rest free) free;
    chained_ = λ side n l ts k rest x is other free. let no : true ≡ false = sym is ∙ no_chain (suc (suc n)) in absurd (cc);
    stepped = stepped_;
  }

  -- BRACKETS

  -- What stands in brackets.
  record InBrackets (side : Bool) (p : Phrase) (l : ℕ) (ts : List Token) (rest : List Token) : Type 0 where
    open_ : Token
    behind : List Token
    is_open_ : letter open_ ≡ (side, terminal.OpenParen)
    parts : ts ≡ open_ ∷ behind
    opened : test (suc l) behind ≡ true
    level : ℕ
    mid : List Token
    inside : p (suc l) behind level mid
    close : Token
    is_close_ : letter close ≡ (side, terminal.CloseParen)
    ends : mid ≡ close ∷ rest

  in_brackets : (side : Bool) (p : Phrase) (l : ℕ) (ts : List Token) (k : ℕ) (rest : List Token) → bracketed (Decided test) side p l ts k rest → InBrackets side p l ts rest
  in_brackets side p l ts k rest (j, x, is) =
      let a = from_token (opens (Decided test) ▸ p ▸ one (side, terminal.CloseParen)) l ts j rest _ x in
      let (opened_, (m, mid_, y, (u, u_is, ends_, level_))) = from_opens (p ▸ one (side, terminal.CloseParen)) l a.behind j rest (Decided test) a.then_ in
      record { open_ = a.first; behind = a.behind; is_open_ = a.is; parts = a.parts; opened = opened_; level = m; mid = mid_; inside = y; close = u; is_close_ = u_is; ends = ends_ }

  closed_got : {A : Type 0} (side : Bool) (p : Phrase) (l : ℕ) (ts rest : List Token) (go : Below → List Token → Read A) (a : A) (x : InBrackets side p l ts rest)
      → go (readers side (suc l)) x.behind ≡ Got a x.mid → enclosed side (At side l) x.open_ x.behind go ≡ Got a rest
  closed_got {A = A} side p l ts rest go a x goes =
      deeper_at side l (x.open_ ∷ x.behind) x.behind _ x.opened
      ∙ ap (λ (r : Read A). r >>= (λ a rest. expect (is_close side) rest >>= (λ _ rest'. Got a rest'))) goes
      ∙ ap (λ (r : Read Token). r >>= (λ _ rest'. Got a rest')) (expect_at side is_close_terminal terminal.CloseParen x.close rest x.mid x.ends x.is_close_ refl)

  bracket_got : {A : Type 0} (side : Bool) (p : Phrase) (l : ℕ) (ts rest : List Token) (go : Below → List Token → Read A) (a : A) (x : InBrackets side p l ts rest)
      → go (readers side (suc l)) x.behind ≡ Got a x.mid → bracket side (At side l) ts go ≡ Got a rest
  bracket_got side p l ts rest go a x goes =
      ap (λ us. bracket side (At side l) us go) x.parts ∙ bracket_first side (At side l) x.open_ x.behind go ∙ when_true (is_open side x.open_) _ _ (ap is_open_terminal (at_letter side x.open_ terminal.OpenParen x.is_open_))
      ∙ closed_got side p l ts rest go a x goes

  -- before `)` nothing goes on
  free_close : (side : Bool) (n : ℕ) (t : Token) (ts us : List Token) → us ≡ t ∷ ts → letter t ≡ (side, terminal.CloseParen) → IsFree side n us
  free_close side n t ts us parts is = free_first side n t ts us parts (free_letter side n t ts terminal.CloseParen is refl refl refl)

  -- a whole expression in a clause
  whole_got : (e : Expr) → IsComplete e → (l : ℕ) (ts : List Token) (k : ℕ) (rest : List Token) → closed (Is test e true (whole true)) l ts k rest → IsFree true 8 rest → operand_in true (At true l) (top true) ts ≡ Got e rest
  whole_got e c l ts k rest (j, x, is) free = c.got true 8 l ts j rest x free

  -- ARGUMENTS

  abbrev list_of : Exprs → List Expr
  list_of none = []
  list_of (also e es) = e ∷ list_of es

  exprs_list : (es : Exprs) → exprs (list_of es) ≡ es
  exprs_list none = refl
  exprs_list (also e es) = ap (also e) (exprs_list es)

  abbrev IsInside : Exprs → Phrase
  IsInside none = nothing
  IsInside (also e es) = closed (Is test e false (whole false)) ▸ more_arguments (Decided test) es

  record IsCompleteList (es : Exprs) : Type 0 where
    inside : (l : ℕ) → l ≤ cap → (ts : List Token) (k : ℕ) (rest : List Token) (u : Token) (us : List Token) → IsInside es l ts k rest → rest ≡ u ∷ us → letter u ≡ (false, terminal.CloseParen)
        → arguments_in (readers false l) ts ≡ Got es rest
    more : (l : ℕ) → l ≤ cap → (ts : List Token) (k : ℕ) (rest : List Token) (u : Token) (us : List Token) → more_arguments (Decided test) es l ts k rest → rest ≡ u ∷ us → letter u ≡ (false, terminal.CloseParen)
        → repeat (first_is (is_comma false)) (argument_in (readers false l)) ts ≡ Got (list_of es) rest

  -- each argument has a token
  argument_short : (l : ℕ) → l ≤ cap → Short (first_is (is_comma false)) (argument_in (readers false l))
  argument_short l low ts =
      on_bind (IsFirst (is_comma false) ts) _ (expect (is_comma false) ts) _ (on_expect (is_comma false) ts) (λ t rest is.
      on_weaken _ _ (operand_in false (At false l) (top false) rest)
      (operand_short test false l 6 rest (operand_in false (At false l) (top false) rest) (operand_sound test false l (At false l) (below_sound may test cap counts false (cap - l) l (omega arith)) (top false) rest)) (λ e rest' less.
      let longer : ts ≡ t ∷ rest = is.1 in
      let fewer : length rest' < length rest = less in
      omega (arith, ap length longer)))

  -- before what is no comma and no `)` an argument begins
  first_at : (side : Bool) (p : Terminal → Bool) (x : Terminal) (t : Token) (us ts : List Token) (b : Bool) → ts ≡ t ∷ us → letter t ≡ (side, x) → p x ≡ b → first_is (λ u. p (at_side side u)) ts ≡ b
  first_at side p x t us ts b parts is so = ap (first_is (λ u. p (at_side side u))) parts ∙ ap p (at_letter side t x is) ∙ so

  -- what begins no operand is none
  bad_operand : (side : Bool) (l n : ℕ) (ts : List Token) (e : Expr) (rest us : List Token) → unary_in side (At side l) ts ≡ Bad us → operand_in side (At side l) n ts ≡ Got e rest → ⊥
  bad_operand side l n ts e rest us bad got = let no : Bad us ≡ Got e rest = sym (all n) ∙ got in cc
    where
      all : (n : ℕ) → operand_in side (At side l) n ts ≡ Bad us
      all zero = bad
      all (suc n) = ap (λ (r : Read Expr). r >>= (λ e rest. chain_in side (At side l) n e rest)) (all n)

  -- no operand begins with `)`
  no_close : (l : ℕ) (ts : List Token) (e : Expr) (rest : List Token) → operand_in false (At false l) (top false) ts ≡ Got e rest → first_is (is_close false) ts ≡ false
  no_close l [] e rest got = refl
  no_close l (t ∷ ts) e rest got = by (at_side false t) refl
    where
      by : (x : Terminal) → at_side false t ≡ x → is_close_terminal x ≡ false
      by terminal.CloseParen is = absurd (bad_operand false l (top false) (t ∷ ts) e rest (t ∷ ts) (ap (λ y. unary_by false (At false l) y t ts) is) got)
      by x is = refl

  more_first : (es : Exprs) (l : ℕ) (ts : List Token) (k : ℕ) (rest : List Token) (u : Token) (us : List Token) → more_arguments (Decided test) es l ts k rest → rest ≡ u ∷ us → letter u ≡ (false, terminal.CloseParen) → IsFree false 6 ts
  more_first none l ts k rest u us (level, same) parts is = free_close false 6 u us ts (sym same ∙ parts) is
  more_first (also e es) l ts k rest u us x parts is =
      let a = from_token (closed (Is test e false (whole false)) ▸ more_arguments (Decided test) es) l ts k rest _ x in
      free_first false 6 a.first a.behind ts a.parts (free_letter false 6 a.first a.behind terminal.Comma a.is refl refl refl)

  none_complete : IsCompleteList none
  none_complete = record {
    inside = λ l low ts k rest u us (level, same) parts is.
        when_true (first_is (is_close false) ts) _ _ (first_at false is_close_terminal terminal.CloseParen u us ts true (sym same ∙ parts) is refl) ∙ ap (Got none) (sym same);
    more = λ l low ts k rest u us (level, same) parts is.
        repeat_end (first_is (is_comma false)) (argument_in (readers false l)) ts (first_at false is_comma_terminal terminal.CloseParen u us ts false (sym same ∙ parts) is refl) ∙ ap (Got []) (sym same);
  }

  also_complete : (e : Expr) (es : Exprs) → IsComplete e → IsCompleteList es → IsCompleteList (also e es)
  also_complete e es c cs = record { inside = inside_; more = more_ }
    where
      inside_ : (l : ℕ) → l ≤ cap → (ts : List Token) (k : ℕ) (rest : List Token) (u : Token) (us : List Token) → IsInside (also e es) l ts k rest → rest ≡ u ∷ us → letter u ≡ (false, terminal.CloseParen)
          → arguments_in (readers false l) ts ≡ Got (also e es) rest
      inside_ l low ts k rest u us x parts is =
          let a = from_closed (more_arguments (Decided test) es) l ts k rest (Is test e false (whole false)) x in
          let got_ = c.got false 6 l ts a.level a.mid a.first (more_first es l a.mid k rest u us a.then_ parts is) in
          when_false (first_is (is_close false) ts) _ _ (no_close l ts e a.mid got_)
          ∙ ap (λ (r : Read Expr). r >>= (λ e rest. repeat (first_is (is_comma false)) (argument_in (readers false l)) rest >>= (λ es rest'. Got (also e (exprs es)) rest'))) got_
          ∙ ap (λ (r : Read (List Expr)). r >>= (λ es rest'. Got (also e (exprs es)) rest')) (cs.more l low a.mid k rest u us a.then_ parts is)
          ∙ ap (λ es. Got (also e es) rest) (exprs_list es)

      more_ : (l : ℕ) → l ≤ cap → (ts : List Token) (k : ℕ) (rest : List Token) (u : Token) (us : List Token) → more_arguments (Decided test) (also e es) l ts k rest → rest ≡ u ∷ us
          → letter u ≡ (false, terminal.CloseParen) → repeat (first_is (is_comma false)) (argument_in (readers false l)) ts ≡ Got (e ∷ list_of es) rest
      more_ l low ts k rest u us x parts is =
          let a = from_token (closed (Is test e false (whole false)) ▸ more_arguments (Decided test) es) l ts k rest _ x in
          let b = from_closed (more_arguments (Decided test) es) l a.behind k rest (Is test e false (whole false)) a.then_ in
          let got_ = c.got false 6 l a.behind b.level b.mid b.first (more_first es l b.mid k rest u us b.then_ parts is) in
          repeat_got (first_is (is_comma false)) (argument_in (readers false l)) (argument_short l low) ts b.mid rest e (list_of es) (first_at false is_comma_terminal terminal.Comma a.first a.behind ts true a.parts a.is refl)
          (ap (λ (r : Read Token). r >>= (λ _ rest. operand_in false (At false l) (top false) rest)) (expect_at false is_comma_terminal terminal.Comma a.first a.behind ts a.parts a.is refl) ∙ got_)
          (cs.more l low b.mid k rest u us b.then_ parts is)

  -- [ Args ], behind a name and its `(`
  args_got : (es : Exprs) → IsCompleteList es → (l : ℕ) (ts : List Token) (k : ℕ) (rest : List Token) → arguments (Decided test) es l ts k rest → (plain_ : Expr) (with_ : Exprs → Expr)
      → called_in false (At false l) plain_ with_ ts ≡ steps_in false (At false l) (with_ es) rest
  args_got es cs l ts k rest x plain_ with_ =
      let y = in_brackets false (IsInside es) l ts k rest (inside_of es x) in
      ap (called_in false (At false l) plain_ with_) y.parts ∙ ap (λ z. called_by z (At false l) plain_ with_ y.open_ y.behind) (at_letter false y.open_ terminal.OpenParen y.is_open_)
      ∙ ap (λ (r : Read Exprs). r >>= (λ es rest. steps_in false (At false l) (with_ es) rest))
      (closed_got false (IsInside es) l ts rest arguments_in es y (cs.inside (suc l) (low_of (suc l) y.behind y.opened) y.behind y.level y.mid y.close rest y.inside y.ends y.is_close_))
    where
      inside_of : (es : Exprs) → arguments (Decided test) es l ts k rest → bracketed (Decided test) false (IsInside es) l ts k rest
      inside_of none z = z
      inside_of (also e es) z = z

  -- LITERALS

  num_complete : (at n : ℕ) → IsComplete (num at n)
  num_complete at n =
      plain (num at n) (λ tier. refl) (λ side l ts k rest x. absurd (omega (arith, x.0))) (λ side m l ts k rest (low, (t, (t_is, kind, from), parts, level)) free.
      unary_at side l terminal.Number t rest ts parts t_is ∙ ap (λ i. Got (num i (number_of t.kind)) rest) from ∙ ap (λ kind. Got (num at (number_of kind)) rest) kind)

  flag_complete : (at : ℕ) (b : Bool) → IsComplete (flag at b)
  flag_complete at true =
      plain (flag at true) (λ tier. refl) (λ side l ts k rest x. absurd (omega (arith, x.0))) (λ side m l ts k rest (low, (t, (t_is, from), parts, level)) free.
      unary_at side l terminal.True t rest ts parts t_is ∙ ap (λ i. Got (flag i true) rest) from)
  flag_complete at false =
      plain (flag at false) (λ tier. refl) (λ side l ts k rest x. absurd (omega (arith, x.0))) (λ side m l ts k rest (low, (t, (t_is, from), parts, level)) free.
      unary_at side l terminal.False t rest ts parts t_is ∙ ap (λ i. Got (flag i false) rest) from)

  null_complete : (at : ℕ) → IsComplete (null at)
  null_complete at =
      plain (null at) (λ tier. refl) (λ side l ts k rest x. absurd (omega (arith, x.0))) (λ side m l ts k rest (low, (t, (t_is, from), parts, level)) free.
      unary_at side l terminal.Null t rest ts parts t_is ∙ ap (λ i. Got (null i) rest) from)

  -- UNARY OPERATORS

  negation_complete : (at : ℕ) (e : Expr) → IsComplete e → IsComplete (negation at e)
  negation_complete at e c =
      plain (negation at e) (λ tier. refl) (λ side l ts k rest x. absurd (omega (arith, x.0))) (λ side m l ts k rest (low, (j, x, level)) free.
      let a = from_token (opens (Decided test) ▸ closed (Is test e side unary)) l ts j rest _ x in
      let (opened, (i, y, level')) = from_opens (closed (Is test e side unary)) l a.behind j rest (Decided test) a.then_ in
      unary_at side l terminal.Not a.first a.behind ts a.parts a.is.0 ∙ deeper_at side l (a.first ∷ a.behind) a.behind _ opened
      ∙ ap (λ (r : Read Expr). r >>= (λ e rest. Got (negation a.first.from e) rest)) (c.got side 0 (suc l) a.behind i rest y (free_less side 0 m (omega arith) rest free))
      ∙ ap (λ i. Got (negation i e) rest) a.is.1)

  minus_complete : (at : ℕ) (e : Expr) → IsComplete e → IsComplete (minus at e)
  minus_complete at e c =
      plain (minus at e) (λ tier. refl) (λ side l ts k rest x. absurd (omega (arith, x.0))) (λ side m l ts k rest (low, (j, x, level)) free.
      let a = from_token (opens (Decided test) ▸ closed (Is test e side unary)) l ts j rest _ x in
      let (opened, (i, y, level')) = from_opens (closed (Is test e side unary)) l a.behind j rest (Decided test) a.then_ in
      unary_at side l terminal.Minus a.first a.behind ts a.parts a.is.0 ∙ deeper_at side l (a.first ∷ a.behind) a.behind _ opened
      ∙ ap (λ (r : Read Expr). r >>= (λ e rest. Got (minus a.first.from e) rest)) (c.got side 0 (suc l) a.behind i rest y (free_less side 0 m (omega arith) rest free))
      ∙ ap (λ i. Got (minus i e) rest) a.is.1)

  -- WHAT GOES ON BY STEPS

  this_complete : (at : ℕ) → IsComplete (this at)
  this_complete at =
      posted (this at) (λ tier. refl) (λ side n l ts k rest x. x) (λ side l ts k rest (t, (t_is, from), parts, level) not.
      unary_at side l terminal.This t rest ts parts t_is ∙ ap (λ i. steps_in side (At side l) (this i) rest) from)

  outcome_complete : (at : ℕ) → IsComplete (outcome at)
  outcome_complete at =
      posted (outcome at) (λ tier. refl) (λ side n l ts k rest x. x) (λ side l ts k rest x not.
      subst (λ (s : Bool). Is test (outcome at) s post l ts k rest → unary_in s (At s l) ts ≡ steps_in s (At s l) (outcome at) rest) (sym x.0) (λ (clause, (t, (t_is, from), parts, level)).
      unary_at true l terminal.ResultValue t rest ts parts t_is ∙ ap (λ i. steps_in true (At true l) (outcome i) rest) from) x)

  named_complete : (at : ℕ) (i : Ident) → IsComplete (named at i)
  named_complete at i =
      posted (named at i) (λ tier. refl) (λ side n l ts k rest x. x) (λ side l ts k rest (same, (t, (t_is, id), parts, level)) not.
      unary_at side l terminal.Name t rest ts parts t_is ∙ called_plain side l (named t.from (ident_of t)) (call t.from (ident_of t)) rest not
      ∙ ap (λ j. steps_in side (At side l) (named t.from j) rest) id ∙ ap (λ m. steps_in side (At side l) (named m i) rest) (ap (λ j. j.at) id ∙ sym same))

  call_complete : (at : ℕ) (i : Ident) (es : Exprs) → IsCompleteList es → IsComplete (call at i es)
  call_complete at i es cs =
      posted (call at i es) (λ tier. refl) (λ side n l ts k rest x. x) (λ side l ts k rest x not.
      subst (λ (s : Bool). Is test (call at i es) s post l ts k rest → unary_in s (At s l) ts ≡ steps_in s (At s l) (call at i es) rest) (sym x.0) (λ (code, (same, y)).
      let a = from_token (arguments (Decided test) es) l ts k rest _ y in
      unary_at false l terminal.Name a.first a.behind ts a.parts a.is.0 ∙ args_got es cs l a.behind k rest a.then_ (named a.first.from (ident_of a.first)) (call a.first.from (ident_of a.first))
      ∙ ap (λ j. steps_in false (At false l) (call a.first.from j es) rest) a.is.1 ∙ ap (λ m. steps_in false (At false l) (call m i es) rest) (ap (λ j. j.at) a.is.1 ∙ sym same)) x)

  make_complete : (at : ℕ) (i : Ident) → IsComplete (make at i)
  make_complete at i =
      posted (make at i) (λ tier. refl) (λ side n l ts k rest x. x) (λ side l ts k rest x not.
      subst (λ (s : Bool). Is test (make at i) s post l ts k rest → unary_in s (At s l) ts ≡ steps_in s (At s l) (make at i) rest) (sym x.0) (λ (code, y).
      let a = from_token (name false i ▸ bracketed (Decided test) false nothing) l ts k rest _ y in
      let b = from_token (bracketed (Decided test) false nothing) l a.behind k rest _ a.then_ in
      let c = in_brackets false nothing l b.behind k rest b.then_ in
      unary_at false l terminal.New a.first a.behind ts a.parts a.is.0
      ∙ ap (λ (r : Read Token). r >>= (λ i rest. bracket false (At false l) rest (λ b rest. Got (tt {0}) rest) >>= (λ _ rest. steps_in false (At false l) (make a.first.from (ident_of i)) rest)))
      (expect_at false is_name_terminal terminal.Name b.first b.behind a.behind b.parts b.is.0 refl)
      ∙ ap (λ (r : Read (Unit {0})). r >>= (λ _ rest. steps_in false (At false l) (make a.first.from (ident_of b.first)) rest))
      (bracket_got false nothing l b.behind rest (λ b rest. Got (tt {0}) rest) (tt {0}) c (ap (Got (tt {0})) (sym c.inside.1)))
      ∙ ap (λ j. steps_in false (At false l) (make a.first.from j) rest) b.is.1 ∙ ap (λ m. steps_in false (At false l) (make m i) rest) a.is.1) x)

  old_complete : (at : ℕ) (e : Expr) → IsComplete e → IsComplete (old at e)
  old_complete at e c =
      posted (old at e) (λ tier. refl) (λ side n l ts k rest x. x) (λ side l ts k rest x not.
      subst (λ (s : Bool). Is test (old at e) s post l ts k rest → unary_in s (At s l) ts ≡ steps_in s (At s l) (old at e) rest) (sym x.0) (λ (clause, y).
      let a = from_token (bracketed (Decided test) true (closed (Is test e true (whole true)))) l ts k rest _ y in
      let b = in_brackets true (closed (Is test e true (whole true))) l a.behind k rest a.then_ in
      unary_at true l terminal.Old a.first a.behind ts a.parts a.is.0
      ∙ ap (λ (r : Read Expr). r >>= (λ e rest. steps_in true (At true l) (old a.first.from e) rest))
      (bracket_got true (closed (Is test e true (whole true))) l a.behind rest (λ b rest. b.operand (top true) rest) e b
      (whole_got e c (suc l) b.behind b.level b.mid b.inside (free_close true 8 b.close rest b.mid b.ends b.is_close_)))
      ∙ ap (λ m. steps_in true (At true l) (old m e) rest) a.is.1) x)

  -- no quantifier begins an operand
  group_plain : (l at n : ℕ) (e : Expr) (us mid : List Token) → operand_in true (At true (suc l)) n us ≡ Got e mid → group_in true (At true l) at (readers true (suc l)) us ≡ paren_in true (At true l) at (readers true (suc l)) us
  group_plain l at n e [] mid got = absurd (bad_operand true (suc l) n [] e mid [] refl got)
  group_plain l at n e (u ∷ us) mid got = by (at_side true u) refl
    where
      by : (x : Terminal) → at_side true u ≡ x → group_by x (At true l) at (readers true (suc l)) u us ≡ paren_in true (At true l) at (readers true (suc l)) (u ∷ us)
      by terminal.Forall is = absurd (bad_operand true (suc l) n (u ∷ us) e mid (u ∷ us) (ap (λ y. unary_by true (At true (suc l)) y u us) is) got)
      by terminal.Exists is = absurd (bad_operand true (suc l) n (u ∷ us) e mid (u ∷ us) (ap (λ y. unary_by true (At true (suc l)) y u us) is) got)
      by x is = refl

  group_of : (side : Bool) (l at : ℕ) (e : Expr) (us mid : List Token) → operand_in side (At side (suc l)) (top side) us ≡ Got e mid
      → group_in side (At side l) at (readers side (suc l)) us ≡ paren_in side (At side l) at (readers side (suc l)) us
  group_of false l at e us mid got = refl
  group_of true l at e us mid got = group_plain l at 8 e us mid got

  whole_top : (side : Bool) (e : Expr) (l : ℕ) (ts : List Token) (k : ℕ) (rest : List Token) → Is test e side (whole side) l ts k rest → Is test e side (suc (top side)) l ts k rest
  whole_top false e l ts k rest x = x
  whole_top true e l ts k rest x = x

  paren_complete : (at : ℕ) (e : Expr) → IsComplete e → IsComplete (paren at e)
  paren_complete at e c =
      posted (paren at e) (λ tier. refl) (λ side n l ts k rest x. x) (λ side l ts k rest (j, x, level) not.
      let a = from_token (opens (Decided test) ▸ closed (Is test e side (whole side)) ▸ one (side, terminal.CloseParen)) l ts j rest _ x in
      let (opened, y) = from_opens (closed (Is test e side (whole side)) ▸ one (side, terminal.CloseParen)) l a.behind j rest (Decided test) a.then_ in
      let b = from_closed (one (side, terminal.CloseParen)) (suc l) a.behind j rest (Is test e side (whole side)) y in
      let (u, u_is, ends, level') = b.then_ in
      let got_ = c.got side (top side) (suc l) a.behind b.level b.mid (whole_top side e (suc l) a.behind b.level b.mid b.first) (free_close side (top side) u rest b.mid ends u_is) in
      unary_at side l terminal.OpenParen a.first a.behind ts a.parts a.is.0 ∙ deeper_at side l (a.first ∷ a.behind) a.behind _ opened
      ∙ group_of side l a.first.from e a.behind b.mid got_
      ∙ ap (λ (r : Read Expr). r >>= (λ e rest. expect (is_close side) rest >>= (λ _ rest. steps_in side (At side l) (paren a.first.from e) rest))) got_
      ∙ ap (λ (r : Read Token). r >>= (λ _ rest. steps_in side (At side l) (paren a.first.from e) rest)) (expect_at side is_close_terminal terminal.CloseParen u rest b.mid ends u_is refl)
      ∙ ap (λ m. steps_in side (At side l) (paren m e) rest) a.is.1)

  -- STEPS

  -- what stands before a `.` is read
  before_dot : (e : Expr) → IsComplete e → (side : Bool) (l : ℕ) (ts : List Token) (k : ℕ) (mid : List Token) → chained (is_steps e) (Is test e side post) l ts k mid → NotOpen side mid
      → unary_in side (At side l) ts ≡ steps_in side (At side k) e mid
  before_dot e c side l ts k mid x not = by (is_steps e) refl x
    where
      by : (goes_on : Bool) → is_steps e ≡ goes_on → chained goes_on (Is test e side post) l ts k mid → unary_in side (At side l) ts ≡ steps_in side (At side k) e mid
      by true is y = c.stepped side l ts k mid y not ∙ ap (λ m. steps_in side (At side m) e mid) (when_true (is_steps e) k l is)
      by false is (j, y, level) = c.stepped side l ts j mid y not ∙ ap (λ m. steps_in side (At side m) e mid) (when_false (is_steps e) j l is ∙ sym level)

  -- and so is the `.`
  behind_dot : (e : Expr) → IsComplete e → (side : Bool) (l : ℕ) (ts : List Token) (k : ℕ) (rest : List Token) (q : Phrase) → (chained (is_steps e) (Is test e side post) ▸ one (side, terminal.Dot) ▸ opens (Decided test) ▸ q) l ts k rest
      → (m : ℕ) × (us : List Token) × (unary_in side (At side l) ts ≡ step_in side (At side m) e us) × q m us k rest
  behind_dot e c side l ts k rest q (m, mid, x, y) =
      let a = from_token (opens (Decided test) ▸ q) m mid k rest _ y in
      let (opened, z) = from_opens q m a.behind k rest (Decided test) a.then_ in
      let at = at_letter side a.first terminal.Dot a.is in (
        suc m,
        a.behind,
        before_dot e c side l ts m mid x (subst (λ (us : List Token). NotOpen side us) (sym a.parts) (uncalled side a.first (ap is_open_terminal at)))
            ∙ ap (steps_in side (At side m) e) a.parts ∙ when_true (is_dot side a.first) _ _ (ap is_dot_terminal at) ∙ deeper_at side m (a.first ∷ a.behind) a.behind (λ b. b.step e a.behind) opened,
        z,
      )

  read_complete : (at : ℕ) (e : Expr) (i : Ident) → IsComplete e → IsComplete (read at e i)
  read_complete at e i c =
      posted (read at e i) (λ tier. refl) (λ side n l ts k rest x. x) (λ side l ts k rest (same, x) not.
      let (m, us, goes, (t, (t_is, id), parts, level)) = behind_dot e c side l ts k rest (name side i) x in
      goes
      ∙ ap (λ (r : Read Token). r >>= (λ i rest. called_in side (At side m) (read (place e) e (ident_of i)) (call_on (place e) e (ident_of i)) rest)) (expect_at side is_name_terminal terminal.Name t rest us parts t_is refl)
      ∙ called_plain side m (read (place e) e (ident_of t)) (call_on (place e) e (ident_of t)) rest not
      ∙ ap (λ j. steps_in side (At side m) (read (place e) e j) rest) id ∙ ap (λ p. steps_in side (At side m) (read p e i) rest) (sym same) ∙ ap (λ j. steps_in side (At side j) (read at e i) rest) (sym level))

  call_on_complete : (at : ℕ) (e : Expr) (i : Ident) (es : Exprs) → IsComplete e → IsCompleteList es → IsComplete (call_on at e i es)
  call_on_complete at e i es c cs =
      posted (call_on at e i es) (λ tier. refl) (λ side n l ts k rest x. x) (λ side l ts k rest x not.
      subst (λ (s : Bool). Is test (call_on at e i es) s post l ts k rest → unary_in s (At s l) ts ≡ steps_in s (At s k) (call_on at e i es) rest) (sym x.0) (λ (code, (same, y)).
      let (m, us, goes, z) = behind_dot e c false l ts k rest (name false i ▸ arguments (Decided test) es) y in
      let a = from_token (arguments (Decided test) es) m us k rest _ z in
      goes
      ∙ ap (λ (r : Read Token). r >>= (λ i rest. called_in false (At false m) (read (place e) e (ident_of i)) (call_on (place e) e (ident_of i)) rest))
      (expect_at false is_name_terminal terminal.Name a.first a.behind us a.parts a.is.0 refl)
      ∙ args_got es cs m a.behind k rest a.then_ (read (place e) e (ident_of a.first)) (call_on (place e) e (ident_of a.first))
      ∙ ap (λ j. steps_in false (At false m) (call_on (place e) e j es) rest) a.is.1 ∙ ap (λ p. steps_in false (At false m) (call_on p e i es) rest) (sym same)
      ∙ ap (λ j. steps_in false (At false j) (call_on at e i es) rest) (sym (args_level es m a.behind k rest a.then_))) x)
    where
      args_level : (es : Exprs) (l : ℕ) (ts : List Token) (k : ℕ) (rest : List Token) → arguments (Decided test) es l ts k rest → k ≡ l
      args_level none l ts k rest (j, y, level) = level
      args_level (also e es) l ts k rest (j, y, level) = level

  -- QUANTIFIERS

  bind_got : {A B : Type 0} (r : Read A) (f : A → List Token → Read B) (a : A) (rest : List Token) → r ≡ Got a rest → r >>= f ≡ f a rest
  bind_got r f a rest got = ap (λ r. r >>= f) got

  quantifier_first : (all : Bool) (l at : ℕ) (u : Token) (us ts : List Token) → ts ≡ u ∷ us → letter u ≡ (true, quantifier all)
      → group_in true (At true l) at (readers true (suc l)) ts ≡ quantified_in (readers true (suc l)) at all us
  quantifier_first true l at u us ts parts is =
      ap (group_in true (At true l) at (readers true (suc l))) parts ∙ ap (λ y. group_by y (At true l) at (readers true (suc l)) u us) (at_letter true u terminal.Forall is)
  quantifier_first false l at u us ts parts is =
      ap (group_in true (At true l) at (readers true (suc l))) parts ∙ ap (λ y. group_by y (At true l) at (readers true (suc l)) u us) (at_letter true u terminal.Exists is)

  -- a quantifier up to its first `;`
  quantified_got : (e : Expr) → IsComplete e → (l at : ℕ) (all : Bool) (kind i : Ident) (ts : List Token) (k : ℕ) (rest : List Token) (q : Phrase)
      → (name true kind ▸ name true i ▸ one (true, terminal.Semicolon) ▸ closed (Is test e true (whole true)) ▸ q) l ts k rest
      → ((us : List Token) → q l us k rest → IsFree true 8 us)
      → (mid : List Token) × (quantified_in (readers true l) at all ts ≡ second_in (readers true l) at all kind i e mid) × q l mid k rest
  quantified_got e c l at all kind i ts k rest q x free =
      let a = from_token (name true i ▸ one (true, terminal.Semicolon) ▸ closed (Is test e true (whole true)) ▸ q) l ts k rest _ x in
      let b = from_token (one (true, terminal.Semicolon) ▸ closed (Is test e true (whole true)) ▸ q) l a.behind k rest _ a.then_ in
      let d = from_token (closed (Is test e true (whole true)) ▸ q) l b.behind k rest _ b.then_ in
      let y = from_closed q l d.behind k rest (Is test e true (whole true)) d.then_ in (
        y.mid,
        bind_got (expect (is_name true) ts) _ a.first a.behind (expect_at true is_name_terminal terminal.Name a.first a.behind ts a.parts a.is.0 refl)
            ∙ bind_got (expect (is_name true) a.behind) _ b.first b.behind (expect_at true is_name_terminal terminal.Name b.first b.behind a.behind b.parts b.is.0 refl)
            ∙ bind_got (expect (is_semicolon true) b.behind) _ d.first d.behind (expect_at true is_semicolon_terminal terminal.Semicolon d.first d.behind b.behind d.parts d.is refl)
            ∙ bind_got (operand_in true (At true l) (top true) d.behind) _ e y.mid (c.got true 8 l d.behind y.level y.mid y.first (free y.mid y.then_))
            ∙ ap (λ j. second_in (readers true l) at all j (ident_of b.first) e y.mid) a.is.1 ∙ ap (λ j. second_in (readers true l) at all kind j e y.mid) b.is.1,
        y.then_,
      )

  clause_only : (P : Bool → Type 0) (side : Bool) → side ≡ true → P true → P side
  clause_only P side is x = subst P (sym is) x

  quant_complete : (at : ℕ) (all : Bool) (kind i : Ident) (e : Expr) → IsComplete e → IsComplete (quant at all kind i e)
  quant_complete at all kind i e c =
      plain (quant at all kind i e) (λ tier. refl) (λ side l ts k rest x. absurd (let low : 1 ≤ 0 = x.1.0 in omega arith)) (λ side m l ts k rest x free.
      clause_only (λ s. Is test (quant at all kind i e) s (suc m) l ts k rest → unary_in s (At s l) ts ≡ Got (quant at all kind i e) rest) side x.0 (λ (clause, (low, (j, y, level))).
      let a = from_token (opens (Decided test) ▸ one (true, quantifier all) ▸ name true kind ▸ name true i ▸ one (true, terminal.Semicolon) ▸ closed (Is test e true (whole true)) ▸ one (true, terminal.CloseParen)) l ts j rest _ y in
      let (opened, z) = from_opens (one (true, quantifier all) ▸ name true kind ▸ name true i ▸ one (true, terminal.Semicolon) ▸ closed (Is test e true (whole true)) ▸ one (true, terminal.CloseParen)) l a.behind j rest (Decided test) a.then_ in
      let b = from_token (name true kind ▸ name true i ▸ one (true, terminal.Semicolon) ▸ closed (Is test e true (whole true)) ▸ one (true, terminal.CloseParen)) (suc l) a.behind j rest _ z in
      let (mid, goes, (u, u_is, ends, level')) = quantified_got e c (suc l) a.first.from all kind i b.behind j rest (one (true, terminal.CloseParen)) b.then_
      (λ us (u, u_is, ends, level'). free_close true 8 u rest us ends u_is) in
      unary_at true l terminal.OpenParen a.first a.behind ts a.parts a.is.0 ∙ deeper_at true l (a.first ∷ a.behind) a.behind _ opened
      ∙ quantifier_first all l a.first.from b.first b.behind a.behind b.parts b.is ∙ goes
      ∙ ap (second_in (readers true (suc l)) a.first.from all kind i e) ends
      ∙ ap (λ x. second_by x (readers true (suc l)) a.first.from all kind i e u rest) (at_letter true u terminal.CloseParen u_is)
      ∙ ap (λ m. Got (quant m all kind i e) rest) a.is.1) x)

  -- ";" JExpr ")"
  abbrev SecondPart : Expr → Phrase
  SecondPart f = one (true, terminal.Semicolon) ▸ closed (Is test f true (whole true)) ▸ one (true, terminal.CloseParen)

  semicolon_first : (f : Expr) (l : ℕ) (us : List Token) (k : ℕ) (rest : List Token) → SecondPart f l us k rest → IsFree true 8 us
  semicolon_first f l us k rest w =
      let s = from_token (closed (Is test f true (whole true)) ▸ one (true, terminal.CloseParen)) l us k rest _ w in
      free_first true 8 s.first s.behind us s.parts (free_letter true 8 s.first s.behind terminal.Semicolon s.is refl refl refl)

  quant_in_complete : (at : ℕ) (all : Bool) (kind i : Ident) (e f : Expr) → IsComplete e → IsComplete f → IsComplete (quant_in at all kind i e f)
  quant_in_complete at all kind i e f c d =
      plain (quant_in at all kind i e f) (λ tier. refl) (λ side l ts k rest x. absurd (let low : 1 ≤ 0 = x.1.0 in omega arith)) (λ side m l ts k rest x free.
      clause_only (λ s. Is test (quant_in at all kind i e f) s (suc m) l ts k rest → unary_in s (At s l) ts ≡ Got (quant_in at all kind i e f) rest) side x.0 (λ (clause, (low, (j, y, level))).
      let a = from_token (opens (Decided test) ▸ one (true, quantifier all) ▸ name true kind ▸ name true i ▸ one (true, terminal.Semicolon) ▸ closed (Is test e true (whole true)) ▸ SecondPart f) l ts j rest _ y in
      let (opened, z) = from_opens (one (true, quantifier all) ▸ name true kind ▸ name true i ▸ one (true, terminal.Semicolon) ▸ closed (Is test e true (whole true)) ▸ SecondPart f) l a.behind j rest (Decided test) a.then_ in
      let b = from_token (name true kind ▸ name true i ▸ one (true, terminal.Semicolon) ▸ closed (Is test e true (whole true)) ▸ SecondPart f) (suc l) a.behind j rest _ z in
      let (mid, goes, w) = quantified_got e c (suc l) a.first.from all kind i b.behind j rest (SecondPart f) b.then_ (λ us w. semicolon_first f (suc l) us j rest w) in
      let s = from_token (closed (Is test f true (whole true)) ▸ one (true, terminal.CloseParen)) (suc l) mid j rest _ w in
      let t = from_closed (one (true, terminal.CloseParen)) (suc l) s.behind j rest (Is test f true (whole true)) s.then_ in
      let (u, u_is, ends, level') = t.then_ in
      unary_at true l terminal.OpenParen a.first a.behind ts a.parts a.is.0 ∙ deeper_at true l (a.first ∷ a.behind) a.behind _ opened
      ∙ quantifier_first all l a.first.from b.first b.behind a.behind b.parts b.is ∙ goes
      ∙ ap (second_in (readers true (suc l)) a.first.from all kind i e) s.parts
      ∙ ap (λ x. second_by x (readers true (suc l)) a.first.from all kind i e s.first s.behind) (at_letter true s.first terminal.Semicolon s.is)
      ∙ bind_got (operand_in true (At true (suc l)) (top true) s.behind) _ f t.mid (d.got true 8 (suc l) s.behind t.level t.mid t.first (free_close true 8 u rest t.mid ends u_is))
      ∙ bind_got (expect (is_close true) t.mid) _ u rest (expect_at true is_close_terminal terminal.CloseParen u rest t.mid ends u_is refl)
      ∙ ap (λ m. Got (quant_in m all kind i e f) rest) a.is.1) x)

  -- REACHES

  more_fields_got : (fs : List Ident) (l : ℕ) (ts : List Token) (k : ℕ) (rest : List Token) (u : Token) (us : List Token) → more_fields fs l ts k rest → rest ≡ u ∷ us → letter u ≡ (true, terminal.CloseParen)
      → repeat (first_is (is_plus true)) field_in ts ≡ Got fs rest
  more_fields_got [] l ts k rest u us (level, same) parts is =
      repeat_end (first_is (is_plus true)) field_in ts (first_at true is_plus_terminal terminal.CloseParen u us ts false (sym same ∙ parts) is refl) ∙ ap (Got []) (sym same)
  more_fields_got (f ∷ fs) l ts k rest u us x parts is =
      let a = from_token (name true f ▸ more_fields fs) l ts k rest _ x in
      let b = from_token (more_fields fs) l a.behind k rest _ a.then_ in
      repeat_got (first_is (is_plus true)) field_in field_short ts b.behind rest f fs (first_at true is_plus_terminal terminal.Plus a.first a.behind ts true a.parts a.is refl)
      (bind_got (expect (is_plus true) ts) _ a.first a.behind (expect_at true is_plus_terminal terminal.Plus a.first a.behind ts a.parts a.is refl)
      ∙ bind_got (expect (is_name true) a.behind) _ b.first b.behind (expect_at true is_name_terminal terminal.Name b.first b.behind a.behind b.parts b.is.0 refl)
      ∙ ap (λ j. Got j b.behind) b.is.1)
      (more_fields_got fs l b.behind k rest u us b.then_ parts is)

  abbrev InReach : Expr → Ident → List Ident → Phrase
  InReach e kind fields = closed (Is test e true (whole true)) ▸ one (true, terminal.Comma) ▸ name true kind ▸ one (true, terminal.Comma) ▸ fields_of fields

  reach_got : (e : Expr) → IsComplete e → (kind : Ident) (fields : List Ident) (l : ℕ) (ts : List Token) (k : ℕ) (rest : List Token) (u : Token) (us : List Token) → InReach e kind fields l ts k rest → rest ≡ u ∷ us
      → letter u ≡ (true, terminal.CloseParen) → reach_in (readers true l) ts ≡ Got (record { root = e; kind = kind; fields = fields }) rest
  reach_got e c kind [] l ts k rest u us x parts is =
      let a = from_closed (one (true, terminal.Comma) ▸ name true kind ▸ one (true, terminal.Comma) ▸ fields_of []) l ts k rest (Is test e true (whole true)) x in
      let b = from_token (name true kind ▸ one (true, terminal.Comma) ▸ fields_of []) l a.mid k rest _ a.then_ in
      let d = from_token (one (true, terminal.Comma) ▸ fields_of []) l b.behind k rest _ b.then_ in
      let g = from_token (fields_of []) l d.behind k rest _ d.then_ in
      absurd g.then_.0
  reach_got e c kind (f ∷ fs) l ts k rest u us x parts is =
      let a = from_closed (one (true, terminal.Comma) ▸ name true kind ▸ one (true, terminal.Comma) ▸ fields_of (f ∷ fs)) l ts k rest (Is test e true (whole true)) x in
      let b = from_token (name true kind ▸ one (true, terminal.Comma) ▸ fields_of (f ∷ fs)) l a.mid k rest _ a.then_ in
      let d = from_token (one (true, terminal.Comma) ▸ fields_of (f ∷ fs)) l b.behind k rest _ b.then_ in
      let g = from_token (fields_of (f ∷ fs)) l d.behind k rest _ d.then_ in
      let h = from_token (more_fields fs) l g.behind k rest _ g.then_ in
      bind_got (operand_in true (At true l) (top true) ts) _ e a.mid
      (c.got true 8 l ts a.level a.mid a.first (free_first true 8 b.first b.behind a.mid b.parts (free_letter true 8 b.first b.behind terminal.Comma b.is refl refl refl)))
      ∙ bind_got (expect (is_comma true) a.mid) _ b.first b.behind (expect_at true is_comma_terminal terminal.Comma b.first b.behind a.mid b.parts b.is refl)
      ∙ bind_got (expect (is_name true) b.behind) _ d.first d.behind (expect_at true is_name_terminal terminal.Name d.first d.behind b.behind d.parts d.is.0 refl)
      ∙ bind_got (expect (is_comma true) d.behind) _ g.first g.behind (expect_at true is_comma_terminal terminal.Comma g.first g.behind d.behind g.parts g.is refl)
      ∙ bind_got (expect (is_name true) g.behind) _ h.first h.behind (expect_at true is_name_terminal terminal.Name h.first h.behind g.behind h.parts h.is.0 refl)
      ∙ bind_got (repeat (first_is (is_plus true)) field_in h.behind) _ fs rest (more_fields_got fs l h.behind k rest u us h.then_ parts is)
      ∙ ap (λ j. Got (record { root = e; kind = j; fields = ident_of h.first ∷ fs }) rest) d.is.1 ∙ ap (λ j. Got (record { root = e; kind = kind; fields = j ∷ fs }) rest) h.is.1

  word_is : (bytes word : List ℕ) (t : Token) → letter t ≡ (true, terminal.Name) → t.kind ≡ Word word → is_word bytes t ≡ bytes_eq word bytes
  word_is bytes word t is kind = when_true (is_name true t) _ _ (ap is_name_terminal (at_letter true t terminal.Name is)) ∙ ap (λ kind. bytes_eq (text_of kind) bytes) kind

  -- a reach with its `.`, up to the question
  asked : (e : Expr) → IsComplete e → (at : ℕ) (kind : Ident) (fields : List Ident) (l : ℕ) (ts : List Token) (k : ℕ) (rest : List Token) (P : Token → Type 0) (q : Phrase)
      → (token (λ t. (letter t ≡ (true, terminal.Reach)) × (t.from ≡ at)) ▸ bracketed (Decided test) true (InReach e kind fields) ▸ one (true, terminal.Dot) ▸ token P ▸ q) l ts k rest
      → (u : Token) × (us : List Token) × (unary_in true (At true l) ts ≡ question_in (At true l) at (record { root = e; kind = kind; fields = fields }) (u ∷ us)) × P u × q l us k rest
  asked e c at kind fields l ts k rest P q x =
      let a = from_token (bracketed (Decided test) true (InReach e kind fields) ▸ one (true, terminal.Dot) ▸ token P ▸ q) l ts k rest _ x in
      let (m, mid, y, z) = a.then_ in
      let b = in_brackets true (InReach e kind fields) l a.behind m mid y in
      let d = from_token (token P ▸ q) m mid k rest _ z in
      let g = from_token q m d.behind k rest P d.then_ in (
        g.first,
        g.behind,
        unary_at true l terminal.Reach a.first a.behind ts a.parts a.is.0
            ∙ bind_got (bracket true (At true l) a.behind reach_in) _ (record { root = e; kind = kind; fields = fields }) mid
            (bracket_got true (InReach e kind fields) l a.behind mid reach_in (record { root = e; kind = kind; fields = fields }) b (reach_got e c kind fields (suc l) b.behind b.level b.mid b.close mid b.inside b.ends b.is_close_))
            ∙ bind_got (expect (is_dot true) mid) _ d.first d.behind (expect_at true is_dot_terminal terminal.Dot d.first d.behind mid d.parts d.is refl)
            ∙ ap (question_in (At true l) a.first.from (record { root = e; kind = kind; fields = fields })) g.parts
            ∙ ap (λ m. question_in (At true l) m (record { root = e; kind = kind; fields = fields }) (g.first ∷ g.behind)) a.is.1,
        g.is,
        subst (λ (n : ℕ). q n g.behind k rest) y.2 g.then_,
      )

  has_complete : (at : ℕ) (e : Expr) (kind : Ident) (fields : List Ident) (f : Expr) → IsComplete e → IsComplete f → IsComplete (has at e kind fields f)
  has_complete at e kind fields f c d =
      plain (has at e kind fields f) (λ tier. refl) (λ side l ts k rest x. absurd (let low : 1 ≤ 0 = x.1.0 in omega arith)) (λ side m l ts k rest x free.
      clause_only (λ s. Is test (has at e kind fields f) s (suc m) l ts k rest → unary_in s (At s l) ts ≡ Got (has at e kind fields f) rest) side x.0 (λ (clause, (low, y)).
      let (u, us, goes, (u_is, kind_is), z) = asked e c at kind fields l ts k rest _ (bracketed (Decided test) true (closed (Is test f true (whole true)))) y in
      let b = in_brackets true (closed (Is test f true (whole true))) l us k rest z in
      goes ∙ when_true (is_word HAS.now u) _ _ (word_is HAS.now HAS.now u u_is kind_is)
      ∙ bind_got (bracket true (At true l) us (λ b rest. b.operand (top true) rest)) _ f rest (bracket_got true (closed (Is test f true (whole true))) l us rest (λ b rest. b.operand (top true) rest) f b
      (whole_got f d (suc l) b.behind b.level b.mid b.inside (free_close true 8 b.close rest b.mid b.ends b.is_close_)))) x)

  size_complete : (at : ℕ) (e : Expr) (kind : Ident) (fields : List Ident) → IsComplete e → IsComplete (size at e kind fields)
  size_complete at e kind fields c =
      plain (size at e kind fields) (λ tier. refl) (λ side l ts k rest x. absurd (let low : 1 ≤ 0 = x.1.0 in omega arith)) (λ side m l ts k rest x free.
      clause_only (λ s. Is test (size at e kind fields) s (suc m) l ts k rest → unary_in s (At s l) ts ≡ Got (size at e kind fields) rest) side x.0 (λ (clause, (low, y)).
      let (u, us, goes, (u_is, kind_is), z) = asked e c at kind fields l ts k rest _ (bracketed (Decided test) true nothing) y in
      let b = in_brackets true nothing l us k rest z in
      goes ∙ when_false (is_word HAS.now u) _ _ (word_is HAS.now INT_SIZE.now u u_is kind_is) ∙ when_true (is_word INT_SIZE.now u) _ _ (word_is INT_SIZE.now INT_SIZE.now u u_is kind_is)
      ∙ bind_got (bracket {A = Unit {0}} true (At true l) us (λ b rest. Got (tt {0}) rest)) _ (tt {0}) rest
      (bracket_got {A = Unit {0}} true nothing l us rest (λ b rest. Got (tt {0}) rest) (tt {0}) b (ap (Got (tt {0})) (sym b.inside.1)))) x)

  -- CHAINS

  -- the left part of a chain
  left_got : (s : Sign) (a : Expr) → IsComplete a → (side : Bool) (n l : ℕ) (ts : List Token) (j : ℕ) (mid : List Token) → tier_of s ≡ suc (suc n) → (n ≡ 6 → ⊥) → chained (is_chain s a) (Is test a side (left_tier s)) l ts j mid
      → IsFree side n mid → operand_in side (At side l) (suc n) ts ≡ chain_in side (At side j) n a mid
  left_got s a c side n l ts j mid tier other x free = by (is_chain s a) (is_chain_of s a not_8 ∙ ap (λ m. is_of m a) tier) x
    where
      not_8 : tier_of s ≡ 8 → ⊥
      not_8 is = let eight : 8 ≡ suc (suc n) = sym is ∙ tier in other (omega (arith, eight))

      left_is : left_tier s ≡ suc (suc n)
      left_is = left_tier_of s not_8 ∙ tier

      by : (goes_on : Bool) → goes_on ≡ is_of (suc (suc n)) a → chained goes_on (Is test a side (left_tier s)) l ts j mid → operand_in side (At side l) (suc n) ts ≡ chain_in side (At side j) n a mid
      by true is y = c.chained_ side n l ts j mid (subst (λ (m : ℕ). Is test a side m l ts j mid) left_is y) (sym is) other free
      by false is (i, y, level) =
          let low = lower a side n l ts i mid (sym is) (subst (λ (m : ℕ). Is test a side m l ts i mid) left_is y) in
          bind_got (operand_in side (At side l) n ts) (λ e rest. chain_in side (At side l) n e rest) a mid (c.got side n l ts i mid low free) ∙ ap (λ m. chain_in side (At side m) n a mid) (sym level)

  module _ (at : ℕ) (s : Sign) (a b : Expr) (c : IsComplete a) (d : IsComplete b) where
    -- as the left part of a chain
    chain_got : (side : Bool) (n l : ℕ) (ts : List Token) (k : ℕ) (rest : List Token) → Is test (bin at s a b) side (suc (suc n)) l ts k rest → tier_of s ≡ suc (suc n) → (n ≡ 6 → ⊥) → IsFree side n rest
        → operand_in side (At side l) (suc n) ts ≡ chain_in side (At side k) n (bin at s a b) rest
    chain_got side n l ts k rest (low, (same, (j, mid, x, y))) tier other free =
        let not_8 : tier_of s ≡ 8 → ⊥ = λ is. let eight : 8 ≡ suc (suc n) = sym is ∙ tier in other (omega (arith, eight)) in
        let t = from_token (opens (Decided test) ▸ closed (Is test b side (right_tier s))) j mid k rest _ y in
        let (opened, (i, z, level)) = from_opens (closed (Is test b side (right_tier s))) j t.behind k rest (Decided test) t.then_ in
        let right_is : right_tier s ≡ suc n = right_tier_of s not_8 ∙ ap (λ m. m - 1) tier ∙ less n in
        left_got s a c side n l ts j mid tier other x (free_first side n t.first t.behind mid t.parts (free_sign side n t.first t.behind s t.is (subst (λ (m : ℕ). suc n < m) (sym tier) (omega arith))))
        ∙ ap (chain_in side (At side j) n a) t.parts ∙ ap (link_in (At side j) n a t.first t.behind) (link_own side n t.first s t.is tier ∙ left_of s not_8)
        ∙ deeper_at side j (t.first ∷ t.behind) t.behind _ opened
        ∙ bind_got (operand_in side (At side (suc j)) n t.behind) (λ right rest. chain_in side (At side (suc j)) n (bin (place a) s a right) rest) b rest
        (d.got side n (suc j) t.behind i rest (subst (λ (m : ℕ). Is test b side m (suc j) t.behind i rest) right_is z) free)
        ∙ ap (λ p. chain_in side (At side (suc j)) n (bin p s a b) rest) (sym same) ∙ ap (λ m. chain_in side (At side m) n (bin at s a b) rest) (sym level)
      where
        less : (n : ℕ) → suc (suc n) - 1 ≡ suc n
        less n = omega arith

    -- `==>`
    implies_got : s ≡ sign.Implies → (side : Bool) (n l : ℕ) (ts : List Token) (k : ℕ) (rest : List Token) → Is test (bin at s a b) side (suc n) l ts k rest → IsFree side n rest
        → operand_in side (At side l) n ts ≡ Got (bin at s a b) rest
    implies_got is side n l ts k rest x free = subst (λ (r : Sign). Is test (bin at r a b) side (suc n) l ts k rest → operand_in side (At side l) n ts ≡ Got (bin at r a b) rest) (sym is) go x
      where
        go : Is test (bin at sign.Implies a b) side (suc n) l ts k rest → operand_in side (At side l) n ts ≡ Got (bin at sign.Implies a b) rest
        go (low, (same, (j, mid, (i, y, level), z))) =
            let t = from_token (opens (Decided test) ▸ closed (Is test b side 8)) j mid k rest _ z in
            let (opened, (h, w, level')) = from_opens (closed (Is test b side 8)) j t.behind k rest (Decided test) t.then_ in
            let free_7 : IsFree side 7 rest = free_less side 7 n (omega arith) rest free in
            up_to side l ts (bin at sign.Implies a b) rest 7 n (omega arith)
            (bind_got (operand_in side (At side l) 6 ts) (λ e rest. chain_in side (At side l) 6 e rest) a mid
            (c.got side 6 l ts i mid y (free_first side 6 t.first t.behind mid t.parts (free_sign side 6 t.first t.behind sign.Implies t.is (lit< tt))))
            ∙ ap (λ m. chain_in side (At side m) 6 a mid) (sym level)
            ∙ ap (chain_in side (At side j) 6 a) t.parts ∙ ap (link_in (At side j) 6 a t.first t.behind) (link_own side 6 t.first sign.Implies t.is refl)
            ∙ deeper_at side j (t.first ∷ t.behind) t.behind _ opened
            ∙ bind_got (operand_in side (At side (suc j)) 7 t.behind) (λ right rest. Got (bin (place a) sign.Implies a right) rest) b rest (d.got side 7 (suc j) t.behind h rest w free_7)
            ∙ ap (λ p. Got (bin p sign.Implies a b) rest) (sym same)) free

    other_got : (m : ℕ) → tier_of s ≡ suc (suc m) → (m ≡ 6 → ⊥) → (side : Bool) (n l : ℕ) (ts : List Token) (k : ℕ) (rest : List Token) → Is test (bin at s a b) side (suc n) l ts k rest → IsFree side n rest
        → operand_in side (At side l) n ts ≡ Got (bin at s a b) rest
    other_got m tier other side n l ts k rest (low, x) free =
        let less : suc (suc m) ≤ suc n = subst (λ (i : ℕ). i ≤ suc n) tier low in
        up_to side l ts (bin at s a b) rest (suc m) n (omega arith)
        (chain_got side m l ts k rest (subst (λ (i : ℕ). i ≤ suc (suc m)) (sym tier) (omega arith), x) tier other (free_less side m n (omega arith) rest free)
        ∙ chain_ends side k n m (bin at s a b) rest (omega arith) free) free

    bin_got : (side : Bool) (n l : ℕ) (ts : List Token) (k : ℕ) (rest : List Token) → Is test (bin at s a b) side (suc n) l ts k rest → IsFree side n rest → operand_in side (At side l) n ts ≡ Got (bin at s a b) rest
    bin_got side n l ts k rest x free = by (tier_from_2 s)
      where
        by : (m : ℕ) × (tier_of s ≡ suc (suc m)) → operand_in side (At side l) n ts ≡ Got (bin at s a b) rest
        by (m, tier) =
            elim (tested (m == 6)) [
              | inl is ↦ implies_got (implies_of s (tier ∙ ap (λ i. suc (suc i)) (eqb-true m 6 is))) side n l ts k rest x free
              | inr not ↦ other_got m tier (eqb-false m 6 not) side n l ts k rest x free
            ]

    bin_complete : IsComplete (bin at s a b)
    bin_complete = record {
      got = bin_got;
      chained_ = λ side n l ts k rest x is other free. chain_got side n l ts k rest x (eqb-true (tier_of s) (suc (suc n)) is) other free;
      stepped = λ side l ts k rest x not. absurd (none_below s x.0);
    }
      where
        none_below : (s : Sign) → tier_of s ≤ 0 → ⊥
        none_below s low = let (n, is) = tier_from_2 s in omega (arith, is)

  -- ALL OF THEM

  mutual
    pub complete : (e : Expr) → IsComplete e
    complete (num at n) = num_complete at n
    complete (flag at b) = flag_complete at b
    complete (null at) = null_complete at
    complete (this at) = this_complete at
    complete (outcome at) = outcome_complete at
    complete (make at i) = make_complete at i
    complete (named at i) = named_complete at i
    complete (call at i es) = call_complete at i es (complete_list es)
    complete (read at e i) = read_complete at e i (complete e)
    complete (call_on at e i es) = call_on_complete at e i es (complete e) (complete_list es)
    complete (paren at e) = paren_complete at e (complete e)
    complete (negation at e) = negation_complete at e (complete e)
    complete (minus at e) = minus_complete at e (complete e)
    complete (bin at s e f) = bin_complete at s e f (complete e) (complete f)
    complete (old at e) = old_complete at e (complete e)
    complete (quant at all kind i e) = quant_complete at all kind i e (complete e)
    complete (quant_in at all kind i e f) = quant_in_complete at all kind i e f (complete e) (complete f)
    complete (has at e kind fields f) = has_complete at e kind fields f (complete e) (complete f)
    complete (size at e kind fields) = size_complete at e kind fields (complete e)

    complete_list : (es : Exprs) → IsCompleteList es
    complete_list none = none_complete
    complete_list (also e es) = also_complete e es (complete e) (complete_list es)
