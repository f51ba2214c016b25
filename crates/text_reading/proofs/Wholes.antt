-- Reading a whole expression at a level: what it reads, what it does as a machine, and that it reads all there is.
use Rattle.std.proofs.Common.{◌≡◌, ℕ, ◌+◌, ◌-◌, ◌≤◌, suc, Bool, true, false, nat_le, List, [], ◌∷◌, length, refl, sym, ◌∙◌, ap, subst, arith}
use Rattle.std.proofs.lemmas.Bool.{le-leb}
use Rattle.std.specs.Prelude.{None}
use Rattle.java_lex.specs.declared.spelling.Terminal.{Terminal}
use Rattle.java_lex.specs.declared.spelling.Terminal.TheVariants as terminal
use Rattle.java_lex.specs.declared.token.Token.{Token}
use Rattle.java_tree.specs.Trees.{Expr}
use Rattle.java_tree.specs.Phrases.{Limit, closed}
use Rattle.java_tree.specs.Expressions.{phrase, whole}
use Rattle.reading_core.specs.Read.{Read, Got, Bad, Deep, OnGot, at_side, is_open_terminal}
use Rattle.reading_core.specs.Machine.{Test, Act, Fine, run}
use Rattle.reading_core.specs.Follow.{follow}
use Rattle.reading_core.specs.Exact.{Decided, Counts}
use Rattle.reading_core.proofs.Runs.{when_true}
use Rattle.reading_core.proofs.ReadLaws.{on_weaken}
use Rattle.reading_core.proofs.Ends.{capped, caps}
use Rattle.reading_core.proofs.Keeps.{phrase_keeps, closes}
use Rattle.reading_core.proofs.Instance.{left_of, capped_counts}
use Rattle.java_tree.proofs.Limits.{phrase_sub}
use Rattle.expression_reading.specs.Operators.{sign_of, link_at, top}
use Rattle.expression_reading.specs.Reading.{is_dot_terminal, below, expression_in}
use Rattle.expression_reading.specs.Wants.{Want, Operand, is_ready, reacts}
use Rattle.expression_reading.specs.Free.{IsFree}
use Rattle.expression_reading.proofs.Sound.{operand_sound, Some_}
use Rattle.expression_reading.proofs.Sim.{operand_sim}
use Rattle.expression_reading.proofs.Below.{below_sound, below_sim}
use Rattle.expression_reading.proofs.Complete.{complete}
use Rattle.expression_reading.proofs.Following.{uncalled}
use Rattle.expression_reading.proofs.Alone.{alone, react}
use Rattle.java_reading.specs.Readers.{head}
use Rattle.java_reading.specs.Expressions.{goes_on, extends}
use Rattle.java_reading.proofs.Law.{Family, Extends}

-- WHAT GOES ON WITH AN EXPRESSION

no_sign : (x : Terminal) → goes_on x ≡ false → sign_of x ≡ None
no_sign terminal.Times not = absurd (cc)
no_sign terminal.Plus not = absurd (cc)
no_sign terminal.Minus not = absurd (cc)
no_sign terminal.Less not = absurd (cc)
no_sign terminal.AtMost not = absurd (cc)
no_sign terminal.Greater not = absurd (cc)
no_sign terminal.AtLeast not = absurd (cc)
no_sign terminal.Equal not = absurd (cc)
no_sign terminal.NotEqual not = absurd (cc)
no_sign terminal.And not = absurd (cc)
no_sign terminal.Or not = absurd (cc)
no_sign terminal.Implies not = absurd (cc)
no_sign terminal.Iff not = absurd (cc)
no_sign x not = refl

no_dot : (x : Terminal) → goes_on x ≡ false → is_dot_terminal x ≡ false
no_dot terminal.Dot not = absurd (cc)
no_dot x not = refl

no_open : (x : Terminal) → goes_on x ≡ false → is_open_terminal x ≡ false
no_open terminal.OpenParen not = absurd (cc)
no_open x not = refl

free_of : (side : Bool) (n : ℕ) (ts : List Token) → extends side (head ts) ≡ false → IsFree side n ts
free_of side n [] not = tt {0}
free_of side n (t ∷ ts) not = (λ m less. ap (link_at m) (no_sign (at_side side t) not), no_dot (at_side side t) not, uncalled side t (no_open (at_side side t) not))

-- LEVELS

-- every level
abbrev pub every : Test
every k us = true

-- levels up to 64, and all that the last tokens open, of which there are so many
abbrev pub before : ℕ → Test
before last k us = elim (nat_le k 64) [ true ↦ true | false ↦ nat_le (suc (length us)) last ]

-- EXPRESSIONS OF CODE AND OF CLAUSES

abbrev pub Whole : Bool → Family Expr
Whole side May e = closed (phrase May e side (whole side))

abbrev pub Longer : Bool → Extends Expr
Longer side e h = extends side h ≡ true

abbrev pub start : Bool → ℕ → Want
start side l = Operand side (top side) l

tier_of_top : (side : Bool) → suc (top side) ≡ whole side
tier_of_top true = refl
tier_of_top false = refl

module _ (side : Bool) (may : ℕ → List Token → Bool) (test : Test) (cap : ℕ) (counts : Counts may test cap) where
  -- reading does what the machine does
  pub sim : {W : Type 0} (react : W → Token → Act W) (ready : W → Bool) (inn : Want → W) → ((w : Want) (t : Token) → react (inn w) t ≡ reacts inn w t) → ((w : Want) → ready (inn w) ≡ is_ready w)
      → (left l : ℕ) → l + left ≡ cap → (ts : List Token) (ws : List W)
      → follow (expression_in side may left ts) (λ _ rest. run react ready test rest ws) ≡ run react ready test ts (inn (start side l) ∷ ws)
  sim react ready inn reacts_so ready_so left l is ts ws =
      operand_sim react ready test inn reacts_so ready_so side l (below side may left) (below_sim may test cap counts side react ready inn reacts_so ready_so left l is) (top side) ts ws

  -- what it reads is of the grammar
  pub sound : (left l : ℕ) → l + left ≡ cap → (ts : List Token) → OnGot (λ e rest. Whole side (Decided test) e l ts l rest) (expression_in side may left ts)
  sound left l is ts =
      on_weaken (Some_ test side (suc (top side)) l ts) _ (expression_in side may left ts) (operand_sound test side l (below side may left) (below_sound may test cap counts side left l is) (top side) ts)
      (λ e rest x. (x.0, subst (λ (tier : ℕ). phrase (Decided test) e side tier l ts x.0 rest) (tier_of_top side) x.1, refl))

  -- what is of the grammar is read
  pub whole_read : (l : ℕ) (ts : List Token) (e : Expr) (k : ℕ) (rest : List Token) → Whole side (Decided test) e l ts k rest → extends side (head rest) ≡ false → expression_in side may (cap - l) ts ≡ Got e rest
  whole_read l ts e k rest x not =
      (complete may test cap counts e).got side (top side) l ts x.0 rest (subst (λ (tier : ℕ). phrase (Decided test) e side tier l ts x.0 rest) (sym (tier_of_top side)) x.1) (free_of side (top side) rest not)

below_cap : (test : Test) (cap k : ℕ) (us : List Token) → capped cap test k us ≡ true → test k us ≡ true
below_cap test cap k us is = by (nat_le k cap) is
  where
    by : (b : Bool) → elim b [ true ↦ test k us | false ↦ false ] ≡ true → test k us ≡ true
    by true so = so
    by false so = cc

-- what the machine takes to its end is of the grammar
pub finished : (side : Bool) (test : Test) (l : ℕ) (ts : List Token) → run react is_ready test ts (start side l ∷ []) ≡ Fine true → (e : Expr) × Whole side (Decided test) e l ts l []
finished side test l ts fine =
    let (least, caps_) = caps react is_ready test ts (start side l ∷ []) in
    let cap = l + least in
    let counts = capped_counts test cap in
    by (capped cap test) (λ k us is. below_cap test cap k us is) (expression_in side (left_of test cap) least ts) (sound side (left_of test cap) (capped cap test) cap counts least l refl ts)
    (sim side (left_of test cap) (capped cap test) cap counts react is_ready alone (λ w t. refl) (λ w. refl) least l refl ts [] ∙ caps_ cap (omega arith) ∙ fine)
  where
    by : (low : Test) → ((k : ℕ) (us : List Token) → low k us ≡ true → test k us ≡ true) → (r : Read Expr) → OnGot (λ e rest. Whole side (Decided low) e l ts l rest) r → follow r (λ _ rest. run react is_ready low rest []) ≡ Fine true
        → (e : Expr) × Whole side (Decided test) e l ts l []
    by low wider (Got e []) (k, x, level) fine = (e, (k, phrase_sub (Decided low) (Decided test) wider e side (whole side) l ts k [] x, level))
    by low wider (Got e (t ∷ rest)) x fine = absurd (cc)
    by low wider (Bad []) x fine = absurd (cc)
    by low wider (Bad (t ∷ rest)) x fine = absurd (cc)
    by low wider (Deep rest) x fine = absurd (cc)

-- a phrase opens no level beyond the number of its tokens
pub within_cap : (side : Bool) (May : Limit) (test : Test) → ((k : ℕ) (us : List Token) → May k us → test k us ≡ true) → (e : Expr) (l : ℕ) (ts : List Token) (k : ℕ) (rest : List Token) (cap : ℕ) → l + length ts ≤ cap
    → Whole side May e l ts k rest → Whole side (Decided (capped cap test)) e l ts k rest
within_cap side May test wider e l ts k rest cap enough x =
    ((closes {bound = cap} (phrase_keeps (λ j us low may. when_true (nat_le j cap) _ _ (le-leb j cap (omega (arith, low))) ∙ wider j us may) e side (whole side) 0)).keep l ts k rest (omega arith) x).0
