-- What follows an expression that a statement begins with: each `.` opens a level up to the statement's end.
use Rattle.std.proofs.Common.{◌≡◌, ◌⊎◌, ℕ, suc, Bool, true, false, List, [], ◌∷◌, ◌++◌, refl, sym, ◌∙◌, subst, inl, inr, codes, arith}
use Rattle.java_lex.specs.declared.spelling.Terminal.{Terminal}
use Rattle.java_lex.specs.declared.spelling.Terminal.TheVariants as terminal
use Rattle.java_lex.specs.declared.token.Token.{Token}
use Rattle.java_lex.specs.declared.token.TokenKind.TheVariants as kind
use Rattle.java_tree.specs.declared.names.Ident.{Ident}
use Rattle.java_tree.specs.Trees.{Expr, read, call_on, Exprs, Stmt, set, step, run}
use Rattle.java_tree.specs.Phrases.{Limit, Phrase, ◌▸◌, letter, ident_of, one, name, opens}
use Rattle.java_tree.specs.Expressions.{expression, arguments, place}
use Rattle.java_tree.specs.Statements.{is_target, is_place, is_run, stepped}
use Rattle.reading_core.specs.Read.{Read, Got, Bad, Deep, at_side}
use Rattle.java_reading.specs.declared.form.Reached.{Reached}
use Rattle.java_reading.specs.declared.form.Reached.TheVariants.{Bare, Place, Call}
use Rattle.java_reading.specs.declared.form.Turn.{Turn}
use Rattle.java_reading.specs.declared.form.Turn.TheVariants.{Assigns, Up, Down, Ends, Goes, Fails}
use Rattle.java_reading.specs.declared.marks.Fixed.TheVariants.{Semicolon, Assign}
use Rattle.java_reading.specs.Readers.{head}
use Rattle.java_reading.specs.Tokens.{at_head}
use Rattle.java_reading.specs.StatementReading.{turn_of}
use Rattle.java_reading.proofs.Law.{Family, Extends, Sample, Law}
use Rattle.java_reading.proofs.Parts.{give_sample}
use Rattle.java_reading.proofs.TokenLaws.{one_head, word_at, on_side}
use Rattle.java_reading.proofs.Shapes.{then_it, it_then, fixed_then_sample, then_fixed_sample}
use Rattle.java_reading.proofs.DeclarationLaws.{EF, expression_sample}

-- THE SAME PHRASE FROM ANOTHER LEVEL

-- the phrase at the level l0, wherever it stands
abbrev pub from_level : {A : Type 0} → ℕ → Family A → Family A
from_level l0 p May a l ts k rest = p May a l0 ts l0 rest × (k ≡ l)

pub level_law : (A : Type 0) (p : Family A) (X S : Extends A) (l0 l : ℕ) (ts : List Token) (o : Read A) → Law A p X S l0 ts o → Law A (from_level l0 p) X S l ts o
level_law A p X S l0 l ts (Got a rest) law = record {
  front = law.front;
  parts = law.parts;
  plain = law.plain;
  sound = λ May allows c. (law.sound May allows c, refl);
  stop = law.stop;
  only = λ May c h b k r parse. elim (law.only May c h b l0 r parse.0) [ inl e ↦ inl (e.0, parse.1, e.2) | inr x ↦ inr x ];
}
level_law A p X S l0 l ts (Bad rest) law = record {
  front = law.front;
  parts = law.parts;
  plain = law.plain;
  before = record { more = law.before.more; tree = law.before.tree; is = λ May c allows. (law.before.is May c allows, refl) };
  only = λ May c h b k r parse. law.only May c h b l0 r parse.0;
}
level_law A p X S l0 l ts (Deep rest) law = record {
  front = law.front;
  at = law.at;
  behind = law.behind;
  here = law.here;
  parts = law.parts;
  plain = law.plain;
  before = record { more = law.before.more; tree = law.before.tree; is = λ May c allows. (law.before.is May c allows, refl) };
  only = λ May c stops b k r parse. law.only May c stops b l0 r parse.0;
  more = law.more;
  tree = law.tree;
  deeper = λ May c all. (law.deeper May c all, refl);
}

-- WHAT FOLLOWS AN EXPRESSION THAT A STATEMENT BEGINS WITH

abbrev pub ArgsF : Family Exprs
ArgsF May es = arguments May es

-- Behind e at the level l: what makes the statement s of it; l0: the level where the statement begins.
pub data Tail (May : Limit) (l0 : ℕ) : Expr → Stmt → ℕ → List Token → ℕ → List Token → Type 0 where
  sets : {e : Expr} {l k : ℕ} {ts rest : List Token} (v : Expr) → is_place e ≡ true → (one (false, terminal.Assign) ▸ expression May v ▸ one (false, terminal.Semicolon)) l0 ts l0 rest → k ≡ l → Tail May l0 e (set e v) l ts k rest
  steps : {e : Expr} {l k : ℕ} {ts rest : List Token} (up : Bool) → is_place e ≡ true → (one (false, stepped up) ▸ one (false, terminal.Semicolon)) l0 ts l0 rest → k ≡ l → Tail May l0 e (step e up) l ts k rest
  runs : {e : Expr} {l k : ℕ} {ts rest : List Token} → is_run e ≡ true → one (false, terminal.Semicolon) l0 ts l0 rest → k ≡ l → Tail May l0 e (run e) l ts k rest
  reads : {e : Expr} {s : Stmt} {l j m n k : ℕ} {ts us vs rest : List Token} (i : Ident) → (one (false, terminal.Dot) ▸ opens May) l ts j us → name false i j us m vs → Tail May l0 (read (place e) e i) s m vs n rest → k ≡ l → Tail May l0 e s l ts k rest
  calls : {e : Expr} {s : Stmt} {l j m m' n k : ℕ} {ts us vs ws rest : List Token} (i : Ident) (args : Exprs) → (one (false, terminal.Dot) ▸ opens May) l ts j us → name false i j us m vs → arguments May args m vs m' ws → Tail May l0 (call_on (place e) e i args) s m' ws n rest → k ≡ l → Tail May l0 e s l ts k rest

abbrev pub TailF : ℕ → Expr → Family Stmt
TailF l0 e May s l ts k rest = Tail May l0 e s l ts k rest

-- behind a name: what it is without arguments, or with some
abbrev pub NamedF : ℕ → Expr → (Exprs → Expr) → Family Stmt
NamedF l0 plain with_ May s l ts k rest = Tail May l0 plain s l ts k rest ⊎ ((args : Exprs) × (arguments May args ▸ (λ m us n r. Tail May l0 (with_ args) s m us n r)) l ts k rest)

-- one token and then more, where the tokens are known
pub one_tail : (x : Terminal) (q : Phrase) (t : Token) (l : ℕ) (us : List Token) (k : ℕ) (r : List Token) → (one (false, x) ▸ q) l (t ∷ us) k r → (letter t ≡ (false, x)) × q l us k r
one_tail x q t l us k r (m, mid, (t', is, parts, up), h) =
    let e : t ≡ t' = cc in
    let e' : us ≡ mid = cc in
    (subst (λ (v : Token). letter v ≡ (false, x)) (sym e) is, subst (λ (v : List Token). q l v k r) (sym e') (subst (λ (n : ℕ). q n mid k r) up h))

-- and where there is none
pub one_none : (x : Terminal) (q : Phrase) (l : ℕ) (k : ℕ) (r : List Token) → (one (false, x) ▸ q) l [] k r → ⊥
one_none x q l k r (m, mid, (t', is, parts, up), h) = cc

-- what stands behind a token t that is this terminal
pub clash : (x y : Terminal) (t : Token) → at_side false t ≡ x → letter t ≡ (false, y) → x ≡ y
clash x y t is its = sym is ∙ on_side false (letter t) y its

-- what a turn says
abbrev pub TurnFact : Reached → Terminal → Turn → Type 0
TurnFact r x Assigns = (x ≡ terminal.Assign) × (r ≡ Place)
TurnFact r x Up = (x ≡ terminal.Increment) × (r ≡ Place)
TurnFact r x Down = (x ≡ terminal.Decrement) × (r ≡ Place)
TurnFact r x Ends = (x ≡ terminal.Semicolon) × (r ≡ Call)
TurnFact r x Goes = x ≡ terminal.Dot
TurnFact r x Fails = (x ≡ terminal.Dot → ⊥) × (x ≡ terminal.Assign → r ≡ Place → ⊥) × (x ≡ terminal.Increment → r ≡ Place → ⊥) × (x ≡ terminal.Decrement → r ≡ Place → ⊥) × (x ≡ terminal.Semicolon → r ≡ Call → ⊥)

pub turn_fact : (r : Reached) (x : Terminal) → TurnFact r x (turn_of r x)
turn_fact r terminal.Dot = refl
turn_fact Place terminal.Assign = (refl, refl)
turn_fact Place terminal.Increment = (refl, refl)
turn_fact Place terminal.Decrement = (refl, refl)
turn_fact Call terminal.Semicolon = (refl, refl)
turn_fact r x = ((λ e. cc), (λ e f. cc), (λ e f. cc), (λ e f. cc), (λ e f. cc))

-- what was reached is this
abbrev pub Matches : Reached → Expr → Type 0
Matches Bare e = (is_target e ≡ true) × (is_place e ≡ false) × (is_run e ≡ false)
Matches Place e = (is_target e ≡ true) × (is_place e ≡ true) × (is_run e ≡ false)
Matches Call e = (is_target e ≡ true) × (is_place e ≡ false) × (is_run e ≡ true)

pub matches_place : (r : Reached) (e : Expr) → Matches r e → is_place e ≡ true → r ≡ Place
matches_place Bare e m is = cc
matches_place Place e m is = refl
matches_place Call e m is = cc

pub matches_run : (r : Reached) (e : Expr) → Matches r e → is_run e ≡ true → r ≡ Call
matches_run Bare e m is = cc
matches_run Place e m is = cc
matches_run Call e m is = refl

pub matches_target : (r : Reached) (e : Expr) → Matches r e → is_target e ≡ true
matches_target Bare e m = m.0
matches_target Place e m = m.0
matches_target Call e m = m.0

pub place_matches : (r : Reached) (e : Expr) → Matches r e → r ≡ Place → is_place e ≡ true
place_matches Bare e m is = cc
place_matches Place e m is = m.1
place_matches Call e m is = cc

pub call_matches : (r : Reached) (e : Expr) → Matches r e → r ≡ Call → is_run e ≡ true
call_matches Bare e m is = cc
call_matches Place e m is = cc
call_matches Call e m is = m.2

-- SAMPLES

-- `= a ;`
pub set_sample : (l0 : ℕ) → Sample (Unit {0} × (Expr × Unit {0})) (it_then false Assign refl (λ e. cc) (then_it false Semicolon refl (λ e. cc) EF)) l0
set_sample l0 = fixed_then_sample false Assign refl (λ e. cc) (Expr × Unit {0}) (then_it false Semicolon refl (λ e. cc) EF) l0 (then_fixed_sample false Semicolon refl (λ e. cc) Expr EF l0 (expression_sample l0))

abbrev pub dot : Token
dot = record { kind = kind.Symbol (codes "."); jml = false; from = 0; to = 0 }

abbrev pub a_name : Token
a_name = word_at false (codes "a")

-- `. a = a ;`
pub tail_sample : (l0 : ℕ) (e : Expr) → is_target e ≡ true → (l : ℕ) → Sample Stmt (TailF l0 e) l
tail_sample l0 e target l = record {
  tokens = dot ∷ a_name ∷ (set_sample l0).tokens;
  tree = set (read (place e) e (ident_of a_name)) (set_sample l0).tree.1.0;
  is = λ May c frees.
      reads (ident_of a_name) (l, a_name ∷ ((set_sample l0).tokens ++ c), (dot, refl, refl, refl), (refl, frees (suc l) (a_name ∷ ((set_sample l0).tokens ++ c)) (omega arith), refl)) (a_name, (refl, refl), refl, refl)
      (sets (set_sample l0).tree.1.0 target ((set_sample l0).is May c (λ k r lt. frees k r (omega arith))) refl) refl;
}

-- `. a = a ;` behind what a name is without arguments
pub named_sample : (l0 : ℕ) (plain : Expr) (with_ : Exprs → Expr) → is_target plain ≡ true → (l : ℕ) → Sample Stmt (NamedF l0 plain with_) l
named_sample l0 plain with_ target l = give_sample Stmt Stmt (TailF l0 plain) (NamedF l0 plain with_) (λ s. s) l (λ May s us k r h. inl h) (tail_sample l0 plain target l)

-- what a tail begins with
abbrev pub TailHead : Expr → Terminal → Type 0
TailHead e x = (x ≡ terminal.Assign × is_place e ≡ true) ⊎ ((x ≡ terminal.Increment × is_place e ≡ true) ⊎ ((x ≡ terminal.Decrement × is_place e ≡ true) ⊎ ((x ≡ terminal.Semicolon × is_run e ≡ true) ⊎ (x ≡ terminal.Dot))))

pub tail_head : (May : Limit) (l0 : ℕ) (e : Expr) (s : Stmt) (l : ℕ) (us : List Token) (k : ℕ) (r : List Token) → Tail May l0 e s l us k r → TailHead e (at_head false (head us))
tail_head May l0 e s l us k r (sets v is (m, mid, h, h') up) = inl (one_head false terminal.Assign l0 us m mid h, is)
tail_head May l0 e s l us k r (steps true is (m, mid, h, h') up) = inr (inl (one_head false terminal.Increment l0 us m mid h, is))
tail_head May l0 e s l us k r (steps false is (m, mid, h, h') up) = inr (inr (inl (one_head false terminal.Decrement l0 us m mid h, is)))
tail_head May l0 e s l us k r (runs is h up) = inr (inr (inr (inl (one_head false terminal.Semicolon l0 us l0 r h, is))))
tail_head May l0 e s l us k r (reads i (m, mid, h, h') h2 h3 up) = inr (inr (inr (inr (one_head false terminal.Dot l us m mid h))))
tail_head May l0 e s l us k r (calls i args (m, mid, h, h') h2 h3 h4 up) = inr (inr (inr (inr (one_head false terminal.Dot l us m mid h))))
