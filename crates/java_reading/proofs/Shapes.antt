-- A part between tokens that stand at one place alone.
use Rattle.std.proofs.Common.{◌≡◌, ℕ, Bool, true, Option}
use Rattle.java_lex.specs.declared.spelling.Terminal.TheVariants as terminal
use Rattle.java_lex.specs.declared.token.Token.{Token}
use Rattle.java_tree.specs.Phrases.{one}
use Rattle.java_reading.specs.declared.marks.Fixed.{Fixed}
use Rattle.java_reading.specs.Readers.{Reader, head, and_then}
use Rattle.java_reading.specs.Tokens.{terminal_of_fixed, fixed, at_head}
use Rattle.java_reading.proofs.Law.{Family, Extends, never, any, Sample, Exact}
use Rattle.java_reading.proofs.Seq.{seq, seq_law, seq_sample}
use Rattle.java_reading.proofs.TokenLaws.{on_its_side, fixed_law, fixed_sample, one_head}

module _ (side : Bool) (x : Fixed) (own : on_its_side side x ≡ true) (plain : terminal_of_fixed x ≡ terminal.End → ⊥) where
  abbrev pub then_it : {A : Type 0} → Family A → Family (A × Unit {0})
  then_it p = seq p (λ a May u. one (side, terminal_of_fixed x))

  abbrev pub it_then : {B : Type 0} → Family B → Family (Unit {0} × B)
  it_then q = seq (λ May u. one (side, terminal_of_fixed x)) (λ u. q)

  -- a part and then the token
  pub then_fixed : (A : Type 0) (p : Family A) (X S : Extends A) → ((a : A) (h : Option Token) → X a h → at_head side h ≡ terminal_of_fixed x → ⊥)
      → (l : ℕ) (r : Reader A) → Exact A p X S l r → Exact (A × Unit {0}) (then_it p) never any l (λ ts. and_then (r ts) (λ a. fixed side x))
  then_fixed A p X S closes l r exact ts =
      seq_law A (Unit {0}) p X S (λ a May u. one (side, terminal_of_fixed x)) (λ a. never) (λ a. any) (λ a m. fixed_sample side x own plain m)
      (λ a May u m us k rest h x'. closes a (head us) x' (one_head side (terminal_of_fixed x) m us k rest h)) l ts (r ts) (exact ts) (λ a. fixed side x) (λ a mid got. fixed_law side x own plain l mid)

  pub then_fixed_sample : (A : Type 0) (p : Family A) (l : ℕ) → Sample A p l → Sample (A × Unit {0}) (then_it p) l
  then_fixed_sample A p l s = seq_sample A (Unit {0}) p (λ a May u. one (side, terminal_of_fixed x)) l s (λ a. fixed_sample side x own plain l)

  -- the token and then a part
  pub fixed_then : (B : Type 0) (q : Family B) (Y R : Extends B) → ((m : ℕ) → Sample B q m) → (l : ℕ) (r : Reader B) → Exact B q Y R l r
      → Exact (Unit {0} × B) (it_then q) (λ y. Y y.1) (λ y. R y.1) l (λ ts. and_then (fixed side x ts) (λ u. r))
  fixed_then B q Y R sample l r exact ts =
      seq_law (Unit {0}) B (λ May u. one (side, terminal_of_fixed x)) never any (λ u. q) (λ u. Y) (λ u. R) (λ u m. sample m) (λ u May b m us k rest h none. absurd none) l ts (fixed side x ts)
      (fixed_law side x own plain l ts) (λ u. r) (λ u mid got. exact mid)

  pub fixed_then_sample : (B : Type 0) (q : Family B) (l : ℕ) → Sample B q l → Sample (Unit {0} × B) (it_then q) l
  fixed_then_sample B q l s = seq_sample (Unit {0}) B (λ May u. one (side, terminal_of_fixed x)) (λ u. q) l (fixed_sample side x own plain l) (λ u. s)
