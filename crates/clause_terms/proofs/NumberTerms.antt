-- Operators of numbers.
use Rattle.std.proofs.Common.{◌≡◌, ℕ, Bool, true, not, Option, Some, None, refl, sym, ap, ◌∙◌, subst, arith}
use Rattle.std.specs.Prelude.{◌-◌, ◌^◌, ◌<◌, nat_lt, nat_le, if◌then◌else◌, ℤ, pos, negsuc, ◌-ℤ◌, neg_ℤ, int_lt, int_le, option_map, is_some}
use Rattle.std.proofs.lemmas.Bool.{false≢true, lt-ltb}
use Rattle.std.proofs.lemmas.Bool.Decides.{nat_tests}
use Rattle.std.proofs.lemmas.Nat.{pow_pos}
use Rattle.std.proofs.Math.IntN.{+ℤ_idl}
use Rattle.taco_unit.specs.declared.expr.Op.{Op}
use Rattle.heap_core.specs.declared.value.Value.{Value}
use Rattle.heap_core.specs.declared.value.Value.TheVariants.{Num, Flag}
use Rattle.heap_core.specs.declared.value.Seen.TheVariants.{Is, Out}
use Rattle.heap_core.specs.Outcomes.{number, flag, value_in, negative, equivalent, operated}
use Rattle.rel_core.specs.declared.formula.Formula.{Formula}
use Rattle.rel_core.specs.declared.numbers.NumExpr.{NumExpr}
use Rattle.rel_core.specs.Reading.{Reading}
use Rattle.rel_core.specs.Meaning.{fitting, with_both, number_of, holds}
use Rattle.clause_terms.specs.declared.term.Shape.TheVariants as shape
use Rattle.clause_terms.specs.declared.term.Term.{Term}
use Rattle.clause_terms.specs.Terms.{HasValue, Tells}
use Rattle.clause_terms.proofs.Fitting.{told_fitting}

some_same : {A : Type 0} {x y : A} → Some x ≡ Some y → x ≡ y
some_same is = cc

-- the number of a value
pub record IsNumber (m : Reading) (n : NumExpr) (v : Value) : Type 0 where
  pub whole : ℤ
  pub given : number_of n m ≡ Some whole
  pub is : v ≡ Num whole

pub has_number : (m : Reading) (n : NumExpr) (v : Value) → HasValue m (shape.Number n) v → IsNumber m n v
has_number m n v has = go (number_of n m) refl has
  where
    go : (z : Option ℤ) → number_of n m ≡ z → option_map Num z ≡ Some v → IsNumber m n v
    go (Some z) here is = record { whole = z; given = here; is = sym (some_same is) }
    go None here is = absurd (false≢true (ap is_some is))

-- what an operator makes of two numbers, from what it makes of those that expressions have
pub told_on_numbers : (m : Reading) (op : Op) (x y : NumExpr) (t : Term) (v u : Value)
    → ((z w : ℤ) → number_of x m ≡ Some z → number_of y m ≡ Some w → Tells (operated op m.ints (Num z) (Num w)) t m)
    → HasValue m (shape.Number x) v → HasValue m (shape.Number y) u → Tells (operated op m.ints v u) t m
told_on_numbers m op x y t v u each one other =
    let a = has_number m x v one in
    let b = has_number m y u other in
    subst (λ a. Tells (operated op m.ints a u) t m) (sym a.is) (subst (λ b. Tells (operated op m.ints (Num a.whole) b) t m) (sym b.is) (each a.whole b.whole a.given b.given))

pub both_given : {A : Type 0} (m : Reading) (x y : NumExpr) (z w : ℤ) (f : ℤ → ℤ → A) (none : A) → number_of x m ≡ Some z → number_of y m ≡ Some w → with_both (number_of x m) (number_of y m)
    f none ≡ f z w
both_given m x y z w f none left right = rw (left, right) refl

-- a number that may not fit
pub told_arithmetic : (m : Reading) (op : Op) (f : ℤ → ℤ → ℤ) (x y n : NumExpr) (t : Term) (v u : Value)
    → ((z w : ℤ) → operated op m.ints (Num z) (Num w) ≡ number m.ints (f z w))
    → number_of n m ≡ with_both (number_of x m) (number_of y m) (λ a b. fitting m.ints (f a b)) None
    → Tells (value_in (option_map Num (number_of n m))) t m
    → HasValue m (shape.Number x) v → HasValue m (shape.Number y) u → Tells (operated op m.ints v u) t m
told_arithmetic m op f x y n t v u means is told = told_on_numbers m op x y t v u (λ z w left right.
    subst (λ s. Tells s t m) (sym (means z w)) (told_fitting m t (number_of n m) (f z w) (is ∙ both_given m x y z w (λ a b. fitting m.ints (f a b)) None left right) told))

-- a truth value of two numbers
pub told_comparison : (m : Reading) (op : Op) (g : ℤ → ℤ → Bool) (x y : NumExpr) (f : Formula) (t : Term) (v u : Value)
    → ((z w : ℤ) → operated op m.ints (Num z) (Num w) ≡ flag (g z w))
    → ((z w : ℤ) → number_of x m ≡ Some z → number_of y m ≡ Some w → holds f m ≡ g z w)
    → ((v : Value) → HasValue m (shape.Truth f) v → Tells (Is v) t m)
    → HasValue m (shape.Number x) v → HasValue m (shape.Number y) u → Tells (operated op m.ints v u) t m
told_comparison m op g x y f t v u means is told = told_on_numbers m op x y t v u (λ z w left right.
    subst (λ s. Tells s t m) (sym (means z w)) (told (Flag (g z w)) (ap Flag (sym (is z w left right)))))

-- ## the sign

zero_fits : (w : ℕ) → fitting w (pos 0) ≡ Some (pos 0)
zero_fits w = positive (2 ^ (w - 1)) (pow_pos (w - 1))
  where
    positive : (n : ℕ) → 0 < n → (if nat_lt 0 n then Some (pos 0) else None) ≡ Some (pos 0)
    positive n some = let e : nat_lt 0 n ≡ true = lt-ltb 0 n some in rw e refl

pub told_negated : (m : Reading) (zero n made : NumExpr) (t : Term) (v : Value)
    → number_of zero m ≡ fitting m.ints (pos 0)
    → number_of made m ≡ with_both (number_of zero m) (number_of n m) (λ a b. fitting m.ints (a -ℤ b)) None
    → Tells (value_in (option_map Num (number_of made m))) t m
    → HasValue m (shape.Number n) v → Tells (negative m.ints v) t m
told_negated m zero n made t v nothing is told has =
    let a = has_number m n v has in
    let fits : number_of made m ≡ fitting m.ints (neg_ℤ a.whole) =
    is ∙ both_given m zero n (pos 0) a.whole (λ a b. fitting m.ints (a -ℤ b)) None (nothing ∙ zero_fits m.ints) a.given ∙ ap (fitting m.ints) (+ℤ_idl (neg_ℤ a.whole))
    in
    subst (λ w. Tells (negative m.ints w) t m) (sym a.is) (told_fitting m t (number_of made m) (neg_ℤ a.whole) fits told)

-- ## order

not_less : (a b : ℕ) → not (nat_lt a b) ≡ nat_le b a
not_less a b = grind (arith, nat_tests)

pub not_below : (x y : ℤ) → not (int_lt x y) ≡ int_le y x
not_below (pos a) (pos b) = not_less a b
not_below (pos a) (negsuc b) = refl
not_below (negsuc a) (pos b) = refl
not_below (negsuc a) (negsuc b) = not_less b a

-- an operator is another with its operands turned
pub turned : (m : Reading) (op other : Op) (x y : NumExpr) (t : Term) (v u : Value)
    → ((z w : ℤ) → operated op m.ints (Num z) (Num w) ≡ operated other m.ints (Num w) (Num z))
    → HasValue m (shape.Number x) v → HasValue m (shape.Number y) u → Tells (operated other m.ints u v) t m → Tells (operated op m.ints v u) t m
turned m op other x y t v u means one two told =
    let a = has_number m x v one in
    let b = has_number m y u two in
    let same : operated op m.ints v u ≡ operated other m.ints u v =
    ap (λ p. operated op m.ints p u) a.is ∙ ap (λ q. operated op m.ints (Num a.whole) q) b.is ∙ means a.whole b.whole ∙ ap (λ q. operated other m.ints q (Num a.whole)) (sym b.is) ∙ ap
    (λ p. operated other m.ints u p) (sym a.is)
    in
    subst (λ s. Tells s t m) (sym same) told

-- what is none of numbers
pub told_equivalent : (m : Reading) (x : NumExpr) (t : Term) (v u : Value) → HasValue m (shape.Number x) v → Tells Out t m → Tells (equivalent v u) t m
told_equivalent m x t v u one told =
    let a = has_number m x v one in
    subst (λ p. Tells (equivalent p u) t m) (sym a.is) told
