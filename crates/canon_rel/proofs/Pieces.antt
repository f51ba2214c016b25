-- What the parts of the formula mean: sets of one object, and a choice by a condition.
use Rattle.std.proofs.Common.{◌≡◌, ℕ, zero, suc, ◌+◌, ◌<◌, ◌≤◌, Bool, true, false, not, ◌&&◌, ◌||◌, inl, inr, refl, sym, ap, ◌∙◌, arith}
use Rattle.std.specs.Prelude.{◌==◌, pos, if◌then◌else◌}
use Rattle.std.specs.Ordering.{int_eq}
use Rattle.std.specs.List.{list_all, list_any, range_with_len}
use Rattle.std.specs.Option.{option_map_or}
use Rattle.std.proofs.lemmas.Bool.{cases_eq, eq-eqb, ne_eqb}
use Rattle.std.proofs.lemmas.List.Folds.{list_all-map}
use Rattle.taco_unit.specs.declared.kind.Kind.{Kind}
use Rattle.taco_unit.specs.declared.kind.Kind.TheVariants as kind
use Rattle.heap_core.specs.declared.value.Value.TheVariants.{Obj}
use Rattle.heap_core.specs.Outcomes.{is_object}
use Rattle.rel_core.specs.declared.relation.RelVar.{RelVar}
use Rattle.rel_core.specs.Reading.{Reading, numbers_below}
use Rattle.rel_core.specs.Meaning.{ValueSet, joined, is_subset, are_of, only, only_object}
use Rattle.canon_rel.specs.Shape.{on_class}
use Rattle.canon_rel.proofs.OneValue.{filter_one}
use mathlib.Core.Path.{fun_ext}

or_false : (b : Bool) → (b || false) ≡ b
or_false true = refl
or_false false = refl

pub and_true : (b : Bool) → (b && true) ≡ b
and_true true = refl
and_true false = refl

-- ## tests that speak of one number

none_past : (t : ℕ → Bool) (o a k : ℕ) → o < a → list_any (λ q. (o == q) && t q) (range_with_len a k) ≡ false
none_past t o a zero less = refl
none_past t o a (suc k) less = rw (ne_eqb o a (λ same. omega (arith, same, less))) (none_past t o (a + 1) k (omega (arith, less)))

some_one : (t : ℕ → Bool) (o a k : ℕ) → a ≤ o → o < a + k → list_any (λ q. (o == q) && t q) (range_with_len a k) ≡ t o
some_one t o a zero low high = absurd (omega (arith, low, high))
some_one t o a (suc k) low high = elim (cases_eq o a) [
  | inl same ↦ rw (eq-eqb o a same) (ap (λ b. t a || b) (none_past t o (a + 1) k (omega (arith, same))) ∙ or_false (t a) ∙ ap t (sym same))
  | inr apart ↦ rw (ne_eqb o a apart) (some_one t o (a + 1) k (omega (arith, low, apart)) (omega (arith, high)))
]

all_past : (t : ℕ → Bool) (o a k : ℕ) → o < a → list_all (λ q. not (o == q) || t q) (range_with_len a k) ≡ true
all_past t o a zero less = refl
all_past t o a (suc k) less = rw (ne_eqb o a (λ same. omega (arith, same, less))) (all_past t o (a + 1) k (omega (arith, less)))

all_one : (t : ℕ → Bool) (o a k : ℕ) → a ≤ o → o < a + k → list_all (λ q. not (o == q) || t q) (range_with_len a k) ≡ t o
all_one t o a zero low high = absurd (omega (arith, low, high))
all_one t o a (suc k) low high = elim (cases_eq o a) [
  | inl same ↦ rw (eq-eqb o a same) (ap (λ b. t a && b) (all_past t o (a + 1) k (omega (arith, same))) ∙ and_true (t a) ∙ ap t (sym same))
  | inr apart ↦ rw (ne_eqb o a apart) (all_one t o (a + 1) k (omega (arith, low, apart)) (omega (arith, high)))
]

-- ## sets of one object

pub joined_one : (m : Reading) (r : RelVar) (o : ℕ) → o < m.objects → joined m (is_object o) r ≡ m.refs r o
joined_one m r o inside = fun_ext (λ v. some_one (λ q. m.refs r q v) o 0 m.objects (omega arith) (omega (arith, inside)))

pub subset_one : (m : Reading) (o : ℕ) (s : ValueSet) → o < m.objects → is_subset m (is_object o) s ≡ s (Obj o)
subset_one m o s inside =
    list_all-map (λ v. not (is_object o v) || s v) Obj (numbers_below m.objects) ∙ all_one (λ q. s (Obj q)) o 0 m.objects (omega arith) (omega (arith, inside))

pub flag_of_one : (m : Reading) (r : RelVar) (o : ℕ) → o < m.objects → option_map_or (m.flag r) (only_object m (is_object o)) false ≡ m.flag r o
flag_of_one m r o inside = ap (λ os. option_map_or (m.flag r) (only os) false) (filter_one (λ q. o == q) 0 m.objects o (omega arith) (omega (arith, inside)) (λ q. refl))

pub class_of_one : (m : Reading) (c : ℕ) (r : RelVar) (o : ℕ) → o < m.objects → are_of m (is_object o) c r ≡ int_eq (m.number r o) (pos c)
class_of_one m c r o inside = all_one (λ q. int_eq (m.number r q) (pos c)) o 0 m.objects (omega arith) (omega (arith, inside))

-- ## a choice

pub chosen : (a b c : Bool) → ((not a || b) && (a || c)) ≡ (if a then b else c)
chosen true b c = and_true b
chosen false b c = refl

-- other kinds than those of classes are not spoken of
pub unspoken : (k : Kind) (fits : ℕ → Bool) → ((c : ℕ) → k ≡ kind.Ref c → ⊥) → on_class k fits ≡ true
unspoken kind.Int fits other = refl
unspoken kind.Flag fits other = refl
unspoken (kind.Ref c) fits other = absurd (other c refl)
