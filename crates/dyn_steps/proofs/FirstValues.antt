-- Relations at single objects, and the values with which fields begin.
use Rattle.std.proofs.Common.{◌≡◌, ℕ, ◌-◌, ◌<◌, Bool, true, false, not, ◌||◌}
use Rattle.std.proofs.Common.{Some, None, inl, inr, refl, sym, ◌∙◌, ap, arith, pow_pos}
use Rattle.std.specs.Prelude.{◌==◌, ◌^◌, nat_lt, ℤ, pos, if◌then◌else◌}
use Rattle.std.specs.Ordering.{int_eq}
use Rattle.std.specs.Option.{option_map_or}
use Rattle.std.proofs.lemmas.Bool.{cases_eq, eq-eqb, ne_eqb, or_left, or_right, false≢true}
use Rattle.taco_unit.specs.declared.kind.Kind.{Kind}
use Rattle.taco_unit.specs.declared.kind.Kind.TheVariants as kind
use Rattle.heap_core.specs.declared.value.Value.{Value}
use Rattle.heap_core.specs.declared.value.Value.TheVariants.{Null, Obj, Num, Flag}
use Rattle.heap_core.specs.Posed.{Posed}
use Rattle.heap_core.specs.Outcomes.{in_bits, is_value, is_object, is_null, zero_of}
use Rattle.rel_core.specs.declared.relation.RelVar.{RelVar}
use Rattle.rel_core.specs.Reading.{Reading, is_reference}
use Rattle.rel_core.specs.Meaning.{has_object, joined, fitting, with_both, are_of}
use Rattle.rel_core.specs.Uses.{Kinds, IsOf}
use Rattle.rel_core.specs.Shown.{ShowsValue}
use Rattle.dyn_steps.specs.Meanings.{there, is_first}
use Rattle.dyn_steps.proofs.Numbers.{one_object, one_joined, all_below, all_numbers, sets_alike, sets_same}
use Rattle.dyn_steps.proofs.Saying.{int_same, same_int, refs_within}

-- ## single objects

pub there_is : (m : Reading) (r : RelVar) (o : ℕ) → o < m.objects → there m r o ≡ m.flag r o
there_is m r o low = ap (λ q. option_map_or (m.flag r) q false) (one_object m (is_object o) o (λ q. refl) low)

pub object_value : (o : ℕ) (v : Value) → is_object o v ≡ is_value (Obj o) v
object_value o Null = refl
object_value o (Obj q) = refl
object_value o (Num z) = refl
object_value o (Flag b) = refl

pub null_value : (v : Value) → is_null v ≡ is_value Null v
null_value Null = refl
null_value (Obj o) = refl
null_value (Num z) = refl
null_value (Flag b) = refl

-- every object of a set of one has a class
pub class_is : (m : Reading) (o c : ℕ) (r : RelVar) → o < m.objects → are_of m (is_object o) c r ≡ int_eq (m.number r o) (pos c)
class_is m o c r low = both_ways_of (are_of m (is_object o) c r) (int_eq (m.number r o) (pos c))
    (λ is. sym (ap (λ b. not b || int_eq (m.number r o) (pos c)) (eq-eqb o o refl))
    ∙ all_below (λ q. not (has_object (is_object o) q) || int_eq (m.number r q) (pos c)) 0 m.objects o is (omega arith) (omega arith))
    (λ is. all_numbers (λ q. not (has_object (is_object o) q) || int_eq (m.number r q) (pos c)) 0 m.objects (λ q below. elim (cases_eq o q) [
      | inl same ↦ or_right (not (o == q)) (int_eq (m.number r q) (pos c)) (ap (λ i. int_eq (m.number r i) (pos c)) (sym same) ∙ is)
      | inr apart ↦ or_left (not (o == q)) (int_eq (m.number r q) (pos c)) (ap not (ne_eqb o q apart))
    ]))
  where
    both_ways_of : (a b : Bool) → (a ≡ true → b ≡ true) → (b ≡ true → a ≡ true) → a ≡ b
    both_ways_of true b on back = sym (on refl)
    both_ways_of false true on back = back refl
    both_ways_of false false on back = refl

-- 0 lies in every width
pub zero_in : (w : ℕ) → in_bits w (pos 0) ≡ true
zero_in w = zero_below (2 ^ (w - 1)) (pow_pos (w - 1))
  where
    zero_below : (m : ℕ) → 0 < m → nat_lt 0 m ≡ true
    zero_below m some = grind (arith, some)

-- ## first values

module _ (p : Posed) (kinds : Kinds) (m : Reading) (of : IsOf p kinds m) (some : 0 < m.objects) where
  first_number : (r : RelVar) → is_first m kind.Int r ≡ int_eq (m.number r 0) (pos 0)
  first_number r =
      ap (λ o. with_both (Some (option_map_or (m.number r) o (pos 0))) (fitting m.ints (pos 0)) int_eq false) (one_object m (is_object 0) 0 (λ q. refl) some)
      ∙ ap (λ b. with_both (Some (m.number r 0)) (if b then Some (pos 0) else None) int_eq false) (zero_in m.ints)

  first_joined : (r : RelVar) (v : Value) → joined m (is_object 0) r v ≡ m.refs r 0 v
  first_joined r v = one_joined m (is_object 0) r 0 v (λ q. refl) some

  pub first_shows : (k : Kind) (r : RelVar) → is_first m k r ≡ true → ShowsValue m k r 0 (zero_of k)
  first_shows kind.Int r is = ap Num (sym (int_same (m.number r 0) (pos 0) (sym (first_number r) ∙ is)))
  first_shows kind.Flag r is = ap Flag (opposite (m.flag r 0) (ap not (sym (there_is m r 0 some)) ∙ is))
    where
      opposite : (b : Bool) → not b ≡ true → false ≡ b
      opposite false is = refl
      opposite true is = absurd (false≢true is)
  first_shows (kind.Ref c) r is =
      (refl, λ v. sym (first_joined r v) ∙ sets_alike m (joined m (is_object 0) r) is_null (λ w has. refs_within p kinds m of r 0 w (sym (first_joined r w) ∙ has)) null_within is v ∙ null_value v)
    where
      null_within : (w : Value) → is_null w ≡ true → is_reference m.objects w ≡ true
      null_within Null has = refl
      null_within (Obj o) has = absurd (false≢true has)
      null_within (Num z) has = absurd (false≢true has)
      null_within (Flag b) has = absurd (false≢true has)

  pub shows_first : (k : Kind) (r : RelVar) → ShowsValue m k r 0 (zero_of k) → is_first m k r ≡ true
  shows_first kind.Int r shown = first_number r ∙ same_int (m.number r 0) (pos 0) (nums (sym shown))
    where
      nums : {x y : ℤ} → Num x ≡ Num y → x ≡ y
      nums is = cc
  shows_first kind.Flag r shown = ap not (there_is m r 0 some ∙ flags (sym shown))
    where
      flags : {x y : Bool} → Flag x ≡ Flag y → x ≡ y
      flags is = cc
  shows_first (kind.Ref c) r shown = sets_same m (joined m (is_object 0) r) is_null (λ v. first_joined r v ∙ shown.1 v ∙ sym (null_value v))
