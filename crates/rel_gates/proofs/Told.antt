-- What is shown is a reading of the problem, where no class number is too large.
use Rattle.std.proofs.Common.{
  ◌≡◌,
  ℕ,
  ◌+◌,
  ◌-◌,
  ◌*◌,
  ◌^◌,
  ◌<◌,
  ◌≤◌,
  Bool,
  true,
  false,
  ◌&&◌,
  ◌||◌,
  List,
  [],
  ◌∷◌,
  ◌++◌,
  length,
  map,
  refl,
  sym,
  subst,
  ap,
  ◌∙◌,
  arith,
  inl,
  inr,
  ℤ,
  pos,
  ◌-ℤ◌,
  ◌≤ℤ◌,
  ◌<ℤ◌,
  Option,
  Some,
  None,
}
use Rattle.std.specs.Prelude.{if◌then◌else◌}
use Rattle.std.specs.List.{range_with_len}
use Rattle.std.specs.Ordering.{int_eq}
use Rattle.std.specs.Option.{option_map_or}
use Rattle.std.proofs.lemmas.Bool.{cases_Bool, and_parts, and_from, or_left, or_right, lt-ltb}
use Rattle.std.proofs.lemmas.Bool.Decides.{Decides-int_eq}
use Rattle.std.proofs.lemmas.Int.{ints}
use Rattle.std.proofs.lemmas.List.{map-append}
use Rattle.std.proofs.lemmas.List.FromFn.{length-map-range_with_len}
use Rattle.gate_arith.specs.Numbers.{bit, number, signed}
use Rattle.gate_arith.proofs.Signed.{signed_push, number_below, within_true}
use Rattle.gate_sets.proofs.Places.{numbers_last}
use Rattle.heap_core.specs.Outcomes.{in_bits}
use Rattle.heap_core.specs.Posed.{Posed}
use Rattle.rel_core.specs.declared.relation.RelVar.{RelVar}
use Rattle.rel_core.specs.Reading.{is_reference}
use Rattle.rel_core.specs.Uses.{Kinds, AsSet, AsNumber, AsFlag, AsClass, has_place, can_have, is_class_number, IsOf}
use Rattle.rel_gates.specs.Shown.{Named, gates_of, class_bits, place_of, in_row, row_bits, number_shown, reading_shown}
use Rattle.rel_gates.specs.Naming.{IsSmall, ClassesFit}

-- ## numbers of so many bits

low_bound : (n p : ℕ) (t : Bool) → n < p → (pos 0 -ℤ pos p) ≤ℤ (pos n -ℤ pos (p * bit t))
low_bound n p true less = omega (arith, ints, less)
low_bound n p false less = omega (arith, ints, less)

high_bound : (n p : ℕ) (t : Bool) → n < p → (pos n -ℤ pos (p * bit t)) <ℤ pos p
high_bound n p true less = omega (arith, ints, less)
high_bound n p false less = omega (arith, ints, less)

signed_within : (w : ℕ) (f : ℕ → Bool) → 1 ≤ w → in_bits w (signed (map f (range_with_len 0 w))) ≡ true
signed_within w f some =
    let top : ℕ = w - 1 in
    let whole : w ≡ top + 1 = omega (arith, some) in
    let low = map f (range_with_len 0 top) in
    let split : map f (range_with_len 0 w) ≡ low ++ f top ∷ [] =
    ap (λ n. map f (range_with_len 0 n)) whole ∙ ap (map f) (numbers_last top) ∙ map-append f (range_with_len 0 top) (top ∷ []) in
    let wide : length low ≡ top = length-map-range_with_len f 0 top in
    let small : number low < 2 ^ top = subst (λ n. number low < 2 ^ n) wide (number_below low) in
    let is : signed (map f (range_with_len 0 w)) ≡ (pos (number low) -ℤ pos (2 ^ top * bit (f top))) =
    ap signed split ∙ signed_push low (f top) ∙ ap (λ n. pos (number low) -ℤ pos (2 ^ n * bit (f top))) wide in
    ap (in_bits w) is ∙ within_true w (2 ^ top) (pos (number low) -ℤ pos (2 ^ top * bit (f top))) refl (low_bound (number low) (2 ^ top) (f top) small) (high_bound
    (number low) (2 ^ top) (f top) small)

-- ## the reading that is shown

abbrev can : Posed → Kinds → RelVar → ℕ → ℤ → Type 0
can p kinds r o z = can_have p kinds r o z ≡ true

can_zero : (p : Posed) (kinds : Kinds) (r : RelVar) (o : ℕ) → can p kinds r o (pos 0)
can_zero p kinds r o =
    or_left (int_eq (pos 0) (pos 0) || (has_place p kinds AsNumber r o && in_bits p.scope.ints (pos 0))) (has_place p kinds AsClass r o && is_class_number p (pos 0))
    (or_left (int_eq (pos 0) (pos 0)) (has_place p kinds AsNumber r o && in_bits p.scope.ints (pos 0)) ((Decides-int_eq (pos 0) (pos 0)).1 refl))

can_number : (p : Posed) (kinds : Kinds) (r : RelVar) (o : ℕ) (z : ℤ) → has_place p kinds AsNumber r o ≡ true → in_bits p.scope.ints z ≡ true → can p kinds r o z
can_number p kinds r o z there is =
    or_left (int_eq z (pos 0) || (has_place p kinds AsNumber r o && in_bits p.scope.ints z)) (has_place p kinds AsClass r o && is_class_number p z)
    (or_right (int_eq z (pos 0)) (has_place p kinds AsNumber r o && in_bits p.scope.ints z) (and_from (has_place p kinds AsNumber r o) (in_bits p.scope.ints z) there is))

can_class : (p : Posed) (kinds : Kinds) (r : RelVar) (o c : ℕ) → has_place p kinds AsClass r o ≡ true → c < length p.unit.classes → can p kinds r o (pos c)
can_class p kinds r o c there less =
    or_right (int_eq (pos c) (pos 0) || (has_place p kinds AsNumber r o && in_bits p.scope.ints (pos c))) (has_place p kinds AsClass r o && is_class_number p (pos c))
    (and_from (has_place p kinds AsClass r o) (is_class_number p (pos c)) there (lt-ltb c (length p.unit.classes) less))

pub shown_of_problem : (p : Posed) (kinds : Kinds) (truth : ℕ → Bool) (es : Named) → IsSmall p → ClassesFit p kinds truth es → IsOf p kinds (reading_shown p kinds truth es)
shown_of_problem p kinds truth es small fit = record {
  objects = refl;
  ints = refl;
  refs = λ r o v is. (and_parts (has_place p kinds AsSet r o && is_reference p.scope.objects v) (option_map_or (λ gates. in_row truth (p.scope.objects + 1) gates o
      (place_of v)) (gates_of es r) false) is).0;
  numbers = λ r o. numbers r o (gates_of es r) refl;
  flags = λ r o is. (and_parts (has_place p kinds AsFlag r o) (option_map_or (λ gates. in_row truth 1 gates o 0) (gates_of es r) false) is).0;
}
  where
    numbers : (r : RelVar) (o : ℕ) (found : Option (List ℕ)) → gates_of es r ≡ found → can p kinds r o (number_shown p kinds truth (gates_of es r) r o)
    numbers r o found there = subst (λ f. can p kinds r o (number_shown p kinds truth f r o)) (sym there) (by found there)
      where
        choice : Bool → Bool → ℤ → ℤ → ℤ
        choice a b x y = if a then x else (if b then y else pos 0)

        by : (f : Option (List ℕ)) → gates_of es r ≡ f → can p kinds r o (number_shown p kinds truth f r o)
        by f is =
            let x = option_map_or (λ gates. signed (row_bits truth p.scope.ints gates o)) f (pos 0) in
            let y = option_map_or (λ gates. pos (number (row_bits truth (class_bits p) gates o))) f (pos 0) in
            elim (cases_Bool (has_place p kinds AsNumber r o)) [
              | inl number_is ↦ subst (can p kinds r o) (sym (ap (λ a. choice a (has_place p kinds AsClass r o) x y) number_is)) (of_number f number_is)
              | inr none ↦ elim (cases_Bool (has_place p kinds AsClass r o)) [
                | inl class_is ↦ subst (can p kinds r o) (sym (ap (λ a. choice a (has_place p kinds AsClass r o) x y) none ∙ ap (λ b. choice false b x y) class_is)) (of_class f is class_is)
                | inr nor ↦ subst (can p kinds r o) (sym (ap (λ a. choice a (has_place p kinds AsClass r o) x y) none ∙ ap (λ b. choice false b x y) nor)) (can_zero p kinds r o)
              ]
            ]
          where
            of_number : (g : Option (List ℕ)) → has_place p kinds AsNumber r o ≡ true → can p kinds r o (option_map_or (λ gates. signed (row_bits truth p.scope.ints gates o)) g (pos 0))
            of_number None at = can_zero p kinds r o
            of_number (Some gates) at = can_number p kinds r o (signed (row_bits truth p.scope.ints gates o)) at (signed_within p.scope.ints (in_row truth p.scope.ints
                gates o) (omega (arith, small.ints)))

            of_class : (g : Option (List ℕ)) → gates_of es r ≡ g → has_place p kinds AsClass r o ≡ true
                → can p kinds r o (option_map_or (λ gates. pos (number (row_bits truth (class_bits p) gates o))) g (pos 0))
            of_class None at place = can_zero p kinds r o
            of_class (Some gates) at place = can_class p kinds r o (number (row_bits truth (class_bits p) gates o)) place (fit r gates at o place)
