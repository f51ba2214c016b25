-- The table of new numbers is filled place by place.
use Rattle.std.proofs.Common.{◌≡◌, ℕ, zero, suc, ◌+◌, ◌<◌, ◌≤◌, not, List, [], ◌∷◌, length, Some, sym, ◌∙◌, ap, inl, inr, arith, get_or, set}
use Rattle.std.specs.Prelude.{◌==◌, slice_get}
use Rattle.std.proofs.lemmas.Bool.{cases_eq, cases_lt, eqb-true}
use Rattle.std.proofs.lemmas.List.{length-set}
use Rattle.std.proofs.lemmas.List.Sums.{passes_at_first, prefix_len-le-length}
use Rattle.std.proofs.lemmas.Option.{slice_get_within, slice_get-get_or}
use Rattle.canonical_order.specs.Canonical.{HoldsEachOnce, number_in}
use Rattle.canonical_order.specs.Numbers.{AreNumbers}
use Rattle.heap_core.proofs.Lists.{set_at, set_apart}

-- the objects at the first places have their numbers
pub record AreFilled (table order : List ℕ) (k : ℕ) : Type 0 where
  pub as_many : length table ≡ length order
  pub filled : (i o : ℕ) → i < k → slice_get order i ≡ Some o → slice_get table o ≡ Some i

pub fill : (table order : List ℕ) (k o : ℕ) → HoldsEachOnce order (length order) → slice_get order k ≡ Some o → AreFilled table order k → AreFilled (set table o k) order (k + 1)
fill table order k o once there f = record {
  as_many = length-set table o k ∙ f.as_many;
  filled = λ i q less at. elim (cases_eq o q) [
    | inl same ↦
        let place : i ≡ k = once.apart i k o (at ∙ ap Some (sym same)) there in
        let small : o < length table = omega (arith, once.within k o there, f.as_many) in
        ap (slice_get (set table o k)) (sym same) ∙ set_at table o k small ∙ ap Some (sym place)
    | inr apart ↦ elim (cases_eq i k) [
      | inl last ↦
          let e : Some q ≡ Some o = sym at ∙ ap (slice_get order) last ∙ there in
          let e' : q ≡ o = cc in
          absurd (apart (sym e'))
      | inr before ↦ set_apart table o q k apart ∙ f.filled i q (omega (arith, less, before)) at
    ]
  ];
}

-- the place of an object that a list holds is where the list has it, and of another the list's length
pub number_at_most : (order : List ℕ) (o : ℕ) → number_in order o ≤ length order
number_at_most order o = prefix_len-le-length (λ q. not (q == o)) order

place_found : (order : List ℕ) (o : ℕ) → number_in order o < length order → slice_get order (number_in order o) ≡ Some o
place_found order o inside =
    slice_get-get_or order (number_in order o) 0 inside ∙ ap Some (eqb-true (get_or order (number_in order o) 0) o (passes_at_first (λ q. q == o) order 0 inside))

before_place : (order : List ℕ) (i o : ℕ) → slice_get order i ≡ Some o → number_in order o ≤ i
before_place [] i o there = absurd (cc)
before_place (x ∷ order) zero o there =
    let same : x ≡ o = cc in
    grind (arith, same)
before_place (x ∷ order) (suc i) o there = grind (arith, before_place order i o there)

pub numbered : (order : List ℕ) (n : ℕ) → HoldsEachOnce order n → (i o : ℕ) → slice_get order i ≡ Some o → number_in order o ≡ i
numbered order n once i o there =
    let inside : number_in order o < length order = omega (arith, before_place order i o there, slice_get_within order i o there) in
    once.apart (number_in order o) i o (place_found order o inside) there

pub all_filled : (table order : List ℕ) → HoldsEachOnce order (length order) → AreFilled table order (length order) → AreNumbers table order
all_filled table order once f = record {
  as_many = f.as_many;
  at = λ o small.
      let at = once.each o small in
      let there : slice_get order at.0 ≡ Some o = slice_get-get_or order at.0 o at.1 ∙ ap Some at.2 in
      f.filled at.0 o at.1 there ∙ ap Some (sym (numbered order (length order) once at.0 o there));
  beyond = λ o past. elim (cases_lt (number_in order o) (length order)) [
    | inl inside ↦ absurd (omega (arith, past, once.within (number_in order o) o (place_found order o inside)))
    | inr out ↦ omega (arith, out, number_at_most order o)
  ];
}
