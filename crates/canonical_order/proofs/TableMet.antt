-- The table that tells which objects were met.
use Rattle.std.proofs.Common.{◌≡◌, ℕ, zero, suc, ◌<◌, Bool, true, false, List, [], ◌∷◌, ◌++◌, length, Some, sym, ◌∙◌, ap, inl, inr, arith, set}
use Rattle.std.specs.Prelude.{◌==◌, slice_get}
use Rattle.std.proofs.lemmas.Bool.{cases_eq, eq-eqb, ne_eqb}
use Rattle.std.proofs.lemmas.List.{length-set}
use Rattle.std.proofs.lemmas.List.Folds.{list_any-append}
use Rattle.heap_core.proofs.Lists.{set_apart}
use Rattle.canonical_order.specs.Met.{AreMet}
use Rattle.canonical_order.proofs.Visited.{Before, Last, where_at}

set_there : {A : Type 0} (xs : List A) (i : ℕ) (v w : A) → slice_get (set xs i v) i ≡ Some w → w ≡ v
set_there [] i v w there = absurd (cc)
set_there (x ∷ xs) zero v w there = cc
set_there (x ∷ xs) (suc i) v w there = set_there xs i v w there

pub none_met : (table : List Bool) → ((o : ℕ) (b : Bool) → slice_get table o ≡ Some b → b ≡ false) → AreMet table []
none_met table none = record {
  tells = none;
  has_place = λ i o there. absurd (cc);
}

pub one_more : (table : List Bool) (order : List ℕ) (o : ℕ) → o < length table → AreMet table order → AreMet (set table o true) (order ++ o ∷ [])
one_more table order o inside m = record {
  tells = λ q b there. elim (cases_eq o q) [
    | inl same ↦
        let e : b ≡ true = set_there table o true b (ap (slice_get (set table o true)) same ∙ there) in
        e ∙ sym (list_any-append (λ x. x == q) order (o ∷ []) ∙ grind (arith, eq-eqb o q same))
    | inr apart ↦
        let e = m.tells q b (sym (set_apart table o q true apart) ∙ there) in
        e ∙ sym (list_any-append (λ x. x == q) order (o ∷ []) ∙ grind (arith, ne_eqb o q apart))
  ];
  has_place = λ i q there. elim (where_at order o i q there) [
    | Before before within ↦ omega (arith, m.has_place i q before, length-set table o true)
    | Last last same ↦ omega (arith, inside, same, length-set table o true)
  ];
}
