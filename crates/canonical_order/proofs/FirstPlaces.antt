-- First places in a list that grows at its end.
use Rattle.std.proofs.Common.{◌≡◌, ℕ, zero, suc, ◌+◌, ◌<◌, ◌≤◌, cond, eqb, not, List, [], ◌∷◌, ◌++◌, length, Some, refl, sym, ◌∙◌, ap, inl, inr, arith}
use Rattle.std.specs.Prelude.{flat_map, slice_get, Contains}
use Rattle.std.proofs.lemmas.Bool.{cases_lt, false≢true, eq-eqb, ne_eqb}
use Rattle.std.proofs.lemmas.List.Concat.{flat_map-cons}
use Rattle.std.proofs.lemmas.List.Elements.{Contains-append_left, Contains-append_right}
use Rattle.std.proofs.lemmas.List.Folds.{prefix_len-append}
use Rattle.std.proofs.lemmas.List.Sums.{fails_before_first, prefix_len-le-length}
use Rattle.heap_core.specs.declared.value.Value.{Value}
use Rattle.heap_core.specs.declared.value.Value.TheVariants.{Obj}
use Rattle.heap_core.specs.Outcomes.{is_object}
use Rattle.canonical_order.specs.Canonical.{first_place}

pub at_most_length : (us : List Value) (o : ℕ) → first_place us o ≤ length us
at_most_length us o = prefix_len-le-length (λ v. not (is_object o v)) us

longer : (us ws : List Value) (o : ℕ) → first_place (us ++ ws) o ≡ cond (eqb (first_place us o) (length us)) (length us + first_place ws o) (first_place us o)
longer us ws o = prefix_len-append (λ v. not (is_object o v)) us ws

-- an object that is there keeps its first place
pub stays : (us ws : List Value) (o : ℕ) → first_place us o < length us → first_place (us ++ ws) o ≡ first_place us o
stays us ws o within =
    longer us ws o ∙ ap (λ b. cond b (length us + first_place ws o) (first_place us o)) (ne_eqb (first_place us o) (length us) (λ same. omega (arith, same, within)))

-- one that is not there has it behind
pub behind : (us ws : List Value) (o : ℕ) → length us ≤ first_place us o → first_place (us ++ ws) o ≡ length us + first_place ws o
behind us ws o beyond =
    longer us ws o ∙ ap (λ b. cond b (length us + first_place ws o) (first_place us o)) (eq-eqb (first_place us o) (length us) (omega (arith, beyond, at_most_length us o)))

-- the first place is within the list exactly where the list holds the object
pub first_within : (vs : List Value) (o : ℕ) → Contains vs (Obj o) → first_place vs o < length vs
first_within vs o (k, within, is) =
    elim (cases_lt k (first_place vs o)) [
      | inl before ↦
          absurd (false≢true (sym (fails_before_first (is_object o) vs k (Obj o) before) ∙ ap (is_object o) is ∙ eq-eqb o o refl))
      | inr here ↦ omega (arith, within, here)
    ]

-- what a list holds that is put together
pub contains_each : {A : Type 0} (f : A → List Value) (xs : List A) (i : ℕ) (x : A) (v : Value) → slice_get xs i ≡ Some x → Contains (f x) v → Contains (flat_map f xs) v
contains_each f [] i x v there holds = absurd (cc)
contains_each f (y ∷ xs) zero x v there holds =
    let same : y ≡ x = cc in
    rw (flat_map-cons f y xs, same) (Contains-append_left (f x) (flat_map f xs) v holds)
contains_each f (y ∷ xs) (suc i) x v there holds =
    rw (flat_map-cons f y xs) (Contains-append_right (f y) (flat_map f xs) v (contains_each f xs i x v there holds))
