-- The objects of a start that are reached are a closure.
use Rattle.std.proofs.Common.{◌≡◌, ◌↔◌, ℕ, ◌<◌, ◌≤◌, true, false, List, ◌∷◌, length, Option, Some, None, refl, sym, ◌∙◌, subst, ap, get_or, arith}
use Rattle.std.specs.Prelude.{slice_get, Contains}
use Rattle.std.specs.List.{list_any, list_all}
use Rattle.std.specs.Option.{option_map_or}
use Rattle.std.proofs.lemmas.Bool.{false≢true, eq-eqb, eqb-true}
use Rattle.std.proofs.lemmas.List.{get_or_default}
use Rattle.std.proofs.lemmas.List.Folds.{list_any_at, Any-from_list_any}
use Rattle.std.proofs.lemmas.List.Sums.{AllPass-from_list_all, list_all-from_AllPass}
use Rattle.std.proofs.lemmas.Option.{slice_get_within}
use Rattle.heap_core.specs.declared.value.Value.{Value}
use Rattle.heap_core.specs.declared.value.Value.TheVariants.{Obj}
use Rattle.heap_core.specs.declared.value.Object.{Object}
use Rattle.heap_core.specs.declared.start.Start.{Start}
use Rattle.heap_core.specs.declared.visit.Stage.{Stage}
use Rattle.heap_core.specs.declared.visit.Stage.TheVariants.{Done}
use Rattle.heap_core.specs.Outcomes.{is_object}
use Rattle.heap_core.specs.Heap.{Heap}
use Rattle.heap_core.specs.Closure.{closure, BeginsBelow, IsLeastClosed}
use Rattle.heap_core.specs.Start.{Reached, root, held as at_cell}
use Rattle.heap_core.specs.Stages.{is_done, stage_of, found_all, held, given, is_reached}
use Rattle.heap_core.proofs.Closure.{rounds_each, closure_is_least_closed}
use Rattle.heap_core.proofs.Visiting.{Upon, upon_values}

-- ## an object among values

same_object : (v : Value) (o : ℕ) → is_object o v ≡ true → v ≡ Obj o
same_object (Obj p) o is = ap Obj (sym (eqb-true o p is))
same_object _ o is = absurd (false≢true is)

any_object : (vs : List Value) (o : ℕ) → Contains vs (Obj o) → list_any (is_object o) vs ≡ true
any_object vs o (k, within, is) = list_any_at (is_object o) vs k (Obj o) within (ap (is_object o) is ∙ eq-eqb o o refl)

an_object : (vs : List Value) (o : ℕ) → list_any (is_object o) vs ≡ true → Contains vs (Obj o)
an_object vs o is =
    let found = Any-from_list_any (is_object o) vs is in
    let same = same_object found.1 o found.4 in
    (found.0, found.2, subst (λ v. get_or vs found.0 v ≡ v) same found.3)

-- ## cells

in_cell : (heap : Heap) (p o : ℕ) (x : Object) → slice_get heap p ≡ Some x → Contains x.cells (Obj o) → held heap p o ≡ true
in_cell heap p o x there cell = rw there (any_object x.cells o cell)

from_cell : (heap : Heap) (p o : ℕ) (found : Option Object) → slice_get heap p ≡ found → held heap p o ≡ true → (x : Object) × (slice_get heap p ≡ Some x) × Contains x.cells (Obj o)
from_cell heap p o None there is = let same : held heap p o ≡ false = rw there refl in absurd (false≢true (sym same ∙ is))
from_cell heap p o (Some x) there is = (x, there, an_object x.cells o (rw there at is))

-- an object that holds another is one of the heap's
pub held_within : (heap : Heap) → BeginsBelow (length heap) (held heap)
held_within heap p o is =
    let cell = from_cell heap p o (slice_get heap p) refl is in
    slice_get_within heap p cell.0 cell.1

-- the objects in the cells of an object are come upon
pub upon_cells : (heap : Heap) (p : ℕ) (x : Object) (ss : List Stage) → slice_get heap p ≡ Some x → Upon (held heap p) ss (found_all ss x.cells)
upon_cells heap p x ss there =
    subst (λ (read : Option Object). Upon (λ o. option_map_or (λ y. list_any (is_object o) y.cells) read false) ss (found_all ss x.cells)) (sym there) (upon_values x.cells ss)

pub reached_is_least : (s : Start) (bound : ℕ) → length s.objects ≤ bound → IsLeastClosed (held s.objects) (given s) (closure (held s.objects) bound (given s))
reached_is_least s bound small =
    closure_is_least_closed (held s.objects) bound (given s) (λ p o is. omega (arith, held_within s.objects p o is, small))

-- ## the closure

in_closure : (s : Start) (bound : ℕ) → length s.objects ≤ bound → (o : ℕ) → Reached s o → closure (held s.objects) bound (given s) o ≡ true
in_closure s bound small _ (root o at_root) = (reached_is_least s bound small).holds o (any_object (s.this ∷ s.args) o at_root)
in_closure s bound small _ (at_cell p o x from there cell) =
    (reached_is_least s bound small).closed p o (in_closure s bound small p from) (in_cell s.objects p o x there cell)

pub reached_closure : (s : Start) (bound : ℕ) → length s.objects ≤ bound → (o : ℕ) → Reached s o ↔ (closure (held s.objects) bound (given s) o ≡ true)
reached_closure s bound small o = (in_closure s bound small o, rounds_each (Reached s) bound (held s.objects) bound (given s) begins goes o)
  where
    begins : (q : ℕ) → given s q ≡ true → Reached s q
    begins q is = root q (an_object (s.this ∷ s.args) q is)

    goes : (p q : ℕ) → p < bound → Reached s p → held s.objects p q ≡ true → Reached s q
    goes p q within from is =
        let cell = from_cell s.objects p q (slice_get s.objects p) refl is in
        at_cell p q cell.0 from cell.1 cell.2

-- where exactly the objects that are reached are done, all are done exactly where all are reached
pub all_done : (s : Start) (ss : List Stage)
    → length ss ≡ length s.objects → ((o : ℕ) → o < length s.objects → is_done (stage_of ss o) ≡ is_reached s o) → (list_all is_done ss ≡ true) ↔ ((o : ℕ) → o < length s.objects → Reached s o)
all_done s ss sized done = (there, back)
  where
    same : (o : ℕ) → Reached s o ↔ (is_reached s o ≡ true)
    same = reached_closure s (length s.objects) (omega arith)

    there : list_all is_done ss ≡ true → (o : ℕ) → o < length s.objects → Reached s o
    there all o within = (same o).1 (sym (done o within) ∙ AllPass-from_list_all is_done ss all o Done (omega arith))

    back : ((o : ℕ) → o < length s.objects → Reached s o) → list_all is_done ss ≡ true
    back all = list_all-from_AllPass is_done ss (λ o d within. ap is_done (get_or_default ss o d Done within) ∙ done o (omega arith) ∙ (same o).0 (all o (omega arith)))
