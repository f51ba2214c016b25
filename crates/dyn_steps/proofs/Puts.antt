-- Classes of objects, and fields that can be set.
use Rattle.std.proofs.Common.{◌≡◌, ℕ, true, false, List, length, Option, Some, None, refl, ap}
use Rattle.std.specs.Prelude.{◌==◌, nat_lt, if◌then◌else◌, slice_get, slice_set, option_map, option_and_then}
use Rattle.std.specs.Option.{option_map_or}
use Rattle.std.proofs.lemmas.Bool.{lt-ltb}
use Rattle.std.proofs.lemmas.Option.{slice_get_within}
use Rattle.taco_unit.specs.declared.unit.ClassDef.{ClassDef}
use Rattle.heap_core.specs.declared.value.Value.{Value}
use Rattle.heap_core.specs.declared.value.Value.TheVariants.{Obj}
use Rattle.heap_core.specs.declared.value.Object.{Object}
use Rattle.heap_core.specs.declared.value.Seen.TheVariants.{Is}
use Rattle.heap_core.specs.Outcomes.{value_in}
use Rattle.heap_core.specs.Heap.{Heap, is_of, class_at, place_of, cell_of, field, put, put_cell}

-- an object of a class, by the class at its number
pub is_of_class : (heap : Heap) (c o : ℕ) → is_of heap c o ≡ option_map_or (λ k. k == c) (class_at heap o) false
is_of_class heap c o = go (slice_get heap o)
  where
    go : (x : Option Object) → option_map_or (λ x. x.class == c) x false ≡ option_map_or (λ k. k == c) (option_map (λ x. x.class) x) false
    go None = refl
    go (Some x) = refl

-- a field that has a value can be set
pub put_works : (classes : List ClassDef) (heap : Heap) (g o : ℕ) (v w : Value) → field classes heap g (Obj o) ≡ Is w → (after : Heap) × (put classes heap g o v ≡ Some after)
put_works classes heap g o v w is = at (slice_get heap o) is
  where
    within : (x : Object) (i : ℕ) (c : Option Value) → slice_get x.cells i ≡ c → value_in c ≡ Is w → (after : Heap) × (put_cell heap o x v i ≡ Some after)
    within x i (Some u) cell is =
        let low : nat_lt i (length x.cells) ≡ true = lt-ltb i (length x.cells) (slice_get_within x.cells i u cell) in
        (slice_set heap o (record x { cells = slice_set x.cells i v }), ap (λ b. if b then Some (slice_set heap o (record x { cells = slice_set x.cells i v })) else None) low)
    within x i None cell is = absurd (cc)

    placed : (x : Object) (i : Option ℕ) → value_in (option_and_then (λ i. slice_get x.cells i) i) ≡ Is w → (after : Heap) × (option_and_then (put_cell heap o x v) i ≡ Some after)
    placed x (Some i) is = within x i (slice_get x.cells i) refl is
    placed x None is = absurd (cc)

    at : (x : Option Object) → cell_of classes g x ≡ Is w → (after : Heap) × (option_and_then (λ x. option_and_then (put_cell heap o x v) (place_of classes x.class g)) x ≡ Some after)
    at (Some x) is = placed x (place_of classes x.class g) is
    at None is = absurd (cc)
