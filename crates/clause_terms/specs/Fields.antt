-- Fields that a unit lacks. (This project's own.)
use Rattle.std.specs.Prelude.{◌≡◌, ℕ, false, not, List, slice_get, None}
use Rattle.taco_unit.specs.declared.unit.ClassDef.{ClassDef}
use Rattle.taco_unit.specs.Parts.{Parts}
use Rattle.taco_unit.specs.Well.{IsWell}
use Rattle.heap_core.specs.declared.value.Value.TheVariants.{Obj}
use Rattle.heap_core.specs.Outcomes.{is_bad}
use Rattle.heap_core.specs.Heap.{Heap, field}
use Rattle.rel_core.specs.declared.indices.Indices.{Indices}
use Rattle.rel_core.specs.Reading.{Reading}
use Rattle.rel_core.specs.Shown.{ShowsHeap, live_relation}
use Rattle.clause_terms.specs.Terms.{gives_value}

-- no object has the field: at an object it gives Bad exactly where the object is not there, and nowhere a value
pub record FieldIsLacking (classes : List ClassDef) (m : Reading) (at : Indices) (heap : Heap) (f : ℕ) : Type 0 where
  pub missing : (o : ℕ) → is_bad (field classes heap f (Obj o)) ≡ not (m.flag (live_relation at) o)
  pub lacking : (o : ℕ) → gives_value (field classes heap f (Obj o)) ≡ false

-- in a heap that is shown so is every field that the unit lacks
abbrev pub OtherFieldsAreLacking : Type 0
OtherFieldsAreLacking =
    (u : Parts) (m : Reading) (at : Indices) (heap : Heap) (f : ℕ) → IsWell u → ShowsHeap u m at heap → slice_get u.fields f ≡ None → FieldIsLacking u.classes m at heap f
