use Rattle.std.proofs.Common.{◌≡◌, take}
use Rattle.std.specs.Prelude.{map}
use Rattle.heap_core.specs.Heap.{first_value}
use Rattle.heap_core.proofs.fields.first_values.Given as goal

abbrev pub invariant-loop-field : goal.invariant-loop-field
invariant-loop-field l = l.cells ≡ map (first_value l.fields) (take l.field-index l.listed)
