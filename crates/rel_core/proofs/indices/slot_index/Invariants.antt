use Rattle.std.proofs.Common.{◌≡◌, drop}
use Rattle.rel_core.specs.Shown.{slot_index}
use Rattle.rel_core.proofs.indices.slot_index.Given as goal

abbrev pub invariant-loop-slot : goal.invariant-loop-slot
invariant-loop-slot l = slot_index (drop l.slot-index l.slots) l.variable ≡ slot_index l.slots l.variable
