use Rattle.std.proofs.Common.{◌≡◌, replicate}
use Rattle.rel_core.proofs.indices.first_fields.Given as goal

abbrev pub invariant-loop-field : goal.invariant-loop-field
invariant-loop-field l = l.heap ≡ replicate l._field 0
