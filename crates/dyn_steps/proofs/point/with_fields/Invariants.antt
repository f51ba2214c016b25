use Rattle.std.proofs.Common.{◌≡◌, drop}
use Rattle.dyn_steps.specs.Points.{fields_moved}
use Rattle.dyn_steps.proofs.point.with_fields.Given as goal

abbrev pub invariant-loop-field : goal.invariant-loop-field
invariant-loop-field l = fields_moved l.at (drop l.field-index l.fields) l.index ≡ fields_moved l.initial.at l.fields l.index
