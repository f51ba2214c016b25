use Rattle.std.proofs.Common.{◌≡◌, ◌+◌, ◌++◌, length}
use Rattle.typed_core.specs.Members.{class_defs}
use Rattle.typed_core.proofs.unit.class_defs.Given as goal

-- what is left still gives the same
abbrev pub invariant-loop-number : goal.invariant-loop-number
invariant-loop-number l = (l.number + length l.parts ≡ length l.initial.parts) × (l.classes ++ class_defs l.fields l.methods l.number l.parts ≡ class_defs l.fields l.methods 0 l.initial.parts)
