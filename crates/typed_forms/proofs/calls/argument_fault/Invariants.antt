use Rattle.std.proofs.Common.{◌≡◌, drop}
use Rattle.declared_names.specs.Faults.{soonest, earlier}
use Rattle.typed_forms.specs.Calls.{argument_faults}
use Rattle.typed_forms.proofs.calls.argument_fault.Given as goal

-- what is left still has its faults
abbrev pub invariant-loop-place : goal.invariant-loop-place
invariant-loop-place l = earlier l.found (soonest (argument_faults (drop l.place l.params) (drop l.place l.given))) ≡ soonest (argument_faults l.params l.given)
