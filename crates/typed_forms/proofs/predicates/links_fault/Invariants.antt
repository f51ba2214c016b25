use Rattle.std.proofs.Common.{◌≡◌, drop}
use Rattle.declared_names.specs.Faults.{soonest, earlier}
use Rattle.typed_forms.specs.Clauses.{links_faults}
use Rattle.typed_forms.proofs.predicates.links_fault.Given as goal

-- what is left still has its faults
abbrev pub invariant-loop-field : goal.invariant-loop-field
invariant-loop-field l = earlier l.found (soonest (links_faults l.world l.owner (drop l.field-index l.fields))) ≡ soonest (links_faults l.world l.owner l.fields)
