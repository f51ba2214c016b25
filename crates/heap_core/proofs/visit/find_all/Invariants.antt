use Rattle.std.proofs.Common.{◌≡◌, drop}
use Rattle.heap_core.specs.Stages.{found_all}
use Rattle.heap_core.proofs.visit.find_all.Given as goal

abbrev pub invariant-loop-value : goal.invariant-loop-value
invariant-loop-value l = found_all l.stages (drop l.value-index l.values) ≡ found_all l.initial.stages l.values
