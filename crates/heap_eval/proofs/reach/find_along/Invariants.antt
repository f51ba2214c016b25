use Rattle.std.proofs.Common.{◌≡◌, drop}
use Rattle.heap_eval.specs.Stages.{found_along}
use Rattle.heap_eval.proofs.reach.find_along.Given as goal

abbrev pub invariant-loop-number : goal.invariant-loop-number
invariant-loop-number l = found_along l.unit.classes l.heap l.object l.stages (drop l.number-index l.fields) ≡ found_along l.unit.classes l.heap l.object l.initial.stages l.fields
