use Rattle.std.proofs.Common.{◌-◌, ◌<◌, ◌≤◌}
use Rattle.gate_core.specs.Circuit.{Keeps}
use Rattle.gate_sets.specs.Lists.{AreRows}
use Rattle.gate_sets.proofs.graphs.closed.Given as goal
use Rattle.gate_sets.proofs.Paths.{paths_of}

abbrev pub invariant-loop-steps : goal.invariant-loop-steps
invariant-loop-steps l = record {
  keeps : Keeps l.fn.gates l.gates;
  steps : 0 < l.steps;
  few : l.steps ≤ 510;
  paths : AreRows l.gates l.count l.count (paths_of l.count l.fn.gates l.graph l.steps) l.paths.items;
}

abbrev pub decreases-loop-steps : goal.decreases-loop-steps
decreases-loop-steps l = l.count - l.steps
