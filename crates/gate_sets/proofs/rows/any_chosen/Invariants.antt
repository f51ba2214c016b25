use Rattle.std.proofs.Common.{ℕ, Bool, ◌&&◌}
use Rattle.std.specs.List.{list_any, range_with_len}
use Rattle.gate_core.specs.Circuit.{Keeps}
use Rattle.gate_arith.specs.Operations.{IsTruth}
use Rattle.gate_sets.specs.Lists.{at, in_row}
use Rattle.gate_sets.proofs.rows.any_chosen.Given as goal

abbrev pub invariant-loop-number : goal.invariant-loop-number
invariant-loop-number l = record {
  keeps : Keeps l.fn.gates l.gates;
  found : IsTruth l.gates (λ (inputs : ℕ → Bool). list_any (λ o. at l.fn.gates l.chosen inputs o && in_row l.width l.fn.gates l.rows inputs o l.place) (range_with_len 0 l.number)) l.found;
}
