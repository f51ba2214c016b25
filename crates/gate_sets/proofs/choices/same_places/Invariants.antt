use Rattle.std.proofs.Common.{ℕ, Bool, not}
use Rattle.std.specs.List.{list_all, range_with_len}
use Rattle.gate_core.specs.Circuit.{Keeps}
use Rattle.gate_arith.specs.Numbers.{differ}
use Rattle.gate_arith.specs.Operations.{IsTruth}
use Rattle.gate_sets.specs.Lists.{at}
use Rattle.gate_sets.proofs.choices.same_places.Given as goal

abbrev pub invariant-loop-place : goal.invariant-loop-place
invariant-loop-place l = record {
  keeps : Keeps l.fn.gates l.gates;
  same : IsTruth l.gates (λ (inputs : ℕ → Bool). list_all (λ i. not (differ (at l.fn.gates l.a inputs i) (at l.fn.gates l.b inputs i))) (range_with_len 0 l.place)) l.same;
}
