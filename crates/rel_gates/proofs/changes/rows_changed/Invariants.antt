use Rattle.std.proofs.Common.{ℕ, Bool, length}
use Rattle.std.specs.List.{list_all, range_with_len}
use Rattle.gate_core.specs.Circuit.{value, Keeps}
use Rattle.gate_arith.specs.Operations.{IsTruth}
use Rattle.rel_gates.specs.Changes.{row_changes}
use Rattle.rel_gates.proofs.changes.rows_changed.Given as goal

abbrev pub invariant-loop-place : goal.invariant-loop-place
invariant-loop-place l = record {
  keeps : Keeps l.fn.gates l.gates;
  every : IsTruth l.gates (λ (inputs : ℕ → Bool). list_all (row_changes (length l.given) (value inputs l.fn.gates) l.members l.new l.given l.old) (range_with_len 0 l.place)) l.every;
}
