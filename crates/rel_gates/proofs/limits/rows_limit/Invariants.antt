use Rattle.std.proofs.Common.{ℕ, Bool, length}
use Rattle.std.specs.Prelude.{nat_lt}
use Rattle.std.specs.List.{list_all, range_with_len}
use Rattle.gate_core.specs.Circuit.{value, Keeps}
use Rattle.gate_arith.specs.Numbers.{number}
use Rattle.gate_arith.specs.Operations.{IsTruth}
use Rattle.rel_gates.specs.Shown.{class_bits, row_bits}
use Rattle.rel_gates.proofs.limits.rows_limit.Given as goal

abbrev pub invariant-loop-object : goal.invariant-loop-object
invariant-loop-object l = record {
  keeps : Keeps l.fn.gates l.gates;
  every : IsTruth l.gates (λ (inputs : ℕ → Bool).
      list_all (λ o. nat_lt (number (row_bits (value inputs l.fn.gates) (class_bits l.problem) l.rows o)) (length l.problem.unit.classes)) (range_with_len 0 l.object)) l.every;
}
