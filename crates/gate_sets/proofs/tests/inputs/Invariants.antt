use Rattle.std.proofs.Common.{◌≡◌, length, All}
use Rattle.gate_core.specs.Circuit.{IsOf, Keeps}
use Rattle.gate_sets.proofs.tests.inputs.Given as goal

abbrev pub invariant-loop-place : goal.invariant-loop-place
invariant-loop-place l = record {
  of : All (IsOf l.gates) l.list.items;
  wide : length l.list.items ≡ l._place;
  keeps : Keeps l.fn.gates l.gates;
}
