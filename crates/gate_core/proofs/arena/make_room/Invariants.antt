use Rattle.std.proofs.Common.{◌≡◌}
use Rattle.std.specs.Prelude.{length}
use Rattle.gate_core.specs.Chains.{nodes_of, IsChained}
use Rattle.gate_core.proofs.arena.make_room.Given as goal

abbrev pub invariant-loop-place : goal.invariant-loop-place
invariant-loop-place l = record {
  nodes : nodes_of l.cells.items ≡ nodes_of l.fn.cells.items;
  count : length l.cells.items ≡ length l.fn.cells.items;
  chained : IsChained l.cells.items l.wider.items l.place;
}
