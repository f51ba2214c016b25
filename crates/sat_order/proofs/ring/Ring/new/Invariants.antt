use Rattle.std.proofs.Common.{◌≡◌, ◌+◌, ◌-◌, ◌≤◌}
use Rattle.std.specs.List.{range_with_len}
use Rattle.sat_order.proofs.ring.Ring.new.Given as goal

abbrev pub invariant-loop-var : goal.invariant-loop-var
invariant-loop-var l = record {
  order : l.ring.order ≡ range_with_len (l.var + 1) (l.vars - l.var);
  vars : l.ring.vars ≡ l.vars;
  within : l.var ≤ l.vars;
}

abbrev pub decreases-loop-var : goal.decreases-loop-var
decreases-loop-var l = l.var
