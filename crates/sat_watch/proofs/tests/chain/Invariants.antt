use Rattle.std.proofs.Common.{◌≡◌}
use Rattle.sat_watch.specs.Watching.{Right}
use Rattle.sat_watch.proofs.tests.chain.Given as goal

abbrev pub invariant-loop-var : goal.invariant-loop-var
invariant-loop-var l = record {
  right : Right l.watches l.trail;
  vars : l.watches.vars ≡ 10000;
}
