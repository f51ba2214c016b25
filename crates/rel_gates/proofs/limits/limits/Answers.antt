-- One relation more.
use Rattle.std.proofs.Common.{arith}
use Rattle.gate_core.specs.Circuit.{IsOf}
use Rattle.gate_core.proofs.Values.{keeps_twice, all_more}
use Rattle.rel_gates.proofs.ClassLimits.{limit_more}
use Rattle.rel_gates.proofs.limits.limits.Goals as goal

pub relation_limit-requires-clause-rows : goal.relation_limit-requires-clause-rows
relation_limit-requires-clause-rows c =
    let rows = c.at.result.1.now in
    let found = c.len-place-end.ensures.once c.loop-place.place (c.at.result.0, rows) c.at.ensures in
    all_more c.args.gates.now c.loop-place.gates rows c.loop-place.invariant.keeps (c.requires.stand c.at.result.0 rows found)

pub relation_limit-requires-clause-long : goal.relation_limit-requires-clause-long
relation_limit-requires-clause-long c = λ class.
    let rows = c.at.result.1.now in
    c.requires.counted c.at.result.0 rows (c.len-place-end.ensures.once c.loop-place.place (c.at.result.0, rows) c.at.ensures) class

pub loop-place-preserved : goal.loop-place-preserved
loop-place-preserved c =
    let old = c.args.gates.now in
    let middle = c.loop-place.gates in
    let third = c.relation_limit.new.gates in
    let new = c.both.new.gates in
    let inv = c.loop-place.invariant in
    let rows = c.at.result.1.now in
    let found = c.len-place-end.ensures.once c.loop-place.place (c.at.result.0, rows) c.at.ensures in
    let of = c.constant-every.ensures.of in
    let some : IsOf old 0 = omega (arith, of) in
    record {
      keeps = keeps_twice old third new (keeps_twice old middle third inv.keeps c.in_ok-here.ensures.keeps) c.in_ok-every.ensures.keeps;
      every = limit_more c.args.problem.now old middle third new c.args.relations.now c.loop-place.place c.at.result.0 rows c.loop-place.every c.in_ok-here.here c.in_ok-every.every some
          (c.requires.stand c.at.result.0 rows found) inv.keeps c.at.ensures inv.every c.in_ok-here.ensures.keeps c.in_ok-here.ensures.truth c.in_ok-every.ensures.truth;
    }
