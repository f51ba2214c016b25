use Rattle.taco_report.proofs.StateLines.{objects_more}
use Rattle.taco_report.proofs.state_reader.object_lines.Goals as goal
use Rattle.std.proofs.Common.{arith}

pub loop-alloc-preserved : goal.loop-alloc-preserved
loop-alloc-preserved c =
    let found = rw c.in-Some.is at c.in_ok-object.ensures.found in
    rw c.in_ok-push.ensures.ok
    (objects_more c.args.problem.now c.args.count c.len-in-loop-alloc.result c.loop-alloc.objects c.in-Some.object c.args.text.now c.loop-alloc.rest.now c.in-Some.behind.now
    c.loop-alloc.invariant.0 found.0 c.loop-alloc.invariant.1 c.len-in-loop-alloc.ensures found.1 (omega arith))
