use Rattle.std.proofs.Common.{◌≡◌, true, false, arith}
use Rattle.heap_core.specs.Stages.{is_done, stage_of}
use Rattle.heap_eval.proofs.Ranges.{counted, passed}
use Rattle.heap_eval.proofs.reach.done_below.Goals as goal
use Rattle.heap_eval.proofs.reach.done_below.Goals.{then-is_done, else-is_done}

pub loop-object-preserved : goal.loop-object-preserved
loop-object-preserved c =
    elim c.if-is_done.branch [
      | then-is_done w ↦
          let is : is_done (stage_of c.args.stages.now c.loop-object.object) ≡ true = cc in
          (counted (λ o. is_done (stage_of c.args.stages.now o)) c.loop-object.object c.loop-object.count c.if-is_done.count c.loop-object.invariant.0 is w.count-is, omega arith)
      | else-is_done w ↦
          let is : is_done (stage_of c.args.stages.now c.loop-object.object) ≡ false = cc in
          (passed (λ o. is_done (stage_of c.args.stages.now o)) c.loop-object.object c.loop-object.count c.if-is_done.count c.loop-object.invariant.0 is w.count-is, omega arith)
    ]
