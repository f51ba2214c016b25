use Rattle.taco_io.proofs.Writing.{has_written_more}
use Rattle.taco_io.proofs.transfers.write_all.Goals as goal

pub loop-sent-preserved : goal.loop-sent-preserved
loop-sent-preserved g c =
    let pushed = c.in-Took.ensures.pushes in
    has_written_more c.args.bytes.now _ c.loop-sent.sent c.in-Took.n _ _ _ c.loop-sent.invariant c.split_at.ensures.back pushed.0 pushed.2 pushed.3
