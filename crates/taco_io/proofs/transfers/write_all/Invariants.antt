use Rattle.std.proofs.Common.{length, ◌-◌}
use Rattle.taco_io.proofs.Writing.{HasWritten}
use Rattle.taco_io.proofs.transfers.write_all.Given as goal

abbrev pub invariant-loop-sent : goal.invariant-loop-sent
invariant-loop-sent g l = HasWritten l.bytes l.sent (g.K.Sink.taken l.fn.sink) (g.K.Sink.taken l.sink)

abbrev pub decreases-loop-sent : goal.decreases-loop-sent
decreases-loop-sent g l = length l.bytes - l.sent
