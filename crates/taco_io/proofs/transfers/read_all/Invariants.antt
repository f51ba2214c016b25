use Rattle.std.proofs.Common.{◌+◌, ◌-◌}
use Rattle.std.specs.Prelude.{vec_len}
use Rattle.taco_io.proofs.Reading.{HasRead}
use Rattle.taco_io.proofs.transfers.read_all.Given as goal

abbrev pub invariant-loop-piece : goal.invariant-loop-piece
invariant-loop-piece g l = HasRead l.fn.slot l.fn.limit (g.F.Files.shelf l.fn.files) (g.F.Files.shelf l.files) l.bytes.items

abbrev pub decreases-loop-piece : goal.decreases-loop-piece
decreases-loop-piece g l = l.fn.limit + 1 - vec_len l.bytes
