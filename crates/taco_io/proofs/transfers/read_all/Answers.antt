use Rattle.std.proofs.Common.{ℕ, ◌+◌, arith, length-take}
use Rattle.taco_io.proofs.Reading.{takes_more}
use Rattle.taco_io.proofs.transfers.read_all.Goals as goal

pub returns-then-is_err-clause-few : goal.returns-then-is_err-clause-few
returns-then-is_err-clause-few g c =
    let old = (g.F.Files.shelf c.args.files.now).rest c.args.slot in
    let mid = (g.F.Files.shelf c.loop-piece.files).rest c.args.slot in
    let new = (g.F.Files.shelf c.pull.new.self).rest c.args.slot in
    takes_more (c.args.limit + 1) old mid new c.loop-piece.bytes.items c.pull.new.buffer c.in-Got.n c.loop-piece.invariant.taken c.in-Got.ensures.pulls.0
    (grind (arith, length-take {A = ℕ}, c.min-most.ensures, c.in-Got.ensures.pulls.2))
