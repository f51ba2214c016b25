use Rattle.std.proofs.Common.{◌≡◌, take}
use Rattle.rel_core.proofs.copies.+formulas.Given as goal

abbrev pub invariant-part_copies-loop-part : goal.invariant-part_copies-loop-part
invariant-part_copies-loop-part l = l.all ≡ take l.part-index l.parts
