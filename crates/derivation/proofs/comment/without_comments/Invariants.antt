use Rattle.std.proofs.Common.{◌≡◌, ◌++◌, drop, length}
use Rattle.derivation.specs.Runs.{uncommented}
use Rattle.derivation.specs.declared.comment.Spot.TheVariants.{LineStart}
use Rattle.derivation.proofs.comment.without_comments.Given as goal

-- what is written, and then the rest from this spot on, is the whole
abbrev pub invariant-loop-byte : goal.invariant-loop-byte
invariant-loop-byte l =
    (l.plain.items ++ uncommented l.spot (drop l.byte-index l.text) ≡ uncommented LineStart l.text) × (length l.plain.items ≡ l.byte-index)
