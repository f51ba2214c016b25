use Rattle.std.proofs.Common.{◌≡◌, ◌++◌, map, take}
use Rattle.std.specs.Fmt.{decimal}
use Rattle.derivation.specs.Texts.{spaced}
use Rattle.derivation.proofs.writer.push_numbers.Given as goal

-- the numbers before are written
abbrev pub invariant-loop-number : goal.invariant-loop-number
invariant-loop-number l = l.text.items ≡ l.initial.text.items ++ spaced (map decimal (take l.number-index l.numbers))
