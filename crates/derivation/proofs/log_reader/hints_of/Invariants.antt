use Rattle.std.proofs.Common.{◌≡◌, ◌++◌, length, map}
use Rattle.std.specs.Fmt.{decimal}
use Rattle.derivation.specs.LogText.{AreHints}
use Rattle.derivation.proofs.log_reader.hints_of.Given as goal

-- the words before spell the hints so far
abbrev pub invariant-loop-word : goal.invariant-loop-word
invariant-loop-word l = AreHints l.hints.items × (l.initial.words ≡ map decimal l.hints.items ++ l.words)

abbrev pub decreases-loop-word : goal.decreases-loop-word
decreases-loop-word l = length l.words
