use Rattle.std.proofs.Common.{◌≡◌, ◌++◌, length, map}
use Rattle.derivation.specs.LogText.{IsClause}
use Rattle.derivation.specs.Texts.{literal_text}
use Rattle.derivation.proofs.log_reader.clause_of.Given as goal

-- the words before spell the literals so far
abbrev pub invariant-loop-word : goal.invariant-loop-word
invariant-loop-word l = IsClause l.vars l.clause.items × (l.initial.words ≡ map literal_text l.clause.items ++ l.words)

abbrev pub decreases-loop-word : goal.decreases-loop-word
decreases-loop-word l = length l.words
