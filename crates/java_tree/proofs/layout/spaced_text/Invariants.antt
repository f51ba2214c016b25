use Rattle.std.proofs.Common.{◌≡◌, ◌++◌, false, drop}
use Rattle.java_tree.specs.Print.{pieces}
use Rattle.java_tree.specs.Spaced.{spaced}
use Rattle.java_tree.proofs.layout.spaced_text.Given as goal

-- what is left is still to be laid out
abbrev pub invariant-loop-word : goal.invariant-loop-word
invariant-loop-word l = l.text.items ++ spaced (pieces l.inside (drop l.word-index l.words)) ≡ spaced (pieces false l.words)
