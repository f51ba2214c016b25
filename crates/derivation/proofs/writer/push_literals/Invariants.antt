use Rattle.std.proofs.Common.{◌≡◌, ◌++◌, map, take}
use Rattle.derivation.specs.Texts.{literal_text, spaced}
use Rattle.derivation.proofs.writer.push_literals.Given as goal

-- the literals before are written
abbrev pub invariant-loop-lit : goal.invariant-loop-lit
invariant-loop-lit l = l.text.items ≡ l.initial.text.items ++ spaced (map literal_text (take l.lit-index l.lits))
