use Rattle.std.proofs.Common.{◌≡◌, take}
use Rattle.derivation.specs.LogText.{text_of_log}
use Rattle.derivation.proofs.writer.log_text.Given as goal

-- the lines before are written
abbrev pub invariant-loop-line : goal.invariant-loop-line
invariant-loop-line l = l.text.items ≡ text_of_log (take l.line-index l.line-items)
