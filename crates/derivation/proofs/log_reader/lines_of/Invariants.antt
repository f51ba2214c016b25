use Rattle.std.proofs.Common.{◌≡◌, ◌++◌, All, length}
use Rattle.derivation.specs.LogText.{IsLine, text_of_log}
use Rattle.derivation.proofs.log_reader.lines_of.Given as goal

-- the lines read are right, and the rest of the text stands behind them
abbrev pub invariant-loop-rest : goal.invariant-loop-rest
invariant-loop-rest l = All (IsLine l.vars) l.log × (l.text ≡ text_of_log l.log ++ l.rest)

abbrev pub decreases-loop-rest : goal.decreases-loop-rest
decreases-loop-rest l = length l.rest
