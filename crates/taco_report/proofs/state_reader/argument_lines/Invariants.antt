use Rattle.std.proofs.Common.{◌≡◌, ◌++◌, ◌≤◌, ◌-◌, true, length, take}
use Rattle.std.specs.Cmp.Lexicographic.{pointwise}
use Rattle.taco_report.specs.Texts.{params_of}
use Rattle.taco_report.specs.States.{argument_lines, is_given}
use Rattle.taco_report.proofs.state_reader.argument_lines.Given as goal

-- the lines read are right, and what is left stands behind them
abbrev pub invariant-loop-params : goal.invariant-loop-params
invariant-loop-params l =
    (pointwise (is_given l.count) (take (length l.args) (params_of l.problem)) l.args ≡ true) × (l.text ≡ argument_lines l.problem l.args ++ l.rest)
    × (length l.args ≤ length (params_of l.problem)) × (l.params ≡ params_of l.problem)

abbrev pub decreases-loop-params : goal.decreases-loop-params
decreases-loop-params l = length l.params - length l.args
