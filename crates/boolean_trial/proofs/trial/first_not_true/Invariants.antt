use Rattle.std.proofs.Common.{◌≡◌, ◌+◌, drop}
use Rattle.boolean_trial.specs.Trial.{first_untrue}
use Rattle.boolean_trial.proofs.trial.first_not_true.Given as goal

-- what is left has the first one of all
abbrev pub invariant-loop-i : goal.invariant-loop-i
invariant-loop-i l = first_untrue (l.i + 1) (drop l.i l.clauses) l.args l.outcome ≡ first_untrue 1 l.clauses l.args l.outcome
