use Rattle.std.proofs.Common.{◌-◌, length}
use Rattle.boolean_trial.proofs.trial.+first_failing.Given as goal

abbrev pub decreases-first_failing : goal.decreases-first_failing
decreases-first_failing l = length l.args.now - l.at
