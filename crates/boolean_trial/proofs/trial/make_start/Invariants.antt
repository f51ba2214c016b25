use Rattle.std.proofs.Common.{◌≡◌, ◌++◌, map, drop}
use Rattle.heap_core.specs.declared.value.Value.TheVariants.{Flag}
use Rattle.boolean_trial.proofs.trial.make_start.Given as goal

-- the values so far, and then those of what is left, are those of all
abbrev pub invariant-loop-b : goal.invariant-loop-b
invariant-loop-b l = l.values ++ map Flag (drop l.b-index l.args) ≡ map Flag l.args
