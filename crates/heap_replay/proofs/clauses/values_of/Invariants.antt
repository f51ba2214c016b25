use Rattle.std.proofs.Common.{◌≡◌, take}
use Rattle.heap_core.specs.Judge.{values_of}
use Rattle.heap_eval.specs.Environs.{env_of}
use Rattle.heap_replay.proofs.clauses.values_of.Given as goal

abbrev pub invariant-loop-clause : goal.invariant-loop-clause
invariant-loop-clause l = l.values ≡ values_of (env_of l.env) (take l.clause-index l.clauses)
