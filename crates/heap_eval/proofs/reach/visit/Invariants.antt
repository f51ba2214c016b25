use Rattle.heap_core.specs.Outcomes.{is_object}
use Rattle.heap_core.specs.Eval.{points, reached}
use Rattle.heap_core.proofs.Visiting.{Visits, left}
use Rattle.heap_eval.specs.Environs.{env_of}
use Rattle.heap_eval.proofs.reach.visit.Given as goal

abbrev pub invariant-loop-place : goal.invariant-loop-place
invariant-loop-place l = Visits 256 (points (env_of l.env) l.fields) (λ o. is_object o l.fn.from) (reached (env_of l.env) l.fields l.fn.from) l.stages

abbrev pub decreases-loop-place : goal.decreases-loop-place
decreases-loop-place l = left l.stages
