-- Laws of the definitions, which contracts of this crate name.
use Rattle.std.specs.Prelude.{ℕ, ◌≤◌, ◌≡◌, true, List, length, IsTrue}
use Rattle.taco_unit.specs.declared.expr.Expr.{Expr}
use Rattle.taco_unit.specs.declared.stmt.Stmt.{Stmt}
use Rattle.taco_unit.specs.declared.stmt.Stmt.TheVariants.{While}
use Rattle.heap_core.specs.declared.value.Value.{Value}
use Rattle.heap_core.specs.declared.value.Value.TheVariants.{Flag}
use Rattle.heap_core.specs.Posed.{Posed}
use Rattle.heap_core.specs.Outcomes.{is_object}
use Rattle.heap_core.specs.Closure.{IsLeastClosed}
use Rattle.heap_core.specs.Eval.{Env, points, reached}
use Rattle.heap_core.specs.declared.start.Start.{Start}
use Rattle.heap_core.specs.Exec.{Frame, Memory, Gives, Stops, Run, code, exec}
use Rattle.heap_core.specs.Judge.{judged, judged_run, run_of, run_decides}

-- in every heap within the scope `\reach` is the least set that holds its start, where that is an object,
-- and with each object the objects in its fields
abbrev pub ReachIsLeastClosed : Type 0
ReachIsLeastClosed =
    (env : Env) (fields : List ℕ) (v : Value)
    → length env.heap ≤ env.objects
    → IsLeastClosed (points env fields) (λ o. is_object o v) (reached env fields v)

-- where no turn is left and the test is true, a loop leaves the scope
abbrev pub NoTurnLeft : Type 0
NoTurnLeft =
    (p : Posed) (run : Run) (test : Expr) (body : Stmt) (fr : Frame) (m after : Memory)
    → p.scope.loops ≡ 0
    → code p run test fr m ≡ Gives (Flag true) after
    → exec p run (While test body) fr m ≡ Stops

-- where neither of the first two lines of the judgement applies, it is the judgement of the run
abbrev pub TheRunDecides : Type 0
TheRunDecides = (p : Posed) (s : Start) → IsTrue (run_decides p s) → judged p s ≡ judged_run p s (run_of p s)
