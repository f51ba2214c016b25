-- The DynAlloy program of a plan. (`if` and `while` as in dynamic logic: Harel, Kozen, Tiuryn, "Dynamic Logic",
-- "Regular Programs".)
use Rattle.std.specs.Prelude.{ℕ, true, false, List, [], ◌∷◌, map}
use Rattle.dyn_core.specs.declared.prog.Prog.{Prog}
use Rattle.dyn_core.specs.declared.prog.Prog.TheVariants as q
use Rattle.dyn_plan.specs.declared.plan.Plan.{Plan, fold-Plan}
use Rattle.dyn_plan.specs.declared.plan.Plan.TheOpen.{Plan-F}

-- one of two sequences
abbrev pub either : List Prog → List Prog → Prog
either taken other = q.Choice (q.Seq taken ∷ q.Seq other ∷ [])

-- any number of turns, and then a last test
abbrev pub repetition : ℕ → List Prog → Prog
repetition x turn = q.Seq (q.Star (q.Seq turn) ∷ q.Test x false ∷ [])

-- by cases on the step's form
abbrev pub program_step : Plan-F Prog → Prog
program_step (Plan-F.Do a) = q.Act a
program_step Plan-F.Fail = q.Choice []
program_step (Plan-F.If x taken other) = either (q.Test x true ∷ taken) (q.Test x false ∷ other)
program_step (Plan-F.While x body) = repetition x (q.Test x true ∷ body)

-- the program of a step
abbrev pub program_of_step : Plan → Prog
program_of_step = fold-Plan Prog program_step

-- the program of steps in order
abbrev pub program : List Plan → Prog
program steps = q.Seq (map program_of_step steps)
