-- One equation for each form of a step: what `next` and `program_of_step` give of it.
use Rattle.std.proofs.Common.{◌≡◌, ℕ, true, false, List, [], ◌∷◌, None, refl}
use Rattle.std.specs.Prelude.{map}
use Rattle.heap_core.specs.Posed.{Posed}
use Rattle.dyn_core.specs.declared.prog.Act.{Act}
use Rattle.dyn_core.specs.declared.prog.Prog.{Prog}
use Rattle.dyn_core.specs.declared.prog.Prog.TheVariants as q
use Rattle.dyn_core.specs.declared.state.DynState.{DynState}
use Rattle.dyn_core.specs.States.{var_at}
use Rattle.dyn_core.specs.Actions.{acted}
use Rattle.dyn_plan.specs.declared.plan.Plan.{Plan, fold_out-Plan}
use Rattle.dyn_plan.specs.declared.plan.Plan.TheVariants as l
use Rattle.dyn_plan.specs.Plans.{Next, by_flag, while_true, next_step, next, go}
use Rattle.dyn_plan.specs.Programs.{either, repetition, program_step, program_of_step}

-- ## the following state

pub next_do : (p : Posed) (n : ℕ) (a : Act) (s : DynState) → next p n (l.Do a) s ≡ acted p a s
next_do p n a s = rw (fold_out-Plan Next (next_step p n) (l.Do a), l.outs-Do a) refl

pub next_fail : (p : Posed) (n : ℕ) (s : DynState) → next p n l.Fail s ≡ None
next_fail p n s = rw (fold_out-Plan Next (next_step p n) l.Fail, l.outs-Fail) refl

pub next_if : (p : Posed) (n x : ℕ) (taken other : List Plan) (s : DynState) → next p n (l.If x taken other) s ≡ by_flag (var_at s.vars x) (go p n taken s) (go p n other s)
next_if p n x taken other s = rw (fold_out-Plan Next (next_step p n) (l.If x taken other), l.outs-If x taken other) refl

pub next_while : (p : Posed) (n x : ℕ) (body : List Plan) (s : DynState) → next p n (l.While x body) s ≡ while_true n x (go p n body) s
next_while p n x body s = rw (fold_out-Plan Next (next_step p n) (l.While x body), l.outs-While x body) refl

-- all forms of the following state
pub ruleset next_forms = (next_do, next_fail, next_if, next_while)

-- ## the program

pub program_do : (a : Act) → program_of_step (l.Do a) ≡ q.Act a
program_do a = rw (fold_out-Plan Prog program_step (l.Do a), l.outs-Do a) refl

pub program_fail : program_of_step l.Fail ≡ q.Choice []
program_fail = rw (fold_out-Plan Prog program_step l.Fail, l.outs-Fail) refl

pub program_if : (x : ℕ) (taken other : List Plan) → program_of_step (l.If x taken other) ≡ either (q.Test x true ∷ map program_of_step taken) (q.Test x false ∷ map program_of_step other)
program_if x taken other = rw (fold_out-Plan Prog program_step (l.If x taken other), l.outs-If x taken other) refl

pub program_while : (x : ℕ) (body : List Plan) → program_of_step (l.While x body) ≡ repetition x (q.Test x true ∷ map program_of_step body)
program_while x body = rw (fold_out-Plan Prog program_step (l.While x body), l.outs-While x body) refl

-- all forms of the program
pub ruleset program_forms = (program_do, program_fail, program_if, program_while)
