-- What a plan does: it leads to one state at most. (This project's own.)
use Rattle.std.specs.Prelude.{ℕ, zero, suc, true, false, List, [], ◌∷◌, map, Option, Some, None, option_and_then}
use Rattle.heap_core.specs.declared.value.Value.{Value}
use Rattle.heap_core.specs.declared.value.Value.TheVariants.{Flag}
use Rattle.heap_core.specs.Posed.{Posed}
use Rattle.dyn_core.specs.declared.state.DynState.{DynState}
use Rattle.dyn_core.specs.States.{var_at}
use Rattle.dyn_core.specs.Actions.{acted}
use Rattle.dyn_plan.specs.declared.plan.Plan.{Plan, fold-Plan}
use Rattle.dyn_plan.specs.declared.plan.Plan.TheOpen.{Plan-F}

-- the state to which something leads, where it leads to one
abbrev pub Next : Type 0
Next = DynState → Option DynState

-- all steps in order
abbrev pub in_line : List Next → Next
in_line [] s = Some s
in_line (e ∷ es) s = option_and_then (in_line es) (e s)

-- the first where the value is true, the second where it is false
abbrev pub by_flag : Value → Option DynState → Option DynState → Option DynState
by_flag (Flag true) taken other = taken
by_flag (Flag false) taken other = other
by_flag _ taken other = None

-- on while the flag is true, for at most n turns: where it is true after them there is no following state
abbrev pub while_true : ℕ → ℕ → Next → Next
while_true zero x e s = by_flag (var_at s.vars x) None (Some s)
while_true (suc n) x e s = by_flag (var_at s.vars x) (option_and_then (while_true n x e) (e s)) (Some s)

-- by cases on the step's form
abbrev pub next_step : Posed → ℕ → Plan-F Next → Next
next_step p n (Plan-F.Do a) s = acted p a s
next_step p n Plan-F.Fail s = None
next_step p n (Plan-F.If x taken other) s = by_flag (var_at s.vars x) (in_line taken s) (in_line other s)
next_step p n (Plan-F.While x body) s = while_true n x (in_line body) s

-- the state to which a step leads, where each entry of a loop takes at most n turns
abbrev pub next : Posed → ℕ → Plan → Next
next p n = fold-Plan Next (next_step p n)

-- the same for steps in order
abbrev pub go : Posed → ℕ → List Plan → Next
go p n steps = in_line (map (next p n) steps)
