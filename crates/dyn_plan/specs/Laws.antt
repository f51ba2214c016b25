-- Laws of the definitions, which contracts of this crate name.
use Rattle.std.specs.Prelude.{◌≡◌, ℕ, ◌≤◌, Bool, true, List, Some}
use Rattle.std.specs.Option.{option_to_list}
use Rattle.taco_unit.specs.declared.unit.MethodDef.{MethodDef}
use Rattle.taco_unit.specs.Well.{IsWell}
use Rattle.heap_core.specs.declared.start.Start.{Start}
use Rattle.heap_core.specs.Posed.{Posed}
use Rattle.heap_core.specs.Start.{method_of, Fits}
use Rattle.heap_core.specs.Judge.{run_of}
use Rattle.dyn_core.specs.declared.state.DynState.{DynState}
use Rattle.dyn_core.specs.Runs.{ends}
use Rattle.dyn_plan.specs.declared.plan.Plan.{Plan}
use Rattle.dyn_plan.specs.Plans.{go}
use Rattle.dyn_plan.specs.Programs.{program}
use Rattle.dyn_plan.specs.Whole.{whole}
use Rattle.dyn_plan.specs.Follows.{FollowsAt}
use Rattle.dyn_plan.specs.Endings.{EndsWhole}

-- the last states of the program of some steps are the one to which the steps lead, where they lead to one
abbrev pub PlansRunAsPrograms : Type 0
PlansRunAsPrograms = (p : Posed) (n : ℕ) (steps : List Plan) (s : DynState) → ends p n (program steps) s ≡ option_to_list (go p n steps s)

-- the program of a method follows it under every bound on the turns of loops; where loop bodies are left out, it does so
-- where loops have no turn
abbrev pub PlansDoAsCode : Type 0
PlansDoAsCode =
    (p : Posed) (turnless : Bool) (d : MethodDef) (n : ℕ)
    → 2 ≤ p.scope.ints
    → method_of p ≡ Some d
    → (turnless ≡ true → n ≡ 0)
    → FollowsAt p d (whole p.unit turnless p.scope.calls d) (program (whole p.unit turnless p.scope.calls d).steps) n

-- an execution from a start that fits, over a well unit, ends with whole objects and with a result of its kind, or
-- leaves the scope
abbrev pub ExecutionsEndWhole : Type 0
ExecutionsEndWhole = (p : Posed) (d : MethodDef) (s : Start) → IsWell p.unit → method_of p ≡ Some d → Fits s p → EndsWhole p d s (run_of p s)
