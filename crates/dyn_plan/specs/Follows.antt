-- When a program follows a method: its runs are the executions that end within the scope. (This project's own.)
use Rattle.std.specs.Prelude.{◌≡◌, ℕ, Bool, true, false, length, slice_get, Option, Some, None}
use Rattle.taco_unit.specs.declared.unit.MethodDef.{MethodDef}
use Rattle.heap_core.specs.declared.value.Value.{Value}
use Rattle.heap_core.specs.declared.value.Value.TheVariants.{Null, Obj, Flag}
use Rattle.heap_core.specs.declared.start.Start.{Start}
use Rattle.heap_core.specs.Posed.{Posed}
use Rattle.heap_core.specs.Exec.{Ends, Gives, Throws, Leaves}
use Rattle.heap_core.specs.Judge.{run_of}
use Rattle.dyn_core.specs.declared.prog.Prog.{Prog}
use Rattle.dyn_core.specs.declared.state.DynState.{DynState}
use Rattle.dyn_core.specs.States.{var_at}
use Rattle.dyn_core.specs.Runs.{RunUpTo}
use Rattle.dyn_plan.specs.Whole.{Whole}

-- the same problem with n loops
abbrev pub with_loops : Posed → ℕ → Posed
with_loops p n = record p { scope = record p.scope { loops = n } }

-- an object as receiver exactly where the method is not static
abbrev pub HasReceiver : Bool → Value → Type 0
HasReceiver true this = this ≡ Null
HasReceiver false this = (o : ℕ) × (this ≡ Obj o)

-- a start with one argument for each parameter, and a receiver exactly where there is to be one
pub record Suits (d : MethodDef) (s : Start) : Type 0 where
  pub arguments : length s.args ≡ length d.params
  pub receiver : HasReceiver d.fixed s.this

-- a state with the start's objects, arguments and receiver, whatever else it holds
pub record StartsIn (d : MethodDef) (s : Start) (t : DynState) : Type 0 where
  pub objects : t.objects ≡ s.objects
  pub arguments : (i : ℕ) (v : Value) → slice_get s.args i ≡ Some v → var_at t.vars i ≡ v
  pub receiver : d.fixed ≡ false → var_at t.vars (length d.params) ≡ s.this

-- the variable has the value, where there is one
abbrev pub HasResult : ℕ → Option Value → DynState → Type 0
HasResult x (Some v) t = var_at t.vars x ≡ v
HasResult x None t = Unit {0}

-- a state that tells how an execution ended: its heap, whether it threw, and its result
abbrev pub EndsAs : Whole → Ends (Option Value) → DynState → Type 0
EndsAs w (Gives v m) t = (t.objects ≡ m.heap) × (var_at t.vars w.thrown ≡ Flag false) × HasResult w.result v t
EndsAs w (Throws m) t = (t.objects ≡ m.heap) × (var_at t.vars w.thrown ≡ Flag true)
EndsAs w Leaves t = ⊥

-- the execution ends within the scope
abbrev pub IsIn : Ends (Option Value) → Type 0
IsIn (Gives v m) = Unit {0}
IsIn (Throws m) = Unit {0}
IsIn Leaves = ⊥

-- the runs of a program from the states of a start, where each entry of an iteration takes at most n turns, are the
-- execution with n loops: each ends as it does, and there is one where it ends within the scope
pub record FollowsAt (p : Posed) (d : MethodDef) (w : Whole) (prog : Prog) (n : ℕ) : Type 0 where
  pub only : (s : Start) (t u : DynState) → Suits d s → StartsIn d s t → RunUpTo (with_loops p n) n prog t u → EndsAs w (run_of (with_loops p n) s) u
  pub some : (s : Start) (t : DynState) → Suits d s → StartsIn d s t → IsIn (run_of (with_loops p n) s) → (u : DynState) × RunUpTo (with_loops p n) n prog t u
