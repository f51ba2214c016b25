-- Methods that are inlined. (This project's own.)
use Rattle.std.specs.Prelude.{ℕ, zero, suc, ◌+◌, Bool, true, false, ◌&&◌, if◌then◌else◌, List, [], ◌∷◌, ◌++◌, slice_get, Option, Some, None, is_none}
use Rattle.taco_unit.specs.declared.kind.Kind.{Kind}
use Rattle.taco_unit.specs.declared.kind.Kind.TheVariants.{Int}
use Rattle.taco_unit.specs.declared.unit.MethodDef.{MethodDef}
use Rattle.taco_unit.specs.Well.{param_kinds, result_kind}
use Rattle.heap_core.specs.declared.value.Value.TheVariants as v
use Rattle.heap_core.specs.Outcomes.{zero_of}
use Rattle.dyn_core.specs.declared.prog.Act.TheVariants.{Copy, Const}
use Rattle.dyn_plan.specs.declared.plan.Plan.{Plan}
use Rattle.dyn_plan.specs.declared.plan.Plan.TheVariants as l
use Rattle.dyn_plan.specs.Places.{Ground, Spots, width, slot, in_rows, past_rows, for_each_argument}
use Rattle.dyn_plan.specs.Guards.{Lowered, guarded, nowhere}
use Rattle.dyn_plan.specs.Expressions.{Inline, kind_or, kind_of_result}
use Rattle.dyn_plan.specs.Statements.{Laid, lay, stops}

-- the kind of a method's result; that of numbers where it has none
abbrev pub result_of : MethodDef → Kind
result_of d = kind_or (result_kind d) Int

-- the kinds of the locals of a method that is called with these arguments
abbrev pub local_kinds : MethodDef → List ℕ → List Kind
local_kinds d args = for_each_argument (param_kinds d) args ++ d.locals

-- the frame whose locals have these kinds, in rows from b on: behind the locals stand the two flags and the result
abbrev pub frame_at : Ground → MethodDef → Option ℕ → List Kind → Bool → ℕ → ℕ → Spots
frame_at g d this kinds wanted b end = record {
  this = this;
  class = d.class;
  locals = in_rows g b kinds;
  kinds = kinds;
  done = end + 1;
  thrown = end + width g + 1;
  result = end + width g + width g + slot g (result_of d);
  gives = result_of d;
  wanted = wanted;
  base = end + width g + width g + width g;
}

abbrev pub frame_of : Ground → MethodDef → Option ℕ → List ℕ → Bool → ℕ → Spots
frame_of g d this args wanted b = frame_at g d this (local_kinds d args) wanted b (past_rows g b (local_kinds d args))

-- each argument goes to its local, and the other locals begin with 0, false or null
abbrev pub fill : List ℕ → List ℕ → List Kind → List Plan
fill (y ∷ ys) (x ∷ xs) (k ∷ ks) = l.Do (Copy y x) ∷ fill ys xs ks
fill (y ∷ ys) [] (k ∷ ks) = l.Do (Const y (zero_of k)) ∷ fill ys [] ks
fill _ _ _ = []

-- the beginning of a method
abbrev pub prologue : Spots → List ℕ → List Plan
prologue f args =
    fill f.locals args f.kinds
    ++ (l.Do (Const f.done (v.Flag false)) ∷ l.Do (Const f.thrown (v.Flag false)) ∷ l.Do (Const f.result (zero_of f.gives)) ∷ [])

-- the end of a method that goes to its end: without a result it gives no value, even where one is wanted
abbrev pub epilogue : MethodDef → Spots → Laid → List Plan
epilogue d f body = if f.wanted && is_none d.result then guarded f (stops body) (l.Fail ∷ []) else []

-- the caller throws where the method has thrown
abbrev pub passed_on : Spots → Spots → Bool → List Plan
passed_on caller f false = []
passed_on caller f true = l.Do (Copy caller.done f.thrown) ∷ l.Do (Copy caller.thrown f.thrown) ∷ []

-- the method in its frame
abbrev pub in_frame : MethodDef → List ℕ → Spots → Spots → Laid → Lowered
in_frame d args caller f body =
    record { place = f.result; steps = prologue f args ++ (body.steps ++ (epilogue d f body ++ passed_on caller f body.throws)); throws = body.throws }

-- a method whose calls are inlined so
abbrev pub inline_body : Ground → Inline → Option MethodDef → Option ℕ → List ℕ → Bool → Spots → ℕ → Lowered
inline_body g inline None this args wanted caller b = nowhere b
inline_body g inline (Some d) this args wanted caller b =
    in_frame d args caller (frame_of g d this args wanted b) (lay g inline d.body (frame_of g d this args wanted b))

-- calls that are inlined d deep; a deeper one has no following state, and would give its result where one of its kind
-- stands
abbrev pub inlined : Ground → ℕ → Inline
inlined g zero m this args wanted caller b = nowhere (b + slot g (kind_or (kind_of_result g m) Int))
inlined g (suc d) m this args wanted caller b = inline_body g (inlined g d) (slice_get g.unit.methods m) this args wanted caller b
