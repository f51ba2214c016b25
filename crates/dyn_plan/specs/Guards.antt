-- The parts of which lowered code is made: guards, throws, tests for null. (This project's own.)
use Rattle.std.specs.Prelude.{ℕ, ◌+◌, nat_lt, Bool, true, false, if◌then◌else◌, List, [], ◌∷◌, ◌++◌, length}
use Rattle.taco_unit.specs.declared.kind.Kind.{Kind}
use Rattle.taco_unit.specs.declared.kind.Kind.TheVariants.{Ref}
use Rattle.heap_core.specs.declared.value.Value.TheVariants as v
use Rattle.dyn_core.specs.declared.prog.Act.{Act}
use Rattle.dyn_core.specs.declared.prog.Act.TheVariants.{Const, Same}
use Rattle.dyn_plan.specs.declared.plan.Plan.{Plan}
use Rattle.dyn_plan.specs.declared.plan.Plan.TheVariants as l
use Rattle.dyn_plan.specs.Places.{Ground, Spots, is_receiver}

-- a lowered expression: the variable where its value stands in the end, and whether it can throw
pub record Lowered : Type 0 where
  pub place : ℕ
  pub steps : List Plan
  pub throws : Bool

-- steps that are left out where the frame is done, which it can be only where that is said
abbrev pub guarded : Spots → Bool → List Plan → List Plan
guarded f false steps = steps
guarded f true [] = []
guarded f true (x ∷ steps) = l.If f.done [] (x ∷ steps) ∷ []

-- the frame is done
abbrev pub set_done : Spots → List Plan
set_done f = l.Do (Const f.done (v.Flag true)) ∷ []

-- the frame throws
abbrev pub throw : Spots → List Plan
throw f = l.Do (Const f.done (v.Flag true)) ∷ l.Do (Const f.thrown (v.Flag true)) ∷ []

-- no following state
abbrev pub nowhere : ℕ → Lowered
nowhere b = record { place = b; steps = l.Fail ∷ []; throws = false }

-- one action that gives a value at x
abbrev pub at_once : ℕ → Act → Lowered
at_once x a = record { place = x; steps = l.Do a ∷ []; throws = false }

-- a value that stands there already
abbrev pub in_place : ℕ → Lowered
in_place x = record { place = x; steps = []; throws = false }

-- null where this kind is wanted: it stands in the first row, where that has one of the kind
abbrev pub null_at : Ground → ℕ → Kind → Lowered
null_at g b (Ref c) = if nat_lt c (length g.unit.classes) then in_place (g.first + (2 + c)) else at_once b (Const b v.Null)
null_at g b k = at_once b (Const b v.Null)

-- throws where the value at x, of this class, is null, and else goes on
abbrev pub null_test : Ground → Spots → ℕ → ℕ → ℕ → List Plan → List Plan
null_test g f b class x steps =
    (null_at g b (Ref class)).steps ++ (l.Do (Same (b + 1) x (null_at g b (Ref class)).place) ∷ l.If (b + 1) (throw f) steps ∷ [])

-- the same, where the receiver is not tested, since it is an object
abbrev pub through : Ground → Spots → ℕ → ℕ → ℕ → List Plan → List Plan
through g f b class x steps = if is_receiver f x then steps else null_test g f b class x steps
