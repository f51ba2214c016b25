-- The states with which the runs of a start begin. (This project's own.)
use Rattle.std.specs.Prelude.{◌≡◌, ◌↔◌, ℕ, ◌+◌, ◌≤◌, List, ◌∷◌, ◌++◌, length, map, drop, if◌then◌else◌, slice_get, Some, IsTrue}
use Rattle.taco_unit.specs.declared.kind.Kind.{Kind}
use Rattle.taco_unit.specs.declared.kind.Kind.TheVariants as kind
use Rattle.taco_unit.specs.declared.unit.MethodDef.{MethodDef}
use Rattle.taco_unit.specs.Well.{param_kinds}
use Rattle.heap_core.specs.declared.start.Start.{Start}
use Rattle.heap_core.specs.Posed.{Posed}
use Rattle.heap_core.specs.Outcomes.{zero_of}
use Rattle.heap_core.specs.Start.{Fits, method_of}
use Rattle.rel_core.specs.declared.formula.Formula.{Formula}
use Rattle.rel_core.specs.declared.indices.Indices.{Indices}
use Rattle.rel_core.specs.Reading.{Reading}
use Rattle.rel_core.specs.Meaning.{holds}
use Rattle.rel_core.specs.Uses.{IsOf, is_sorted}
use Rattle.rel_core.specs.Shown.{IsFirst, ShowsValue, ShowsStart}
use Rattle.dyn_core.specs.declared.state.DynState.{DynState}
use Rattle.dyn_core.specs.Kinds.{HasKinds}
use Rattle.dyn_steps.specs.Points.{slot}
use Rattle.dyn_rel.specs.Formulas.{ShowsAt}

-- ## the variables behind those of a start

-- each variable that has a kind, from this number on, is 0, false or null at index 0
abbrev pub IsRestZero : List Kind → ℕ → Reading → Type 0
IsRestZero kinds from m = (x : ℕ) (k : Kind) → from ≤ x → slice_get kinds x ≡ Some k → ShowsValue m k (slot x 0) 0 (zero_of k)

-- the formula says so
pub record SaysRestZero (p : Posed) (kinds : List Kind) (from : ℕ) (f : Formula) : Type 0 where
  pub sorted : IsTrue (is_sorted p (slice_get kinds) f)
  pub meaning : (m : Reading) → IsOf p (slice_get kinds) m → IsTrue (holds f m) ↔ IsRestZero kinds from m

-- ## the law of starts

-- the kinds begin with those of a method's parameters, and then its class
abbrev pub BeginWith : MethodDef → List Kind → Type 0
BeginWith d kinds = (rest : List Kind) × (kinds ≡ param_kinds d ++ kind.Ref d.class ∷ rest)

-- how many variables a start gives: one for each parameter, and the receiver where the method is not static
abbrev pub given : MethodDef → ℕ
given d = if d.fixed then length d.params else length d.params + 1

-- the state of a start: its objects, its arguments, its receiver, and zeros behind them
abbrev pub first_state : List Kind → Start → DynState
first_state kinds s = record { vars = s.args ++ s.this ∷ map zero_of (drop (length s.args + 1) kinds); objects = s.objects }

-- the state of a start has the kinds, and a reading that shows the start, and zeros behind it, is one that shows the
-- state
pub record IsStateOf (p : Posed) (kinds : List Kind) (d : MethodDef) (s : Start) : Type 0 where
  pub kinded : HasKinds p kinds (first_state kinds s)
  pub shown :
      (m : Reading) (at first : Indices) (f : Formula)
      → IsOf p (slice_get kinds) m
      → IsFirst at
      → IsFirst first
      → SaysRestZero p kinds (given d) f
      → (ShowsStart p m at s × IsTrue (holds f m)) ↔ ShowsAt p kinds m first (first_state kinds s)

-- so it is of each start that fits
abbrev pub StartsAreStates : Type 0
StartsAreStates = (p : Posed) (kinds : List Kind) (d : MethodDef) (s : Start) → method_of p ≡ Some d → BeginWith d kinds → Fits s p → IsStateOf p kinds d s
