-- What path formulas say, as callers see it. (The TACO article's translation of programs; that the first state is
-- shown at index 0 is this project's own.)
use Rattle.std.specs.Prelude.{◌≡◌, ℕ, List, length, map, replicate, slice_get, IsTrue}
use Rattle.taco_unit.specs.declared.kind.Kind.{Kind}
use Rattle.heap_core.specs.Posed.{Posed}
use Rattle.rel_core.specs.declared.indices.Indices.{Indices}
use Rattle.rel_core.specs.Reading.{Reading, numbers_below}
use Rattle.rel_core.specs.Meaning.{holds}
use Rattle.rel_core.specs.Uses.{IsOf, is_sorted}
use Rattle.rel_core.specs.Shown.{IsFirst, ShowsState}
use Rattle.dyn_core.specs.declared.prog.Prog.{Prog}
use Rattle.dyn_core.specs.declared.state.DynState.{DynState}
use Rattle.dyn_core.specs.Runs.{Run}
use Rattle.dyn_core.specs.Kinds.{HasKinds}
use Rattle.dyn_steps.specs.declared.point.Point.{Point}
use Rattle.dyn_steps.specs.Paths.{state_in}
use Rattle.dyn_rel.specs.declared.paths.Path.{Path}

-- index 0 for each of so many fields and variables
abbrev pub first_point : ℕ → ℕ → Point
first_point fields vars = record { fields = replicate fields 0; live = 0; vars = replicate vars 0 }

-- a reading shows a state at these indices: its heap, and the value of each variable that has a kind
abbrev pub ShowsAt : Posed → List Kind → Reading → Indices → DynState → Type 0
ShowsAt p kinds m at s = ShowsState p.unit (slice_get kinds) m at (state_in s)

-- an index for each field of the unit, and one for each variable that has a kind, in order
pub record IsIndexed (p : Posed) (kinds : List Kind) (at : Indices) : Type 0 where
  pub fields : length at.heap ≡ length p.unit.fields
  pub slots : map (λ s. s.0) at.slots ≡ numbers_below (length kinds)
  -- none of its own is named for the result
  pub result : at.result ≡ 0

-- a reading of the problem that shows both states, and under which the formula holds
pub record ShowsRun (p : Posed) (kinds : List Kind) (path : Path) (s t : DynState) : Type 0 where
  pub reading : Reading
  pub of_problem : IsOf p (slice_get kinds) reading
  pub first : ShowsAt p kinds reading path.first s
  pub last : ShowsAt p kinds reading path.last t
  pub holds : IsTrue (holds path.formula reading)

-- the readings of the problem under which the formula holds are, at first and last, the runs of the program
pub record IsPathFormula (p : Posed) (kinds : List Kind) (prog : Prog) (path : Path) : Type 0 where
  pub first : IsFirst path.first
  pub first_indexed : IsIndexed p kinds path.first
  pub last_indexed : IsIndexed p kinds path.last
  pub sorted : IsTrue (is_sorted p (slice_get kinds) path.formula)
  -- where the formula holds, and a state that has the kinds is shown at first, a run leads from it to one that is
  -- shown at last
  pub sound :
      (m : Reading) (s : DynState)
      → IsOf p (slice_get kinds) m
      → IsTrue (holds path.formula m)
      → HasKinds p kinds s
      → ShowsAt p kinds m path.first s
      → (t : DynState) × Run p prog s t × ShowsAt p kinds m path.last t
  -- each run from a state that has the kinds is shown by some reading
  pub full : (s t : DynState) → HasKinds p kinds s → Run p prog s t → ShowsRun p kinds path s t
