-- Path formulas: when a formula, with the indices at which it begins and ends, is one of a relation on states.
-- (The TACO article's translation of programs, with states as indexed variables; that existence is said of every
-- reading that agrees below the next index is this project's own.)
use Rattle.std.specs.Prelude.{◌≡◌, ◌⊎◌, ◌↔◌, ℕ, ◌+◌, ◌≤◌, Bool, List, slice_get, Some, IsTrue}
use Rattle.taco_unit.specs.declared.kind.Kind.{Kind}
use Rattle.taco_unit.specs.declared.kind.Kind.TheVariants as kind
use Rattle.heap_core.specs.declared.value.Value.TheVariants.{Flag}
use Rattle.heap_core.specs.Outcomes.{zero_of}
use Rattle.heap_core.specs.Posed.{Posed}
use Rattle.rel_core.specs.declared.formula.Formula.{Formula}
use Rattle.rel_core.specs.declared.relation.What.{What}
use Rattle.rel_core.specs.Reading.{Reading}
use Rattle.rel_core.specs.Meaning.{holds}
use Rattle.rel_core.specs.Uses.{IsOf, is_sorted}
use Rattle.rel_core.specs.Shown.{State, ShowsValue, ShowsState}
use Rattle.dyn_core.specs.declared.prog.Act.{Act}
use Rattle.dyn_core.specs.declared.state.DynState.{DynState}
use Rattle.dyn_core.specs.States.{var_at}
use Rattle.dyn_core.specs.Actions.{acted}
use Rattle.dyn_core.specs.Kinds.{is_var, is_kinded_act, HasKinds}
use Rattle.dyn_steps.specs.declared.point.Point.{Point}
use Rattle.dyn_steps.specs.declared.part.Front.{Front}
use Rattle.dyn_steps.specs.declared.part.Part.{Part}
use Rattle.dyn_steps.specs.Points.{index_of, indices_of, slot, var_moved, field_moved, made_point, IsPoint}
use Rattle.dyn_steps.specs.Agreeing.{IsAlike, Agree}
use Rattle.dyn_steps.specs.Looked.{Vars, with_one, kinds_in, looked_at}

-- a state of a program, as readings show it
abbrev pub state_in : DynState → State
state_in s = record { heap = s.objects; value = var_at s.vars }

-- the reading shows at these indices the heap, and the values of these variables
abbrev pub Shows : Posed → List Kind → Vars → Reading → Point → DynState → Type 0
Shows p kinds vars m at s = ShowsState p.unit (kinds_in kinds vars) m (indices_of at) (state_in s)

-- from which states to which
abbrev pub Relation : Type 1
Relation = DynState → DynState → Type 0

-- the relation of an action, of a test
abbrev pub Acts : Posed → Act → Relation
Acts p act s t = acted p act s ≡ Some t

abbrev pub Passes : ℕ → Bool → Relation
Passes x b s t = (var_at s.vars x ≡ Flag b) × (s ≡ t)

-- some reading goes on from one: it agrees with that below n and shows the last state, and every reading that agrees
-- with it below the next index makes the formula true
pub record GoesOn (p : Posed) (kinds : List Kind) (vars : Vars) (m : Reading) (n : ℕ) (part : Part) (t : DynState) : Type 0 where
  pub reading : Reading
  pub of_problem : IsOf p (slice_get kinds) reading
  pub agrees : Agree n m reading
  pub shown : Shows p kinds vars reading part.end.at t
  pub holds : (u : Reading) → IsOf p (slice_get kinds) u → Agree part.end.next reading u → IsTrue (holds part.formula u)

-- the part is one of the relation, begun at these indices and next index, where `before` are the variables that are
-- looked at from its beginning on, and `after` those that are looked at from its end on
pub record IsPath (p : Posed) (kinds : List Kind) (before after : Vars) (R : Relation) (from : Front) (part : Part) : Type 0 where
  -- no index is given back
  pub up : from.next ≤ part.end.next
  pub point : IsPoint p kinds part.end.next part.end.at
  -- each relation keeps its index, or has a new one
  pub indices : (w : What) → (index_of part.end.at w ≡ index_of from.at w) ⊎ (from.next ≤ index_of part.end.at w)
  pub sorted : IsTrue (is_sorted p (slice_get kinds) part.formula)
  -- where the formula holds, a state that is shown at the beginning is related to one that is shown at the end
  pub sound :
      (m : Reading) (s : DynState)
      → IsOf p (slice_get kinds) m
      → IsTrue (holds part.formula m)
      → HasKinds p kinds s
      → Shows p kinds before m from.at s
      → (t : DynState) × R s t × Shows p kinds after m part.end.at t
  -- a state that is shown at the beginning and a related one are shown by some reading that goes on
  pub full :
      (m : Reading) (s t : DynState)
      → IsOf p (slice_get kinds) m
      → HasKinds p kinds s
      → Shows p kinds before m from.at s
      → R s t
      → GoesOn p kinds after m from.next part t

-- the part of one action: whatever is looked at after it
abbrev pub IsStep : Posed → List Kind → Act → Front → Part → Type 0
IsStep p kinds act from part =
    IsTrue (is_kinded_act p kinds act)
    → IsPoint p kinds from.next from.at
    → (after : Vars)
    → IsPath p kinds (looked_at act after) after (Acts p act) from part

-- a part that gives a variable the next index
abbrev pub var_set : Front → ℕ → Formula → Part
var_set from x f = record { formula = f; end = record { at = var_moved from.at x from.next; next = from.next + 1 } }

-- a part that gives a field the next index
abbrev pub field_set : Front → ℕ → Formula → Part
field_set from g f = record { formula = f; end = record { at = field_moved from.at g from.next; next = from.next + 1 } }

-- the part of a test, whatever is looked at after it: it stays where it is
abbrev pub IsTest : Posed → List Kind → ℕ → Bool → Front → Part → Type 0
IsTest p kinds x b from part =
    IsTrue (is_var kinds x kind.Flag)
    → IsPoint p kinds from.next from.at
    → (after : Vars)
    → IsPath p kinds (with_one x after) after (Passes x b) from part

-- the formula says that one relation is the same at two indices
pub record IsSameness (p : Posed) (kinds : List Kind) (w : What) (new old : ℕ) (f : Formula) : Type 0 where
  pub sorted : IsTrue (is_sorted p (slice_get kinds) f)
  pub meaning :
      (m : Reading)
      → IsOf p (slice_get kinds) m
      → IsTrue (holds f m) ↔ IsAlike m (record { what = w; index = old }) m (record { what = w; index = new })

-- the formula says that a variable of this kind is 0, false or null at an index
pub record HasZero (p : Posed) (kinds : List Kind) (k : Kind) (x i : ℕ) (f : Formula) : Type 0 where
  pub sorted : IsTrue (is_sorted p (slice_get kinds) f)
  pub meaning : (m : Reading) → IsOf p (slice_get kinds) m → IsTrue (holds f m) ↔ ShowsValue m k (slot x i) 0 (zero_of k)

-- the part of a new object: its relations have the next index, and the values with which they begin the one behind it
abbrev pub made_set : Front → ℕ → List ℕ → Formula → Part
made_set from x fs f = record { formula = f; end = record { at = made_point from.at x fs from.next; next = from.next + 1 + 1 } }
