-- Two branches of a program and what joins them. (This project's own.)
use Rattle.std.specs.Prelude.{◌≡◌, ◌↔◌, ℕ, ◌<◌, Bool, List, length, map, get_or, slice_get, IsTrue}
use Rattle.taco_unit.specs.declared.kind.Kind.{Kind}
use Rattle.heap_core.specs.Posed.{Posed}
use Rattle.rel_core.specs.declared.formula.Formula.{Formula}
use Rattle.rel_core.specs.declared.relation.What.{What}
use Rattle.rel_core.specs.Reading.{Reading, numbers_below}
use Rattle.rel_core.specs.Meaning.{holds}
use Rattle.rel_core.specs.Uses.{IsOf, is_sorted}
use Rattle.dyn_steps.specs.declared.point.Point.{Point}
use Rattle.dyn_steps.specs.Agreeing.{IsAlike}
use Rattle.dyn_steps.specs.Joining.{joined}

-- the indices behind two branches, by those with which both began
abbrev pub all_joined : List ℕ → List ℕ → List ℕ → List ℕ
all_joined olds is js = map (λ x. joined (get_or olds x 0) (get_or is x 0) (get_or js x 0)) (numbers_below (length is))

abbrev pub joint_point : Point → Point → Point → Point
joint_point at a b = record {
  fields = all_joined at.fields a.fields b.fields;
  live = joined at.live a.live b.live;
  vars = all_joined at.vars a.vars b.vars;
}

-- where this is so, the formula says of a relation that it is the same at two indices, and else nothing
pub record SaysOne (p : Posed) (kinds : List Kind) (so : Bool) (w : What) (new old : ℕ) (f : Formula) : Type 0 where
  pub sorted : IsTrue (is_sorted p (slice_get kinds) f)
  pub meaning :
      (m : Reading)
      → IsOf p (slice_get kinds) m
      → IsTrue (holds f m) ↔ (IsTrue so → IsAlike m (record { what = w; index = old }) m (record { what = w; index = new }))

-- of each of these relations, below a number, where it is one of a set
pub record SaysSame (p : Posed) (kinds : List Kind) (w : ℕ → What) (inside : ℕ → Bool) (to from : List ℕ) (n : ℕ) (f : Formula) : Type 0 where
  pub sorted : IsTrue (is_sorted p (slice_get kinds) f)
  pub meaning :
      (m : Reading)
      → IsOf p (slice_get kinds) m
      → IsTrue (holds f m) ↔ ((x : ℕ) → x < n → IsTrue (inside x) → IsAlike m (record { what = w x; index = get_or from x 0 }) m (record { what = w x; index = get_or to x 0 }))

-- a point has an index for each field of the unit and each variable that has a kind, and the other as many
pub record IsOver (p : Posed) (kinds : List Kind) (at joint : Point) : Type 0 where
  pub fields : length at.fields ≡ length p.unit.fields
  pub vars : length at.vars ≡ length kinds
  pub joint_fields : length joint.fields ≡ length at.fields
  pub joint_vars : length joint.vars ≡ length at.vars
