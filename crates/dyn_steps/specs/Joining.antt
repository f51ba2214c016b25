-- Two branches of a program, and what joins them: each relation has an index of one of them, and no new one.
-- (This project's own.)
use Rattle.std.specs.Prelude.{◌≡◌, ◌⊎◌, ℕ, ◌==◌, true, ◌&&◌, ◌||◌, if◌then◌else◌, List, slice_get}
use Rattle.taco_unit.specs.declared.kind.Kind.{Kind}
use Rattle.heap_core.specs.Posed.{Posed}
use Rattle.rel_core.specs.declared.formula.Formula.{Formula}
use Rattle.rel_core.specs.declared.relation.What.{What}
use Rattle.rel_core.specs.Reading.{Reading}
use Rattle.rel_core.specs.Meaning.{holds}
use Rattle.rel_core.specs.Uses.{IsOf, is_sorted}
use Rattle.dyn_steps.specs.declared.point.Point.{Point}
use Rattle.dyn_steps.specs.declared.part.Part.{Part}
use Rattle.dyn_steps.specs.Points.{index_of, relation_at, IsPoint}
use Rattle.dyn_steps.specs.Agreeing.{IsAlike}
use Rattle.dyn_steps.specs.Looked.{Vars, IsLooked}
use Rattle.dyn_steps.specs.Paths.{Relation}

-- the index behind two branches, by the one with which both began: the second's where that branch gave another one,
-- else the first's
abbrev pub joined : ℕ → ℕ → ℕ → ℕ
joined old first second = if second == old then first else second

-- so is each index
abbrev pub Joins : Point → Point → Point → Point → Type 0
Joins at a b joint = (w : What) → index_of joint w ≡ joined (index_of at w) (index_of a w) (index_of b w)

-- a formula that says of each relation that is looked at that it is the same at both points
pub record Equates (p : Posed) (kinds : List Kind) (vars : Vars) (at joint : Point) (f : Formula) : Type 0 where
  pub sorted : is_sorted p (slice_get kinds) f ≡ true
  pub alike : (m : Reading) → IsOf p (slice_get kinds) m → holds f m ≡ true → (w : What) → IsLooked vars w → IsAlike m (relation_at at w) m (relation_at joint w)
  pub holds : (m : Reading) → IsOf p (slice_get kinds) m → ((w : What) → IsAlike m (relation_at at w) m (relation_at joint w)) → holds f m ≡ true

-- the two relations together
abbrev pub Either : Relation → Relation → Relation
Either R S s t = R s t ⊎ S s t

-- two branches and what joins them: both begin at the same indices, the second with the first one's next index
pub record AreJoined (p : Posed) (kinds : List Kind) (after : Vars) (at : Point) (a b joint : Part) : Type 0 where
  pub first_equal : Formula
  pub second_equal : Formula
  pub next : joint.end.next ≡ b.end.next
  pub point : IsPoint p kinds b.end.next joint.end.at
  pub joins : Joins at a.end.at b.end.at joint.end.at
  pub first_equates : Equates p kinds after a.end.at joint.end.at first_equal
  pub second_equates : Equates p kinds after b.end.at joint.end.at second_equal
  pub meaning : (m : Reading) → holds joint.formula m ≡ ((holds a.formula m && holds first_equal m) || (holds b.formula m && holds second_equal m))
  pub sorted : is_sorted p (slice_get kinds) a.formula ≡ true → is_sorted p (slice_get kinds) b.formula ≡ true → is_sorted p (slice_get kinds) joint.formula ≡ true
