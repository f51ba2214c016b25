-- The indices of all relations at one point of a run. (This project's own.)
use Rattle.std.specs.Prelude.{◌≡◌, ℕ, suc, ◌<◌, List, [], ◌∷◌, length, get_or, slice_set}
use Rattle.taco_unit.specs.declared.kind.Kind.{Kind}
use Rattle.heap_core.specs.Posed.{Posed}
use Rattle.rel_core.specs.declared.relation.RelVar.{RelVar}
use Rattle.rel_core.specs.declared.relation.What.{What}
use Rattle.rel_core.specs.declared.relation.What.TheVariants as what
use Rattle.rel_core.specs.declared.indices.Indices.{Indices}
use Rattle.dyn_steps.specs.declared.point.Point.{Point}

-- the index of what a relation is of; 0 for a field or a variable that has none
abbrev pub index_of : Point → What → ℕ
index_of at what.Live = at.live
index_of at what.ClassOf = at.live
index_of at (what.Field f) = get_or at.fields f 0
index_of at (what.Slot x) = get_or at.vars x 0

abbrev pub relation_at : Point → What → RelVar
relation_at at w = record { what = w; index = index_of at w }

-- the variables from this one on, with their indices
abbrev pub numbered : ℕ → List ℕ → List (ℕ × ℕ)
numbered x [] = []
numbered x (i ∷ indices) = (x, i) ∷ numbered (suc x) indices

-- the same, as readings are asked for states; the result is variable 0, and so none of its own
abbrev pub indices_of : Point → Indices
indices_of at = record { heap = at.fields; live = at.live; slots = numbered 0 at.vars; result = 0 }

-- with another index for a variable, for a field
abbrev pub var_moved : Point → ℕ → ℕ → Point
var_moved at x i = record at { vars = slice_set at.vars x i }

abbrev pub field_moved : Point → ℕ → ℕ → Point
field_moved at f i = record at { fields = slice_set at.fields f i }

-- an index for each field of the unit and each variable that has a kind, all of them below n
pub record IsPoint (p : Posed) (kinds : List Kind) (n : ℕ) (at : Point) : Type 0 where
  pub fields : length at.fields ≡ length p.unit.fields
  pub vars : length at.vars ≡ length kinds
  pub below : (w : What) → index_of at w < n

-- the relation of a variable at an index
abbrev pub slot : ℕ → ℕ → RelVar
slot x i = record { what = what.Slot x; index = i }

-- the relation of a field at an index
abbrev pub field_at : ℕ → ℕ → RelVar
field_at f i = record { what = what.Field f; index = i }

-- with another index for each of these fields
abbrev pub fields_moved : Point → List ℕ → ℕ → Point
fields_moved at [] i = at
fields_moved at (f ∷ fs) i = fields_moved (field_moved at f i) fs i

-- with another index for what a new object of a class changes, and for a variable
abbrev pub made_point : Point → ℕ → List ℕ → ℕ → Point
made_point at x fs n = var_moved (record (fields_moved at fs n) { live = n }) x n
