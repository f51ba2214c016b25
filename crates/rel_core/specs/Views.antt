-- What the truth of a formula is found from: a valuation within a scope, and what is kept of a set. (This
-- project's own.)
use Rattle.std.specs.Prelude.{◌≡◌, ℕ, ◌<◌, Bool, false, List, slice_index_or}
use Rattle.heap_core.specs.declared.value.Value.TheVariants.{Null, Obj}
use Rattle.rel_core.specs.declared.holds.view.View.{View}
use Rattle.rel_core.specs.declared.holds.members.Members.{Members}
use Rattle.rel_core.specs.Reading.{Reading, reading_of}
use Rattle.rel_core.specs.Meaning.{ValueSet, has_object}

-- what is seen
abbrev pub read : View → Reading
read v = reading_of v.objects v.ints v.pairs.now

-- the object of this number is marked
abbrev pub is_marked : List Bool → ℕ → Bool
is_marked marks o = slice_index_or marks o false

-- the set of what is kept
abbrev pub kept_set : Members → ValueSet
kept_set found Null = found.null
kept_set found (Obj o) = is_marked found.objects o
kept_set found _ = false

-- of a set: whether null is in it, and which objects of those that are looked at
pub record AreMembers (m : Reading) (s : ValueSet) (found : Members) : Type 0 where
  pub null : found.null ≡ s Null
  pub objects : (o : ℕ) → o < m.objects → is_marked found.objects o ≡ has_object s o
