-- Readings that show given states. (This project's own.)
use Rattle.std.specs.Prelude.{◌≡◌, ℕ, ◌≤◌, ◌==◌, nat_lt, ℤ, pos, ◌&&◌, if◌then◌else◌, length, slice_get, Some, IsTrue}
use Rattle.std.specs.List.{list_all}
use Rattle.std.specs.Option.{option_map_or}
use Rattle.taco_unit.specs.declared.kind.Kind.{Kind}
use Rattle.heap_core.specs.declared.value.Value.TheVariants.{Obj, Num}
use Rattle.heap_core.specs.declared.value.Seen.{Seen}
use Rattle.heap_core.specs.declared.value.Seen.TheVariants.{Is, Out}
use Rattle.heap_core.specs.declared.start.Start.{Start}
use Rattle.heap_core.specs.Posed.{Posed}
use Rattle.heap_core.specs.Outcomes.{flag, gives, is_true}
use Rattle.heap_core.specs.Heap.{class_at, field}
use Rattle.heap_core.specs.Start.{has_kind, is_whole}
use Rattle.rel_core.specs.declared.relation.What.{What}
use Rattle.rel_core.specs.declared.relation.What.TheVariants as what
use Rattle.rel_core.specs.Reading.{Reading, is_reference}
use Rattle.rel_core.specs.Uses.{Kinds, start_kinds}
use Rattle.rel_core.specs.Shown.{State, state_of}

-- a state within the scope of the problem: at most K objects, all whole, and each variable that has a kind has a
-- value of it
pub record IsState (p : Posed) (kinds : Kinds) (s : State) : Type 0 where
  pub few_objects : length s.heap ≤ p.scope.objects
  pub objects_whole : IsTrue (list_all (is_whole p.unit p.scope.ints s.heap) s.heap)
  pub values : (x : ℕ) (k : Kind) → kinds x ≡ Some k → IsTrue (has_kind p.scope.ints s.heap k (s.value x))

-- what a relation gives at a place of a state, where it has something there
abbrev pub seen_at : Posed → Kinds → State → What → ℕ → Seen
seen_at p kinds s what.Live o = flag (nat_lt o (length s.heap))
seen_at p kinds s what.ClassOf o = option_map_or (λ c. Is (Num (pos c))) (class_at s.heap o) Out
seen_at p kinds s (what.Field f) o = field p.unit.classes s.heap f (Obj o)
seen_at p kinds s (what.Slot x) o = if o == 0 then option_map_or (λ k. Is (s.value x)) (kinds x) Out else Out

-- the number that is given, and else 0
abbrev pub number_given : Seen → ℤ
number_given (Is (Num z)) = z
number_given _ = pos 0

-- the reading with this state at index 0, and nothing at any other
abbrev pub reading_of_state : Posed → Kinds → State → Reading
reading_of_state p kinds s = record {
  objects = p.scope.objects;
  ints = p.scope.ints;
  refs = λ r o v. r.index == 0 && is_reference p.scope.objects v && gives v (seen_at p kinds s r.what o);
  number = λ r o. if r.index == 0 then number_given (seen_at p kinds s r.what o) else pos 0;
  flag = λ r o. r.index == 0 && is_true (seen_at p kinds s r.what o);
}

-- the reading with this start at index 0
abbrev pub reading_of_start : Posed → Start → Reading
reading_of_start p s = reading_of_state p (slice_get (start_kinds p)) (state_of s)
