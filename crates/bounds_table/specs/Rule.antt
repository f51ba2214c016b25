-- The rule of the words that threads share: they and the views of all passes show a state of the table, and it is
-- sound. (This project's own.)
use Rattle.std.specs.Prelude.{◌≡◌, ℕ, ◌*◌, ◌^◌, ◌<◌, ◌≤◌, ◌++◌, List, take, drop, map, Option, Some, None, option_map, ◌==◌, if◌then◌else◌}
use Rattle.atomic_table.specs.Table.{State as Shared}
use Rattle.atomic_table.specs.Seated.{TableId}
use Rattle.heap_core.specs.Posed.{Posed}
use Rattle.tuple_sets.specs.Words.{has, all_below, none_of}
use Rattle.tuple_sets.specs.Numbered.{word_count}
use Rattle.bounds_table.specs.declared.known.Known.{Known}
use Rattle.bounds_table.specs.declared.rule.View.{View}
use Rattle.bounds_table.specs.State.{State, IsSound, blank}
use Rattle.bounds_table.specs.Core.{tuple_count, first, without_claims, joined}

-- the worker that a pass is; a pass that was taken in is none any more
abbrev pub worker_of : View → Option Known
worker_of v = option_map (λ p. v.known) v.problem

-- the words are the table words, then the kept words, then eight times as many claim words; the passes are the
-- workers, in the order in which they were made
abbrev pub shown : Posed → List ℕ → List View → State
shown p words views = record {
  problem = p;
  table = take (word_count p) words;
  kept = take (word_count p) (drop (word_count p) words);
  claimed = take (8 * word_count p) (drop (2 * word_count p) words);
  workers = map worker_of views;
}

-- the rule
abbrev pub Stands : Posed → Shared (Unit {0}) View → Type 0
Stands p s = IsSound (shown p s.words s.views)

-- the first pass, a pass that another makes, a pass that has taken another in, and what is left of that one
abbrev pub first_view : Posed → View
first_view p = record { problem = Some p; known = first p }

abbrev pub newcomer : View → View
newcomer v = record { problem = v.problem; known = without_claims v.known }

abbrev pub both_views : View → View → View
both_views v w = record { problem = v.problem; known = joined v.known w.known }

abbrev pub spent : View
spent = record { problem = None; known = blank }

-- what contracts see of a table and of a pass
pub record TableOf : Type 0 where
  pub table : TableId
  pub problem : Posed

pub record PassOf : Type 0 where
  pub table : TableId
  pub problem : Option Posed
  pub known : Known

-- the pass is of this table
pub record IsOf (t : TableOf) (p : PassOf) : Type 0 where
  pub same_table : p.table ≡ t.table
  pub same_problem : p.problem ≡ Some t.problem

-- the pass gained the claim of this pair
pub record IsGained (c : ℕ) (old new : Known) : Type 0 where
  pub before : has old.claims c ≡ 0
  pub now : has new.claims c ≡ 1

-- how many words there are behind those of the table: one that is not used, where there are no tuples
abbrev pub spare : ℕ → ℕ
spare words = if words == 0 then 1 else 9 * words

-- the words at first: all tuples are in the table, none is kept, and none is claimed in any round
abbrev pub opening_words : Posed → List ℕ
opening_words p = all_below (tuple_count p) ++ none_of (spare (word_count p))

-- how a table is laid out: as many words as its tuples have, ten times over, and at least one
pub record IsLaidOut (p : Posed) (count n : ℕ) (t : TableId) : Type 0 where
  pub tuples : count ≡ tuple_count p
  pub words : n ≡ word_count p
  pub few : n < 2 ^ 32
  pub room : 10 * n ≤ t.words
  pub some : 0 < t.words
  pub no_slots : t.slots ≡ 0
