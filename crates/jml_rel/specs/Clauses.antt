-- What the formulas of clauses, of good heaps and of heaps inside the scopes mean. (This project's own.)
use Rattle.std.specs.Prelude.{◌≡◌, ℕ, ◌<◌, [], not, if◌then◌else◌, length, Option, IsTrue}
use Rattle.std.specs.List.{list_any}
use Rattle.std.specs.Option.{option_map_or}
use Rattle.taco_unit.specs.Well.{IsWell}
use Rattle.heap_core.specs.declared.start.Start.{Start}
use Rattle.heap_core.specs.declared.value.Seen.{Seen}
use Rattle.heap_core.specs.declared.value.Value.{Value}
use Rattle.heap_core.specs.Outcomes.{is_bad, is_out, is_true}
use Rattle.heap_core.specs.Posed.{Posed, InRange}
use Rattle.heap_core.specs.Heap.{Heap}
use Rattle.heap_core.specs.Start.{Fits, method_of}
use Rattle.heap_core.specs.Judge.{all_invariants, entry_env, exit_env, invariant_env, is_good}
use Rattle.rel_core.specs.declared.formula.Formula.{Formula}
use Rattle.rel_core.specs.declared.sets.RelExpr.{RelExpr}
use Rattle.rel_core.specs.declared.sets.RelExpr.TheVariants as set
use Rattle.rel_core.specs.declared.indices.Indices.{Indices}
use Rattle.rel_core.specs.Reading.{Reading}
use Rattle.rel_core.specs.Meaning.{holds}
use Rattle.rel_core.specs.Uses.{Kinds, GivesStart, is_sorted}
use Rattle.rel_core.specs.Shown.{ShowsHeap, ShowsStart, slot_relation}
use Rattle.jml_rel.specs.declared.clauses.Three.{Three}
use Rattle.jml_rel.specs.Places.{Point, Shows, ShowsVariable, Sorts, SortsVariable, has_slot, result_of}

-- where the clause is true, where it is not Bad, and where it is not Out
pub record ThreeTell (s : Seen) (t : Three) (m : Reading) : Type 0 where
  pub truth : holds t.truth m ≡ is_true s
  pub defined : holds t.defined m ≡ not (is_bad s)
  pub inside : holds t.inside m ≡ not (is_out s)

pub record AreSorted (p : Posed) (kinds : Kinds) (t : Three) : Type 0 where
  pub truth : IsTrue (is_sorted p kinds t.truth)
  pub defined : IsTrue (is_sorted p kinds t.defined)
  pub inside : IsTrue (is_sorted p kinds t.inside)

-- a clause with the present heap and the result at `at`, and the pre-state and the parameters at `old`
abbrev pub clause_point : Posed → Indices → Indices → RelExpr → Point
clause_point p at old this = record { problem = p; heap = at; before = old; result = result_of p at; this = this; bound = [] }

-- the indices of heaps alone
abbrev pub heap_alone : Indices → Indices
heap_alone at = record at { slots = []; result = 0 }

-- the reading has the problem's scopes, and shows the heap
pub record ShowsPosedHeap (p : Posed) (m : Reading) (at : Indices) (heap : Heap) : Type 0 where
  pub objects : m.objects ≡ p.scope.objects
  pub ints : m.ints ≡ p.scope.ints
  pub shown : ShowsHeap p.unit m at heap

-- the formula holds exactly where the heap is good; where no invariant of one of its objects is Out
abbrev pub SaysGood : Posed → Indices → Formula → Type 0
SaysGood p at f = (m : Reading) (heap : Heap) → ShowsPosedHeap p m at heap → holds f m ≡ is_good p heap

abbrev pub SaysInside : Posed → Indices → Formula → Type 0
SaysInside p at f = (m : Reading) (heap : Heap) → ShowsPosedHeap p m at heap → holds f m ≡ not (list_any is_out (all_invariants p heap))

-- ## which environments are shown

-- the receiver of the method that is judged: its variable, or null
abbrev pub receiver_set : Posed → Indices → RelExpr
receiver_set p at = option_map_or (λ d. if d.fixed then set.Nil else set.Var (slot_relation at (length d.params))) (method_of p) set.Nil

-- each parameter has an index
abbrev pub ListsParameters : Posed → Indices → Type 0
ListsParameters p at = (i : ℕ) → i < option_map_or (λ d. length d.params) (method_of p) 0 → IsTrue (has_slot at i)

-- a start that is shown shows what its `requires` clauses are evaluated in
abbrev pub EntriesAreShown : Type 0
EntriesAreShown =
    (p : Posed) (m : Reading) (at : Indices) (s : Start) → IsWell p.unit → InRange p → Fits s p
    → ShowsPosedHeap p m at s.objects → ShowsStart p m at s → ListsParameters p at → at.result ≡ 0
    → Shows (clause_point p at at (receiver_set p at)) (entry_env p s) m

-- a heap that is shown shows what the invariants of its objects are evaluated in
abbrev pub InvariantsAreShown : Type 0
InvariantsAreShown =
    (p : Posed) (m : Reading) (at : Indices) (heap : Heap) (o : ℕ) → ShowsPosedHeap p m at heap → o < length heap
    → Shows (clause_point p (heap_alone at) (heap_alone at) (set.Object o)) (invariant_env p heap o) m

-- a start, a heap and a result show what the `ensures` clauses are evaluated in
abbrev pub ExitsAreShown : Type 0
ExitsAreShown =
    (p : Posed) (m : Reading) (at old : Indices) (s : Start) (heap : Heap) (r : Option Value) → IsWell p.unit → InRange p → Fits s p
    → ShowsPosedHeap p m old s.objects → ShowsStart p m old s → ListsParameters p old
    → ShowsPosedHeap p m at heap → ShowsVariable m (result_of p at) r
    → Shows (clause_point p at old (receiver_set p old)) (exit_env p s r heap) m

-- ## which variables have their kinds

-- a choice of kinds that gives the variables of a start theirs gives those around a `requires` clause theirs
abbrev pub EntriesAreSorted : Type 0
EntriesAreSorted = (p : Posed) (kinds : Kinds) (at : Indices) → GivesStart p kinds → at.result ≡ 0 → Sorts (clause_point p at at (receiver_set p at)) kinds

-- and with the result's too those around an `ensures` clause
abbrev pub ExitsAreSorted : Type 0
ExitsAreSorted = (p : Posed) (kinds : Kinds) (at old : Indices) → GivesStart p kinds → SortsVariable p kinds (result_of p at) → Sorts (clause_point p at old (receiver_set p old)) kinds
