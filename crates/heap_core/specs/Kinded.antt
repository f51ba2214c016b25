-- What the kinds of a unit say of the values of its clauses. (This project's own.)
use Rattle.std.specs.Prelude.{◌≡◌, ◌≢◌, ◌⊎◌, ℕ, ◌≤◌, Bool, true, false, ◌++◌, slice_get, Some, IsTrue, IsFalse}
use Rattle.std.specs.List.{list_all}
use Rattle.std.specs.Option.{option_map_or}
use Rattle.std.specs.Cmp.Lexicographic.{pointwise}
use Rattle.taco_unit.specs.declared.kind.Kind.{Kind}
use Rattle.taco_unit.specs.declared.kind.Kind.TheVariants as kind
use Rattle.taco_unit.specs.declared.expr.Expr.{Expr}
use Rattle.taco_unit.specs.Parts.{Parts}
use Rattle.taco_unit.specs.Kinds.{Sort, Of, NullOnly, Around, Code, Exit, sort_of}
use Rattle.taco_unit.specs.Well.{IsWell}
use Rattle.heap_core.specs.declared.value.Value.{Value}
use Rattle.heap_core.specs.declared.value.Value.TheVariants.{Null, Obj, Num, Flag}
use Rattle.heap_core.specs.declared.value.Object.{Object}
use Rattle.heap_core.specs.declared.value.Seen.{Seen}
use Rattle.heap_core.specs.declared.value.Seen.TheVariants.{Is, Bad, Out}
use Rattle.heap_core.specs.declared.start.Start.{Start}
use Rattle.heap_core.specs.Posed.{Posed}
use Rattle.heap_core.specs.Outcomes.{is_null}
use Rattle.heap_core.specs.Heap.{Heap, is_of}
use Rattle.heap_core.specs.Eval.{Env, eval}
use Rattle.heap_core.specs.Start.{Fits}
use Rattle.heap_core.specs.Judge.{all_invariants, needs_of, leaves_before}

-- the value is one of the kind, where these are the objects: a number of any width, a truth value, null or an
-- object of the class
abbrev pub is_of_kind : Heap → Kind → Value → Bool
is_of_kind all kind.Int (Num z) = true
is_of_kind all kind.Flag (Flag b) = true
is_of_kind all (kind.Ref c) Null = true
is_of_kind all (kind.Ref c) (Obj o) = is_of all c o
is_of_kind all _ _ = false

-- the value is one of the kind of the field of this number
abbrev pub is_of_field : Parts → Heap → ℕ → Value → Bool
is_of_field u all f v = option_map_or (λ d. is_of_kind all d.kind v) (slice_get u.fields f) false

-- the object is of a class of the unit and has one value of its kind for each of its fields
abbrev pub has_kinds : Parts → Heap → Object → Bool
has_kinds u all x = option_map_or (λ d. pointwise (is_of_field u all) d.fields x.cells) (slice_get u.classes x.class) false

-- each object of a heap is one of those of `all`, of the same class, and its values are of their kinds
pub record IsKindedHeap (u : Parts) (all heap : Heap) : Type 0 where
  pub known : (o : ℕ) (x : Object) → slice_get heap o ≡ Some x → IsTrue (is_of all x.class o)
  pub cells : (o : ℕ) (x : Object) → slice_get heap o ≡ Some x → IsTrue (has_kinds u all x)

-- in this environment a clause can be evaluated that stands where k is known: the receiver, the locals, the
-- objects of quantified variables and the result have the kinds that k tells, and so have the cells of both
-- heaps, whose objects are among those of `all`
pub record IsKinded (all : Heap) (k : Around) (env : Env) : Type 0 where
  pub clause : k.form ≢ Code
  pub unit : IsWell k.unit
  pub classes : env.classes ≡ k.unit.classes
  pub this : IsTrue (option_map_or (λ c. is_of_kind all (kind.Ref c) env.this) k.this true)
  pub locals : IsTrue (pointwise (is_of_kind all) k.locals env.locals)
  pub bound : IsTrue (pointwise (λ c. is_of_kind all (kind.Ref c)) k.bound env.bound)
  pub result : (r : Kind) → k.form ≡ Exit → k.result ≡ Some r → IsTrue (option_map_or (is_of_kind all r) env.result false)
  pub heap : IsKindedHeap k.unit all env.heap
  pub heap_before : IsKindedHeap k.unit all env.heap_before

-- expressions of the sort have a value
abbrev pub has_value : Sort → Bool
has_value (Of k) = true
has_value NullOnly = true
has_value _ = false

-- the value is one of the sort
abbrev pub is_value_of : Heap → Sort → Value → Bool
is_value_of all (Of k) v = is_of_kind all k v
is_value_of all NullOnly v = is_null v
is_value_of all _ v = false

-- the outcome is Bad, or a value of the sort
abbrev pub is_of_sort : Heap → Sort → Seen → Bool
is_of_sort all s (Is v) = is_value_of all s v
is_of_sort all s Bad = true
is_of_sort all s Out = false

-- an evaluation by the bits of its numbers has one outcome, Bad or a value of the sort: with enough bits it
-- has this one, and with fewer it has this one or is Out
pub record Settles (all : Heap) (s : Sort) (seen : ℕ → Seen) : Type 0 where
  pub outcome : Seen
  pub of_sort : IsTrue (is_of_sort all s outcome)
  pub enough : ℕ
  pub with_enough : (bits : ℕ) → enough ≤ bits → seen bits ≡ outcome
  pub with_any : (bits : ℕ) → (seen bits ≡ Out) ⊎ (seen bits ≡ outcome)

-- the evaluation of a clause, by the bits of its numbers
abbrev pub by_bits : Expr → Env → ℕ → Seen
by_bits e env bits = eval e (record env { ints = bits })

-- a clause that has a sort settles on a value of it, or on Bad: nothing else makes it Out than numbers that
-- leave their width
abbrev pub KindsHold : Type 0
KindsHold = (all : Heap) (k : Around) (env : Env) (e : Expr) → IsKinded all k env → IsTrue (has_value (sort_of e k)) → Settles all (sort_of e k) (by_bits e env)

-- what a condition can give: a truth value, Bad or Out
abbrev pub is_answer : Seen → Bool
is_answer (Is (Flag b)) = true
is_answer (Is v) = false
is_answer s = true

-- the problem, with this many bits for numbers
abbrev pub with_bits : Posed → ℕ → Posed
with_bits p bits = record p { scope = record p.scope { ints = bits } }

-- each invariant and each `requires` clause gives an answer, and with enough bits none leaves the scope
pub record IsAnswered (p : Posed) (s : Start) : Type 0 where
  pub answers : IsTrue (list_all is_answer (all_invariants p s.objects ++ needs_of p s))
  pub enough : ℕ
  pub with_enough : (bits : ℕ) → enough ≤ bits → IsFalse (leaves_before (with_bits p bits) s)

-- every start that fits is answered
abbrev pub StartsAreAnswered : Type 0
StartsAreAnswered = (p : Posed) (s : Start) → IsWell p.unit → Fits s p → IsAnswered p s
