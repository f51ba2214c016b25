-- The judgement of a start.
--
-- The contract is a lightweight specification case, taken as `normal_behavior` (JML Reference Manual,
-- "Lightweight Specification Cases" and "Normal Behavior Specification Cases"); invariants hold in the states
-- before and after the call (JML Reference Manual, "Invariants"); a clause that is undefined is not true (JML
-- Reference Manual, "Expression Evaluation and Undefinedness"). That a start is not
-- judged where a scope is left, and the order of the lines and of the parts, are this project's own.
use Rattle.std.specs.Prelude.{◌≡◌, ℕ, Bool, false, not, ◌&&◌, ◌||◌, if◌then◌else◌, List, [], ◌∷◌, ◌++◌, length, map, slice_get, filter, filter_map, flat_map, zip, Option, Some, None}
use Rattle.std.specs.List.{list_any, list_all, range_with_len, enumerate_from}
use Rattle.std.specs.Option.{option_map_or}
use Rattle.taco_unit.specs.declared.kind.Kind.{Kind}
use Rattle.taco_unit.specs.declared.unit.Clause.{Clause}
use Rattle.taco_unit.specs.declared.unit.ClassDef.{ClassDef}
use Rattle.taco_unit.specs.Kinds.{is_class_kind}
use Rattle.heap_core.specs.declared.value.Value.{Value}
use Rattle.heap_core.specs.declared.value.Value.TheVariants.{Obj}
use Rattle.heap_core.specs.declared.value.Seen.{Seen}
use Rattle.heap_core.specs.declared.start.Start.{Start}
use Rattle.heap_core.specs.declared.judged.Part.{Part}
use Rattle.heap_core.specs.declared.judged.Part.TheVariants as part
use Rattle.heap_core.specs.declared.judged.Judged.{Judged}
use Rattle.heap_core.specs.declared.judged.Judged.TheVariants.{Outside, NotAsked, Breaks, Meets}
use Rattle.heap_core.specs.Posed.{Posed}
use Rattle.heap_core.specs.Outcomes.{is_null, is_out, is_true, gives_null}
use Rattle.heap_core.specs.Heap.{Heap, field}
use Rattle.heap_core.specs.Eval.{Env, eval}
use Rattle.heap_core.specs.Exec.{Memory, memory_of, Ends, Gives, Throws, Leaves, calls, run_body}
use Rattle.heap_core.specs.Start.{Fits, method_of}

-- the numbers of a heap's objects
abbrev pub numbers_of : Heap → List ℕ
numbers_of heap = range_with_len 0 (length heap)

-- what an invariant is evaluated in: its object is the receiver
abbrev pub invariant_env : Posed → Heap → ℕ → Env
invariant_env p heap o = record {
  classes = p.unit.classes;
  objects = p.scope.objects;
  ints = p.scope.ints;
  this = Obj o;
  locals = [];
  bound = [];
  result = None;
  heap = heap;
  heap_before = heap;
}

-- what a `requires` clause is evaluated in
abbrev pub entry_env : Posed → Start → Env
entry_env p s = record {
  classes = p.unit.classes;
  objects = p.scope.objects;
  ints = p.scope.ints;
  this = s.this;
  locals = s.args;
  bound = [];
  result = None;
  heap = s.objects;
  heap_before = s.objects;
}

-- what an `ensures` clause is evaluated in: parameters have the values of the pre-state
abbrev pub exit_env : Posed → Start → Option Value → Heap → Env
exit_env p s r heap = record (entry_env p s) { result = r; heap = heap }

-- the values of clauses, in order
abbrev pub values_of : Env → List Clause → List Seen
values_of env = map (λ c. eval c.expr env)

-- a property of the class of an object of the heap, where it has one
abbrev pub at_class : {A : Type 0} → Posed → Heap → ℕ → (ClassDef → A) → A → A
at_class p heap o f missing =
    option_map_or (λ x. option_map_or f (slice_get p.unit.classes x.class) missing) (slice_get heap o) missing

-- the invariants of the object of this number; the fields of its class
abbrev pub invariants_of : Posed → Heap → ℕ → List Clause
invariants_of p heap o = at_class p heap o (λ d. d.invariants) []

abbrev pub fields_at : Posed → Heap → ℕ → List ℕ
fields_at p heap o = at_class p heap o (λ d. d.fields) []

-- the values of the invariants of an object, and of all objects
abbrev pub invariants_at : Posed → Heap → ℕ → List Seen
invariants_at p heap o = values_of (invariant_env p heap o) (invariants_of p heap o)

abbrev pub all_invariants : Posed → Heap → List Seen
all_invariants p heap = flat_map (invariants_at p heap) (numbers_of heap)

-- the values of the method's `requires` clauses, and of its `ensures` clauses
abbrev pub needs_of : Posed → Start → List Seen
needs_of p s = option_map_or (λ m. values_of (entry_env p s) m.needs) (method_of p) []

abbrev pub gives_of : Posed → Start → Option Value → Heap → List Seen
gives_of p s r heap = option_map_or (λ m. values_of (exit_env p s r heap) m.gives) (method_of p) []

-- a field, parameter or result that must not be null (JML Reference Manual, "Null is Not the
-- Default")
abbrev pub must_be_there : Kind → Bool → Bool
must_be_there k nullable = is_class_kind k && not nullable

-- a field of an object is null and must not be
abbrev pub is_missing : Posed → Heap → ℕ → ℕ → Bool
is_missing p heap o f =
    option_map_or (λ d. must_be_there d.kind d.nullable && gives_null (field p.unit.classes heap f (Obj o))) (slice_get p.unit.fields f) false

-- the fields of an object that are null and must not be, in declaration order
abbrev pub missing_at : Posed → Heap → ℕ → List ℕ
missing_at p heap o = filter (is_missing p heap o) (fields_at p heap o)

-- an object has no missing field, and its invariants are true
abbrev pub is_good_at : Posed → Heap → ℕ → Bool
is_good_at p heap o = not (list_any (is_missing p heap o) (fields_at p heap o)) && list_all is_true (invariants_at p heap o)

-- every object of the heap is so
abbrev pub is_good : Posed → Heap → Bool
is_good p heap = list_all (is_good_at p heap) (numbers_of heap)

-- a parameter is null and must not be
abbrev pub lacks_argument : Posed → Start → Bool
lacks_argument p s =
    option_map_or (λ m. list_any (λ e. must_be_there e.0.kind e.0.nullable && is_null e.1) (zip m.params s.args)) (method_of p) false

-- the start meets the precondition
abbrev pub is_asked : Posed → Start → Bool
is_asked p s = is_good p s.objects && list_all is_true (needs_of p s) && not (lacks_argument p s)

-- the parts of those values, counted from 1, that are not true
abbrev pub not_true : (ℕ → Part) → List Seen → List Part
not_true named vs = filter_map (λ e. if is_true e.1 then None else Some (named e.0)) (enumerate_from 1 vs)

-- the result is null and must not be
abbrev pub lacks_result : Posed → Option Value → Bool
lacks_result p (Some v) =
    option_map_or (λ m. option_map_or (λ k. must_be_there k.0 k.1 && is_null v) m.result false) (method_of p) false
lacks_result p None = false

-- the broken parts of an object: its missing fields, then its invariants that are not true
abbrev pub broken_at : Posed → Heap → ℕ → List Part
broken_at p heap o = map (part.NonNull o) (missing_at p heap o) ++ not_true (λ k. part.Invariant k o) (invariants_at p heap o)

-- the parts of the contract that are broken where the method gives this result and this heap: its `ensures`
-- clauses, then the result, then the objects in number order
abbrev pub broken_parts : Posed → Start → Option Value → Heap → List Part
broken_parts p s r heap =
    not_true part.Ensures (gives_of p s r heap) ++ (if lacks_result p r then part.Result ∷ [] else []) ++ flat_map (broken_at p heap) (numbers_of heap)

-- the first broken part
abbrev pub first_broken : List Part → Judged
first_broken [] = Meets
first_broken (b ∷ bs) = Breaks b

-- the run of the method: its body, in which calls may be nested as deep as the scope says
abbrev pub run_of : Posed → Start → Ends (Option Value)
run_of p s = run_body p (calls p p.scope.calls) (method_of p) s.this s.args (memory_of s.objects)

-- the judgement where the method gives this result and leaves this memory
abbrev pub judged_end : Posed → Start → Option Value → Memory → Judged
judged_end p s r m =
    if list_any is_out (gives_of p s r m.heap) || list_any is_out (all_invariants p m.heap) then Outside
    else first_broken (broken_parts p s r m.heap)

-- the judgement where the run ends so
abbrev pub judged_run : Posed → Start → Ends (Option Value) → Judged
judged_run p s (Gives r m) = judged_end p s r m
judged_run p s (Throws m) = Breaks part.Thrown
judged_run p s Leaves = Outside

-- an invariant of the start's heap or a `requires` clause leaves the scope
abbrev pub leaves_before : Posed → Start → Bool
leaves_before p s = list_any is_out (all_invariants p s.objects) || list_any is_out (needs_of p s)

-- the judgement of a start: the first line that applies
abbrev pub judged : Posed → Start → Judged
judged p s = if leaves_before p s then Outside else (if not (is_asked p s) then NotAsked else judged_run p s (run_of p s))

-- neither of the first two lines applies, so that the judgement is that of the run
abbrev pub run_decides : Posed → Start → Bool
run_decides p s = not (leaves_before p s) && is_asked p s

-- the start fits, and the judgement is that this part is broken
pub record Violates (p : Posed) (s : Start) (b : Part) : Type 0 where
  pub fits : Fits s p
  pub breaks : judged p s ≡ Breaks b

-- some fitting start has the judgement Breaks
abbrev pub Violable : Posed → Type 0
Violable p = (s : Start) × (b : Part) × Violates p s b
