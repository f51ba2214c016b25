-- Where a clause is translated, and which environments a reading shows there. (This project's own.)
use Rattle.std.specs.Prelude.{◌≡◌, ℕ, ◌==◌, nat_lt, Bool, if◌then◌else◌, List, length, map, slice_get, Option, Some, None, option_and_then, IsTrue}
use Rattle.std.specs.List.{list_any, list_all}
use Rattle.taco_unit.specs.declared.kind.Kind.{Kind}
use Rattle.heap_core.specs.declared.value.Value.{Value}
use Rattle.heap_core.specs.declared.value.Value.TheVariants.{Obj}
use Rattle.heap_core.specs.Posed.{Posed}
use Rattle.heap_core.specs.Start.{method_of}
use Rattle.heap_core.specs.Eval.{Env}
use Rattle.rel_core.specs.declared.relation.RelVar.{RelVar}
use Rattle.rel_core.specs.declared.sets.RelExpr.{RelExpr}
use Rattle.rel_core.specs.declared.indices.Indices.{Indices}
use Rattle.rel_core.specs.Reading.{Reading}
use Rattle.rel_core.specs.Meaning.{set_of}
use Rattle.rel_core.specs.Uses.{Kinds, is_sorted_set, is_variable, use_of_kind}
use Rattle.rel_core.specs.Shown.{ShowsValue, ShowsHeap, slot_relation}
use Rattle.clause_terms.specs.Terms.{IsOnly}

-- a program variable with its kind
abbrev pub Variable : Type 0
Variable = Kind × RelVar

-- an index is listed for the variable
abbrev pub has_slot : Indices → ℕ → Bool
has_slot at x = list_any (λ s. s.0 == x) at.slots

abbrev pub variable_at : Indices → ℕ → Kind → Option Variable
variable_at at x k = if has_slot at x then Some (k, slot_relation at x) else None

-- parameter i of the problem's method, where an index is listed for it
abbrev pub parameter_of : Posed → Indices → ℕ → Option Variable
parameter_of p at i = option_and_then (λ d. option_and_then (λ q. variable_at at i q.kind) (slice_get d.params i)) (method_of p)

-- the result of the problem's method, where its variable is above the receiver's and an index is listed for it
abbrev pub result_of : Posed → Indices → Option Variable
result_of p at =
    option_and_then (λ d. option_and_then (λ k. if nat_lt (length d.params) at.result then variable_at at at.result k.0 else None) d.result) (method_of p)

-- the present heap, the pre-state with the parameters, the result, the receiver's set, and the objects of the
-- quantified variables around, the outermost first
pub record Point : Type 0 where
  pub problem : Posed
  pub heap : Indices
  pub before : Indices
  pub result : Option Variable
  pub this : RelExpr
  pub bound : List ℕ

-- the variable is there exactly where the value is, and has it
abbrev pub ShowsVariable : Reading → Option Variable → Option Value → Type 0
ShowsVariable m (Some x) (Some v) = ShowsValue m x.0 x.1 0 v
ShowsVariable m None None = Unit {0}
ShowsVariable m (Some x) None = ⊥
ShowsVariable m None (Some v) = ⊥

-- the reading shows the environment at this point
pub record Shows (q : Point) (env : Env) (m : Reading) : Type 0 where
  pub classes : env.classes ≡ q.problem.unit.classes
  pub objects : env.objects ≡ q.problem.scope.objects
  pub numbers : m.objects ≡ env.objects
  pub ints : m.ints ≡ env.ints
  pub heap : ShowsHeap q.problem.unit m q.heap env.heap
  pub before : ShowsHeap q.problem.unit m q.before env.heap_before
  pub this : IsOnly m (set_of q.this m) env.this
  pub locals : (i : ℕ) → ShowsVariable m (parameter_of q.problem q.before i) (slice_get env.locals i)
  pub result : ShowsVariable m q.result env.result
  pub bound : env.bound ≡ map Obj q.bound
  pub below : IsTrue (list_all (λ o. nat_lt o q.problem.scope.objects) q.bound)

-- the variable, where it is there, has its kind
abbrev pub SortsVariable : Posed → Kinds → Option Variable → Type 0
SortsVariable p kinds (Some x) = IsTrue (is_variable p kinds (use_of_kind x.0) x.1)
SortsVariable p kinds None = Unit {0}

-- these kinds of program variables give those at this point theirs
pub record Sorts (q : Point) (kinds : Kinds) : Type 0 where
  pub this : IsTrue (is_sorted_set q.problem kinds q.this)
  pub locals : (i : ℕ) → SortsVariable q.problem kinds (parameter_of q.problem q.before i)
  pub result : SortsVariable q.problem kinds q.result
  pub below : IsTrue (list_all (λ o. nat_lt o q.problem.scope.objects) q.bound)

-- in the pre-state
abbrev pub past : Point → Point
past q = record q { heap = q.before }
