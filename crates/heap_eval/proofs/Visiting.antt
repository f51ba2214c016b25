-- A visit of the objects of a `\reach`: what it comes upon, and `.int_size` from what it has done.
use Rattle.std.proofs.Common.{◌≡◌, ◌⊎◌, ℕ, List, refl, inl, inr}
use Rattle.std.specs.Prelude.{count_by, pos}
use Rattle.std.specs.List.{range_with_len}
use Rattle.heap_core.specs.declared.value.Value.{Value}
use Rattle.heap_core.specs.declared.value.Value.TheVariants.{Null, Obj}
use Rattle.heap_core.specs.declared.value.Seen.{Seen}
use Rattle.heap_core.specs.declared.value.Seen.TheVariants.{Is}
use Rattle.heap_core.specs.declared.visit.Stage.{Stage}
use Rattle.heap_core.specs.Outcomes.{number, gives_object}
use Rattle.heap_core.specs.Heap.{field}
use Rattle.heap_core.specs.Eval.{Env, points, reached, size}
use Rattle.heap_core.proofs.Visiting.{Upon, upon_none, upon_value, upon_all}
use Rattle.heap_eval.specs.Stages.{found_in, found_along}

upon_seen : (ss : List Stage) (s : Seen) → Upon (λ o. gives_object o s) ss (found_in ss s)
upon_seen ss (Is v) = upon_value ss v
upon_seen ss _ = upon_none ss

-- the objects in the fields of an object are come upon
pub upon_fields : (env : Env) (fields : List ℕ) (p : ℕ) (ss : List Stage) → Upon (points env fields p) ss (found_along env.classes env.heap p ss fields)
upon_fields env fields p =
    upon_all (λ f o. gives_object o (field env.classes env.heap f (Obj p))) (λ ss f. found_in ss (field env.classes env.heap f (Obj p)))
    (λ ss f. upon_seen ss (field env.classes env.heap f (Obj p))) fields

-- `.int_size` from null or an object
pub size_of : (env : Env) (fields : List ℕ) (v : Value) → (v ≡ Null) ⊎ ((o : ℕ) × (v ≡ Obj o)) → size env fields v ≡ number env.ints (pos (count_by (reached env fields v) (range_with_len 0 env.objects)))
size_of env fields v (inl is) = rw is refl
size_of env fields v (inr (o, is)) = rw is refl
