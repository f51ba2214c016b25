-- `\reach` is the least closed set.
use Rattle.std.proofs.Common.{◌≡◌, ℕ, ◌<◌, true, false, List, [], ◌∷◌, length, Option, Some, None, refl, sym, ◌∙◌, arith}
use Rattle.std.specs.Prelude.{slice_get}
use Rattle.std.proofs.lemmas.Bool.{false≢true}
use Rattle.std.proofs.lemmas.Option.{slice_get_within}
use Rattle.heap_core.specs.declared.value.Object.{Object}
use Rattle.heap_core.specs.declared.value.Value.TheVariants.{Obj}
use Rattle.heap_core.specs.Outcomes.{is_object, gives_object}
use Rattle.heap_core.specs.Heap.{field}
use Rattle.heap_core.specs.Eval.{Env, points}
use Rattle.heap_core.specs.Laws.{ReachIsLeastClosed}
use Rattle.heap_core.proofs.Closure.{closure_is_least_closed}

nowhere : (env : Env) (f p o : ℕ) → slice_get env.heap p ≡ None → gives_object o (field env.classes env.heap f (Obj p)) ≡ false
nowhere env f p o none = rw none refl

outside : (env : Env) (fields : List ℕ) (p o : ℕ) → slice_get env.heap p ≡ None → points env fields p o ≡ false
outside env [] p o none = refl
outside env (f ∷ fields) p o none = rw (nowhere env f p o none) (outside env fields p o none)

pointing : (env : Env) (fields : List ℕ) (p o : ℕ) (x : Option Object) → slice_get env.heap p ≡ x → points env fields p o ≡ true → p < length env.heap
pointing env fields p o None none to = absurd (false≢true (sym (outside env fields p o none) ∙ to))
pointing env fields p o (Some x) there to = slice_get_within env.heap p x there

-- an object that points is one of the heap's
pub points_within : (env : Env) (fields : List ℕ) (p o : ℕ) → points env fields p o ≡ true → p < length env.heap
points_within env fields p o to = pointing env fields p o (slice_get env.heap p) refl to

pub reach_is_least_closed : ReachIsLeastClosed
reach_is_least_closed env fields v small =
    closure_is_least_closed (points env fields) env.objects (λ o. is_object o v) (λ p o to. omega (arith, points_within env fields p o to, small))
