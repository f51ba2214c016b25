-- Environments that are shown: in the pre-state, and with one quantified variable more.
use Rattle.std.proofs.Common.{◌≡◌, ℕ, List, [], ◌∷◌, ◌++◌, map, sym, ap, ◌∙◌}
use Rattle.std.specs.Prelude.{nat_lt, IsTrue}
use Rattle.std.proofs.lemmas.List.{map-append}
use Rattle.heap_core.specs.declared.value.Value.TheVariants.{Obj}
use Rattle.heap_core.specs.Eval.{Env, before, bind}
use Rattle.rel_core.specs.Reading.{Reading}
use Rattle.rel_core.specs.Uses.{Kinds}
use Rattle.clause_terms.proofs.Quantified.{all_with}
use Rattle.jml_rel.specs.Places.{Point, Shows, Sorts, past}

pub shows_past : (q : Point) (env : Env) (m : Reading) → Shows q env m → Shows (past q) (before env) m
shows_past q env m s = record {
  classes = s.classes;
  objects = s.objects;
  numbers = s.numbers;
  ints = s.ints;
  heap = s.before;
  before = s.before;
  this = s.this;
  locals = s.locals;
  result = s.result;
  bound = s.bound;
  below = s.below;
}

pub shows_bound : (q : Point) (env : Env) (m : Reading) (o : ℕ) (os : List ℕ) → os ≡ q.bound ++ o ∷ [] → IsTrue (nat_lt o q.problem.scope.objects) → Shows q env m
    → Shows (record q { bound = os }) (bind env o) m
shows_bound q env m o os is below s = record {
  classes = s.classes;
  objects = s.objects;
  numbers = s.numbers;
  ints = s.ints;
  heap = s.heap;
  before = s.before;
  this = s.this;
  locals = s.locals;
  result = s.result;
  bound = ap (λ vs. vs ++ Obj o ∷ []) s.bound ∙ sym (ap (map Obj) is ∙ map-append Obj q.bound (o ∷ []));
  below = all_with (λ p. nat_lt p q.problem.scope.objects) q.bound os o is s.below below;
}

pub sorts_past : (q : Point) (kinds : Kinds) → Sorts q kinds → Sorts (past q) kinds
sorts_past q kinds s = record { this = s.this; locals = s.locals; result = s.result; below = s.below }

pub sorts_bound : (q : Point) (kinds : Kinds) (o : ℕ) (os : List ℕ) → os ≡ q.bound ++ o ∷ [] → IsTrue (nat_lt o q.problem.scope.objects) → Sorts q kinds → Sorts (record q { bound = os }) kinds
sorts_bound q kinds o os is below s = record {
  this = s.this;
  locals = s.locals;
  result = s.result;
  below = all_with (λ p. nat_lt p q.problem.scope.objects) q.bound os o is s.below below;
}
