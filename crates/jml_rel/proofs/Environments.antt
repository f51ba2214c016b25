-- Environments of clauses that are shown.
use Rattle.std.proofs.Common.{◌≡◌, ℕ, ◌≤◌, ◌<◌, Bool, true, false, length, Option, Some, None, refl, sym, ap, ◌∙◌, subst, arith}
use Rattle.std.specs.Prelude.{nat_lt, slice_get, if◌then◌else◌, option_and_then}
use Rattle.std.proofs.lemmas.Bool.{lt-ltb}
use Rattle.taco_unit.specs.declared.kind.Kind.{Kind}
use Rattle.taco_unit.specs.declared.unit.MethodDef.{MethodDef}
use Rattle.taco_unit.specs.declared.unit.ParamDef.{ParamDef}
use Rattle.taco_unit.specs.Parts.{Parts}
use Rattle.heap_core.specs.Posed.{Posed}
use Rattle.heap_core.specs.Outcomes.{is_object}
use Rattle.heap_core.specs.Heap.{Heap}
use Rattle.heap_core.specs.Start.{method_of}
use Rattle.heap_core.specs.Judge.{invariant_env}
use Rattle.rel_core.specs.declared.sets.RelExpr.{RelExpr}
use Rattle.rel_core.specs.declared.sets.RelExpr.TheVariants as set
use Rattle.rel_core.specs.declared.indices.Indices.{Indices}
use Rattle.rel_core.specs.Meaning.{set_of}
use Rattle.rel_core.specs.Uses.{Kinds, is_sorted_set}
use Rattle.rel_core.specs.Reading.{Reading}
use Rattle.rel_core.specs.Shown.{ShowsHeap}
use Rattle.rel_core.proofs.Forms.{set_object}
use Rattle.clause_terms.proofs.FieldTerms.{object_exact}
use Rattle.jml_rel.specs.Places.{Shows, ShowsVariable, Sorts, SortsVariable, Variable, parameter_of, result_of, variable_at}
use Rattle.jml_rel.specs.Clauses.{InvariantsAreShown, ShowsPosedHeap, clause_point, heap_alone}

-- without indices there is no variable
no_parameter : (p : Posed) (at : Indices) (i : ℕ) → parameter_of p (heap_alone at) i ≡ None
no_parameter p at i = go (method_of p)
  where
    of : (q : Option ParamDef) → option_and_then (λ q. variable_at (heap_alone at) i q.kind) q ≡ None
    of None = refl
    of (Some q) = refl

    go : (d : Option MethodDef) → option_and_then (λ d. option_and_then (λ q. variable_at (heap_alone at) i q.kind) (slice_get d.params i)) d ≡ None
    go None = refl
    go (Some d) = of (slice_get d.params i)

no_result : (p : Posed) (at : Indices) → result_of p (heap_alone at) ≡ None
no_result p at = go (method_of p)
  where
    either : (x : Option Variable) (b : Bool) → (if b then x else x) ≡ x
    either x true = refl
    either x false = refl

    of : (d : MethodDef) (k : Option (Kind × Bool)) → option_and_then (λ k. if nat_lt (length d.params) 0 then variable_at (heap_alone at) 0 k.0 else None) k ≡ None
    of d None = refl
    of d (Some k) = either None (nat_lt (length d.params) 0)

    go : (d : Option MethodDef) → option_and_then (λ d. option_and_then (λ k. if nat_lt (length d.params) 0 then variable_at (heap_alone at) 0 k.0 else None) d.result) d ≡ None
    go None = refl
    go (Some d) = of d d.result

alone : (u : Parts) (m : Reading) (at : Indices) (heap : Heap) → ShowsHeap u m at heap → ShowsHeap u m (heap_alone at) heap
alone u m at heap s = record {
  few = s.few;
  live = s.live;
  classes = s.classes;
  cells = λ f d o is of. let c = s.cells f d o is of in record { value = c.value; is = c.is; shown = c.shown };
  links = s.links;
}

-- a set that is an object of the heap is the receiver of its invariants
pub invariant_shown : (p : Posed) (m : Reading) (at : Indices) (heap : Heap) (o : ℕ) (this : RelExpr) → set_of this m ≡ is_object o → ShowsPosedHeap p m at heap → o < length heap
    → Shows (clause_point p (heap_alone at) (heap_alone at) this) (invariant_env p heap o) m
invariant_shown p m at heap o this is s there =
    let few : length heap ≤ m.objects = s.shown.few in
    record {
      classes = refl;
      objects = refl;
      numbers = s.objects;
      ints = s.ints;
      heap = alone p.unit m at heap s.shown;
      before = alone p.unit m at heap s.shown;
      this = record { reference = lt-ltb o m.objects (omega (arith, few, there)); exact = λ u. ap (λ f. f u) is ∙ object_exact o u };
      locals = λ i. subst (λ x. ShowsVariable m x None) (sym (no_parameter p at i)) tt;
      result = subst (λ x. ShowsVariable m x None) (sym (no_result p at)) tt;
      bound = refl;
      below = refl;
    }

pub invariant_sorts : (p : Posed) (kinds : Kinds) (at : Indices) (this : RelExpr) → is_sorted_set p kinds this ≡ true → Sorts (clause_point p (heap_alone at) (heap_alone at) this) kinds
invariant_sorts p kinds at this sorted = record {
  this = sorted;
  locals = λ i. subst (SortsVariable p kinds) (sym (no_parameter p at i)) tt;
  result = subst (SortsVariable p kinds) (sym (no_result p at)) tt;
  below = refl;
}

pub invariants_are_shown : InvariantsAreShown
invariants_are_shown p m at heap o s there = invariant_shown p m at heap o (set.Object o) (set_object o m) s there
