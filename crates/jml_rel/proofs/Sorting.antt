-- Kinds that the variables of a start have, at the point where a clause of the method is translated.
use Rattle.std.proofs.Common.{◌≡◌, ℕ, ◌<◌, Bool, true, false, List, [], ◌∷◌, ◌++◌, length, Option, Some, None, refl, sym, ap, subst, ◌∙◌, arith}
use Rattle.std.specs.Prelude.{slice_get, option_map, option_and_then, if◌then◌else◌, IsTrue}
use Rattle.std.specs.Option.{option_map_or}
use Rattle.std.proofs.lemmas.Option.{slice_get_within, slice_get-map}
use Rattle.std.proofs.lemmas.List.{length-map}
use Rattle.taco_unit.specs.declared.kind.Kind.{Kind}
use Rattle.taco_unit.specs.declared.kind.Kind.TheVariants as kind
use Rattle.taco_unit.specs.declared.unit.MethodDef.{MethodDef}
use Rattle.taco_unit.specs.declared.unit.ParamDef.{ParamDef}
use Rattle.taco_unit.specs.Well.{param_kinds}
use Rattle.taco_unit.proofs.Lists.{append_last}
use Rattle.heap_core.specs.Posed.{Posed}
use Rattle.heap_core.specs.Start.{method_of}
use Rattle.heap_core.proofs.Lists.{slice_get-append_left}
use Rattle.rel_core.specs.declared.sets.RelExpr.{RelExpr}
use Rattle.rel_core.specs.declared.sets.RelExpr.TheVariants as set
use Rattle.rel_core.specs.declared.indices.Indices.{Indices}
use Rattle.rel_core.specs.Uses.{Kinds, AsSet, GivesStart, is_sorted_set, is_variable, receiver_kinds, same_use, use_of_kind}
use Rattle.rel_core.specs.Shown.{slot_relation}
use Rattle.rel_core.proofs.Forms.{sorted_set_nil, sorted_set_var}
use Rattle.jml_rel.specs.Places.{SortsVariable, has_slot, parameter_of, result_of, variable_at}
use Rattle.jml_rel.specs.Clauses.{EntriesAreSorted, ExitsAreSorted}
use Rattle.jml_rel.proofs.Forms.{same_use_is}
use Rattle.jml_rel.proofs.Starting.{no_result}

-- a variable that has a kind has its use
of_kind : (p : Posed) (kinds : Kinds) (at : Indices) (x : ℕ) (k : Kind) → kinds x ≡ Some k → is_variable p kinds (use_of_kind k) (slot_relation at x) ≡ true
of_kind p kinds at x k is = ap (λ l. option_map_or (same_use (use_of_kind k)) (option_map use_of_kind l) false) is ∙ same_use_is k

module _ (p : Posed) (kinds : Kinds) (at : Indices) (d : MethodDef) (called : method_of p ≡ Some d) (gives : GivesStart p kinds) where
  kinds_too : length (param_kinds d) ≡ length d.params
  kinds_too = length-map d.params (λ q. q.kind)

  kind_at : (x : ℕ) (k : Kind) → slice_get (param_kinds d ++ receiver_kinds d) x ≡ Some k → kinds x ≡ Some k
  kind_at x k there = gives x k (rw called there)

  parameter_at : (i : ℕ) (q : Option ParamDef) → slice_get d.params i ≡ q → SortsVariable p kinds (option_and_then (λ (q : ParamDef). variable_at at i q.kind) q)
  parameter_at i None there = tt
  parameter_at i (Some q) there = listed (has_slot at i)
    where
      kind_is : kinds i ≡ Some q.kind
      kind_is =
          let within : i < length d.params = slice_get_within d.params i q there in
          let kind_there : slice_get (param_kinds d) i ≡ Some q.kind = slice_get-map (λ q. q.kind) d.params i ∙ ap (option_map (λ q. q.kind)) there in
          kind_at i q.kind (slice_get-append_left (param_kinds d) (receiver_kinds d) i (omega (arith, within, kinds_too)) ∙ kind_there)

      listed : (b : Bool) → SortsVariable p kinds (if b then Some (q.kind, slot_relation at i) else None)
      listed true = of_kind p kinds at i q.kind kind_is
      listed false = tt

  receiver_at : (b : Bool) → d.fixed ≡ b → is_sorted_set p kinds (if b then set.Nil else set.Var (slot_relation at (length d.params))) ≡ true
  receiver_at true fixed = sorted_set_nil p kinds
  receiver_at false fixed =
      let last : slice_get (param_kinds d ++ receiver_kinds d) (length d.params) ≡ Some (kind.Ref d.class) =
      rw fixed (ap (slice_get (param_kinds d ++ kind.Ref d.class ∷ [])) (sym kinds_too) ∙ append_last (param_kinds d) (kind.Ref d.class)) in
      sorted_set_var p kinds (slot_relation at (length d.params)) ∙ of_kind p kinds at (length d.params) (kind.Ref d.class) (kind_at (length d.params) (kind.Ref d.class) last)

receiver_sorted : (p : Posed) (kinds : Kinds) (at : Indices) → GivesStart p kinds → (x : Option MethodDef) → method_of p ≡ x
    → is_sorted_set p kinds (option_map_or (λ (d : MethodDef). if d.fixed then set.Nil else set.Var (slot_relation at (length d.params))) x set.Nil) ≡ true
receiver_sorted p kinds at gives None called = sorted_set_nil p kinds
receiver_sorted p kinds at gives (Some d) called = receiver_at p kinds at d called gives d.fixed refl

parameter_sorted : (p : Posed) (kinds : Kinds) (at : Indices) → GivesStart p kinds → (i : ℕ) (x : Option MethodDef) → method_of p ≡ x
    → SortsVariable p kinds (option_and_then (λ (d : MethodDef). option_and_then (λ (q : ParamDef). variable_at at i q.kind) (slice_get d.params i)) x)
parameter_sorted p kinds at gives i None called = tt
parameter_sorted p kinds at gives i (Some d) called = parameter_at p kinds at d called gives i (slice_get d.params i) refl

pub entries_are_sorted : EntriesAreSorted
entries_are_sorted p kinds at gives zero = record {
  this = receiver_sorted p kinds at gives (method_of p) refl;
  locals = λ i. parameter_sorted p kinds at gives i (method_of p) refl;
  result = subst (SortsVariable p kinds) (sym (no_result p at zero)) tt;
  below = refl;
}

pub exits_are_sorted : ExitsAreSorted
exits_are_sorted p kinds at old gives result = record {
  this = receiver_sorted p kinds old gives (method_of p) refl;
  locals = λ i. parameter_sorted p kinds old gives i (method_of p) refl;
  result = result;
  below = refl;
}
