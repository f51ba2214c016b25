-- Worked rows: a start that fits, an environment of its kinds at the end of a call, and a clause that settles in it.
use Rattle.std.proofs.Common.{◌≡◌, ℕ, zero, suc, true, false, List, [], ◌∷◌, Some, refl, ap, subst, get_or, arith, lit≤}
use Rattle.std.specs.Prelude.{◌≢◌, ◌<◌, ℤ, pos, slice_get, AllPairs}
use Rattle.std.proofs.lemmas.Bool.{false≢true}
use Rattle.taco_unit.specs.declared.kind.Kind.{Kind}
use Rattle.taco_unit.specs.declared.kind.Kind.TheVariants.{Int, Flag, Ref}
use Rattle.taco_unit.specs.declared.expr.Op.TheVariants as op
use Rattle.taco_unit.specs.declared.expr.Expr.{Expr}
use Rattle.taco_unit.specs.declared.expr.Expr.TheVariants as e
use Rattle.taco_unit.specs.declared.stmt.Stmt.TheVariants as s
use Rattle.taco_unit.specs.declared.unit.ClassDef.{ClassDef}
use Rattle.taco_unit.specs.declared.unit.FieldDef.{FieldDef}
use Rattle.taco_unit.specs.declared.unit.MethodDef.{MethodDef}
use Rattle.taco_unit.specs.Parts.{Parts}
use Rattle.taco_unit.specs.Kinds.{Of, Around, Exit, sort_of}
use Rattle.taco_unit.specs.Well.{IsWell, IsWellClass, IsWellField, IsWellMethod, around_method, param_kinds, result_kind}
use Rattle.taco_unit.proofs.KindForms.{sort_forms, fitting_forms}
use Rattle.taco_unit.proofs.Lists.{only}
use Rattle.heap_core.specs.declared.value.Value.{Value}
use Rattle.heap_core.specs.declared.value.Value.TheVariants as v
use Rattle.heap_core.specs.declared.value.Object.{Object}
use Rattle.heap_core.specs.declared.value.Seen.TheVariants.{Is, Out}
use Rattle.heap_core.specs.declared.start.Start.{Start}
use Rattle.heap_core.specs.Posed.{Posed}
use Rattle.heap_core.specs.Heap.{Heap}
use Rattle.heap_core.specs.Eval.{Env}
use Rattle.heap_core.specs.Start.{Fits, Reached, root, has_kind}
use Rattle.heap_core.specs.Judge.{exit_env}
use Rattle.heap_core.specs.Kinded.{IsKinded, Settles, by_bits, IsAnswered}
use Rattle.heap_core.proofs.EvalForms.{eval_forms}
use Rattle.heap_core.proofs.FieldLaws.{Keeps}
use Rattle.heap_core.proofs.Kinded.{kinds_hold}
use Rattle.heap_core.proofs.KindedStarts.{exit_kinded, starts_are_answered}

-- class N { int v; nullable N next; }, with the invariant next == null || v >= next.v, and its method
-- N grow(int x) { next = new N(); return next; }, which requires x > 0 and ensures \old(v) + x > \result.v
abbrev value_of : Expr → Expr
value_of x = e.Read x 0

abbrev next_of : Expr → Expr
next_of x = e.Read x 1

abbrev falls : Expr
falls = e.Bin op.Or (e.Bin op.Eq (next_of e.This) e.Null) (e.Bin op.Ge (value_of e.This) (value_of (next_of e.This)))

abbrev positive : Expr
positive = e.Bin op.Gt (e.Local 0) (e.Num (pos 0))

abbrev above : Expr
above = e.Bin op.Gt (e.Bin op.Add (e.Old (value_of e.This)) (e.Local 0)) (value_of e.Result)

abbrev the_class : ClassDef
the_class = record { name = 78 ∷ []; fields = 0 ∷ 1 ∷ []; methods = 0 ∷ []; invariants = record { expr = falls } ∷ [] }

abbrev value_field : FieldDef
value_field = record { name = 118 ∷ []; class = 0; kind = Int; nullable = false }

abbrev next_field : FieldDef
next_field = record { name = 110 ∷ []; class = 0; kind = Ref 0; nullable = true }

abbrev grow : MethodDef
grow = record {
  name = 103 ∷ [];
  class = 0;
  fixed = false;
  params = record { name = 120 ∷ []; kind = Int; nullable = false } ∷ [];
  result = Some (Ref 0, false);
  locals = [];
  needs = record { expr = positive } ∷ [];
  gives = record { expr = above } ∷ [];
  body = s.Block (s.Write e.This 1 (e.New 0) ∷ s.Return (Some (next_of e.This)) ∷ []);
}

abbrev the_unit : Parts
the_unit = record { classes = the_class ∷ []; fields = value_field ∷ next_field ∷ []; methods = grow ∷ [] }

well_field : (f : ℕ) (d : FieldDef) → slice_get the_unit.fields f ≡ Some d → IsWellField the_unit d
well_field zero d is =
    let same : value_field ≡ d = cc in
    subst (λ x. IsWellField the_unit x) same (record { named = refl; in_class = omega arith; kind_there = refl })
well_field (suc zero) d is =
    let same : next_field ≡ d = cc in
    subst (λ x. IsWellField the_unit x) same (record { named = refl; in_class = omega arith; kind_there = refl })
well_field (suc (suc f)) d is = absurd (cc)

fields_apart : AllPairs (λ (f g : FieldDef). f.class ≡ g.class → f.name ≢ g.name) the_unit.fields
fields_apart zero (suc zero) d lt within = λ in_one same. absurd (omega (arith, ap (λ (xs : List ℕ). get_or xs 0 0) same))
fields_apart zero zero d lt within = absurd (omega arith)
fields_apart (suc i) zero d lt within = absurd (omega arith)
fields_apart (suc i) (suc zero) d lt within = absurd (omega arith)
fields_apart i (suc (suc j)) d lt within = absurd (omega arith)

well : IsWell the_unit
well = record {
  classes = only (IsWellClass the_unit) the_class (record { named = refl; lists_fields = refl; lists_methods = refl; invariants = simp sort_forms refl; few_invariants = omega arith });
  fields = well_field;
  methods = only (λ m. IsWellMethod the_unit) grow (record {
    named = refl;
    in_class = omega arith;
    params_named = refl;
    params_apart = λ i j d' lt within. absurd (omega arith);
    kinds_there = refl;
    result_there = refl;
    needs = simp sort_forms refl;
    gives = simp sort_forms refl;
    body = simp (sort_forms, fitting_forms) refl;
    few_params = omega arith;
    few_needs = omega arith;
    few_gives = omega arith;
  });
  classes_apart = λ i j d lt within. absurd (omega arith);
  fields_apart = fields_apart;
  few_classes = omega arith;
  few_fields = omega arith;
  few_references = lit≤ tt;
  few_methods = omega arith;
}

-- ## a start: @0 with v=7 and no next, and x=1

abbrev posed : Posed
posed = record { unit = the_unit; method = 0; scope = record { objects = 2; ints = 4; loops = 0; calls = 0 } }

abbrev object : ℤ → Value → Object
object n next = record { class = 0; cells = v.Num n ∷ next ∷ [] }

abbrev alone : Start
alone = record { objects = object (pos 7) v.Null ∷ []; this = v.Obj 0; args = v.Num (pos 1) ∷ [] }

reached : (o : ℕ) → o < 1 → Reached alone o
reached zero low = root zero (0, omega arith, refl)
reached (suc o) low = absurd (omega arith)

fits : Fits alone posed
fits = record { few_objects = omega arith; objects_whole = refl; receiver = refl; arguments = refl; all_reached = reached }

answered : IsAnswered posed alone
answered = starts_are_answered posed alone well fits

-- ## the end of the call: @0 has @1 as its next

abbrev two : Heap
two = object (pos 7) (v.Obj 1) ∷ object (pos 0) v.Null ∷ []

abbrev around : Around
around = around_method the_unit grow Exit (param_kinds grow)

abbrev env : Env
env = exit_env posed alone (Some (v.Obj 1)) two

keeps : Keeps alone.objects two
keeps c zero is = is
keeps c (suc o) is = absurd (false≢true is)

of_kind : (r : Kind) → result_kind grow ≡ Some r → has_kind 4 two r (v.Obj 1) ≡ true
of_kind r there =
    let same : Ref 0 ≡ r = cc in
    subst (λ k. has_kind 4 two k (v.Obj 1) ≡ true) same refl

kinded : IsKinded two around env
kinded = exit_kinded posed alone grow fits refl (Some (v.Obj 1)) two well keeps refl of_kind

sort_is : sort_of above around ≡ Of Flag
sort_is = simp sort_forms refl

-- the clause settles: at 4 bits the sum of 7 and 1 is Out, at 5 the clause is true
settles : Settles two (sort_of above around) (by_bits above env)
settles = kinds_hold two around env above kinded (rw sort_is refl)

out_at_four : by_bits above env 4 ≡ Out
out_at_four = simp eval_forms refl

true_at_five : by_bits above env 5 ≡ Is (v.Flag true)
true_at_five = simp eval_forms refl
