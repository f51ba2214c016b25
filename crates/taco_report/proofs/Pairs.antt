-- The unit of the tests is well.
use Rattle.std.proofs.Common.{◌≡◌, ℕ, zero, suc, false, true, List, [], ◌∷◌, Some, None, refl, ap, subst, get_or, arith, lit≤}
use Rattle.std.specs.Prelude.{◌≢◌, slice_get, AllPairs}
use Rattle.taco_unit.specs.declared.kind.Kind.TheVariants.{Int, Ref}
use Rattle.taco_unit.specs.declared.stmt.Stmt.TheVariants.{Block}
use Rattle.taco_unit.specs.declared.unit.ClassDef.{ClassDef}
use Rattle.taco_unit.specs.declared.unit.FieldDef.{FieldDef}
use Rattle.taco_unit.specs.declared.unit.MethodDef.{MethodDef}
use Rattle.taco_unit.specs.declared.unit.ParamDef.{ParamDef}
use Rattle.taco_unit.specs.Well.{IsWell, IsWellClass, IsWellField, IsWellMethod}
use Rattle.taco_unit.proofs.KindForms.{fitting_forms}
use Rattle.taco_report.specs.Pairs.{pair_unit}

well_class : (c : ℕ) (d : ClassDef) → slice_get pair_unit.classes c ≡ Some d → IsWellClass pair_unit c d
well_class zero d is =
    let the_class : ClassDef = record { name = 80 ∷ []; fields = 0 ∷ 1 ∷ []; methods = 0 ∷ []; invariants = [] } in
    let same : the_class ≡ d = cc in
    subst (λ x. IsWellClass pair_unit zero x) same (record { named = refl; lists_fields = refl; lists_methods = refl; invariants = refl; few_invariants = omega arith })
well_class (suc c) d is = absurd (cc)

well_field : (f : ℕ) (d : FieldDef) → slice_get pair_unit.fields f ≡ Some d → IsWellField pair_unit d
well_field zero d is =
    let the_field : FieldDef = record { name = 118 ∷ []; class = 0; kind = Int; nullable = false } in
    let same : the_field ≡ d = cc in
    subst (λ x. IsWellField pair_unit x) same (record { named = refl; in_class = omega arith; kind_there = refl })
well_field (suc zero) d is =
    let the_field : FieldDef = record { name = 110 ∷ []; class = 0; kind = Ref 0; nullable = true } in
    let same : the_field ≡ d = cc in
    subst (λ x. IsWellField pair_unit x) same (record { named = refl; in_class = omega arith; kind_there = refl })
well_field (suc (suc f)) d is = absurd (cc)

abbrev the_params : List ParamDef
the_params = record { name = 113 ∷ []; kind = Ref 0; nullable = true } ∷ record { name = 107 ∷ []; kind = Int; nullable = false } ∷ []

params_apart : AllPairs (λ (q r : ParamDef). q.name ≢ r.name) the_params
params_apart zero (suc zero) d lt within = λ same. absurd (omega (arith, ap (λ (xs : List ℕ). get_or xs 0 0) same))
params_apart zero zero d lt within = absurd (omega arith)
params_apart (suc i) zero d lt within = absurd (omega arith)
params_apart (suc i) (suc zero) d lt within = absurd (omega arith)
params_apart i (suc (suc j)) d lt within = absurd (omega arith)

well_method : (m : ℕ) (d : MethodDef) → slice_get pair_unit.methods m ≡ Some d → IsWellMethod pair_unit d
well_method zero d is =
    let the_method : MethodDef = record { name = 109 ∷ []; class = 0; fixed = false; params = the_params; result = None; locals = []; needs = []; gives = []; body = Block [] } in
    let same : the_method ≡ d = cc in
    subst (λ x. IsWellMethod pair_unit x) same (record {
      named = refl;
      in_class = omega arith;
      params_named = refl;
      params_apart = params_apart;
      kinds_there = refl;
      result_there = refl;
      needs = refl;
      gives = refl;
      body = simp fitting_forms refl;
      few_params = omega arith;
      few_needs = omega arith;
      few_gives = omega arith;
    })
well_method (suc c) d is = absurd (cc)

fields_apart : AllPairs (λ (f g : FieldDef). f.class ≡ g.class → f.name ≢ g.name) pair_unit.fields
fields_apart zero (suc zero) d lt within = λ in_one same. absurd (omega (arith, ap (λ (xs : List ℕ). get_or xs 0 0) same))
fields_apart zero zero d lt within = absurd (omega arith)
fields_apart (suc i) zero d lt within = absurd (omega arith)
fields_apart (suc i) (suc zero) d lt within = absurd (omega arith)
fields_apart i (suc (suc j)) d lt within = absurd (omega arith)

pub pair_well : IsWell pair_unit
pair_well = record {
  classes = well_class;
  fields = well_field;
  methods = well_method;
  classes_apart = λ i j d lt within. absurd (omega arith);
  fields_apart = fields_apart;
  few_classes = omega arith;
  few_fields = omega arith;
  few_references = lit≤ tt;
  few_methods = omega arith;
}
