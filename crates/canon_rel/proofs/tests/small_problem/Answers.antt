use Rattle.std.proofs.Common.{◌≡◌, [], ◌∷◌, None, false, true, refl, sym, arith, subst}
use Rattle.taco_unit.specs.declared.kind.Kind.TheVariants.{Ref}
use Rattle.taco_unit.specs.declared.unit.ClassDef.{ClassDef}
use Rattle.taco_unit.specs.declared.unit.FieldDef.{FieldDef}
use Rattle.taco_unit.specs.declared.unit.MethodDef.{MethodDef}
use Rattle.taco_unit.specs.declared.stmt.Stmt.TheVariants.{Block}
use Rattle.taco_unit.specs.Parts.{Parts}
use Rattle.taco_unit.specs.Well.{IsWell, IsWellClass, IsWellField, IsWellMethod}
use Rattle.taco_unit.proofs.KindForms.{fitting_forms}
use Rattle.taco_unit.proofs.Lists.{only}
use Rattle.canon_rel.proofs.tests.small_problem.Goals as goal

abbrev the_class : ClassDef
the_class = record { name = 66 ∷ []; fields = 0 ∷ []; methods = 0 ∷ []; invariants = [] }

abbrev the_field : FieldDef
the_field = record { name = 110 ∷ []; class = 0; kind = Ref 0; nullable = true }

abbrev the_method : MethodDef
the_method = record { name = 109 ∷ []; class = 0; fixed = false; params = []; result = None; locals = []; needs = []; gives = []; body = Block [] }

abbrev the_unit : Parts
the_unit = record { classes = the_class ∷ []; fields = the_field ∷ []; methods = the_method ∷ [] }

well : IsWell the_unit
well = record {
  classes = only (IsWellClass the_unit) the_class (record { named = refl; lists_fields = refl; lists_methods = refl; invariants = refl; few_invariants = omega arith });
  fields = only (λ f. IsWellField the_unit) the_field (record { named = refl; in_class = omega arith; kind_there = refl });
  methods = only (λ m. IsWellMethod the_unit) the_method (record {
    named = refl;
    in_class = omega arith;
    params_named = refl;
    params_apart = λ i j d lt within. absurd (omega arith);
    kinds_there = refl;
    result_there = refl;
    needs = refl;
    gives = refl;
    body = simp fitting_forms refl;
    few_params = omega arith;
    few_needs = omega arith;
    few_gives = omega arith;
  });
  classes_apart = λ i j d lt within. absurd (omega arith);
  fields_apart = λ i j d lt within. absurd (omega arith);
  few_classes = omega arith;
  few_fields = omega arith;
  few_references = omega arith;
  few_methods = omega arith;
}

pub unit_of-unit-requires : goal.unit_of-unit-requires
unit_of-unit-requires c =
    let classes : the_unit.classes ≡ c.in_ok-classes.classes = sym c.in_ok-classes.ensures in
    let fields : the_unit.fields ≡ c.in_ok-fields.fields = sym c.in_ok-fields.ensures in
    let methods : the_unit.methods ≡ c.in_ok-methods.methods = sym c.in_ok-methods.ensures in
    subst (λ cs. IsWell (record { classes = cs; fields = c.in_ok-fields.fields; methods = c.in_ok-methods.methods })) classes
    (subst (λ fs. IsWell (record { classes = the_unit.classes; fields = fs; methods = c.in_ok-methods.methods })) fields
    (subst (λ ms. IsWell (record { classes = the_unit.classes; fields = the_unit.fields; methods = ms })) methods well))
