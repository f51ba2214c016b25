-- The unit of the test of a start's set is well.
use Rattle.std.proofs.Common.{◌≡◌, ℕ, zero, suc, false, true, List, [], ◌∷◌, Some, None, refl, ap, subst, get_or, arith, lit≤}
use Rattle.std.specs.Prelude.{◌≢◌, slice_get, AllPairs}
use Rattle.taco_unit.specs.declared.stmt.Stmt.TheVariants.{Block}
use Rattle.taco_unit.specs.declared.unit.ClassDef.{ClassDef}
use Rattle.taco_unit.specs.declared.unit.FieldDef.{FieldDef}
use Rattle.taco_unit.specs.declared.unit.MethodDef.{MethodDef}
use Rattle.taco_unit.specs.Well.{IsWell, IsWellClass, IsWellField, IsWellMethod}
use Rattle.taco_unit.proofs.KindForms.{fitting_forms}
use Rattle.bounds_rows.specs.Six.{link_to, six_unit}

well_class : (c : ℕ) (d : ClassDef) → slice_get six_unit.classes c ≡ Some d → IsWellClass six_unit c d
well_class zero d is =
    let the_class : ClassDef = record { name = 65 ∷ []; fields = 0 ∷ 1 ∷ []; methods = 0 ∷ []; invariants = [] } in
    let same : the_class ≡ d = cc in
    subst (λ x. IsWellClass six_unit 0 x) same (record { named = refl; lists_fields = refl; lists_methods = refl; invariants = refl; few_invariants = omega arith })
well_class (suc zero) d is =
    let the_class : ClassDef = record { name = 66 ∷ []; fields = 2 ∷ 3 ∷ 4 ∷ []; methods = []; invariants = [] } in
    let same : the_class ≡ d = cc in
    subst (λ x. IsWellClass six_unit 1 x) same (record { named = refl; lists_fields = refl; lists_methods = refl; invariants = refl; few_invariants = omega arith })
well_class (suc (suc c)) d is = absurd (cc)

well_link : (name class to : ℕ) (d : FieldDef) → link_to (name ∷ []) class to ≡ d → IsWellField six_unit (link_to (name ∷ []) class to) → IsWellField six_unit d
well_link name class to d same well = subst (IsWellField six_unit) same well

well_field : (f : ℕ) (d : FieldDef) → slice_get six_unit.fields f ≡ Some d → IsWellField six_unit d
well_field zero d is = well_link 98 0 1 d (cc) (record { named = refl; in_class = omega arith; kind_there = refl })
well_field (suc zero) d is = well_link 97 0 1 d (cc) (record { named = refl; in_class = omega arith; kind_there = refl })
well_field (suc (suc zero)) d is = well_link 98 1 0 d (cc) (record { named = refl; in_class = omega arith; kind_there = refl })
well_field (suc (suc (suc zero))) d is = well_link 102 1 0 d (cc) (record { named = refl; in_class = omega arith; kind_there = refl })
well_field (suc (suc (suc (suc zero)))) d is = well_link 103 1 0 d (cc) (record { named = refl; in_class = omega arith; kind_there = refl })
well_field (suc (suc (suc (suc (suc f))))) d is = absurd (cc)

well_method : (m : ℕ) (d : MethodDef) → slice_get six_unit.methods m ≡ Some d → IsWellMethod six_unit d
well_method zero d is =
    let the_method : MethodDef = record { name = 109 ∷ []; class = 0; fixed = false; params = []; result = None; locals = []; needs = []; gives = []; body = Block [] } in
    let same : the_method ≡ d = cc in
    subst (λ x. IsWellMethod six_unit x) same (record {
      named = refl;
      in_class = omega arith;
      params_named = refl;
      params_apart = λ i j d' lt within. absurd (omega arith);
      kinds_there = refl;
      result_there = refl;
      needs = refl;
      gives = refl;
      body = simp fitting_forms refl;
      few_params = omega arith;
      few_needs = omega arith;
      few_gives = omega arith;
    })
well_method (suc c) d is = absurd (cc)

-- two names of one letter
apart : (a b : ℕ) → (a ≡ b → ⊥) → ◌≢◌ {A = List ℕ} (a ∷ []) (b ∷ [])
apart a b differ same = differ (ap (λ (xs : List ℕ). get_or xs 0 0) same)

classes_apart : AllPairs (λ (c d : ClassDef). c.name ≢ d.name) six_unit.classes
classes_apart zero (suc zero) d lt within = apart 65 66 (λ same. omega arith)
classes_apart i j d lt within = absurd (omega arith)

fields_apart : AllPairs (λ (f g : FieldDef). f.class ≡ g.class → f.name ≢ g.name) six_unit.fields
fields_apart zero (suc zero) d lt within = λ in_one. apart 98 97 (λ same. omega arith)
fields_apart zero (suc (suc zero)) d lt within = λ in_one. absurd (omega arith)
fields_apart zero (suc (suc (suc zero))) d lt within = λ in_one. absurd (omega arith)
fields_apart zero (suc (suc (suc (suc zero)))) d lt within = λ in_one. absurd (omega arith)
fields_apart (suc zero) (suc (suc zero)) d lt within = λ in_one. absurd (omega arith)
fields_apart (suc zero) (suc (suc (suc zero))) d lt within = λ in_one. absurd (omega arith)
fields_apart (suc zero) (suc (suc (suc (suc zero)))) d lt within = λ in_one. absurd (omega arith)
fields_apart (suc (suc zero)) (suc (suc (suc zero))) d lt within = λ in_one. apart 98 102 (λ same. omega arith)
fields_apart (suc (suc zero)) (suc (suc (suc (suc zero)))) d lt within = λ in_one. apart 98 103 (λ same. omega arith)
fields_apart (suc (suc (suc zero))) (suc (suc (suc (suc zero)))) d lt within = λ in_one. apart 102 103 (λ same. omega arith)
fields_apart i j d lt within = absurd (omega arith)

pub six_well : IsWell six_unit
six_well = record {
  classes = well_class;
  fields = well_field;
  methods = well_method;
  classes_apart = classes_apart;
  fields_apart = fields_apart;
  few_classes = omega arith;
  few_fields = omega arith;
  few_references = lit≤ tt;
  few_methods = omega arith;
}
