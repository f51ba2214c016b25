use Rattle.std.proofs.Common.{◌≡◌, ℕ, List, [], ◌∷◌, ◌++◌, Some, refl, ap, ◌∙◌, arith, subst}
use Rattle.taco_unit.specs.declared.unit.ClassDef.{ClassDef}
use Rattle.taco_unit.specs.Parts.{Parts}
use Rattle.taco_unit.specs.Well.{IsWell, IsWellClass}
use Rattle.taco_unit.proofs.Lists.{only}
use Rattle.taco_unit.proofs.tests.one_class.Goals as goal

-- the unit of one class B without members
abbrev the_class : List ℕ → ClassDef
the_class name = record { name = name; fields = []; methods = []; invariants = [] }

abbrev the_unit : Parts
the_unit = record { classes = the_class (66 ∷ []) ∷ []; fields = []; methods = [] }

well : IsWell the_unit
well = record {
  classes = only (IsWellClass the_unit) (the_class (66 ∷ [])) (record { named = refl; lists_fields = refl; lists_methods = refl; invariants = refl; few_invariants = omega arith });
  fields = λ f d is. absurd (cc);
  methods = λ m d is. absurd (cc);
  classes_apart = λ i j d lt within. absurd (omega arith);
  fields_apart = λ i j d lt within. absurd (omega arith);
  few_classes = omega arith;
  few_fields = omega arith;
  few_references = omega arith;
  few_methods = omega arith;
}

pub returns : goal.returns
returns c =
    let named : c.in_ok-name.name ≡ 66 ∷ [] = c.in_ok-name.ensures in
    let made : c.bare_class.result ≡ the_class (66 ∷ []) = c.bare_class.ensures ∙ ap the_class named in
    let list : c.push.new.self ≡ c.new-classes.result ++ c.bare_class.result ∷ [] = c.in_ok-push.ensures.ok in
    let empty : c.new-classes.result ≡ [] = c.new-classes.ensures in
    let whole : the_unit.classes ≡ c.push.new.self = cc in
    subst (λ classes. IsWell (record { classes = classes; fields = []; methods = [] })) whole well
