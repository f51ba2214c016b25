use Rattle.std.proofs.Common.{List, sym, subst}
use Rattle.taco_unit.specs.declared.unit.ClassDef.{ClassDef}
use Rattle.taco_unit.specs.declared.unit.FieldDef.{FieldDef}
use Rattle.taco_unit.specs.declared.unit.MethodDef.{MethodDef}
use Rattle.taco_unit.specs.Well.{IsWell}
use Rattle.bounds_rows.specs.Six.{six_unit}
use Rattle.bounds_rows.proofs.Six.{six_well}
use Rattle.bounds_rows.proofs.sets.six.Goals as goal

pub invariant_of-result : goal.invariant_of-result
invariant_of-result c =
    subst (λ (l : List MethodDef). IsWell (record { classes = c.in_ok-classes.classes; fields = c.in_ok-fields.fields; methods = l })) (sym c.in_ok-methods.ensures)
    (subst (λ (l : List FieldDef). IsWell (record { classes = c.in_ok-classes.classes; fields = l; methods = six_unit.methods })) (sym c.in_ok-fields.ensures)
    (subst (λ (l : List ClassDef). IsWell (record { classes = l; fields = six_unit.fields; methods = six_unit.methods })) (sym c.in_ok-classes.ensures) six_well))
