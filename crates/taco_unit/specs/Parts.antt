use Rattle.std.specs.Prelude.{List}
use Rattle.taco_unit.specs.declared.unit.ClassDef.{ClassDef}
use Rattle.taco_unit.specs.declared.unit.FieldDef.{FieldDef}
use Rattle.taco_unit.specs.declared.unit.MethodDef.{MethodDef}

-- what contracts see of a unit
pub record Parts : Type 0 where
  pub classes : List ClassDef
  pub fields : List FieldDef
  pub methods : List MethodDef
