use Rattle.std.proofs.Common.{◌≤◌, length, arith}
use Rattle.typed_core.specs.Members.{class_defs}
use Rattle.typed_core.proofs.WellUnit.{as_many}
use Rattle.typed_core.proofs.unit.make_unit.Goals as goal

pub class_defs-requires-clause-few_classes : goal.class_defs-requires-clause-few_classes
class_defs-requires-clause-few_classes c =
    let few : length (class_defs c.args.built.fields c.args.built.methods 0 c.args.built.classes) ≤ 16 = c.requires.few_classes in
    omega (arith, as_many c.args.built.fields c.args.built.methods 0 c.args.built.classes, few)
