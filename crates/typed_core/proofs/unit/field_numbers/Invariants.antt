use Rattle.std.proofs.Common.{◌≡◌, ◌++◌, drop, map}
use Rattle.taco_unit.specs.declared.unit.FieldDef.{FieldDef}
use Rattle.typed_core.specs.Members.{numbers_of}
use Rattle.typed_core.proofs.unit.field_numbers.Given as goal

abbrev pub invariant-loop-field : goal.invariant-loop-field
invariant-loop-field l =
    (l.number ≡ l.field-index)
    × (l.numbers ++ numbers_of l.owner l.number (map (λ (d : FieldDef). d.class) (drop l.field-index l.fields)) ≡ numbers_of l.owner 0 (map (λ (d : FieldDef). d.class) l.fields))
