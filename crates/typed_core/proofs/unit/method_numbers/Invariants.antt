use Rattle.std.proofs.Common.{◌≡◌, ◌++◌, drop, map}
use Rattle.taco_unit.specs.declared.unit.MethodDef.{MethodDef}
use Rattle.typed_core.specs.Members.{numbers_of}
use Rattle.typed_core.proofs.unit.method_numbers.Given as goal

abbrev pub invariant-loop-method : goal.invariant-loop-method
invariant-loop-method l =
    (l.number ≡ l.method-index)
    × (l.numbers ++ numbers_of l.owner l.number (map (λ (d : MethodDef). d.class) (drop l.method-index l.methods)) ≡ numbers_of l.owner 0 (map (λ (d : MethodDef). d.class) l.methods))
