use Rattle.std.proofs.Common.{◌≡◌, List, Some, subst}
use Rattle.std.specs.Prelude.{slice_get}
use Rattle.taco_unit.specs.declared.unit.MethodDef.{MethodDef}
use Rattle.taco_unit.specs.Well.{IsWellMethod}
use Rattle.boolean_trial.proofs.trial.method_at.Goals as goal

pub returns-clause-well : goal.returns-clause-well
returns-clause-well c =
    let method = c.item_at.result.now in
    let at_method : List MethodDef → Type 0 = λ methods. slice_get methods c.args.method ≡ Some method in
    let there : slice_get c.unit.inside.methods c.args.method ≡ Some method = subst at_method c.as_slice.ensures c.item_at.ensures in
    subst (λ u. IsWellMethod u method) c.unit.view_is (c.unit.invariant.methods c.args.method method there)
