use Rattle.std.proofs.Common.{rules, ◌≡◌, Some}
use Rattle.std.specs.Prelude.{slice_get}
use Rattle.jml_rel.proofs.fields.of_field.Goals as goal

pub returns-in_ok-given-in-Some-clause-sorted : goal.returns-in_ok-given-in-Some-clause-sorted
returns-in_ok-given-in-Some-clause-sorted c kinds below =
    let there : slice_get c.args.problem.now.unit.fields c.args.field ≡ Some c.in-Some.declared.now = search (rules, c.in-Some.ensures) in
    c.in_ok-given-in-Some.ensures.sorted c.args.problem.now kinds there below

pub returns-in_ok-always-in-None-clause-sorted : goal.returns-in_ok-always-in-None-clause-sorted
returns-in_ok-always-in-None-clause-sorted c kinds below = c.in_ok-always-in-None.ensures.sorted c.args.problem.now kinds
