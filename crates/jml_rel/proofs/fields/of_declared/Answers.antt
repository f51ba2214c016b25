use Rattle.std.proofs.Common.{rules, ◌≡◌, true}
use Rattle.heap_core.specs.Judge.{must_be_there}
use Rattle.jml_rel.proofs.Objects.{needed_spread}
use Rattle.jml_rel.proofs.fields.of_declared.Goals as goal

pub returns-in_ok-given-clause-sorted : goal.returns-in_ok-given-clause-sorted
returns-in_ok-given-clause-sorted c p kinds there below =
    let must : must_be_there c.args.declared.now.kind c.args.declared.now.nullable ≡ true = search rules in
    c.in_ok-given.ensures.sorted p kinds (c.in_ok-null.ensures.sorted p kinds below
    (needed_spread p kinds c.args.at.now c.args.field c.args.declared.now c.field.result there must c.field.ensures))

pub returns-in_ok-always-clause-sorted : goal.returns-in_ok-always-clause-sorted
returns-in_ok-always-clause-sorted c p kinds there below = c.in_ok-always.ensures.sorted p kinds
