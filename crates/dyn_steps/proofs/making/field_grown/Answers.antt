use Rattle.std.proofs.Common.{ap, ◌∙◌}
use Rattle.rel_core.specs.declared.relation.RelVar.{RelVar}
use Rattle.rel_core.specs.declared.relation.What.TheVariants.{Field}
use Rattle.dyn_steps.specs.Meanings.{is_grown}
use Rattle.dyn_steps.proofs.Combining.{both_of}
use Rattle.dyn_steps.proofs.Growing.{first_of, field_spread, field_changes}
use Rattle.dyn_steps.proofs.making.field_grown.Goals as goal

pub returns-clause-meaning : goal.returns-clause-meaning
returns-clause-meaning c = λ m.
    c.in_ok-both.ensures.meaning m
    ∙ both_of _ _ _ _
    (c.in_ok-first.ensures.meaning m ∙ first_of m _ _ _ _ c.kind_of_field-kind.ensures c.in_ok-given.ensures)
    (c.in_ok-grown.ensures.meaning m ∙ ap (λ (r : RelVar). is_grown m c.args.variable (Field c.args.field) c.args.from.now.next r.index) c.field-old.ensures)

pub returns-clause-sorted : goal.returns-clause-sorted
returns-clause-sorted c = λ p kinds same known below variable.
    c.in_ok-both.ensures.sorted p kinds
    (c.in_ok-first.ensures.sorted p kinds below (field_spread p kinds c.args.declared.now c.args.field _ _ _ c.kind_of_field-kind.ensures c.in_ok-given.ensures same known))
    (c.in_ok-grown.ensures.sorted p kinds variable (field_changes p kinds c.args.declared.now c.args.field c.args.from.now.next c.field-old.result.index same known))
