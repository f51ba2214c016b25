use Rattle.std.proofs.Common.{ap, ◌∙◌}
use Rattle.std.specs.Prelude.{is_some, slice_get}
use Rattle.rel_core.specs.Meaning.{holds}
use Rattle.rel_core.specs.Uses.{is_sorted}
use Rattle.dyn_steps.specs.Meanings.{field_grown}
use Rattle.dyn_steps.proofs.Growing.{list_gathered, all_gathered, all_item}
use Rattle.dyn_steps.proofs.making.fields_grown.Goals as goal

pub loop-field-preserved : goal.loop-field-preserved
loop-field-preserved c = (
  λ m.
      list_gathered (λ a. holds a m) (field_grown m c.args.declared.now c.args.from.now.at c.args.from.now.next c.args.variable) _ _ _ c.args.fields.now c.loop-field.field-index
      c.in_ok-push.ensures.ok c.loop-field-test.true (c.loop-field.invariant.0 m)
      (ap (λ a. holds a m) c.into_inner.ensures ∙ c.in_ok-grown.ensures.meaning m),
  λ p kinds same known below variable.
      all_gathered (is_sorted p kinds) _ _ _ c.in_ok-push.ensures.ok (c.loop-field.invariant.1 p kinds same known below variable)
      (ap (is_sorted p kinds) c.into_inner.ensures
      ∙ c.in_ok-grown.ensures.sorted p kinds same (all_item (λ f. is_some (slice_get c.args.declared.now f)) c.args.fields.now c.loop-field.field-index known c.loop-field-test.true) below variable),
)

pub returns-clause-sorted : goal.returns-clause-sorted
returns-clause-sorted c = λ p kinds same known below variable. c.in_ok-all.ensures.sorted p kinds (c.loop-field.invariant.1 p kinds same known below variable)
