use Rattle.std.proofs.Common.{true, length, refl, ap, ◌∙◌, arith}
use Rattle.std.specs.Prelude.{slice_get}
use Rattle.rel_core.specs.declared.relation.What.TheVariants.{Field}
use Rattle.dyn_rel.proofs.Same.{same_empty, same_more, same_said}
use Rattle.dyn_rel.proofs.Joints.{known_field}
use Rattle.dyn_rel.proofs.joining.fields_equated.Goals as goal

pub loop-place-init : goal.loop-place-init
loop-place-init c = λ p same.
    same_empty p c.args.kinds.now (λ x. Field x) (λ x. true) c.args.to.now c.args.from.now _ (c.from_vec-parts.ensures ∙ c.in_ok-with_capacity.ensures.items)

pub loop-place-preserved : goal.loop-place-preserved
loop-place-preserved c = λ p same.
    let low = c.loop-place-test.true in
    let number = c.in_ok-field.ensures in
    same_more p c.args.kinds.now (λ x. Field x) (λ x. true) c.args.to.now c.args.from.now c.loop-place.place _ _ _ _ _ _ _ _
    refl (ap Field number) c.index_at-new.ensures c.index_at-old.ensures c.into_inner.ensures c.in_ok-push.ensures.ok
    (c.in_ok-same.ensures p (known_field p c.args.kinds.now c.in_ok-field.field (omega (arith, low, number, same)))) (c.loop-place.invariant p same)

pub returns : goal.returns
returns c = λ p same.
    let high = c.loop-place-test.false in
    let low = c.loop-place.auto.place-end in
    same_said p c.args.kinds.now (λ x. Field x) (λ x. true) c.args.to.now c.args.from.now c.loop-place.place _ _ c.in_ok-all.ensures.meaning
    (c.in_ok-all.ensures.sorted p (slice_get c.args.kinds.now)) (length c.args.from.now) (omega (arith, high, low)) (c.loop-place.invariant p same)
