use Rattle.std.proofs.Common.{arith}
use Rattle.std.specs.Prelude.{slice_get}
use Rattle.std.proofs.lemmas.Option.{slice_get-get_or}
use Rattle.dyn_rel.proofs.Rest.{zero_empty, zero_more, zero_said}
use Rattle.dyn_rel.proofs.starts.rest_is_zero.Goals as goal

pub loop-place-init : goal.loop-place-init
loop-place-init c = λ p. zero_empty p c.args.kinds.now c.args.from _ _ c.from-place.ensures c.new-parts.ensures

pub loop-place-preserved : goal.loop-place-preserved
loop-place-preserved c = λ p.
    let past = c.loop-place.auto.place in
    let first = c.from-place.ensures in
    zero_more p c.args.kinds.now c.args.from c.loop-place.place _ _ _ _ _ _ (omega (arith, past, first))
    (slice_get-get_or c.args.kinds.now c.loop-place.place _ c.loop-place-test.true) c.in_ok-variable.ensures c.into_inner.ensures c.in_ok-push.ensures.ok
    (c.in_ok-zero.ensures p c.args.kinds.now) (c.loop-place.invariant p)

pub returns : goal.returns
returns c = λ p.
    zero_said p c.args.kinds.now c.args.from c.loop-place.place _ _ c.loop-place-test.false c.in_ok-all.ensures.meaning (c.in_ok-all.ensures.sorted p (slice_get c.args.kinds.now))
    (c.loop-place.invariant p)
