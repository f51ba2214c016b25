use Rattle.std.proofs.Common.{◌≡◌, length, subst, arith}
use Rattle.canonical_order.proofs.NumbersLemmas.{AreFilled, all_filled}
use Rattle.canonical_order.proofs.numbering.Numbers.new.Goals as goal

pub invariant_of-result : goal.invariant_of-result
invariant_of-result c =
    let order = c.args.order.now in
    let all : c.loop-place.place ≡ length order = omega (arith, c.loop-place-test.false, c.loop-place.auto.place-end) in
    all_filled c.loop-place.table.items order c.requires.each_once (subst (AreFilled c.loop-place.table.items order) all c.loop-place.invariant)
