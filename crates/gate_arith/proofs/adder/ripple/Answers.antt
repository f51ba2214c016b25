-- One place more.
use Rattle.std.proofs.Common.{◌+◌, ◌<◌, length, sym, subst, arith}
use Rattle.gate_core.specs.Circuit.{IsOf}
use Rattle.gate_arith.specs.Ripple.{IsPartial}
use Rattle.gate_arith.proofs.Ripple.{partial_more}
use Rattle.gate_arith.proofs.adder.ripple.Goals as goal

pub loop-place-preserved : goal.loop-place-preserved
loop-place-preserved c =
    let x = c.index-a-place.result in
    let y = c.index-b-place.result in
    let place = c.loop-place.place in
    let in_a : place < length c.args.a.now = omega arith in
    let in_b : place < length c.args.b.now = omega (arith, c.requires.wide) in
    let of_x : IsOf c.args.gates.now x = grind (arith, c.requires.left place x in_a, c.index-a-place.is) in
    let of_y : IsOf c.args.gates.now y = grind (arith, c.requires.right place y in_b, c.index-b-place.is) in
    subst (λ s. IsPartial c.args.gates.now c.full_add.new.gates c.args.a.now c.args.b.now c.args.first (place + 1) s c.in_ok-bit.next) (sym c.in_ok-push.ensures.items)
    (partial_more c.args.gates.now c.loop-place.gates c.full_add.new.gates c.args.a.now c.args.b.now c.args.first place x y c.loop-place.carry c.in_ok-bit.bit c.in_ok-bit.next
    c.loop-place.sum.items c.loop-place.invariant in_a in_b c.index-a-place.is c.index-b-place.is of_x of_y c.in_ok-bit.ensures.sum c.in_ok-bit.ensures.keeps)
