-- One place more.
use Rattle.std.proofs.Common.{◌+◌, ◌<◌, length, sym, subst, arith}
use Rattle.gate_core.specs.Circuit.{IsOf}
use Rattle.gate_arith.specs.Choice.{IsChoice}
use Rattle.gate_arith.proofs.Choices.{chosen_more}
use Rattle.gate_arith.proofs.choose.choose.Goals as goal

pub loop-place-preserved : goal.loop-place-preserved
loop-place-preserved c =
    let x = c.index-a-place.result in
    let y = c.index-b-place.result in
    let place = c.loop-place.place in
    let in_a : place < length c.args.a.now = omega arith in
    let in_b : place < length c.args.b.now = omega (arith, c.requires.wide) in
    let of_x : IsOf c.args.gates.now x = grind (arith, c.requires.left place x in_a, c.index-a-place.is) in
    let of_y : IsOf c.args.gates.now y = grind (arith, c.requires.right place y in_b, c.index-b-place.is) in
    subst (λ s. IsChoice c.args.gates.now c.choice.new.gates c.args.condition c.args.a.now c.args.b.now (place + 1) s) (sym c.in_ok-push.ensures.items)
    (chosen_more c.args.gates.now c.loop-place.gates c.choice.new.gates c.args.condition c.args.a.now c.args.b.now place x y c.in_ok-gate.gate
    c.loop-place.chosen.items c.loop-place.invariant in_a in_b c.index-a-place.is c.index-b-place.is of_x of_y c.requires.condition c.in_ok-gate.ensures.truth c.in_ok-gate.ensures.keeps)
