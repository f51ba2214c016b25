-- One place more.
use Rattle.std.proofs.Common.{◌<◌, Bool, length, arith}
use Rattle.std.specs.Prelude.{nat_lt, if◌then◌else◌}
use Rattle.gate_core.specs.Circuit.{IsOf}
use Rattle.gate_arith.specs.Numbers.{differ}
use Rattle.gate_arith.proofs.Comparisons.{tested_more, less_step}
use Rattle.gate_arith.proofs.compare.below_low.Goals as goal

pub loop-place-preserved : goal.loop-place-preserved
loop-place-preserved c =
    let x = c.index-a-place.result in
    let y = c.index-b-place.result in
    let place = c.loop-place.place in
    let in_a : place < length c.args.a.now = omega (arith, c.requires.in_a) in
    let in_b : place < length c.args.b.now = omega (arith, c.requires.in_b) in
    let of_x : IsOf c.args.gates.now x = grind (arith, c.requires.left place x in_a, c.index-a-place.is) in
    let of_y : IsOf c.args.gates.now y = grind (arith, c.requires.right place y in_b, c.index-b-place.is) in
    tested_more (λ n m. nat_lt n m) (λ (s t v : Bool). if differ s t then t else v) c.args.gates.now c.loop-place.gates c.borrow.new.gates c.args.a.now c.args.b.now place x y
    c.loop-place.below c.in_ok-below.below less_step c.loop-place.invariant in_a in_b c.index-a-place.is c.index-b-place.is of_x of_y c.in_ok-below.ensures.truth c.in_ok-below.ensures.keeps
