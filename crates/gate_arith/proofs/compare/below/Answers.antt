-- The lower places, and then the signs.
use Rattle.std.proofs.Common.{◌≡◌, ℕ, suc, ◌-◌, Bool, length, arith}
use Rattle.std.specs.Prelude.{nat_lt, int_lt, if◌then◌else◌}
use Rattle.gate_core.specs.Circuit.{IsOf}
use Rattle.gate_arith.specs.Numbers.{differ}
use Rattle.gate_arith.proofs.Comparisons.{compared, less_signs}
use Rattle.gate_arith.proofs.compare.below.Goals as goal

pub returns-clause-below : goal.returns-clause-below
returns-clause-below c =
    let a = c.args.a.now in
    let b = c.args.b.now in
    let top : ℕ = length a - 1 in
    let long_a : length a ≡ suc top = omega (arith, c.requires.some) in
    let long_b : length b ≡ suc top = omega (arith, c.requires.some, c.requires.wide) in
    let x = c.index-a-top.result in
    let y = c.index-b-top.result in
    let of_x : IsOf c.args.gates.now x = grind (arith, c.requires.left top x (omega arith), c.index-a-top.is) in
    let of_y : IsOf c.args.gates.now y = grind (arith, c.requires.right top y (omega arith), c.index-b-top.is) in
    compared (λ x y. int_lt x y) (λ n m. nat_lt n m) (λ (s t v : Bool). if differ t s then s else v) c.args.gates.now c.below_low.new.gates c.borrow.new.gates a b top x y c.in_ok-low.low c.in_ok-gate.gate
    less_signs long_a long_b c.in_ok-low.ensures.tested c.index-a-top.is c.index-b-top.is of_x of_y c.in_ok-gate.ensures.truth
