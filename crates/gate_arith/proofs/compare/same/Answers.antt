-- The lower places, and then the signs.
use Rattle.std.proofs.Common.{◌≡◌, ℕ, suc, ◌-◌, Bool, length, arith, not, ◌&&◌}
use Rattle.std.specs.Prelude.{◌==◌}
use Rattle.std.specs.Ordering.{int_eq}
use Rattle.gate_core.specs.Circuit.{IsOf}
use Rattle.gate_arith.specs.Numbers.{differ}
use Rattle.gate_arith.proofs.Comparisons.{compared, same_signs}
use Rattle.gate_arith.proofs.compare.same.Goals as goal

pub returns-clause-same : goal.returns-clause-same
returns-clause-same c =
    let a = c.args.a.now in
    let b = c.args.b.now in
    let top : ℕ = length a - 1 in
    let long_a : length a ≡ suc top = omega (arith, c.requires.some) in
    let long_b : length b ≡ suc top = omega (arith, c.requires.some, c.requires.wide) in
    let x = c.index-a-top.result in
    let y = c.index-b-top.result in
    let of_x : IsOf c.args.gates.now x = grind (arith, c.requires.left top x (omega arith), c.index-a-top.is) in
    let of_y : IsOf c.args.gates.now y = grind (arith, c.requires.right top y (omega arith), c.index-b-top.is) in
    compared (λ x y. int_eq x y) (λ n m. n == m) (λ (s t v : Bool). v && not (differ s t)) c.args.gates.now c.same_low.new.gates c.and_agree.new.gates a b top x y c.in_ok-low.low c.in_ok-gate.gate
    same_signs long_a long_b c.in_ok-low.ensures.tested c.index-a-top.is c.index-b-top.is of_x of_y c.in_ok-gate.ensures.truth
