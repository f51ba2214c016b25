-- The sum at one bit more is cut by one bit.
use Rattle.std.proofs.Common.{◌≡◌, ◌+◌, ◌-◌, length, sym, subst, arith}
use Rattle.std.specs.Prelude.{vec_len}
use Rattle.gate_arith.specs.Operations.{doubled_with, IsNumber}
use Rattle.gate_arith.proofs.multiplier.step.Goals as goal

pub returns-clause-step : goal.returns-clause-step
returns-clause-step c =
    let exact = doubled_with c.args.gates.now c.args.bit c.args.a.now c.args.number.now in
    let wide : vec_len c.in_ok-wide.wide ≡ length c.args.a.now + 1 = grind (arith, c.in_ok-wide.ensures.sum.wide) in
    let cut : vec_len c.in_ok-wide.wide - 1 ≡ length c.args.a.now = omega arith in
    subst (λ n. IsNumber c.narrow.new.gates n exact c.in_ok-number.number.0.items c.in_ok-number.number.1) cut
    (c.in_ok-number.ensures.narrow exact (subst (λ n. IsNumber c.double_and_add.new.gates n exact c.in_ok-wide.wide.items c.in_ok-wide.fits) (sym wide) c.in_ok-wide.ensures.sum))
