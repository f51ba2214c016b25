-- Both are numbers without a sign.
use Rattle.std.proofs.Common.{ap, ◌∙◌}
use Rattle.std.specs.Prelude.{◌==◌, pos}
use Rattle.std.specs.Ordering.{int_eq}
use Rattle.gate_arith.specs.Numbers.{number}
use Rattle.gate_arith.specs.Operations.{bits, shown}
use Rattle.rel_gates.proofs.BitRows.{number_of_constants, same_numbers}
use Rattle.rel_gates.proofs.bits.is_number.Goals as goal

pub returns-clause-truth : goal.returns-clause-truth
returns-clause-truth c =
    let nodes = c.args.gates.now in
    let row = c.args.row.now in
    let constants = c.in_ok-constants.constants.items in
    record {
      of = c.in_ok-gate.ensures.same.of;
      value_is = λ inputs.
          c.in_ok-gate.ensures.same.value_is inputs
          ∙ ap (λ gs. int_eq (shown nodes gs inputs) (shown nodes c.deref-3.result.now inputs)) c.deref-2.ensures.value
          ∙ ap (λ z. int_eq z (shown nodes c.deref-3.result.now inputs)) (c.in_ok-a.ensures.shown inputs)
          ∙ ap (λ gs. int_eq (pos (number (bits inputs nodes row))) (shown nodes gs inputs)) c.deref-3.ensures.value
          ∙ ap (λ z. int_eq (pos (number (bits inputs nodes row))) z) (c.in_ok-b.ensures.shown inputs)
          ∙ same_numbers (number (bits inputs nodes row)) (number (bits inputs nodes c.deref.result.now))
          ∙ ap (λ gs. number (bits inputs nodes row) == number (bits inputs nodes gs)) c.deref.ensures.value
          ∙ ap (λ n. number (bits inputs nodes row) == n) (number_of_constants nodes _ c.args.wanted constants inputs c.in_ok-constants.ensures c.requires.fits);
    }
