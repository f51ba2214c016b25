-- Both are numbers without a sign.
use Rattle.std.proofs.Common.{not, ap, ◌∙◌}
use Rattle.std.specs.Prelude.{nat_lt, int_lt, pos}
use Rattle.gate_arith.specs.Numbers.{number}
use Rattle.gate_arith.specs.Operations.{bits, shown}
use Rattle.rel_gates.proofs.BitRows.{number_of_constants}
use Rattle.rel_gates.proofs.bits.is_at_most.Goals as goal

pub returns-clause-truth : goal.returns-clause-truth
returns-clause-truth c =
    let nodes = c.args.gates.now in
    let row = c.args.row.now in
    let constants = c.in_ok-constants.constants.items in
    record {
      of = c.not.ensures.of _ c.in_ok-above.ensures.below.of;
      value_is = λ inputs.
          c.not.ensures.value inputs _
          ∙ ap not (c.in_ok-above.ensures.below.value_is inputs
          ∙ ap (λ gs. int_lt (shown nodes gs inputs) (shown nodes c.deref-3.result.now inputs)) c.deref-2.ensures.value
          ∙ ap (λ z. int_lt z (shown nodes c.deref-3.result.now inputs)) (c.in_ok-highest.ensures.shown inputs)
          ∙ ap (λ gs. int_lt (pos (number (bits inputs nodes c.deref.result.now))) (shown nodes gs inputs)) c.deref-3.ensures.value
          ∙ ap (λ z. int_lt (pos (number (bits inputs nodes c.deref.result.now))) z) (c.in_ok-number.ensures.shown inputs)
          ∙ ap (λ gs. nat_lt (number (bits inputs nodes gs)) (number (bits inputs nodes row))) c.deref.ensures.value
          ∙ ap (λ n. nat_lt n (number (bits inputs nodes row))) (number_of_constants nodes _ c.args.most constants inputs c.in_ok-constants.ensures c.requires.fits));
    }
