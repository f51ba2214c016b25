-- The sign is not set.
use Rattle.std.proofs.Common.{◌∷◌, ◌++◌, [], ap, ◌∙◌}
use Rattle.gate_arith.specs.Operations.{shown}
use Rattle.rel_gates.proofs.BitRows.{shown_unsigned}
use Rattle.rel_gates.proofs.bits.unsigned.Goals as goal

pub returns-clause-shown : goal.returns-clause-shown
returns-clause-shown c = λ inputs.
    let nodes = c.args.gates.now in
    ap (λ gs. shown nodes gs inputs)
    (c.in_ok-push.ensures.items ∙ ap (λ gs. gs ++ c.constant.result ∷ []) (c.in_ok-extend_from_slice.ensures.items ∙ ap (λ gs. gs ++ c.args.row.now) c.in_ok-list.ensures.items))
    ∙ shown_unsigned nodes c.args.row.now c.constant.result inputs (c.constant.ensures.value inputs)
