use Rattle.std.proofs.Common.{false, ◌&&◌, sym, ap, ◌∙◌}
use Rattle.std.specs.Option.{option_map_or}
use Rattle.rel_core.specs.Meaning.{holds}
use Rattle.canon_rel.specs.Shape.{receiver_fits, roots_fit}
use Rattle.canon_rel.proofs.shape.roots_fit.Goals as goal

pub returns-clause-meaning : goal.returns-clause-meaning
returns-clause-meaning c = λ m.
    c.in_ok-both.ensures.meaning m ∙ ap (λ b. b && holds c.in_ok-arguments.arguments m) (c.in_ok-receiver.ensures.meaning m)
    ∙ ap (λ b. receiver_fits c.args.at.now m c.method_in-method.result.now && b) (c.in_ok-arguments.ensures.meaning m)
    ∙ sym (ap (λ d. option_map_or (roots_fit c.args.at.now m) d false) c.method_in-method.ensures.there)

pub returns-clause-sorted : goal.returns-clause-sorted
returns-clause-sorted c = λ kinds gives.
    let p = c.args.problem.now in
    c.in_ok-both.ensures.sorted p kinds (c.in_ok-receiver.ensures.sorted p kinds c.method_in-method.ensures.there gives)
    (c.in_ok-arguments.ensures.sorted p kinds c.method_in-method.ensures.there gives)
