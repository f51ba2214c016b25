use Rattle.std.proofs.Common.{true, sym, ap, ◌∙◌, ◌∷◌, ◌++◌, [], arith}
use Rattle.std.specs.Prelude.{slice_get}
use Rattle.std.specs.List.{list_all, range_with_len}
use Rattle.std.specs.Option.{option_map_or}
use Rattle.canon_rel.specs.Shape.{argument_fits}
use Rattle.canon_rel.proofs.Gathered.{no_parts, more_parts}
use Rattle.canon_rel.proofs.KindsKnown.{param_known}
use Rattle.canon_rel.proofs.shape.arguments_fit.Goals as goal

pub loop-variable-init : goal.loop-variable-init
loop-variable-init c = no_parts c.new-parts.result c.new-parts.ensures

pub loop-variable-preserved : goal.loop-variable-preserved
loop-variable-preserved c =
    more_parts c.loop-variable.variable c.loop-variable.parts c.push.new.self c.in_ok-part.part c.loop-variable.invariant
    (c.in_ok-push.ensures.ok ∙ ap (λ f. c.loop-variable.parts ++ f ∷ []) c.into_inner.ensures)
    (λ m inside. c.in_ok-part.ensures.meaning m ∙ sym (ap (λ q. option_map_or (argument_fits c.args.at.now m c.loop-variable.variable) q true) c.param_at.ensures))
    (λ p kinds so. c.in_ok-part.ensures.sorted p kinds (param_known p kinds so.1 c.args.method.now so.0 c.loop-variable.variable c.param_at.result.now c.param_at.ensures))

pub returns-clause-meaning : goal.returns-clause-meaning
returns-clause-meaning c = λ m.
    c.in_ok-all.ensures.meaning m ∙ c.loop-variable.invariant.meaning m tt
    ∙ ap (λ n. list_all (λ x. option_map_or (argument_fits c.args.at.now m x) (slice_get c.args.method.now.params x) true) (range_with_len 0 n))
    (omega (arith, c.loop-variable-test.false, c.loop-variable.auto.variable-end, c.len-count.ensures))

pub returns-clause-sorted : goal.returns-clause-sorted
returns-clause-sorted c = λ p kinds called gives. c.in_ok-all.ensures.sorted p kinds (c.loop-variable.invariant.sorted p kinds (called, gives))
