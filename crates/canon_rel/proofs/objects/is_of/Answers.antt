use Rattle.std.proofs.Common.{◌&&◌, ap, ◌∙◌}
use Rattle.heap_core.specs.Outcomes.{is_object}
use Rattle.rel_core.specs.Meaning.{are_of, holds}
use Rattle.rel_core.specs.Shown.{live_relation, class_relation}
use Rattle.rel_core.specs.Uses.{AsClass, is_spread}
use Rattle.canon_rel.proofs.Pieces.{class_of_one}
use Rattle.canon_rel.proofs.objects.is_of.Goals as goal

pub returns-clause-meaning : goal.returns-clause-meaning
returns-clause-meaning c = λ m inside.
    c.in_ok-of.ensures.meaning m ∙ ap (λ b. b && holds c.in_ok-class.class m) (c.in_ok-live.ensures.meaning m inside)
    ∙ ap (λ b. m.flag (live_relation c.args.at.now) c.args.object && b)
    (c.in_ok-class.ensures.meaning m ∙ ap (λ s. are_of m s c.args.class c.class.result) (c.in_ok-one.ensures.meaning m)
    ∙ ap (λ r. are_of m (is_object c.args.object) c.args.class r) c.class.ensures ∙ class_of_one m c.args.class (class_relation c.args.at.now) c.args.object inside)

pub returns-clause-sorted : goal.returns-clause-sorted
returns-clause-sorted c = λ p kinds inside.
    c.in_ok-of.ensures.sorted p kinds (c.in_ok-live.ensures.sorted p kinds inside)
    (c.in_ok-class.ensures.sorted p kinds (c.in_ok-one.ensures.sorted p kinds inside) (ap (is_spread p kinds AsClass) c.class.ensures))
