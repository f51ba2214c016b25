use Rattle.std.proofs.Common.{false, ap, ◌∙◌}
use Rattle.std.specs.Option.{option_map_or}
use Rattle.heap_core.specs.Outcomes.{is_object}
use Rattle.rel_core.specs.Meaning.{only_object}
use Rattle.rel_core.specs.Shown.{live_relation}
use Rattle.rel_core.specs.Uses.{AsFlag, is_spread}
use Rattle.canon_rel.proofs.Pieces.{flag_of_one}
use Rattle.canon_rel.proofs.objects.is_live.Goals as goal

pub returns-clause-meaning : goal.returns-clause-meaning
returns-clause-meaning c = λ m inside.
    c.in_ok-live.ensures.meaning m ∙ ap (λ s. option_map_or (m.flag c.live.result) (only_object m s) false) (c.in_ok-one.ensures.meaning m)
    ∙ ap (λ r. option_map_or (m.flag r) (only_object m (is_object c.args.object)) false) c.live.ensures ∙ flag_of_one m (live_relation c.args.at.now) c.args.object inside

pub returns-clause-sorted : goal.returns-clause-sorted
returns-clause-sorted c = λ p kinds inside. c.in_ok-live.ensures.sorted p kinds (c.in_ok-one.ensures.sorted p kinds inside) (ap (is_spread p kinds AsFlag) c.live.ensures)
