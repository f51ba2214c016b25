use Rattle.std.proofs.Common.{Some, ap, ◌∙◌}
use Rattle.std.specs.Prelude.{pos}
use Rattle.std.specs.Option.{option_map_or}
use Rattle.rel_core.specs.Meaning.{only_object}
use Rattle.dyn_steps.proofs.Combining.{numbers_of}
use Rattle.dyn_steps.proofs.making.is_zero.Goals as goal

pub returns-clause-meaning : goal.returns-clause-meaning
returns-clause-meaning c = λ m. c.in_ok-same.ensures.meaning m
    ∙ numbers_of _ _ _ _ (c.in_ok-number.ensures.meaning m ∙ ap (λ s. Some (option_map_or (m.number c.args.relation) (only_object m s) (pos 0))) (c.in_ok-place.ensures.meaning m))
    (c.in_ok-zero.ensures.meaning m)

pub returns-clause-sorted : goal.returns-clause-sorted
returns-clause-sorted c = λ p kinds below live. c.in_ok-same.ensures.sorted p kinds (c.in_ok-number.ensures.sorted p kinds (c.in_ok-place.ensures.sorted p kinds below) live)
    (c.in_ok-zero.ensures.sorted p kinds)
