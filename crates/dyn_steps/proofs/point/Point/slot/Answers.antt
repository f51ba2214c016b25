use Rattle.std.proofs.Common.{ap, ◌∙◌}
use Rattle.std.specs.Prelude.{unwrap_or, slice_get}
use Rattle.std.proofs.lemmas.Option.{unwrap_or-slice_get}
use Rattle.rel_core.specs.declared.relation.What.TheVariants.{Slot}
use Rattle.dyn_steps.proofs.point.Point.slot.Goals as goal

pub returns : goal.returns
returns c =
    ap (λ i. record { what = Slot c.args.variable; index = i })
    (c.unwrap_or-index.ensures ∙ ap (λ o. unwrap_or o 0) (c.copied.ensures ∙ c.get.ensures.value) ∙ ap (λ i. unwrap_or (slice_get c.args.self.now.vars i) 0) c.from.ensures
    ∙ unwrap_or-slice_get c.args.self.now.vars c.args.variable 0)
