use Rattle.std.proofs.Common.{refl, ap, ◌∙◌, length}
use Rattle.taco_unit.specs.declared.kind.Kind.TheVariants.{Ref}
use Rattle.rel_core.specs.Shown.{slot_relation}
use Rattle.rel_core.specs.Uses.{AsSet, is_variable}
use Rattle.canon_rel.proofs.KindsKnown.{variable_sorted, receiver_known}
use Rattle.canon_rel.proofs.shape.receiver_fits.Goals as goal

pub returns-then-method-clause-sorted : goal.returns-then-method-clause-sorted
returns-then-method-clause-sorted c = λ p kinds called gives. c.in_ok-always.ensures.sorted p kinds

pub returns-clause-sorted : goal.returns-clause-sorted
returns-clause-sorted c = λ p kinds called gives.
    c.in_ok-fits.ensures.sorted p kinds
    (ap (is_variable p kinds AsSet) (c.slot.ensures ∙ ap (slot_relation c.args.at.now) c.len.ensures)
    ∙ variable_sorted p kinds c.args.at.now (length c.args.method.now.params) (Ref c.args.method.now.class) (receiver_known p kinds gives c.args.method.now called c.if-method.false) refl)
