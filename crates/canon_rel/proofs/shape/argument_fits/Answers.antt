use Rattle.std.proofs.Common.{sym, ap, ◌∙◌}
use Rattle.taco_unit.specs.Kinds.{is_class_kind}
use Rattle.rel_core.specs.Uses.{AsSet, is_variable}
use Rattle.canon_rel.specs.Shape.{is_one_value}
use Rattle.rel_core.specs.Shown.{slot_relation}
use Rattle.canon_rel.proofs.KindsKnown.{variable_sorted}
use Rattle.canon_rel.proofs.Pieces.{unspoken}
use Rattle.canon_rel.proofs.shape.argument_fits.Goals as goal

pub returns-in_ok-fits-in-Ref-clause-sorted : goal.returns-in_ok-fits-in-Ref-clause-sorted
returns-in_ok-fits-in-Ref-clause-sorted c = λ p kinds known.
    c.in_ok-fits-in-Ref.ensures.sorted p kinds
    (ap (is_variable p kinds AsSet) c.slot.ensures ∙ variable_sorted p kinds c.args.at.now c.args.variable c.args.param.now.kind known (ap is_class_kind c.in-Ref.is))

pub returns-in_ok-always-in_default : goal.returns-in_ok-always-in_default
returns-in_ok-always-in_default c = record {
  meaning = λ m. c.in_ok-always-in_default.ensures.meaning m
      ∙ sym (unspoken c.args.param.now.kind (λ k. is_one_value m c.args.at.now k (m.refs (slot_relation c.args.at.now c.args.variable) 0)) c.in_default.not-Ref);
  sorted = λ p kinds known. c.in_ok-always-in_default.ensures.sorted p kinds;
}
