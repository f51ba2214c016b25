use Rattle.std.proofs.Common.{sym, ap, ◌∙◌}
use Rattle.std.specs.Prelude.{nat_lt, if◌then◌else◌}
use Rattle.std.proofs.lemmas.Bool.{and_from}
use Rattle.taco_unit.specs.Kinds.{is_class_kind}
use Rattle.rel_core.specs.Laws.{is_of_shown}
use Rattle.rel_core.specs.Shown.{field_relation}
use Rattle.rel_core.specs.Uses.{AsSet, is_spread}
use Rattle.canon_rel.specs.Shape.{is_one_value, is_nothing}
use Rattle.canon_rel.proofs.KindsKnown.{field_sorted}
use Rattle.canon_rel.proofs.Pieces.{unspoken}
use Rattle.canon_rel.proofs.shape.field_fits.Goals as goal

pub returns-in_ok-fits-in-Ref-clause-sorted : goal.returns-in_ok-fits-in-Ref-clause-sorted
returns-in_ok-fits-in-Ref-clause-sorted c = λ p kinds inside there.
    c.in_ok-fits-in-Ref.ensures.sorted p kinds inside
    (and_from (nat_lt c.args.object p.scope.objects) (is_spread p kinds AsSet c.field.result) inside
    (ap (is_spread p kinds AsSet) c.field.ensures ∙ field_sorted p kinds c.args.at.now c.args.field c.args.def.now there (ap is_class_kind c.in-Ref.is)))

pub returns-in_ok-always-in_default : goal.returns-in_ok-always-in_default
returns-in_ok-always-in_default c = record {
  meaning = λ m inside.
      c.in_ok-always-in_default.ensures.meaning m
      ∙ sym (unspoken c.args.def.now.kind
      (λ k. if is_of_shown m c.args.at.now c.args.def.now.class c.args.object then is_one_value m c.args.at.now k
      (m.refs (field_relation c.args.at.now c.args.field) c.args.object) else is_nothing m (m.refs (field_relation c.args.at.now c.args.field) c.args.object))
      c.in_default.not-Ref);
  sorted = λ p kinds inside there. c.in_ok-always-in_default.ensures.sorted p kinds;
}
