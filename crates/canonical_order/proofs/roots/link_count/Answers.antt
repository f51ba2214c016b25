use Rattle.std.proofs.Common.{◌≡◌, length, ap, sym, subst, ◌∙◌}
use Rattle.std.specs.Prelude.{count_by}
use Rattle.taco_unit.specs.Parts.{Parts}
use Rattle.taco_unit.specs.Kinds.{is_class_kind}
use Rattle.canonical_order.specs.Tuples.{links_of}
use Rattle.canonical_order.proofs.TupleOrder.{length-links}
use Rattle.canonical_order.proofs.roots.link_count.Goals as goal

pub returns-clause-value : goal.returns-clause-value
returns-clause-value c =
    c.of_class_kind.ensures ∙ ap (count_by (λ d. is_class_kind d.kind)) c.as_slice.ensures ∙ subst (λ (u : Parts). count_by (λ d. is_class_kind d.kind) c.unit.inside.fields ≡ length (links_of u)) c.unit.view_is (sym (length-links (record { classes = c.unit.inside.classes; fields = c.unit.inside.fields; methods = c.unit.inside.methods })))
