use Rattle.std.proofs.Common.{ap, sym, subst, ◌∙◌}
use Rattle.java_tree.specs.Seen.{classes_tree}
use Rattle.declared_names.specs.Seen.{Stands}
use Rattle.typed_core.specs.declared.fault.NameFault.{NameFault}
use Rattle.typed_core.specs.Members.{resolved}
use Rattle.typed_core.specs.Resolved.{Refuses}
use Rattle.typed_core.proofs.Refusal.{refused, resolved_is, well_built}
use Rattle.typed_core.proofs.resolution.resolve.Goals as goal

pub make_unit-requires : goal.make_unit-requires
make_unit-requires c = well_built (classes_tree c.args.tree.now) c.in-Ok.built (sym c.in_ok-built.ensures ∙ c.in-Ok.is)

pub returns-in_ok-unit-in-Ok : goal.returns-in_ok-unit-in-Ok
returns-in_ok-unit-in-Ok c = resolved_is (classes_tree c.args.tree.now) c.in-Ok.built (sym c.in_ok-built.ensures ∙ c.in-Ok.is) ∙ ap Stands (sym c.in_ok-unit-in-Ok.ensures)

pub returns-in-Err : goal.returns-in-Err
returns-in-Err c =
    let P : NameFault → Type 0 = λ x. Refuses (resolved (classes_tree c.args.tree.now)) x in
    subst P (sym c.name_fault.ensures) (refused (classes_tree c.args.tree.now) c.in-Err.fault (sym c.in_ok-built.ensures ∙ c.in-Err.is))
