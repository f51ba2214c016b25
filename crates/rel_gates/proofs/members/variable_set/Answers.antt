-- The gates of the relation are those of the set.
use Rattle.std.proofs.Common.{◌+◌, ◌++◌, sym, subst, ap, ◌∙◌}
use Rattle.rel_core.specs.declared.sets.RelExpr.TheVariants.{Var}
use Rattle.rel_gates.specs.Meant.{AreSet}
use Rattle.rel_gates.proofs.OfSets.{named_count, variable_members}
use Rattle.rel_gates.proofs.members.variable_set.Goals as goal

pub returns : goal.returns
returns c =
    let p = c.args.problem.now in
    let es = c.args.relations.now in
    let rows = c.gates_for-list.result.now in
    subst (λ gs. AreSet p es c.args.gates.now (Var c.args.relation) gs)
    (sym (c.in_ok-extend_from_slice.ensures.items ∙ ap (λ gs. gs ++ rows) c.in_ok-places.ensures.items))
    (variable_members p es c.args.gates.now c.args.relation rows c.gates_for-list.ensures (named_count es c.args.relation (p.scope.objects + 1) rows c.requires.named
    c.gates_for-list.ensures)
    c.well_posed.ensures.scope.scope.objects_low c.requires.stand)
