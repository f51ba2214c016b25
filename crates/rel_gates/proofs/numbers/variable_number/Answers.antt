-- The gates of the relation are those of the number.
use Rattle.std.proofs.Common.{◌++◌, sym, subst, ap, ◌∙◌}
use Rattle.rel_core.specs.declared.numbers.NumExpr.TheVariants.{Var}
use Rattle.rel_gates.specs.Counted.{IsNumberOf}
use Rattle.rel_gates.proofs.OfSets.{named_count}
use Rattle.rel_gates.proofs.NumberForms.{variable_number_is}
use Rattle.rel_gates.proofs.numbers.variable_number.Goals as goal

pub returns : goal.returns
returns c =
    let p = c.args.problem.now in
    let es = c.args.relations.now in
    let nodes = c.args.gates.now in
    let rows = c.gates_for-list.result.now in
    subst (λ gs. IsNumberOf p es nodes (Var c.args.relation) gs c.constant.result)
    (sym (c.in_ok-extend_from_slice.ensures.items ∙ ap (λ gs. gs ++ rows) c.in_ok-bits.ensures.items))
    (variable_number_is p es nodes c.args.relation rows c.constant.result c.gates_for-list.ensures
    (named_count es c.args.relation p.scope.ints rows c.requires.named c.gates_for-list.ensures) c.well_posed.ensures.scope.scope.objects_low c.requires.stand
    (record { of = c.constant.ensures.of; value_is = c.constant.ensures.value }))
