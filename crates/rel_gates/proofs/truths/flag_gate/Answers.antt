-- The only gate of the relation.
use Rattle.rel_gates.proofs.Inclusions.{flag_truth}
use Rattle.rel_gates.proofs.OfSets.{named_count}
use Rattle.rel_gates.proofs.truths.flag_gate.Goals as goal

pub returns : goal.returns
returns c =
    let p = c.args.problem.now in
    let es = c.args.relations.now in
    let rows = c.gates_for-list.result.now in
    flag_truth p es c.args.gates.now c.args.relation rows c.index-list-0.result c.gates_for-list.ensures (named_count es c.args.relation 1 rows c.requires.named c.gates_for-list.ensures)
    c.well_posed.ensures.scope.scope.objects_low c.requires.stand c.index-list-0.is
