use Rattle.jml_rel.proofs.heaps.of_definition.Goals as goal

pub returns-in_ok-both-in-Good-clause-sorted : goal.returns-in_ok-both-in-Good-clause-sorted
returns-in_ok-both-in-Good-clause-sorted c kinds below = c.in_ok-both-in-Good.ensures.sorted c.args.problem.now kinds
    (c.in_ok-given-in-Good.ensures.sorted kinds below) (c.in_ok-answered.ensures.sorted kinds below)
