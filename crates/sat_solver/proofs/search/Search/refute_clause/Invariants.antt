use Rattle.sat_solver.proofs.search.Search.refute_clause.Given as goal

abbrev pub ghost-refute : goal.ghost-refute
ghost-refute g a = g.clauses
