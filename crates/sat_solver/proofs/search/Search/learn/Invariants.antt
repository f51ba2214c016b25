use Rattle.sat_solver.proofs.search.Search.learn.Given as goal

abbrev pub ghost-of : goal.ghost-of
ghost-of g a = g.clauses
