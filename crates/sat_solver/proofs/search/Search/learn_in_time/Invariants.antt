use Rattle.sat_solver.proofs.search.Search.learn_in_time.Given as goal

abbrev pub ghost-learn : goal.ghost-learn
ghost-learn g a = g.clauses
