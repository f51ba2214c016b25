use Rattle.sat_solver.proofs.search.Search.refute_by.Given as goal

abbrev pub ghost-empty_line : goal.ghost-empty_line
ghost-empty_line g a = g.clauses
