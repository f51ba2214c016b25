use Rattle.sat_solver.proofs.turns.empty_line.Given as goal

abbrev pub ghost-refute : goal.ghost-refute
ghost-refute g a = g.known
