use Rattle.sat_analysis.proofs.learn.Learnt.of.Given as goal

abbrev pub ghost-first_point : goal.ghost-first_point
ghost-first_point g a = g.known

abbrev pub ghost-conclude : goal.ghost-conclude
ghost-conclude g a = g.known
