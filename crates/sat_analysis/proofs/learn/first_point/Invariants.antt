use Rattle.sat_analysis.proofs.learn.first_point.Given as goal

abbrev pub ghost-start : goal.ghost-start
ghost-start g a = g.known

abbrev pub ghost-go_back : goal.ghost-go_back
ghost-go_back g a = g.known
