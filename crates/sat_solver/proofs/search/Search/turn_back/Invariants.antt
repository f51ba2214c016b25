use Rattle.sat_solver.specs.Search.{known_by}
use Rattle.sat_solver.proofs.search.Search.turn_back.Given as goal

abbrev pub ghost-refute_by : goal.ghost-refute_by
ghost-refute_by a = known_by a.self.now.cnf a.self.now.log

abbrev pub ghost-learn_in_time : goal.ghost-learn_in_time
ghost-learn_in_time a = known_by a.self.now.cnf a.self.now.log
