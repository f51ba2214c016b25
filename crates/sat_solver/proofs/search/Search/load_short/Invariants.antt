use Rattle.sat_solver.specs.Search.{known_by}
use Rattle.sat_solver.proofs.search.Search.load_short.Given as goal

abbrev pub ghost-refute_clause : goal.ghost-refute_clause
ghost-refute_clause a = known_by a.self.now.cnf a.self.now.log
