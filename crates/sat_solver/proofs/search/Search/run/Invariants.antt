use Rattle.std.proofs.Common.{◌≡◌}
use Rattle.sat_solver.specs.Answers.{IsWithin, rank_of}
use Rattle.sat_solver.specs.Steps.{IsSearch}
use Rattle.sat_solver.proofs.search.Search.run.Given as goal

abbrev pub invariant-turns : goal.invariant-turns
invariant-turns l = record {
  search : IsSearch l.self;
  within : IsWithin l.budget l.self.log;
  cnf : l.self.cnf ≡ l.fn.self.cnf;
}

abbrev pub decreases-turns : goal.decreases-turns
decreases-turns l = rank_of l.self
