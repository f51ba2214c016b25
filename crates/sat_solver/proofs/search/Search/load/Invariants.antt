use Rattle.std.proofs.Common.{◌≡◌}
use Rattle.sat_solver.specs.Loading.{IsLoading}
use Rattle.sat_solver.proofs.search.Search.load.Given as goal

abbrev pub invariant-loop-place : goal.invariant-loop-place
invariant-loop-place l = record {
  loading : IsLoading l.place l.self;
  cnf : l.self.cnf ≡ l.fn.self.cnf;
}
