-- The ranges of a scope's and a plan's numbers. (This project's own.)
use Rattle.std.specs.Prelude.{ℕ, ◌≤◌}
use Rattle.taco_unit.specs.declared.scope.Scope.{Scope}
use Rattle.taco_unit.specs.declared.scope.Plan.{Plan}

-- at least one object and two bits; no more than heaps, numbers, loops and calls are looked at
pub record IsScope (s : Scope) : Type 0 where
  pub objects_low : 1 ≤ s.objects
  pub objects_high : s.objects ≤ 12
  pub ints_low : 2 ≤ s.ints
  pub ints_high : s.ints ≤ 16
  pub loops_high : s.loops ≤ 12
  pub calls_high : s.calls ≤ 4

-- the greatest budget of a search
abbrev pub most_conflicts : ℕ
most_conflicts = 1000000000

-- at least one worker and one round
pub record IsPlan (p : Plan) : Type 0 where
  pub workers_low : 1 ≤ p.workers
  pub workers_high : p.workers ≤ 16
  pub rounds_low : 1 ≤ p.rounds
  pub rounds_high : p.rounds ≤ 8
  pub budget_high : p.budget ≤ most_conflicts
