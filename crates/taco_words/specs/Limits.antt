-- The ranges of the numbers of a request.
use Rattle.std.specs.Prelude.{ℕ, ◌<◌, ◌≤◌, List, length, IfSome}
use Rattle.std.specs.List.{All}
use Rattle.taco_unit.specs.Scopes.{IsScope, IsPlan, most_conflicts}
use Rattle.taco_words.specs.declared.request.Job.{Job}
use Rattle.taco_words.specs.declared.request.Request.{Request}
use Rattle.taco_words.specs.declared.request.Request.TheVariants as request
use Rattle.taco_words.specs.Numbers.{most_entries}

-- the greatest number of a unit that is made
abbrev pub most_stress : ℕ
most_stress = 65536

pub record IsJob (job : Job) : Type 0 where
  pub scope : IsScope job.scope
  pub plan : IsPlan job.plan

-- one to 4,096 worker numbers
pub record IsSchedule (workers : ℕ) (entries : List ℕ) : Type 0 where
  pub some : 0 < length entries
  pub few : length entries ≤ most_entries
  pub each : All (λ n. n < workers) entries

-- all numbers of the request are in their ranges
abbrev pub IsWithin : Request → Type 0
IsWithin (request.Check job budget) = IsJob job × (budget ≤ most_conflicts)
IsWithin (request.Bounds job schedule) = IsJob job × IfSome schedule (IsSchedule job.plan.workers)
IsWithin (request.Replay job state) = IsJob job
IsWithin (request.Sat cnf budget) = budget ≤ most_conflicts
IsWithin (request.Proof cnf log) = Unit {0}
IsWithin (request.Stress number) = number ≤ most_stress
