-- What the words of a command line ask for. (This project's own.)
--
-- The first word names the command. What the words behind it mean to a simple command is what the clauses of `clap`
-- say: its faults, a demand for help among them, and the value of each word and option. Numbers and lists are read
-- here. A number that the words do not give has its usual value, also where the command has no such option.
use Rattle.std.specs.Prelude.{ℕ, List, [], ◌∷◌, Option, Some, None, option_map, codes}
use Rattle.taco_unit.specs.declared.scope.Scope.{Scope}
use Rattle.taco_unit.specs.declared.scope.Plan.{Plan}
use Rattle.clap.specs.Words.{Row, Text, first_of}
use Rattle.taco_words.specs.declared.request.Job.{Job}
use Rattle.taco_words.specs.declared.request.Request.{Request}
use Rattle.taco_words.specs.declared.request.Request.TheVariants as request
use Rattle.taco_words.specs.Numbers.{number_in, number_up_to, list_below}
use Rattle.taco_words.specs.declared.commands.Task.{Task}
use Rattle.taco_words.specs.declared.commands.Task.TheVariants as task
use Rattle.taco_words.specs.Commands.{task_named, app_for}
use Rattle.taco_words.specs.Parsing.{taken}
use Rattle.taco_unit.specs.Scopes.{most_conflicts}
use Rattle.taco_words.specs.Limits.{most_stress}

-- the number of an option, by its range and its usual value
abbrev pub number_of : Text → ℕ → ℕ → ℕ → List Row → Option ℕ
number_of option least most usual rows = number_in least most usual (first_of option rows)

abbrev pub scope_from : Option ℕ → Option ℕ → Option ℕ → Option ℕ → Option Scope
scope_from (Some objects) (Some ints) (Some loops) (Some calls) = Some (record { objects = objects; ints = ints; loops = loops; calls = calls })
scope_from _ _ _ _ = None

abbrev pub scope_of : List Row → Option Scope
scope_of rows = scope_from (number_of (codes "objects") 1 12 3 rows) (number_of (codes "ints") 2 16 4 rows) (number_of (codes "loops") 0 12 3 rows) (number_of (codes "calls") 0 4 2 rows)

abbrev pub plan_from : Option ℕ → Option ℕ → Option ℕ → Option Plan
plan_from (Some workers) (Some rounds) (Some budget) = Some (record { workers = workers; rounds = rounds; budget = budget })
plan_from _ _ _ = None

abbrev pub plan_of : List Row → Option Plan
plan_of rows =
    plan_from (number_of (codes "workers") 1 16 1 rows) (number_of (codes "rounds") 1 8 1 rows) (number_of (codes "tuple-conflicts") 0 most_conflicts 0 rows)

abbrev pub job_from : Option Text → Option Text → Option Text → Option Scope → Option Plan → Option Job
job_from (Some file) (Some class) (Some method) (Some scope) (Some plan) = Some (record { file = file; class = class; method = method; scope = scope; plan = plan })
job_from _ _ _ _ _ = None

abbrev pub job_of : List Row → Option Job
job_of rows = job_from (first_of (codes "file") rows) (first_of (codes "class") rows) (first_of (codes "method") rows) (scope_of rows) (plan_of rows)

abbrev pub budget_of : List Row → Option ℕ
budget_of = number_of (codes "conflicts") 0 most_conflicts 0

-- the schedule, if there is one: numbers of workers
abbrev pub schedule_in : ℕ → Option Text → Option (Option (List ℕ))
schedule_in workers None = Some None
schedule_in workers (Some word) = option_map (λ entries. Some entries) (list_below workers word)

abbrev pub check_from : Option Job → Option ℕ → Option Request
check_from (Some job) (Some budget) = Some (request.Check job budget)
check_from _ _ = None

abbrev pub check_of : List Row → Option Request
check_of rows = check_from (job_of rows) (budget_of rows)

abbrev pub bounds_from : Option Job → Option Text → Option Request
bounds_from None word = None
bounds_from (Some job) word = option_map (λ schedule. request.Bounds job schedule) (schedule_in job.plan.workers word)

abbrev pub bounds_of : List Row → Option Request
bounds_of rows = bounds_from (job_of rows) (first_of (codes "schedule") rows)

abbrev pub replay_from : Option Job → Option Text → Option Request
replay_from (Some job) (Some state) = Some (request.Replay job state)
replay_from _ _ = None

abbrev pub replay_of : List Row → Option Request
replay_of rows = replay_from (job_of rows) (first_of (codes "state") rows)

abbrev pub sat_from : Option Text → Option ℕ → Option Request
sat_from (Some cnf) (Some budget) = Some (request.Sat cnf budget)
sat_from _ _ = None

abbrev pub sat_of : List Row → Option Request
sat_of rows = sat_from (first_of (codes "cnf") rows) (budget_of rows)

abbrev pub proof_from : Option Text → Option Text → Option Request
proof_from (Some cnf) (Some log) = Some (request.Proof cnf log)
proof_from _ _ = None

abbrev pub proof_of : List Row → Option Request
proof_of rows = proof_from (first_of (codes "cnf") rows) (first_of (codes "log") rows)

abbrev pub stress_from : Option Text → Option Request
stress_from None = None
stress_from (Some word) = option_map (λ number. request.Stress number) (number_up_to most_stress word)

abbrev pub stress_of : List Row → Option Request
stress_of rows = stress_from (first_of (codes "number") rows)

-- what a command's values ask for
abbrev pub request_for : Task → List Row → Option Request
request_for task.Check = check_of
request_for task.Bounds = bounds_of
request_for task.Replay = replay_of
request_for task.Sat = sat_of
request_for task.Proof = proof_of
request_for task.Stress = stress_of

-- what a command asks for with these words, of which the first is its own
abbrev pub asked_by : Option Task → List Text → Option Request
asked_by None words = None
asked_by (Some task) words = taken (app_for task) (request_for task) words

-- what the words ask for: None where they are no request
unfoldable pub asked : List Text → Option Request
asked [] = None
asked (command ∷ rest) = asked_by (task_named command) (command ∷ rest)
