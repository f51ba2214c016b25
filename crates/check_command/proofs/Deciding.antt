-- The check of a problem as the answer of the command.
use Rattle.std.proofs.Common.{◌≡◌, ℕ, List, [], ◌∷◌, Option, Some, refl, arith}
use Rattle.std.specs.Prelude.{IfSome, Result, Ok, Err, IfOk}
use Rattle.heap_core.specs.Posed.{Posed}
use Rattle.no_memory.specs.declared.NoMemory.{NoMemory}
use Rattle.taco_io.specs.Shelf.{Shelf, Stays}
use Rattle.taco_report.specs.declared.status.Status.{Status}
use Rattle.taco_report.specs.declared.status.Status.TheVariants as status
use Rattle.taco_words.specs.declared.request.Job.{Job}
use Rattle.command_files.specs.declared.outcome.Outcome.{Outcome}
use Rattle.command_files.specs.Answers.{IsAnswered, NoSecond}
use Rattle.command_files.specs.Outcomes.{IsOrNoMemory}
use Rattle.command_files.specs.Slots.{IsReadWhole}
use Rattle.command_files.proofs.Told.{if_told_more}
use Rattle.command_files.proofs.Walking.{IsThrough, or_wanting, said}
use Rattle.posed_files.specs.declared.problem.Unposed.{Unposed}
use Rattle.posed_files.specs.Problems.{EndsUnposed, FetchesProblem, HoldsProblem, PosesNone, java_file}
use Rattle.posed_files.proofs.Fetching.{first_read, unposed_answered}
use Rattle.check_command.specs.CheckCommand.{CheckSays}
use Rattle.check_command.specs.Decided.{CheckedBy, Checks}

module _ (job : Job) (old new : Shelf) (stays : Stays 0 old new) where
  abbrev pub Answers : Status → List ℕ → Type 0
  Answers ends output = IsAnswered (java_file job ∷ []) NoSecond (CheckSays job) old new ends output

  shared : (told : List ℕ → Option (List ℕ)) (ends : Status) (output : List ℕ) → PosesNone told job ends output → CheckSays job told ends output
  shared told (status.Source refusal) output none = none
  shared told status.NoMethod output none = none
  shared told _ output none = absurd none

  pub none_answered : (why : Unposed) (o : Outcome) → FetchesProblem job old new (Err why) → EndsUnposed why o → Answers o.status o.output.items
  none_answered why o fetches ends = unposed_answered (java_file job ∷ []) NoSecond (CheckSays job) job refl (omega arith) old new stays (shared old.content) why o fetches ends

  module _ (p : Posed) (posed : HoldsProblem old.content job p) (scope : p.scope ≡ job.scope) (whole : IsReadWhole 0 (java_file job) old new) where
    through : IsThrough (java_file job ∷ []) 1 old new
    through = first_read (java_file job ∷ []) NoSecond (CheckSays job) job refl (omega arith) old new stays whole

    by_status : (ends : Status) (output : List ℕ) → CheckedBy p ends output → Answers ends output
    by_status status.Holds output checks =
        said (java_file job ∷ []) NoSecond (CheckSays job) 1 old new status.Holds output through (omega arith) (omega arith) (λ limit. omega arith) (λ fault. cc)
        (record {
          problem = p;
          scope = scope;
          tried = if_told_more (old.content job.file) (λ bytes is. record { posed = is; plain = checks.0 }) posed.is;
          not_violable = checks.1.1;
          report = checks.1.0;
        })
    by_status status.Violated output checks =
        said (java_file job ∷ []) NoSecond (CheckSays job) 1 old new status.Violated output through (omega arith) (omega arith) (λ limit. omega arith) (λ fault. cc)
        (record {
          problem = p;
          scope = scope;
          start = checks.1.start;
          broken = checks.1.broken;
          tried = if_told_more (old.content job.file) (λ bytes is. record { posed = is; plain = checks.0 }) posed.is;
          violates = checks.1.violates;
          report = checks.1.told;
        })
    by_status status.NotBuilt output checks =
        said (java_file job ∷ []) NoSecond (CheckSays job) 1 old new status.NotBuilt output through (omega arith) (omega arith) (λ limit. omega arith) (λ fault. cc)
        (checks.0, if_told_more (old.content job.file) (λ bytes is. record { problem = p; posed = is; not_plain = checks.1 }) posed.is)
    by_status _ output checks = absurd checks.1

    -- the check of a problem that was read
    pub checked_answered : (r : Result Outcome NoMemory) (o : Outcome) → IfOk r (Checks p) → IsOrNoMemory r o → Answers o.status o.output.items
    checked_answered r o checks is = or_wanting (java_file job ∷ []) NoSecond (CheckSays job) 1 old new r o through (omega arith) (answers r checks) is
      where
        answers : (x : Result Outcome NoMemory) → IfOk x (Checks p) → IfOk x (λ d. IsAnswered (java_file job ∷ []) NoSecond (CheckSays job) old new d.status d.output.items)
        answers (Ok d) is = by_status d.status d.output.items is.by
        answers (Err refused) is = tt
