-- Replies of requests that read no file.
use Rattle.std.proofs.Common.{◌≡◌, ℕ, List, [], Option, Some, None, refl, sym, ap, ◌∙◌, subst, arith, inl, append-nil}
use Rattle.std.specs.Io.KnownBytes.{Appends}
use Rattle.std.specs.Prelude.{false}
use Rattle.command_files.specs.declared.outcome.Outcome.{Outcome}
use Rattle.command_files.specs.Answers.{NoSecond}
use Rattle.command_files.specs.Outcomes.{IsRefusing, IsSilent}
use Rattle.command_files.proofs.Walking.{no_memory, none_read, refusing, said}
use Rattle.taco_io.specs.Shelf.{Shelf}
use Rattle.taco_report.specs.declared.status.Status.{Status}
use Rattle.taco_report.specs.declared.status.Status.TheVariants as status
use Rattle.taco_run.specs.declared.call.Reply.{Reply}
use Rattle.taco_io.specs.Taken.{Taken}
use Rattle.taco_run.specs.Headline.{Runs}
use Rattle.taco_run.specs.Replies.{IsDone}
use Rattle.taco_run.specs.Served.{served, served_plainly}
use Rattle.taco_words.specs.declared.request.Job.{Job}
use Rattle.taco_run.specs.Requests.{files_of, Second, Says, UsageSays, carries}
use Rattle.taco_words.specs.declared.request.Request.{Request}
use Rattle.taco_words.specs.declared.request.Request.TheVariants as request

-- words that are no request
pub usage_done : (reply : Reply) (o : Outcome) (shelf : Shelf) → reply ≡ record { outcome = o; proof = None } → IsRefusing status.Usage o → IsDone None reply shelf shelf
usage_done reply o shelf is refuses =
    subst (λ (r : Reply). IsDone None r shelf shelf) (sym is) (record {
      answered = refusing [] NoSecond UsageSays 0 shelf shelf status.Usage o (none_read [] shelf) (omega arith) (omega arith) (λ limit. omega arith) (λ fault. cc) refuses refl;
      evidence = refl;
    })

none_carried : (asked : Option Request) → carries asked status.NoMemory ≡ false
none_carried None = refl
none_carried (Some (request.Check job budget)) = refl
none_carried (Some (request.Bounds job schedule)) = refl
none_carried (Some (request.Replay job state)) = refl
none_carried (Some (request.Sat cnf budget)) = refl
none_carried (Some (request.Proof cnf log)) = refl
none_carried (Some (request.Stress number)) = refl

-- want of memory, before any file is read
pub wanting_done : (asked : Option Request) (reply : Reply) (o : Outcome) (shelf : Shelf) → reply ≡ record { outcome = o; proof = None } → IsSilent status.NoMemory o → IsDone asked reply shelf shelf
wanting_done asked reply o shelf is silent =
    subst (λ (r : Reply). IsDone asked r shelf shelf) (sym is) (record {
      answered = no_memory (files_of asked) (Second asked) (Says asked None) 0 shelf shelf o (none_read (files_of asked) shelf) (omega arith) silent;
      evidence = sym (ap (λ (s : Status). carries asked s) silent.status_is ∙ none_carried asked);
    })

-- a call that has no memory for what it is asked does nothing
pub wanting_runs : (asked : Option Request) (shelf : Shelf) (taken : Taken) → Runs asked (record { status = status.NoMemory; proof = None }) shelf shelf taken taken
wanting_runs asked shelf taken =
    record {
      meant = status.NoMemory;
      output = [];
      answered = said (files_of asked) (Second asked) (Says asked None) 0 shelf shelf status.NoMemory [] (none_read (files_of asked) shelf) (omega arith) (omega arith) (λ limit. omega arith)
          (λ fault. cc) refl;
      evidence = sym (none_carried asked);
      written = inl (refl, record { whole = nothing_more taken.bytes; calm = refl });
    }
  where
    nothing_more : (told : Option (List ℕ)) → Appends told told []
    nothing_more None = tt
    nothing_more (Some bytes) = sym (append-nil bytes)

-- a request that is no check is served by both calls, or by none
pub same_served : (r : Request) → ((job : Job) (budget : ℕ) → r ≡ request.Check job budget → ⊥) → served_plainly (Some r) ≡ served (Some r)
same_served (request.Check job budget) other = absurd (other job budget refl)
same_served (request.Bounds job schedule) other = refl
same_served (request.Replay job state) other = refl
same_served (request.Sat cnf budget) other = refl
same_served (request.Proof cnf log) other = refl
same_served (request.Stress number) other = refl
