-- From the reading of a Java text to what it poses, and to what a request without a problem answers.
use Rattle.std.proofs.Common.{◌≡◌, ℕ, ◌<◌, List, length, Option, Some, None, IfSome, refl, arith, inl}
use Rattle.std.specs.Prelude.{Result, Ok, Err, slice_get}
use Rattle.heap_core.specs.Posed.{Posed}
use Rattle.taco_io.specs.Shelf.{Shelf, Stays}
use Rattle.taco_report.specs.declared.status.Status.{Status}
use Rattle.taco_report.specs.declared.status.Status.TheVariants as status
use Rattle.taco_words.specs.declared.request.Job.{Job}
use Rattle.command_files.specs.declared.file.FileEnd.{FileEnd}
use Rattle.command_files.specs.declared.file.FileEnd.TheVariants as end
use Rattle.command_files.specs.declared.outcome.Outcome.{Outcome}
use Rattle.taco_report.specs.RefusalLines.{refusal_line}
use Rattle.command_files.specs.Slots.{TextFile, IsReadWhole}
use Rattle.command_files.specs.Answers.{IsAnswered}
use Rattle.command_files.proofs.Walking.{IsThrough, none_read, one_more_read, refusing, file_ended, whole_or_wanting}
use Rattle.command_files.proofs.Told.{lifted}
use Rattle.posed_files.specs.declared.problem.Unposed.{Unposed}
use Rattle.posed_files.specs.declared.problem.Unposed.TheVariants as unposed
use Rattle.posed_files.specs.Problems.{java_file, IsPosed, IsRefused, LacksMethod, HoldsProblem, PosesNone, Poses, FetchesProblem, EndsUnposed}

-- the file was read whole
pub fetched : (job : Job) (old new : Shelf) (bytes : List ℕ) (r : Result Posed Unposed) → IfSome (old.content job.file) (λ xs. bytes ≡ xs) → IsReadWhole 0 (java_file job) old new
    → Poses bytes job r → FetchesProblem job old new r
fetched job old new bytes (Ok p) told whole posed = (record { is = lifted (λ xs. IsPosed xs job p) bytes (old.content job.file) told posed }, posed.scope, whole)
fetched job old new bytes (Err (unposed.Refused r)) told whole is = (lifted (λ xs. IsRefused xs r) bytes (old.content job.file) told is, whole)
fetched job old new bytes (Err unposed.NoMethod) told whole lacks = (lifted (λ xs. LacksMethod xs job) bytes (old.content job.file) told lacks, whole)
fetched job old new bytes (Err (unposed.Unread end.TooLong)) told whole none = absurd none
fetched job old new bytes (Err (unposed.Unread end.Fault)) told whole none = absurd none
fetched job old new bytes (Err (unposed.Unread end.NoMemory)) told whole none = whole_or_wanting 0 (java_file job) old new whole

module _ (files : List TextFile) (Second : (List ℕ → Option (List ℕ)) → Type 0) (Says : (List ℕ → Option (List ℕ)) → Status → List ℕ → Type 0)
    (job : Job) (listed : slice_get files 0 ≡ Some (java_file job)) (some : 0 < length files) (old new : Shelf) (stays : Stays 0 old new) where
  -- the first file was read
  pub first_read : IsReadWhole 0 (java_file job) old new → IsThrough files 1 old new
  first_read whole = one_more_read files 0 (java_file job) listed old old new (none_read files old) stays whole

  -- the file and the job pose no problem
  pub unposed_answered : ((ends : Status) (output : List ℕ) → PosesNone old.content job ends output → Says old.content ends output)
      → (why : Unposed) (o : Outcome) → FetchesProblem job old new (Err why) → EndsUnposed why o → IsAnswered files Second Says old new o.status o.output.items
  unposed_answered shared (unposed.Refused r) o fetches is =
      refusing files Second Says 1 old new (status.Source r) o (first_read fetches.1) (omega (arith, some)) (omega arith) (λ limit. omega arith) (λ fault. cc) is
      (shared (status.Source r) (refusal_line (status.Source r)) (refl, fetches.0))
  unposed_answered shared unposed.NoMethod o fetches is =
      refusing files Second Says 1 old new status.NoMethod o (first_read fetches.1) (omega (arith, some)) (omega arith) (λ limit. omega arith) (λ fault. cc) is
      (shared status.NoMethod (refusal_line status.NoMethod) (refl, fetches.0))
  unposed_answered shared (unposed.Unread e) o fetches is =
      file_ended files Second Says 0 (java_file job) old old new e o listed (inl refl) some (none_read files old) stays fetches is
