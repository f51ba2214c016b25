-- What a call of `run` or `run_plain` does.
--
-- It speaks of the contents that the files tell of the files that are asked about, of the bytes that the
-- sink tells, and of the whole answer. Want of memory is the one free answer.
use Rattle.std.specs.Prelude.{◌≡◌, ℕ, ◌<◌, ◌⊎◌, List, length, take, Option, is_some}
use Rattle.std.specs.Io.KnownBytes.{Appends}
use Rattle.command_files.specs.Answers.{IsAnswered}
use Rattle.taco_io.specs.Counts.{Rose}
use Rattle.taco_io.specs.Shelf.{Shelf}
use Rattle.taco_io.specs.Taken.{Taken}
use Rattle.taco_report.specs.declared.status.Status.{Status}
use Rattle.taco_report.specs.declared.status.Status.TheVariants as status
use Rattle.taco_run.specs.declared.answer.Answer.{Answer}
use Rattle.taco_run.specs.Requests.{files_of, Second, Says, carries}
use Rattle.taco_words.specs.declared.request.Request.{Request}

-- the whole output went out, and no push failed
pub record IsPrinted (output : List ℕ) (before after : Taken) : Type 0 where
  pub whole : Appends before.bytes after.bytes output
  pub calm : after.faults ≡ before.faults

-- a push failed before the output's end: its first bytes went out, fewer than all
pub record IsCut (output : List ℕ) (before after : Taken) : Type 0 where
  pub sent : ℕ
  pub short : sent < length output
  pub front : Appends before.bytes after.bytes (take sent output)
  pub rose : Rose before.faults after.faults

-- how a call ends that was to end so: as it was meant where the output was printed, with WriteFault where it was cut
abbrev pub IsWritten : (meant : Status) → (output : List ℕ) → Taken → Taken → Status → Type 0
IsWritten meant output before after ends = ((ends ≡ meant) × IsPrinted output before after) ⊎ ((ends ≡ status.WriteFault) × IsCut output before after)

-- the headline
pub record Runs (asked : Option Request) (answer : Answer) (old new : Shelf) (before after : Taken) : Type 0 where
  -- the status that the call was to end with, and its output
  pub meant : Status
  pub output : List ℕ
  -- the status has its cause, by the table of the request, and calls for this output; a file that could not be read is
  -- told where its count rose and nowhere else; files and slots are as the status says
  pub answered : IsAnswered (files_of asked) (Second asked) (Says asked answer.proof) old new meant output
  -- there is evidence exactly with the verdicts of a search
  pub evidence : is_some answer.proof ≡ carries asked meant
  -- the sink gained the output, or with WriteFault a front of it, but never all
  pub written : IsWritten meant output before after answer.status
