-- What a request comes to.
use Rattle.std.specs.Prelude.{◌≡◌, ℕ, ◌⊎◌, List, [], Result, Ok, Err}
use Rattle.no_memory.specs.declared.NoMemory.{NoMemory}
use Rattle.taco_report.specs.declared.status.Status.{Status}
use Rattle.taco_report.specs.declared.status.Status.TheVariants as status
use Rattle.taco_report.specs.RefusalLines.{refusal_line}
use Rattle.command_files.specs.declared.file.FileEnd.{FileEnd}
use Rattle.command_files.specs.declared.file.FileEnd.TheVariants as end
use Rattle.command_files.specs.declared.outcome.Outcome.{Outcome}

-- an outcome with this status and this output
pub record IsOutcome (ends : Status) (output : List ℕ) (o : Outcome) : Type 0 where
  pub status_is : o.status ≡ ends
  pub told : o.output.items ≡ output

-- an outcome without output
abbrev pub IsSilent : Status → Outcome → Type 0
IsSilent ends = IsOutcome ends []

-- the outcome, or want of memory
abbrev pub IsOrNoMemory : Result Outcome NoMemory → Outcome → Type 0
IsOrNoMemory (Ok o) answered = answered ≡ o
IsOrNoMemory (Err refused) answered = IsSilent status.NoMemory answered

-- a refusal with its line, or want of memory
pub record IsRefusing (ends : Status) (o : Outcome) : Type 0 where
  pub is : IsOutcome ends (refusal_line ends) o ⊎ IsSilent status.NoMemory o

-- how a request ends whose file of this slot gave no text
abbrev pub EndsWithout : ℕ → FileEnd → Outcome → Type 0
EndsWithout slot end.TooLong o = IsRefusing (status.TooLong slot) o
EndsWithout slot end.Fault o = IsSilent status.ReadFault o
EndsWithout slot end.NoMemory o = IsSilent status.NoMemory o
