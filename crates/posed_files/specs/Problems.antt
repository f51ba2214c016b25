-- The problem that the text of a file and the words of a request pose, or why they pose none.
use Rattle.std.specs.Prelude.{◌≡◌, ℕ, ◌≤◌, List, length, Option, Some, None, IfSome, Result, Ok, Err}
use Rattle.taco_unit.specs.Parts.{Parts}
use Rattle.taco_unit.specs.Named.{class_number, method_number}
use Rattle.heap_core.specs.Posed.{Posed}
use Rattle.taco_io.specs.Shelf.{Shelf}
use Rattle.refusals.specs.declared.refusal.Refusal.{Refusal}
use Rattle.source_units.specs.Reading.{Reads, Faulty}
use Rattle.taco_report.specs.declared.status.Status.{Status}
use Rattle.taco_report.specs.declared.status.Status.TheVariants as status
use Rattle.taco_report.specs.RefusalLines.{refusal_line}
use Rattle.taco_words.specs.declared.request.Job.{Job}
use Rattle.command_files.specs.declared.file.FileEnd.TheVariants as end
use Rattle.command_files.specs.declared.outcome.Outcome.{Outcome}
use Rattle.command_files.specs.Outcomes.{EndsWithout, IsRefusing}
use Rattle.command_files.specs.Slots.{TextFile, EndsFile, IsReadWhole}
use Rattle.posed_files.specs.declared.problem.Unposed.{Unposed}
use Rattle.posed_files.specs.declared.problem.Unposed.TheVariants as unposed

-- the most bytes of a Java text
abbrev pub java_limit : ℕ
java_limit = 262144

-- the file of a job
abbrev pub java_file : Job → TextFile
java_file job = record { name = job.file; limit = java_limit }

-- the class and the method of these names are in the unit, and have these numbers
pub record Names (u : Parts) (job : Job) (class method : ℕ) : Type 0 where
  pub the_class : class_number u job.class ≡ Some class
  pub the_method : method_number u class job.method ≡ Some method

-- the bytes are the text of a unit that has the method, and this is the problem
pub record IsPosed (bytes : List ℕ) (job : Job) (p : Posed) : Type 0 where
  pub class : ℕ
  pub short : length bytes ≤ java_limit
  pub reads : Reads bytes p.unit
  pub names : Names p.unit job class p.method
  pub scope : p.scope ≡ job.scope

-- the bytes are the text of a unit that lacks the class, or whose class lacks the method
pub record LacksMethod (bytes : List ℕ) (job : Job) : Type 0 where
  pub unit : Parts
  pub short : length bytes ≤ java_limit
  pub reads : Reads bytes unit
  pub lacks : (class method : ℕ) → Names unit job class method → ⊥

-- the bytes are no text of a unit, and this is their first fault
pub record IsRefused (bytes : List ℕ) (refusal : Refusal) : Type 0 where
  pub short : length bytes ≤ java_limit
  pub faulty : Faulty bytes refusal

-- the file holds such a text, if it tells its content
pub record HoldsProblem (told : List ℕ → Option (List ℕ)) (job : Job) (p : Posed) : Type 0 where
  pub is : IfSome (told job.file) (λ bytes. IsPosed bytes job p)

-- The file and the job pose no problem, and this refusal with its line says why: what all commands with a job share.
abbrev pub PosesNone : (told : List ℕ → Option (List ℕ)) → Job → Status → (output : List ℕ) → Type 0
PosesNone told job (status.Source refusal) output = (output ≡ refusal_line (status.Source refusal)) × IfSome (told job.file) (λ bytes. IsRefused bytes refusal)
PosesNone told job status.NoMethod output = (output ≡ refusal_line status.NoMethod) × IfSome (told job.file) (λ bytes. LacksMethod bytes job)
PosesNone told job _ output = ⊥

-- the problem of the job's method in a unit; there is none where the unit lacks the class, or the class the method
abbrev pub PosedIn : Parts → Job → Option Posed → Type 0
PosedIn u job None = (class method : ℕ) → Names u job class method → ⊥
PosedIn u job (Some p) = (class : ℕ) × (p.unit ≡ u) × Names u job class p.method × (p.scope ≡ job.scope)

-- what the bytes and the job pose
abbrev pub Poses : List ℕ → Job → Result Posed Unposed → Type 0
Poses bytes job (Ok p) = IsPosed bytes job p
Poses bytes job (Err (unposed.Refused refusal)) = IsRefused bytes refusal
Poses bytes job (Err unposed.NoMethod) = LacksMethod bytes job
Poses bytes job (Err (unposed.Unread end.NoMemory)) = Unit {0}
Poses bytes job (Err (unposed.Unread _)) = ⊥

-- what the file and the job pose, and what its reading through slot 0 does
abbrev pub FetchesProblem : Job → Shelf → Shelf → Result Posed Unposed → Type 0
FetchesProblem job old new (Ok p) = HoldsProblem old.content job p × (p.scope ≡ job.scope) × IsReadWhole 0 (java_file job) old new
FetchesProblem job old new (Err (unposed.Refused refusal)) = IfSome (old.content job.file) (λ bytes. IsRefused bytes refusal) × IsReadWhole 0 (java_file job) old new
FetchesProblem job old new (Err unposed.NoMethod) = IfSome (old.content job.file) (λ bytes. LacksMethod bytes job) × IsReadWhole 0 (java_file job) old new
FetchesProblem job old new (Err (unposed.Unread end)) = EndsFile 0 (java_file job) old new end

-- how a request ends that poses no problem
abbrev pub EndsUnposed : Unposed → Outcome → Type 0
EndsUnposed (unposed.Unread end) o = EndsWithout 0 end o
EndsUnposed (unposed.Refused refusal) o = IsRefusing (status.Source refusal) o
EndsUnposed unposed.NoMethod o = IsRefusing status.NoMethod o
