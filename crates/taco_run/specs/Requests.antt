-- Which room serves which request: the files that it reads, and the table of what it says.
use Rattle.std.specs.Prelude.{◌≡◌, ℕ, Bool, false, List, [], ◌∷◌, Option, Some, None}
use Rattle.check_command.specs.CheckCommand.{CheckSays}
use Rattle.command_files.specs.Answers.{NoSecond}
use Rattle.command_files.specs.Slots.{TextFile}
use Rattle.evidence.specs.declared.Evidence.{Evidence}
use Rattle.formula_commands.specs.ProofCommand.{ProofSays, HoldsSome as HoldsFormula}
use Rattle.formula_commands.specs.SatCommand.{SatSays, has_evidence}
use Rattle.formula_commands.specs.Texts.{formula_file}
use Rattle.posed_files.specs.Problems.{java_file}
use Rattle.replay_command.specs.ReplayCommand.{ReplaySays, state_file, HoldsSome as HoldsProblem}
use Rattle.taco_report.specs.declared.status.Status.{Status}
use Rattle.taco_report.specs.declared.status.Status.TheVariants as status
use Rattle.taco_report.specs.RefusalLines.{refusal_line}
use Rattle.taco_words.specs.declared.request.Request.{Request}
use Rattle.taco_words.specs.declared.request.Request.TheVariants as request

-- the files that a request reads, in the order of their slots
abbrev pub files_of : Option Request → List TextFile
files_of (Some (request.Check job budget)) = java_file job ∷ []
files_of (Some (request.Replay job state)) = java_file job ∷ state_file state ∷ []
files_of (Some (request.Sat cnf budget)) = formula_file cnf ∷ []
files_of (Some (request.Proof cnf log)) = formula_file cnf ∷ formula_file log ∷ []
files_of _ = []

-- what the first file has to hold where the second one is read: a problem before the state, a formula before the log
abbrev pub Second : Option Request → (told : List ℕ → Option (List ℕ)) → Type 0
Second (Some (request.Replay job state)) = HoldsProblem job
Second (Some (request.Proof cnf log)) = HoldsFormula cnf
Second _ = NoSecond

-- words that are no request are refused, and nothing else is said of them
abbrev pub UsageSays : (told : List ℕ → Option (List ℕ)) → Status → (output : List ℕ) → Type 0
UsageSays told status.Usage output = output ≡ refusal_line status.Usage
UsageSays told _ output = ⊥

-- what a request says with this evidence
abbrev pub Says : Option Request → Option Evidence → (told : List ℕ → Option (List ℕ)) → Status → (output : List ℕ) → Type 0
Says (Some (request.Check job budget)) proof = CheckSays job
Says (Some (request.Replay job state)) proof = ReplaySays job state
Says (Some (request.Sat cnf budget)) proof = SatSays cnf budget proof
Says (Some (request.Proof cnf log)) proof = ProofSays cnf log
Says _ proof = UsageSays

-- whether a request has evidence with this status
abbrev pub carries : Option Request → Status → Bool
carries (Some (request.Sat cnf budget)) ends = has_evidence ends
carries _ ends = false
