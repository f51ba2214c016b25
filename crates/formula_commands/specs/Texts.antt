-- The texts of formulas and logs, and what the reading of their files gives.
use Rattle.std.specs.Prelude.{◌≡◌, ℕ, ◌≤◌, List, length, Option, IfSome, Result, Ok, Err}
use Rattle.cnf_core.specs.Clauses.{Clauses}
use Rattle.derivation.specs.CnfText.{IsCnfText, BlamesCnf}
use Rattle.derivation.specs.LogText.{IsLogText, BlamesLine}
use Rattle.derivation.specs.Step.{Step}
use Rattle.derivation.specs.declared.fault.TextFault.TheVariants as fault
use Rattle.taco_io.specs.Shelf.{Shelf}
use Rattle.taco_report.specs.declared.status.Status.TheVariants as status
use Rattle.command_files.specs.declared.file.FileEnd.TheVariants as file
use Rattle.command_files.specs.declared.outcome.Outcome.{Outcome}
use Rattle.command_files.specs.Outcomes.{EndsWithout, IsRefusing}
use Rattle.command_files.specs.Slots.{TextFile, EndsFile, IsReadWhole}
use Rattle.formula_commands.specs.declared.text.TextEnd.{TextEnd}
use Rattle.formula_commands.specs.declared.text.TextEnd.TheVariants as end

-- the most bytes of the text of a formula, and of that of a log
abbrev pub text_limit : ℕ
text_limit = 4194304

-- the file of a formula, and that of a log
abbrev pub formula_file : List ℕ → TextFile
formula_file name = record { name = name; limit = text_limit }

-- The text is that of this formula, and of no other.
pub record IsFormula (bytes : List ℕ) (formula : Clauses) : Type 0 where
  pub short : length bytes ≤ text_limit
  pub text : IsCnfText bytes formula
  pub only : (other : Clauses) → IsCnfText bytes other → formula ≡ other

-- The text is that of no formula, and its first fault is here.
pub record IsNoFormula (bytes : List ℕ) (at : ℕ) : Type 0 where
  pub short : length bytes ≤ text_limit
  pub first : BlamesCnf bytes (fault.BadText at)
  pub none : (formula : Clauses) → IsCnfText bytes formula → ⊥

-- The text is that of this log over the variables 1 to vars, and of no other.
pub record IsLog (vars : ℕ) (bytes : List ℕ) (steps : List Step) : Type 0 where
  pub short : length bytes ≤ text_limit
  pub text : IsLogText vars bytes steps
  pub only : (others : List Step) → IsLogText vars bytes others → steps ≡ others

-- The text is that of no log over these variables, and its first wrong line is here.
pub record IsNoLog (vars : ℕ) (bytes : List ℕ) (at : ℕ) : Type 0 where
  pub short : length bytes ≤ text_limit
  pub first : BlamesLine vars bytes (fault.BadText at)
  pub none : (steps : List Step) → IsLogText vars bytes steps → ⊥

-- The file holds a formula.
pub record HoldsFormula (told : List ℕ → Option (List ℕ)) (cnf : List ℕ) (formula : Clauses) : Type 0 where
  pub is : IfSome (told cnf) (λ bytes. IsFormula bytes formula)

-- what a text is taken for: what it is, or the place of its first fault
abbrev pub TakesFor : {V : Type 0} → (List ℕ → V → Type 0) → (List ℕ → ℕ → Type 0) → List ℕ → Result V TextEnd → Type 0
TakesFor Is IsNo bytes (Ok v) = Is bytes v
TakesFor Is IsNo bytes (Err (end.BadText at)) = IsNo bytes at
TakesFor Is IsNo bytes (Err (end.File file.NoMemory)) = Unit {0}
TakesFor Is IsNo bytes (Err (end.File _)) = ⊥

-- what the text of a file is taken for, and what its reading does
abbrev pub Fetches : {V : Type 0} → (slot : ℕ) → TextFile → (List ℕ → V → Type 0) → (List ℕ → ℕ → Type 0) → Shelf → Shelf → Result V TextEnd → Type 0
Fetches slot f Is IsNo old new (Ok v) = IfSome (old.content f.name) (λ bytes. Is bytes v) × IsReadWhole slot f old new
Fetches slot f Is IsNo old new (Err (end.BadText at)) = IfSome (old.content f.name) (λ bytes. IsNo bytes at) × IsReadWhole slot f old new
Fetches slot f Is IsNo old new (Err (end.File file_end)) = EndsFile slot f old new file_end

-- how a request ends whose text in this slot gave no value
abbrev pub EndsText : ℕ → TextEnd → Outcome → Type 0
EndsText slot (end.BadText at) o = IsRefusing (status.BadText slot at) o
EndsText slot (end.File file_end) o = EndsWithout slot file_end o
