-- What the command `proof` answers to a log that the command `sat` printed.
use Rattle.std.specs.Prelude.{◌≡◌, ℕ, ◌≤◌, List, [], ◌∷◌, ◌++◌, length, Option, Some, codes}
use Rattle.taco_report.specs.declared.status.Status.{Status}
use Rattle.taco_report.specs.declared.status.Status.TheVariants as status
use Rattle.evidence.specs.declared.Evidence.{Evidence}
use Rattle.command_files.specs.Answers.{Tells}
use Rattle.formula_commands.specs.ProofCommand.{HoldsSome, ProofSays}
use Rattle.formula_commands.specs.SatCommand.{IsSearched}
use Rattle.formula_commands.specs.Texts.{text_limit, formula_file}
use Rattle.taco_report.specs.FormulaTexts.{refuted_line}

-- Of a file with these bytes `sat` printed that the formula has no solution, and behind that line this text.
pub record PrintsLog (bytes text : List ℕ) (evidence : Evidence) : Type 0 where
  pub told : List ℕ → Option (List ℕ)
  pub cnf : List ℕ
  pub budget : ℕ
  pub holds : told cnf ≡ Some bytes
  pub searched : IsSearched told cnf budget evidence status.Done (codes "s UNSATISFIABLE\n" ++ text)

-- The files have these bytes and this text, which is not too long.
pub record Hold (told : List ℕ → Option (List ℕ)) (cnf log bytes text : List ℕ) : Type 0 where
  pub formula : told cnf ≡ Some bytes
  pub lines : told log ≡ Some text
  pub short : length text ≤ text_limit

-- It is told that the log of so many lines refutes the formula, unless a file could not be read or memory was wanting.
abbrev pub TellsRefuted : ℕ → Status → List ℕ → Type 0
TellsRefuted lines status.Done output = output ≡ refuted_line lines
TellsRefuted lines status.ReadFault output = output ≡ []
TellsRefuted lines status.NoMemory output = output ≡ []
TellsRefuted lines _ output = ⊥

-- what `proof` answers of two files
abbrev pub ProofTells : (told : List ℕ → Option (List ℕ)) → (cnf log : List ℕ) → Status → (output : List ℕ) → Type 0
ProofTells told cnf log ends output = Tells (formula_file cnf ∷ formula_file log ∷ []) (HoldsSome cnf) (ProofSays cnf log) told ends output
