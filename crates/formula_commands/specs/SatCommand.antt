-- What the command `sat` answers about the text of a formula.
use Rattle.std.specs.Prelude.{◌≡◌, ℕ, Bool, true, false, ◌⊎◌, List, [], length, Option, IfSome, IsSomeAnd}
use Rattle.cnf_core.specs.Clauses.{Clauses}
use Rattle.cnf_core.specs.Truth.{assigned, Satisfies, IsUnsatisfiable}
use Rattle.derivation.specs.Logs.{Refutes, Spends}
use Rattle.derivation.specs.Step.{Step}
use Rattle.evidence.specs.declared.Evidence.{Evidence}
use Rattle.sat_solver.specs.Answers.{IsKept}
use Rattle.taco_report.specs.declared.status.Status.{Status}
use Rattle.taco_report.specs.declared.status.Status.TheVariants as status
use Rattle.taco_report.specs.FormulaTexts.{satisfiable_text, unsatisfiable_text, unknown_text}
use Rattle.taco_report.specs.RefusalLines.{refusal_line}
use Rattle.formula_commands.specs.Texts.{IsFormula, IsNoFormula}

-- Values satisfy the formula, one for each variable, and they are told.
pub record IsSatisfied (formula : Clauses) (output : List ℕ) : Type 0 where
  pub values : List Bool
  pub whole : length values ≡ formula.vars
  pub satisfy : Satisfies (assigned values) formula.clauses
  pub told : output ≡ satisfiable_text values

-- The log refutes the formula, which therefore has no satisfying assignment, and the log is told.
pub record IsRefutation (formula : Clauses) (steps : List Step) (output : List ℕ) : Type 0 where
  pub log : Refutes formula.clauses steps
  pub no_solution : IsUnsatisfiable formula.clauses
  pub told : output ≡ unsatisfiable_text steps

-- The budget is spent on the lines of the log, and it is told that nothing is known.
pub record IsSpent (formula : Clauses) (steps : List Step) (budget : ℕ) (output : List ℕ) : Type 0 where
  pub spends : Spends formula steps budget
  pub told : output ≡ unknown_text

-- the verdict of a search through a formula, with its log
abbrev pub TellsSearch : Clauses → List Step → ℕ → Status → List ℕ → Type 0
TellsSearch formula steps budget status.Done output = IsSatisfied formula output ⊎ IsRefutation formula steps output
TellsSearch formula steps budget status.Unknown output = IsSpent formula steps budget output
TellsSearch formula steps budget _ output = ⊥

-- The evidence is the formula of the file and a log over it, and this is the verdict.
pub record IsSearched (told : List ℕ → Option (List ℕ)) (cnf : List ℕ) (budget : ℕ) (evidence : Evidence) (ends : Status) (output : List ℕ) : Type 0 where
  pub cnf_is : IfSome (told cnf) (λ bytes. IsFormula bytes evidence.cnf)
  pub kept : IsKept evidence.cnf evidence.log budget
  pub no_tuples : evidence.tuple_vars.items ≡ []
  pub verdict : TellsSearch evidence.cnf evidence.log budget ends output

-- what `sat` says with this evidence, but for a file that cannot be read or is too long, and for want of memory
abbrev pub SatSays : (cnf : List ℕ) → (budget : ℕ) → Option Evidence → (told : List ℕ → Option (List ℕ)) → Status → (output : List ℕ) → Type 0
SatSays cnf budget evidence told status.Done output = IsSomeAnd evidence (λ e. IsSearched told cnf budget e status.Done output)
SatSays cnf budget evidence told status.Unknown output = IsSomeAnd evidence (λ e. IsSearched told cnf budget e status.Unknown output)
SatSays cnf budget evidence told (status.BadText slot at) output = (output ≡ refusal_line (status.BadText slot at)) × (slot ≡ 0) × IfSome (told cnf) (λ bytes. IsNoFormula bytes at)
SatSays cnf budget evidence told _ output = ⊥

-- each verdict of a search has evidence, and nothing else has
abbrev pub has_evidence : Status → Bool
has_evidence status.Done = true
has_evidence status.Unknown = true
has_evidence _ = false
