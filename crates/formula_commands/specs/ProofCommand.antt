-- What the command `proof` answers about the text of a formula and that of a log.
use Rattle.std.specs.Prelude.{◌≡◌, ℕ, false, ◌⊎◌, List, length, Option, IfSome}
use Rattle.cnf_core.specs.Clauses.{Clauses}
use Rattle.cnf_core.specs.Truth.{IsUnsatisfiable}
use Rattle.derivation.specs.Logs.{ends_empty, IsFirstBad, Refutes, Valid}
use Rattle.derivation.specs.Step.{Step}
use Rattle.taco_report.specs.declared.status.Status.{Status}
use Rattle.taco_report.specs.declared.status.Status.TheVariants as status
use Rattle.taco_report.specs.FormulaTexts.{refuted_line, valid_line, badline_line}
use Rattle.taco_report.specs.RefusalLines.{refusal_line}
use Rattle.formula_commands.specs.Texts.{IsFormula, IsLog, IsNoFormula, IsNoLog, HoldsFormula}

-- The log refutes the formula, which therefore has no satisfying assignment, and this is told.
pub record IsRefuted (formula : Clauses) (steps : List Step) (output : List ℕ) : Type 0 where
  pub log : Refutes formula.clauses steps
  pub no_solution : IsUnsatisfiable formula.clauses
  pub told : output ≡ refuted_line (length steps)

-- The log is valid but does not end in the empty clause, and this is told.
pub record IsValid (formula : Clauses) (steps : List Step) (output : List ℕ) : Type 0 where
  pub log : Valid formula.clauses steps
  pub goes_on : ends_empty steps ≡ false
  pub told : output ≡ valid_line (length steps)

-- A line of the log does not follow, and the first such line is told.
pub record IsBroken (formula : Clauses) (steps : List Step) (output : List ℕ) : Type 0 where
  pub n : ℕ
  pub first : IsFirstBad formula.clauses steps n
  pub told : output ≡ badline_line n

-- the verdict on a log over a formula
abbrev pub TellsLog : Clauses → List Step → Status → List ℕ → Type 0
TellsLog formula steps status.Done output = IsRefuted formula steps output ⊎ IsValid formula steps output
TellsLog formula steps status.Broken output = IsBroken formula steps output
TellsLog formula steps _ output = ⊥

-- The files hold a formula and a log over its variables, and this is the verdict.
pub record IsJudged (told : List ℕ → Option (List ℕ)) (cnf log : List ℕ) (ends : Status) (output : List ℕ) : Type 0 where
  pub formula : Clauses
  pub steps : List Step
  pub cnf_is : IfSome (told cnf) (λ bytes. IsFormula bytes formula)
  pub log_is : IfSome (told log) (λ bytes. IsLog formula.vars bytes steps)
  pub verdict : TellsLog formula steps ends output

-- the file of slot 0 holds a formula, so that the log is come to
pub record HoldsSome (cnf : List ℕ) (told : List ℕ → Option (List ℕ)) : Type 0 where
  pub formula : Clauses
  pub holds : HoldsFormula told cnf formula

-- What is wrong lies in the file of slot 0, or in that of slot 1 where slot 0 holds a formula: the log comes second.
abbrev pub LiesIn : (told : List ℕ → Option (List ℕ)) → (cnf log : List ℕ) → (slot at : ℕ) → Type 0
LiesIn told cnf log slot at =
    ((slot ≡ 0) × IfSome (told cnf) (λ bytes. IsNoFormula bytes at))
    ⊎ ((formula : Clauses) × (slot ≡ 1) × HoldsFormula told cnf formula × IfSome (told log) (λ bytes. IsNoLog formula.vars bytes at))

-- what `proof` says, but for files that cannot be read or are too long, and for want of memory
abbrev pub ProofSays : (cnf log : List ℕ) → (told : List ℕ → Option (List ℕ)) → Status → (output : List ℕ) → Type 0
ProofSays cnf log told status.Done output = IsJudged told cnf log status.Done output
ProofSays cnf log told status.Broken output = IsJudged told cnf log status.Broken output
ProofSays cnf log told (status.BadText slot at) output = (output ≡ refusal_line (status.BadText slot at)) × LiesIn told cnf log slot at
ProofSays cnf log told _ output = ⊥
