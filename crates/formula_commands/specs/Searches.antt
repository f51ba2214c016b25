-- What a search through a formula comes to.
use Rattle.std.specs.Prelude.{◌≡◌, ℕ, List, [], Some}
use Rattle.cnf_core.specs.Clauses.{Clauses}
use Rattle.derivation.specs.Step.{Step}
use Rattle.sat_solver.specs.Answers.{IsKept}
use Rattle.sat_solver.specs.declared.answer.SatAnswer.{SatAnswer}
use Rattle.sat_solver.specs.declared.answer.SatAnswer.TheVariants.{Satisfied, Refuted, Spent}
use Rattle.evidence.specs.declared.Evidence.{Evidence}
use Rattle.taco_report.specs.declared.status.Status.TheVariants as status
use Rattle.command_files.specs.declared.outcome.Outcome.{Outcome}
use Rattle.formula_commands.specs.declared.sat_command.Searched.{Searched}
use Rattle.formula_commands.specs.SatCommand.{TellsSearch}
use Rattle.command_files.specs.Outcomes.{IsOutcome}
use Rattle.taco_report.specs.FormulaTexts.{satisfiable_text, unsatisfiable_text, unknown_text}

-- the outcome that an answer of the solver comes to
abbrev pub TellsAnswer : SatAnswer → List Step → Outcome → Type 0
TellsAnswer (Satisfied values) log o = IsOutcome status.Done (satisfiable_text values.items) o
TellsAnswer Refuted log o = IsOutcome status.Done (unsatisfiable_text log) o
TellsAnswer Spent log o = IsOutcome status.Unknown unknown_text o

-- This is the verdict of a search through this formula, with its evidence.
pub record IsVerdict (formula : Clauses) (budget : ℕ) (searched : Searched) : Type 0 where
  pub evidence : Evidence
  pub there : searched.evidence ≡ Some evidence
  pub same : evidence.cnf ≡ formula
  pub kept : IsKept evidence.cnf evidence.log budget
  pub no_tuples : evidence.tuple_vars.items ≡ []
  pub verdict : TellsSearch evidence.cnf evidence.log budget searched.outcome.status searched.outcome.output.items
