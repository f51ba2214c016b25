-- What a check comes to, once its problem is posed.
use Rattle.std.specs.Prelude.{◌≡◌, ℕ, List}
use Rattle.heap_core.specs.declared.start.Start.{Start}
use Rattle.heap_core.specs.declared.judged.Part.{Part}
use Rattle.heap_core.specs.Posed.{Posed}
use Rattle.heap_core.specs.Judge.{Violates, Violable}
use Rattle.boolean_trial.specs.Plain.{IsPlain}
use Rattle.taco_report.specs.declared.status.Status.{Status}
use Rattle.taco_report.specs.declared.status.Status.TheVariants as status
use Rattle.command_files.specs.declared.outcome.Outcome.{Outcome}
use Rattle.taco_report.specs.RefusalLines.{refusal_line}
use Rattle.taco_report.specs.Reports.{no_tuples, holds_report, violated_report}

-- a start that breaks a part was told
pub record ToldBreach (p : Posed) (output : List ℕ) : Type 0 where
  pub start : Start
  pub broken : Part
  pub violates : Violates p start broken
  pub told : output ≡ violated_report p no_tuples start broken

-- the verdict on a problem
abbrev pub TellsBy : Posed → Status → List ℕ → Type 0
TellsBy p status.Holds output = (output ≡ holds_report p no_tuples) × (Violable p → ⊥)
TellsBy p status.Violated output = ToldBreach p output
TellsBy p _ output = ⊥

pub record Tells (p : Posed) (outcome : Outcome) : Type 0 where
  pub by : TellsBy p outcome.status outcome.output.items

-- what a check comes to: the method is none of those that are checked so far, or it has a verdict
abbrev pub CheckedBy : Posed → Status → List ℕ → Type 0
CheckedBy p status.NotBuilt output = (output ≡ refusal_line status.NotBuilt) × (IsPlain p.unit p.method → ⊥)
CheckedBy p ends output = IsPlain p.unit p.method × TellsBy p ends output

pub record Checks (p : Posed) (outcome : Outcome) : Type 0 where
  pub by : CheckedBy p outcome.status outcome.output.items
