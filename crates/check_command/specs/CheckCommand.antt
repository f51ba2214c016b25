-- What the command `check` answers about a method. (So far: about a method over booleans.)
use Rattle.std.specs.Prelude.{◌≡◌, ℕ, List, Option, IfSome}
use Rattle.boolean_trial.specs.Plain.{IsPlain}
use Rattle.heap_core.specs.declared.start.Start.{Start}
use Rattle.heap_core.specs.declared.judged.Part.{Part}
use Rattle.heap_core.specs.Posed.{Posed}
use Rattle.heap_core.specs.Judge.{Violates, Violable}
use Rattle.taco_report.specs.declared.status.Status.{Status}
use Rattle.taco_report.specs.declared.status.Status.TheVariants as status
use Rattle.taco_report.specs.RefusalLines.{refusal_line}
use Rattle.taco_report.specs.Reports.{no_tuples, holds_report, violated_report}
use Rattle.taco_words.specs.declared.request.Job.{Job}
use Rattle.posed_files.specs.Problems.{IsPosed, PosesNone}

-- the bytes pose this problem, and its method is one of those that are checked so far
pub record IsTried (bytes : List ℕ) (job : Job) (p : Posed) : Type 0 where
  pub posed : IsPosed bytes job p
  pub plain : IsPlain p.unit p.method

-- The method that is asked about holds, and the output says so.
pub record TellsHolding (told : Option (List ℕ)) (job : Job) (output : List ℕ) : Type 0 where
  pub problem : Posed
  pub scope : problem.scope ≡ job.scope
  pub tried : IfSome told (λ bytes. IsTried bytes job problem)
  pub not_violable : Violable problem → ⊥
  pub report : output ≡ holds_report problem no_tuples

-- The output tells a start that fits, and a part that breaks from it.
pub record TellsBreach (told : Option (List ℕ)) (job : Job) (output : List ℕ) : Type 0 where
  pub problem : Posed
  pub scope : problem.scope ≡ job.scope
  pub start : Start
  pub broken : Part
  pub tried : IfSome told (λ bytes. IsTried bytes job problem)
  pub violates : Violates problem start broken
  pub report : output ≡ violated_report problem no_tuples start broken

-- the bytes are the text of a unit that has the method, which is none of those that are checked so far
pub record IsNotTried (bytes : List ℕ) (job : Job) : Type 0 where
  pub problem : Posed
  pub posed : IsPosed bytes job problem
  pub not_plain : IsPlain problem.unit problem.method → ⊥

-- what `check` says, but for a file that cannot be read or is too long, and for want of memory
abbrev pub CheckSays : Job → (told : List ℕ → Option (List ℕ)) → Status → (output : List ℕ) → Type 0
CheckSays job told status.Holds output = TellsHolding (told job.file) job output
CheckSays job told status.Violated output = TellsBreach (told job.file) job output
CheckSays job told status.NotBuilt output = (output ≡ refusal_line status.NotBuilt) × IfSome (told job.file) (λ bytes. IsNotTried bytes job)
CheckSays job told ends output = PosesNone told job ends output
