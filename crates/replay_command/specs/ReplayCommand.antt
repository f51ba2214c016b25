-- What the command `replay` answers about a method and the text of a state.
use Rattle.std.specs.Prelude.{◌≡◌, ℕ, ◌≤◌, List, length, Option, IfSome}
use Rattle.heap_core.specs.declared.judged.Judged.{Judged}
use Rattle.heap_core.specs.declared.judged.Judged.TheVariants.{Breaks}
use Rattle.heap_core.specs.declared.start.Start.{Start}
use Rattle.heap_core.specs.Posed.{Posed}
use Rattle.heap_core.specs.Start.{Fits}
use Rattle.heap_core.specs.Judge.{judged}
use Rattle.heap_replay.specs.Replays.{replayed}
use Rattle.taco_report.specs.declared.status.Status.{Status}
use Rattle.taco_report.specs.declared.status.Status.TheVariants as status
use Rattle.taco_report.specs.States.{IsBadState}
use Rattle.taco_report.specs.Replays.{replay_text_of}
use Rattle.taco_report.specs.Texts.{state_text}
use Rattle.taco_words.specs.declared.request.Job.{Job}
use Rattle.taco_report.specs.RefusalLines.{refusal_line}
use Rattle.command_files.specs.Slots.{TextFile}
use Rattle.posed_files.specs.Problems.{HoldsProblem, PosesNone}

-- the most bytes of the text of a state
abbrev pub state_limit : ℕ
state_limit = 262144

-- the file of a state
abbrev pub state_file : List ℕ → TextFile
state_file name = record { name = name; limit = state_limit }

-- The text is that of this start, which fits the problem.
pub record IsState (p : Posed) (bytes : List ℕ) (s : Start) : Type 0 where
  pub short : length bytes ≤ state_limit
  pub fits : Fits s p
  pub text : bytes ≡ state_text p s

-- The text is that of no start that fits, and its first line that is not right is here.
pub record IsNoState (p : Posed) (bytes : List ℕ) (at : ℕ) : Type 0 where
  pub short : length bytes ≤ state_limit
  pub first : IsBadState p bytes at
  pub none : (s : Start) → Fits s p → bytes ≡ state_text p s → ⊥

-- a broken contract has a status of its own
abbrev pub status_of : Judged → Status
status_of (Breaks part) = status.Broken
status_of _ = status.Done

-- The files hold a problem and a start of it, and the replay of the start is told: its judgement, how the run ended,
-- and the heap that it left.
pub record IsReplayed (told : List ℕ → Option (List ℕ)) (job : Job) (state : List ℕ) (ends : Status) (output : List ℕ) : Type 0 where
  pub problem : Posed
  pub start : Start
  pub scope : problem.scope ≡ job.scope
  pub fits : Fits start problem
  pub posed : HoldsProblem told job problem
  pub state_is : IfSome (told state) (λ bytes. IsState problem bytes start)
  pub ends_is : ends ≡ status_of (judged problem start)
  pub output_is : output ≡ replay_text_of problem (replayed problem start)

-- The file holds a problem, of which the other file holds no start.
pub record LacksState (told : List ℕ → Option (List ℕ)) (job : Job) (state : List ℕ) (at : ℕ) : Type 0 where
  pub problem : Posed
  pub posed : HoldsProblem told job problem
  pub no_state : IfSome (told state) (λ bytes. IsNoState problem bytes at)

-- the first file holds a problem, so that the state is come to
pub record HoldsSome (job : Job) (told : List ℕ → Option (List ℕ)) : Type 0 where
  pub problem : Posed
  pub holds : HoldsProblem told job problem

-- what `replay` says, but for files that cannot be read or are too long, and for want of memory
abbrev pub ReplaySays : Job → (state : List ℕ) → (told : List ℕ → Option (List ℕ)) → Status → (output : List ℕ) → Type 0
ReplaySays job state told status.Done output = IsReplayed told job state status.Done output
ReplaySays job state told status.Broken output = IsReplayed told job state status.Broken output
ReplaySays job state told (status.BadState at) output = (output ≡ refusal_line (status.BadState at)) × LacksState told job state at
ReplaySays job state told ends output = PosesNone told job ends output
