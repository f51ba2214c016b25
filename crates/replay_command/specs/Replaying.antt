-- What the replay of the start that a text says comes to.
use Rattle.std.specs.Prelude.{ℕ, List}
use Rattle.heap_core.specs.declared.start.Start.{Start}
use Rattle.heap_core.specs.Posed.{Posed}
use Rattle.heap_core.specs.Judge.{judged}
use Rattle.heap_replay.specs.Replays.{replayed}
use Rattle.taco_report.specs.declared.status.Status.TheVariants as status
use Rattle.taco_report.specs.Replays.{replay_text_of}
use Rattle.taco_report.specs.RefusalLines.{refusal_line}
use Rattle.command_files.specs.declared.outcome.Outcome.{Outcome}
use Rattle.replay_command.specs.ReplayCommand.{status_of, IsNoState, IsState}
use Rattle.command_files.specs.Outcomes.{IsOutcome}

-- the replay of a start
abbrev pub IsShown : Posed → Start → Outcome → Type 0
IsShown p s o = IsOutcome (status_of (judged p s)) (replay_text_of p (replayed p s)) o

-- the text says a start that fits, which is replayed, or it is refused
pub data ReplaysText (p : Posed) (bytes : List ℕ) (o : Outcome) : Type 0 where
  shown : (s : Start) → IsState p bytes s → IsShown p s o → ReplaysText p bytes o
  refused : (at : ℕ) → IsNoState p bytes at → IsOutcome (status.BadState at) (refusal_line (status.BadState at)) o → ReplaysText p bytes o
