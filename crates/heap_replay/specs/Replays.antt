-- What a replay shows of a start: the judgement and, where the run was judged, how it ended and the heap that it left.
use Rattle.std.specs.Prelude.{◌≡◌, ◌↔◌, Bool, true, false, if◌then◌else◌, [], Option}
use Rattle.heap_core.specs.declared.value.Value.{Value}
use Rattle.heap_core.specs.declared.judged.Judged.{Judged}
use Rattle.heap_core.specs.declared.judged.Judged.TheVariants.{Outside, NotAsked}
use Rattle.heap_core.specs.declared.start.Start.{Start}
use Rattle.heap_core.specs.Posed.{Posed}
use Rattle.heap_core.specs.Heap.{Heap}
use Rattle.heap_core.specs.Exec.{Ends, Gives, Throws, Leaves}
use Rattle.heap_core.specs.Judge.{judged, run_of}
use Rattle.heap_run.specs.declared.machine.Outcome.{Outcome}
use Rattle.heap_run.specs.declared.machine.Outcome.TheVariants.{Thrown, Unknown}
use Rattle.heap_replay.specs.declared.replays.Replayed.{Replayed}
use Rattle.heap_run.specs.Tasks.{outcome_of}

-- how a run ends, and the heap that it leaves
abbrev pub outcome_in : Ends (Option Value) → Outcome
outcome_in (Gives r m) = outcome_of r
outcome_in (Throws m) = Thrown
outcome_in Leaves = Unknown

abbrev pub heap_after : Ends (Option Value) → Heap
heap_after (Gives r m) = m.heap
heap_after (Throws m) = m.heap
heap_after Leaves = []

-- the judgement is one of the run
abbrev pub is_of_run : Judged → Bool
is_of_run Outside = false
is_of_run NotAsked = false
is_of_run _ = true

-- what is shown with a judgement where the run ended so, with this heap: nothing of a run that was not judged
abbrev pub shown_with : Judged → Outcome → Heap → Replayed
shown_with j o heap = record { judged = j; result = if is_of_run j then o else Unknown; end_heap = if is_of_run j then heap else [] }

abbrev pub shown : Judged → Ends (Option Value) → Replayed
shown j e = shown_with j (outcome_in e) (heap_after e)

-- what a replay shows of a start
abbrev pub replayed : Posed → Start → Replayed
replayed p s = shown (judged p s) (run_of p s)

-- a judgement is of the run exactly where it is known how the run ended
abbrev pub IsKnown : Replayed → Type 0
IsKnown r = (r.result ≡ Unknown) ↔ (is_of_run r.judged ≡ false)
