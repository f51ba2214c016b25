-- What a run is: its end, and the heap that it leaves.
use Rattle.std.specs.Prelude.{◌≡◌, ◌≤◌, length, Option, Some, None}
use Rattle.heap_core.specs.declared.value.Value.{Value}
use Rattle.heap_core.specs.declared.start.Start.{Start}
use Rattle.heap_core.specs.Posed.{Posed}
use Rattle.heap_core.specs.Heap.{Heap}
use Rattle.heap_core.specs.Exec.{Memory, memory_of, Ends, Gives, Throws, Leaves}
use Rattle.heap_core.specs.Judge.{run_of}
use Rattle.heap_run.specs.declared.machine.Outcome.{Outcome}
use Rattle.heap_run.specs.declared.machine.Outcome.TheVariants as outcome
use Rattle.heap_run.specs.declared.runs.RunEnd.{RunEnd}

-- a run that has ended so, with this heap
abbrev pub ends_with : Outcome → Memory → Ends (Option Value)
ends_with (outcome.Value v) m = Gives (Some v) m
ends_with outcome.Nothing m = Gives None m
ends_with outcome.Thrown m = Throws m
ends_with outcome.Unknown m = Leaves

-- a heap has no more objects than the scope, where another has no more
abbrev pub StaysWithin : Posed → Heap → Heap → Type 0
StaysWithin p before after = length before ≤ p.scope.objects → length after ≤ p.scope.objects

-- how a run ends, with the heap that it leaves
pub record Runs (p : Posed) (s : Start) (r : RunEnd) : Type 0 where
  pub same : ends_with r.outcome (memory_of r.heap) ≡ run_of p s
