use Rattle.std.proofs.Common.{◌≡◌, take}
use Rattle.heap_run.proofs.runs.copy_heap.Given as goal

abbrev pub invariant-loop-object : goal.invariant-loop-object
invariant-loop-object l = l.heap.items ≡ take l.object-index l.objects
