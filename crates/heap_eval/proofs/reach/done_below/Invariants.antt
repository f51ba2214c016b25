use Rattle.std.proofs.Common.{◌≡◌, ◌≤◌}
use Rattle.std.specs.Prelude.{count_by}
use Rattle.std.specs.List.{range_with_len}
use Rattle.heap_core.specs.Stages.{is_done, stage_of}
use Rattle.heap_eval.proofs.reach.done_below.Given as goal

abbrev pub invariant-loop-object : goal.invariant-loop-object
invariant-loop-object l = (l.count ≡ count_by (λ o. is_done (stage_of l.stages o)) (range_with_len 0 l.object)) × (l.count ≤ l.object)
