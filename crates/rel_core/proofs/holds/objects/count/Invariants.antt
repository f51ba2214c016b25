use Rattle.std.proofs.Common.{◌≡◌, ◌+◌, ◌-◌, ◌≤◌}
use Rattle.std.specs.Prelude.{count_by}
use Rattle.std.specs.List.{range_with_len}
use Rattle.rel_core.specs.Reading.{numbers_below}
use Rattle.rel_core.specs.Meaning.{has_object}
use Rattle.rel_core.specs.Views.{kept_set}
use Rattle.rel_core.proofs.holds.objects.count.Given as goal

abbrev pub invariant-loop-object : goal.invariant-loop-object
invariant-loop-object l =
    (l.count ≤ l.object)
    × (l.count + count_by (has_object (kept_set l.set)) (range_with_len l.object (l.view.objects - l.object)) ≡ count_by (has_object (kept_set l.set)) (numbers_below l.view.objects))
