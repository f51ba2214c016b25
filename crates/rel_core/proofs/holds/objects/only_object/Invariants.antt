use Rattle.std.proofs.Common.{◌≡◌, ◌-◌}
use Rattle.std.specs.Prelude.{filter}
use Rattle.std.specs.List.{range_with_len}
use Rattle.rel_core.specs.Meaning.{only_object, has_object}
use Rattle.rel_core.specs.Views.{read, kept_set}
use Rattle.rel_core.proofs.MarkedSets.{only_behind}
use Rattle.rel_core.proofs.holds.objects.only_object.Given as goal

abbrev pub invariant-loop-object : goal.invariant-loop-object
invariant-loop-object l =
    only_behind l.found (filter (has_object (kept_set l.set)) (range_with_len l.object (l.view.objects - l.object))) ≡ only_object (read l.view) (kept_set l.set)
