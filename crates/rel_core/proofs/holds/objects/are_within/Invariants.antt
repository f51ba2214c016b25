use Rattle.std.proofs.Common.{◌≡◌, ◌-◌, ◌||◌, not}
use Rattle.std.specs.List.{list_all, range_with_len}
use Rattle.rel_core.specs.Reading.{numbers_below}
use Rattle.rel_core.specs.Views.{is_marked}
use Rattle.rel_core.proofs.holds.objects.are_within.Given as goal

abbrev pub invariant-loop-object : goal.invariant-loop-object
invariant-loop-object l =
    list_all (λ o. not (is_marked l.part o) || is_marked l.whole o) (range_with_len l.object (l.view.objects - l.object))
    ≡ list_all (λ o. not (is_marked l.part o) || is_marked l.whole o) (numbers_below l.view.objects)
