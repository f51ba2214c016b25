use Rattle.std.proofs.Common.{◌≡◌, ◌-◌, ◌||◌, not, pos}
use Rattle.std.specs.Ordering.{int_eq}
use Rattle.std.specs.List.{list_all, range_with_len}
use Rattle.rel_core.specs.Reading.{numbers_below}
use Rattle.rel_core.specs.Meaning.{has_object}
use Rattle.rel_core.specs.Views.{read, kept_set}
use Rattle.rel_core.proofs.holds.objects.are_of.Given as goal

abbrev pub invariant-loop-object : goal.invariant-loop-object
invariant-loop-object l =
    list_all (λ o. not (has_object (kept_set l.set) o) || int_eq ((read l.view).number l.relation o) (pos l.class)) (range_with_len l.object (l.view.objects - l.object))
    ≡ list_all (λ o. not (has_object (kept_set l.set) o) || int_eq ((read l.view).number l.relation o) (pos l.class)) (numbers_below l.view.objects)
