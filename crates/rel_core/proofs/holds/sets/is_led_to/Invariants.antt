use Rattle.std.proofs.Common.{◌≡◌, ◌-◌, ◌&&◌}
use Rattle.std.specs.List.{list_any, range_with_len}
use Rattle.rel_core.specs.Reading.{numbers_below}
use Rattle.rel_core.specs.Meaning.{leads}
use Rattle.rel_core.specs.Views.{read, is_marked}
use Rattle.rel_core.proofs.holds.sets.is_led_to.Given as goal

abbrev pub invariant-loop-object : goal.invariant-loop-object
invariant-loop-object l =
    list_any (λ o. is_marked l.marks o && leads (read l.view) l.relations o l.to) (range_with_len l.object (l.view.objects - l.object))
    ≡ list_any (λ o. is_marked l.marks o && leads (read l.view) l.relations o l.to) (numbers_below l.view.objects)
