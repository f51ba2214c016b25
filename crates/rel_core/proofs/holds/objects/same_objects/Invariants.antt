use Rattle.std.proofs.Common.{◌≡◌, ◌-◌}
use Rattle.std.specs.List.{list_all, range_with_len}
use Rattle.heap_core.specs.declared.value.Value.TheVariants.{Obj}
use Rattle.heap_core.specs.Outcomes.{same_flag}
use Rattle.rel_core.specs.Reading.{numbers_below}
use Rattle.rel_core.specs.Views.{read}
use Rattle.rel_core.proofs.holds.objects.same_objects.Given as goal

abbrev pub invariant-loop-object : goal.invariant-loop-object
invariant-loop-object l =
    list_all (λ o. same_flag ((read l.view).refs l.a l.at (Obj o)) ((read l.view).refs l.b l.there (Obj o))) (range_with_len l.object (l.view.objects - l.object))
    ≡ list_all (λ o. same_flag ((read l.view).refs l.a l.at (Obj o)) ((read l.view).refs l.b l.there (Obj o))) (numbers_below l.view.objects)
