use Rattle.std.proofs.Common.{◌≡◌, ◌-◌}
use Rattle.std.specs.Prelude.{if◌then◌else◌}
use Rattle.std.specs.List.{list_all, range_with_len}
use Rattle.rel_core.specs.Reading.{numbers_below}
use Rattle.rel_core.specs.Meaning.{has_object, same_at}
use Rattle.rel_core.specs.Views.{read, kept_set}
use Rattle.rel_core.proofs.holds.objects.is_changed.Given as goal

abbrev pub invariant-loop-object : goal.invariant-loop-object
invariant-loop-object l =
    list_all (λ o. if has_object (kept_set l.set) o then same_at (read l.view) l.new o l.given 0 else same_at (read l.view) l.new o l.old o) (range_with_len l.object (l.view.objects - l.object))
    ≡ list_all (λ o. if has_object (kept_set l.set) o then same_at (read l.view) l.new o l.given 0 else same_at (read l.view) l.new o l.old o) (numbers_below l.view.objects)
