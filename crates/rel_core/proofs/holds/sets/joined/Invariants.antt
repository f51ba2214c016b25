use Rattle.std.proofs.Common.{◌≡◌, ℕ, ◌<◌, ◌&&◌, length}
use Rattle.std.specs.List.{list_any}
use Rattle.heap_core.specs.declared.value.Value.TheVariants.{Obj}
use Rattle.rel_core.specs.Reading.{numbers_below}
use Rattle.rel_core.specs.Views.{read, is_marked}
use Rattle.rel_core.proofs.holds.sets.joined.Given as goal

abbrev pub invariant-loop-object : goal.invariant-loop-object
invariant-loop-object l =
    (length l.objects ≡ 12) × ((p : ℕ) → p < l.object → is_marked l.objects p ≡ list_any (λ o. is_marked l.from.objects o && (read l.view).refs l.relation o (Obj p)) (numbers_below l.view.objects))
