use Rattle.std.proofs.Common.{◌≡◌, ◌≤◌, true}
use Rattle.std.specs.List.{list_all}
use Rattle.heap_core.specs.Posed.{Posed}
use Rattle.rel_core.specs.Reading.{Reading, numbers_below}
use Rattle.rel_core.specs.Meaning.{holds}
use Rattle.rel_core.specs.Uses.{Kinds, AsSet, AsFlag, is_variable, is_spread, is_sorted}
use Rattle.dyn_steps.specs.Meanings.{is_placed}
use Rattle.dyn_steps.proofs.objects.all_placed.Given as goal

abbrev pub invariant-loop-object : goal.invariant-loop-object
invariant-loop-object l =
    ((m : Reading) → list_all (λ a. holds a m) l.parts ≡ list_all (is_placed m l.variable l.live) (numbers_below l.object))
    × ((p : Posed) (kinds : Kinds) → l.objects ≤ p.scope.objects → is_variable p kinds AsSet l.variable ≡ true → is_spread p kinds AsFlag l.live ≡ true → list_all (is_sorted p kinds) l.parts ≡ true)
