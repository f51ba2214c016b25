use Rattle.std.proofs.Common.{◌≡◌, ℕ, ◌<◌, length}
use Rattle.heap_core.specs.Closure.{widened}
use Rattle.rel_core.specs.Meaning.{leads}
use Rattle.rel_core.specs.Views.{read, is_marked}
use Rattle.rel_core.proofs.holds.sets.widened.Given as goal

abbrev pub invariant-loop-object : goal.invariant-loop-object
invariant-loop-object l =
    (length l.wider ≡ 12) × ((p : ℕ) → p < l.object → is_marked l.wider p ≡ widened (leads (read l.view) l.relations) l.view.objects (is_marked l.marks) p)
