use Rattle.std.proofs.Common.{◌≡◌, ℕ, ◌<◌}
use Rattle.heap_core.specs.Closure.{rounds}
use Rattle.rel_core.specs.Meaning.{leads}
use Rattle.rel_core.specs.Views.{read, is_marked}
use Rattle.rel_core.proofs.holds.sets.closed.Given as goal

abbrev pub invariant-loop-round : goal.invariant-loop-round
invariant-loop-round l =
    (o : ℕ) → o < l.view.objects → is_marked l.marks o ≡ rounds l._round (leads (read l.view) l.relations) l.view.objects (is_marked l.fn.begin) o
