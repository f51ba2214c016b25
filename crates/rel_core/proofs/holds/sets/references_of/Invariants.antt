use Rattle.std.proofs.Common.{◌≡◌, ℕ, ◌<◌, length}
use Rattle.heap_core.specs.declared.value.Value.TheVariants.{Obj}
use Rattle.rel_core.specs.Views.{read, is_marked}
use Rattle.rel_core.proofs.holds.sets.references_of.Given as goal

abbrev pub invariant-loop-object : goal.invariant-loop-object
invariant-loop-object l = (length l.objects ≡ 12) × ((p : ℕ) → p < l.object → is_marked l.objects p ≡ (read l.view).refs l.relation 0 (Obj p))
