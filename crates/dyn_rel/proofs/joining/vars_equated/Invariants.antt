use Rattle.std.proofs.Common.{◌≡◌, false, length, get_or}
use Rattle.heap_core.specs.Posed.{Posed}
use Rattle.rel_core.specs.declared.relation.What.TheVariants as what
use Rattle.dyn_rel.proofs.Same.{SameBelow}
use Rattle.dyn_rel.proofs.joining.vars_equated.Given as goal

abbrev pub invariant-loop-place : goal.invariant-loop-place
invariant-loop-place l = (p : Posed) → length l.from ≡ length l.kinds → SameBelow p l.kinds (λ x. what.Slot x) (λ x. get_or l.set x false) l.to l.from l.place l.parts
