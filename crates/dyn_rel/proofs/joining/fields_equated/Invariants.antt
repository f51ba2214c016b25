use Rattle.std.proofs.Common.{◌≡◌, true, length}
use Rattle.heap_core.specs.Posed.{Posed}
use Rattle.rel_core.specs.declared.relation.What.TheVariants as what
use Rattle.dyn_rel.proofs.Same.{SameBelow}
use Rattle.dyn_rel.proofs.joining.fields_equated.Given as goal

abbrev pub invariant-loop-place : goal.invariant-loop-place
invariant-loop-place l = (p : Posed) → length l.from ≡ length p.unit.fields → SameBelow p l.kinds (λ x. what.Field x) (λ x. true) l.to l.from l.place l.parts
