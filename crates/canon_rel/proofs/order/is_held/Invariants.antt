use Rattle.canon_rel.proofs.Gathered.{HeldParts}
use Rattle.canon_rel.proofs.order.is_held.Given as goal

abbrev pub invariant-loop-place : goal.invariant-loop-place
invariant-loop-place l = HeldParts l.places l.object l.place-index l.parts
