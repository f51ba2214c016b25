use Rattle.std.proofs.Common.{◌≡◌}
use Rattle.canon_rel.specs.Shape.{is_next}
use Rattle.canon_rel.proofs.Gathered.{AllParts}
use Rattle.canon_rel.proofs.shape.is_prefix.Given as goal

abbrev pub invariant-loop-object : goal.invariant-loop-object
invariant-loop-object l =
    AllParts (λ m. m.objects ≡ l.problem.scope.objects) (λ p kinds. p ≡ l.problem) (λ m. is_next l.at m) l.object l.parts
