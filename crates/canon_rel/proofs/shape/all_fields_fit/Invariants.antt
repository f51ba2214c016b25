use Rattle.std.proofs.Common.{◌≡◌}
use Rattle.canon_rel.specs.Shape.{fields_fit}
use Rattle.canon_rel.proofs.Gathered.{AllParts}
use Rattle.canon_rel.proofs.shape.all_fields_fit.Given as goal

abbrev pub invariant-loop-object : goal.invariant-loop-object
invariant-loop-object l =
    AllParts (λ m. m.objects ≡ l.problem.scope.objects) (λ p kinds. p ≡ l.problem) (fields_fit l.problem l.at) l.object l.parts
