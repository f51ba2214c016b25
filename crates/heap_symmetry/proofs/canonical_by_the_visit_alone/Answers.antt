use Rattle.heap_symmetry.proofs.Canonically.{canonical_by_visit}
use Rattle.heap_symmetry.proofs.canonical_by_the_visit_alone.Goals as goal

pub returns : goal.returns
returns c = λ p s order fits once. canonical_by_visit p s order fits once
