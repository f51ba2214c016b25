use Rattle.canonical_order.specs.Visiting.{visited}
use Rattle.canonical_order.proofs.OneVisit.{one_visit}
use Rattle.canonical_order.proofs.Visited.{visited_is_visit}
use Rattle.canonical_order.proofs.laws.each_start_has_one_visit.Goals as goal

pub returns : goal.returns
returns c = λ s p fits. (visited s, visited_is_visit s p fits, λ other visit. one_visit s p fits other (visited s) visit (visited_is_visit s p fits))
