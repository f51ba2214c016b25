use Rattle.std.proofs.Common.{◌≡◌}
use Rattle.canonical_order.specs.Visiting.{visited}
use Rattle.canonical_order.proofs.OneVisit.{one_visit}
use Rattle.canonical_order.proofs.Visited.{visited_is_visit}
use Rattle.heap_symmetry.proofs.Canonically.{canonical_by_visit}
use Rattle.heap_symmetry.proofs.one_renumbering_is_canonical.Goals as goal

pub returns : goal.returns
returns c = λ p s fits.
    let visit = visited_is_visit s p fits in
    record {
      order = visited s;
      each_once = visit.each_once;
      canonical = (canonical_by_visit p s (visited s) fits visit.each_once).1 visit;
      only = λ other once is. one_visit s p fits other (visited s) ((canonical_by_visit p s other fits once).0 is) visit;
    }
