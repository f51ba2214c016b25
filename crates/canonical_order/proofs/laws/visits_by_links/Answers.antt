use Rattle.canonical_order.proofs.Links.{visits_by_links}
use Rattle.canonical_order.proofs.laws.visits_by_links.Goals as goal

pub returns : goal.returns
returns c = visits_by_links
