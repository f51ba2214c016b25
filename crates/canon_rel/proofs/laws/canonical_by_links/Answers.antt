use Rattle.canon_rel.proofs.ByLinks.{canonical_by_links}
use Rattle.canon_rel.proofs.laws.canonical_by_links.Goals as goal

pub returns : goal.returns
returns c = canonical_by_links
