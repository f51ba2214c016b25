use Rattle.std.proofs.Common.{length, ap, sym, ◌∙◌}
use Rattle.sat_order.proofs.RingLemmas.{length-along}
use Rattle.sat_order.proofs.ring.Ring.len.Goals as goal

pub returns-clause-value : goal.returns-clause-value
returns-clause-value c = sym (length-along c.self.inside.next.items c.self.inside.len _) ∙ ap (λ h. length h.order) c.self.view_is
