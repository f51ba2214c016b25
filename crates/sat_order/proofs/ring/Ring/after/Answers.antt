use Rattle.std.proofs.Common.{ap}
use Rattle.sat_order.proofs.RingLemmas.{reads_after}
use Rattle.sat_order.proofs.ring.Ring.after.Goals as goal

pub returns : goal.returns
returns c = reads_after c.self.inside.next.items c.self.inside.previous.items _ c.self.inside.len c.args.var _
    c.self.invariant.1 c.self.invariant.0 (ap (λ h. h.order) c.self.view_is) c.requires c.index.ensures
