use Rattle.std.proofs.Common.{◌≡◌, ◌<◌, ap, arith, length}
use Rattle.canonical_order.specs.Met.{Met}
use Rattle.canonical_order.proofs.TableMet.{one_more}
use Rattle.canonical_order.proofs.visit.Visit.push.Goals as goal

pub invariant_of-self-2 : goal.invariant_of-self-2
invariant_of-self-2 c =
    let object : c.from.result ≡ c.args.object = c.from.ensures in
    let inside : c.args.object < length c.self.inside.table.items = omega (arith, c.requires, ap (λ (m : Met). m.count) c.self.view_is) in
    rw (c.in_ok-push.ensures.items, object) (one_more c.self.inside.table.items c.self.inside.order.items c.args.object inside c.self.invariant)
