use Rattle.std.proofs.Common.{◌≡◌, ◌<◌, ◌∷◌, ◌+◌, true, length, ap, sym, ◌∙◌, arith, subst, length-set, slice_set}
use Rattle.sat_order.specs.Lists.{holds, without, before}
use Rattle.sat_order.specs.Order.{passed, Falls}
use Rattle.sat_order.proofs.ListLemmas.{gone-without, length-without}
use Rattle.sat_order.proofs.OrderLemmas.{order_moved, length_moved, cursor_moved, passed_moved, falls_moved, once_order}
use Rattle.sat_order.proofs.queue.Queue.bump.Goals as goal

-- the variable stands in the queue
there : (c : goal.After-push_front-arg-1) → holds c.self.inside.ring.order c.args.var ≡ true
there c = (c.self.invariant.order.each c.args.var).1 (c.requires.from_one, omega (arith, c.requires.within, ap (λ q. length q.vars) c.self.view_is))

pub push_front-requires-clause-absent : goal.push_front-requires-clause-absent
push_front-requires-clause-absent c = ap (λ xs. holds xs c.args.var) c.remove.ensures.order ∙ gone-without c.self.inside.ring.order c.args.var

pub push_front-requires-clause-room : goal.push_front-requires-clause-room
push_front-requires-clause-room c =
    omega (arith, length-without c.self.inside.ring.order c.args.var c.self.invariant.order.once (there c), ap length c.remove.ensures.order, c.remove.ensures.vars, c.self.invariant.all)

-- the queue's order afterwards
moved : (c : goal.After-self-3-1) → c.push_front.new.self.order ≡ c.args.var ∷ without c.args.var c.self.inside.ring.order
moved c = c.push_front.ensures.order ∙ ap (λ xs. c.args.var ∷ xs) c.remove.ensures.order

here : (c : goal.After-self-3-1) → holds c.self.inside.ring.order c.args.var ≡ true
here c = (c.self.invariant.order.each c.args.var).1 (c.requires.from_one, omega (arith, c.requires.within, ap (λ q. length q.vars) c.self.view_is))

pub invariant_of-self : goal.invariant_of-self
invariant_of-self c =
    let within : c.args.var < length c.last_stamp-newest.new.stamps.items =
    omega (arith, c.requires.within, ap (λ q. length q.vars) c.self.view_is, c.last_stamp-newest.ensures.length, c.self.invariant.stamped, c.self.invariant.all) in
    record {
      order = rw (moved c) (order_moved c.self.inside.ring.order c.args.var c.self.invariant.order (here c));
      all = omega (arith, ap length (moved c), length_moved c.self.inside.ring.order c.args.var c.self.invariant.order.once (here c), c.self.invariant.all, c.push_front.ensures.vars, c.remove.ensures.vars);
      cursor = subst (λ xs. holds (0 ∷ xs) c.stepped_over-self-inside.result ≡ true) (sym (moved c))
          (cursor_moved c.self.inside.ring.order c.self.inside.cursor c.args.var c.stepped_over-self-inside.result (here c) c.self.invariant.cursor c.stepped_over-self-inside.ensures);
      stamped = omega (arith, length-set c.last_stamp-newest.new.stamps.items c.args.var (c.last_stamp-newest.result + 1), c.last_stamp-newest.ensures.length, c.self.invariant.stamped, c.push_front.ensures.vars, c.remove.ensures.vars);
      falls = subst (Falls (slice_set c.last_stamp-newest.new.stamps.items c.args.var (c.last_stamp-newest.result + 1)) (c.last_stamp-newest.result + 1 + 1)) (sym (moved c))
          (falls_moved c.last_stamp-newest.new.stamps.items c.self.inside.ring.order c.args.var c.last_stamp-newest.result c.last_stamp-newest.ensures.falls within);
    }

pub returns-clause-passed : goal.returns-clause-passed
returns-clause-passed c =
    ap (before c.stepped_over-self-inside.result) (moved c)
    ∙ passed_moved c.self.inside.ring.order c.self.inside.cursor c.args.var c.stepped_over-self-inside.result (once_order c.self.inside.ring.order c.self.invariant.order) (here c) c.stepped_over-self-inside.ensures
    ∙ ap (λ q. c.args.var ∷ without c.args.var (passed q)) c.self.view_is

pub returns-clause-each : goal.returns-clause-each
returns-clause-each c = rw (moved c) (order_moved c.self.inside.ring.order c.args.var c.self.invariant.order (here c))

pub returns-clause-count : goal.returns-clause-count
returns-clause-count c = ap length (moved c) ∙ length_moved c.self.inside.ring.order c.args.var c.self.invariant.order.once (here c) ∙ ap (λ q. length q.vars) c.self.view_is
