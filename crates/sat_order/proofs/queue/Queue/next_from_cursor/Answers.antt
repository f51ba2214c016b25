use Rattle.std.proofs.Common.{◌≡◌, ◌∷◌, length, ap, sym, ◌∙◌}
use Rattle.std.specs.Prelude.{unwrap_or}
use Rattle.std.specs.List.{find}
use Rattle.sat_order.specs.Lists.{holds, before}
use Rattle.sat_order.specs.Order.{is_free, passed}
use Rattle.sat_order.proofs.OrderLemmas.{none_free, find_from, holds_found, before_found, once_order}
use Rattle.sat_order.proofs.queue.Queue.next_from_cursor.Goals as goal

pub invariant_of-self : goal.invariant_of-self
invariant_of-self c = record {
  order = c.self.invariant.order;
  all = c.self.invariant.all;
  cursor = ap (holds (0 ∷ c.self.inside.ring.order)) (c.unwrap_or-self-inside.ensures ∙ ap (λ o. unwrap_or o 0) c.free_from-found.ensures) ∙ holds_found (is_free c.args.set.now) c.self.inside.ring.order c.self.inside.cursor;
  stamped = c.self.invariant.stamped;
  falls = c.self.invariant.falls;
}

pub returns-clause-first : goal.returns-clause-first
returns-clause-first c =
    c.free_from-found.ensures ∙ sym (find_from (is_free c.args.set.now) c.self.inside.ring.order c.self.inside.cursor (λ v h. c.requires.set_before v (ap (λ q. holds (passed q) v) (sym c.self.view_is) ∙ h)))
    ∙ ap (λ q. find (is_free c.args.set.now) q.vars) c.self.view_is

pub returns-clause-none : goal.returns-clause-none
returns-clause-none c = none_free c.args.set.now c.self.inside.ring.order c.free_from-found.result c.self.invariant.order (c.requires.one_each ∙ ap (λ q. length q.vars) (sym c.self.view_is))
    (c.free_from-found.ensures ∙ sym (find_from (is_free c.args.set.now) c.self.inside.ring.order c.self.inside.cursor (λ v h. c.requires.set_before v (ap (λ q. holds (passed q) v) (sym c.self.view_is) ∙ h))))

pub returns-clause-set_before : goal.returns-clause-set_before
returns-clause-set_before c =
    let found : c.unwrap_or-self-inside.result ≡ unwrap_or (find (is_free c.args.set.now) c.self.inside.ring.order) 0 =
    c.unwrap_or-self-inside.ensures ∙ ap (λ o. unwrap_or o 0) (c.free_from-found.ensures ∙ sym (find_from (is_free c.args.set.now) c.self.inside.ring.order c.self.inside.cursor (λ v h. c.requires.set_before v (ap (λ q. holds (passed q) v) (sym c.self.view_is) ∙ h)))) in
    λ v h. before_found (is_free c.args.set.now) c.self.inside.ring.order v (once_order c.self.inside.ring.order c.self.invariant.order).0
    (ap (λ at. holds (before at c.self.inside.ring.order) v) (sym found) ∙ h)
