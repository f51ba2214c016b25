use Rattle.std.proofs.Common.{rules, ◌≡◌, ◌+◌, ◌<◌, List, ℕ, true, ap, subst, ◌∙◌, arith, map, filter, get_or, length, All}
use Rattle.std.proofs.lemmas.Grind.{get_or_default_zero}
use Rattle.std.proofs.lemmas.List.{take_all}
use Rattle.std.proofs.lemmas.List.Sorted.{IsNonDecreasingBy-from_sort_by_key}
use Rattle.std.specs.List.Sorted.{IsPermutation}
use Rattle.sat_order.specs.Lists.{holds}
use Rattle.sat_order.proofs.BumpLemmas.{aged_by, aged_more, stand_so}
use Rattle.sat_order.proofs.OrderLemmas.{falls_below}
use Rattle.sat_order.proofs.queue.Queue.by_age.Goals as goal

-- the variable at hand stands in the queue
there : (c : goal.After-row_known-1) → holds c.self.inside.ring.order (get_or c.args.vars.now c.loop-var.var-index 0) ≡ true
there c = (c.self.invariant.order.each (get_or c.args.vars.now c.loop-var.var-index 0)).1
    (c.requires.from_one c.loop-var.var-index 0 c.loop-var-test.true, omega (arith, c.requires.within c.loop-var.var-index 0 c.loop-var-test.true, ap (λ q. length q.vars) c.self.view_is))

pub index-requires : goal.index-requires
index-requires c = omega (arith, (c.self.invariant.order.each (get_or c.args.vars.now c.loop-var.var-index 0)).0 (there c), c.self.invariant.stamped, c.self.invariant.all)

known : (c : goal.After-row_known-in-loop-var-1) → holds c.self.inside.ring.order (get_or c.args.vars.now c.loop-var.var-index 0) ≡ true
known c = (c.self.invariant.order.each (get_or c.args.vars.now c.loop-var.var-index 0)).1
    (c.requires.from_one c.loop-var.var-index 0 c.loop-var-test.true, omega (arith, c.requires.within c.loop-var.var-index 0 c.loop-var-test.true, ap (λ q. length q.vars) c.self.view_is))

pub overflow_sub-age : goal.overflow_sub-age
overflow_sub-age c =
    let v : ℕ = get_or c.args.vars.now c.loop-var.var-index 0 in
    let within : v < length c.self.inside.stamps.items = omega (arith, (c.self.invariant.order.each v).0 (known c), c.self.invariant.stamped, c.self.invariant.all) in
    let stamp : c.index.result.now ≡ get_or c.self.inside.stamps.items v 0 = c.index.ensures ∙ get_or_default_zero c.self.inside.stamps.items v c.index.result.now within in
    omega (arith, stamp, falls_below c.self.inside.stamps.items c.self.inside.ring.order (c.self.inside.newest + 1) v c.self.invariant.falls (known c))

pub loop-var-preserved : goal.loop-var-preserved
loop-var-preserved c =
    let v : ℕ = get_or c.args.vars.now c.loop-var.var-index 0 in
    let inside : holds c.self.inside.ring.order v ≡ true = (c.self.invariant.order.each v).1
    (c.requires.from_one c.loop-var.var-index 0 c.loop-var-test.true, omega (arith, c.requires.within c.loop-var.var-index 0 c.loop-var-test.true, ap (λ q. length q.vars) c.self.view_is)) in
    let within : v < length c.self.inside.stamps.items = omega (arith, (c.self.invariant.order.each v).0 inside, c.self.invariant.stamped, c.self.invariant.all) in
    let stamp : c.index.result.now ≡ get_or c.self.inside.stamps.items v 0 = c.index.ensures ∙ get_or_default_zero c.self.inside.stamps.items v c.index.result.now within in
    let pushed = c.in_ok-push.ensures.items in
    aged_more c.self.inside.stamps.items c.self.inside.newest c.args.vars.now c.loop-var.var-index c.index.result.now c.loop-var.aged.items c.push.new.self.items c.loop-var-test.true c.loop-var.invariant stamp pushed

pub returns-clause-vars : goal.returns-clause-vars
returns-clause-vars c =
    let vs : List ℕ = c.args.vars.now in
    let there : All (λ v. holds c.self.inside.ring.order v ≡ true) vs = λ k d lt.
    (c.self.invariant.order.each (get_or vs k d)).1 (c.requires.from_one k d lt, omega (arith, c.requires.within k d lt, ap (λ q. length q.vars) c.self.view_is)) in
    let s = c.in_ok-sort_by_key.ensures in
    let filled : c.loop-var.aged.items ≡ map (aged_by c.self.inside.stamps.items c.self.inside.newest) vs = c.loop-var.invariant ∙ ap (map (aged_by c.self.inside.stamps.items c.self.inside.newest)) (take_all c.loop-var.var-index vs (omega (arith, c.loop-var-test.false))) in
    subst (λ q. map (λ a. a.var) c.sort_by_key.new.self.items ≡ filter (holds vs) q.vars) c.self.view_is
    (stand_so c.self.inside.stamps.items c.self.inside.ring.order vs c.self.inside.newest c.sort_by_key.new.self.items c.self.invariant.falls c.requires.once there
    (subst (λ l. IsPermutation l c.sort_by_key.new.self.items) filled s.permutation) (IsNonDecreasingBy-from_sort_by_key (λ a. a.age) _ s.sorted (λ a r q k. search rules)))
