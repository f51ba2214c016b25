use Rattle.std.proofs.Common.{◌≡◌, ℕ, suc, ◌+◌, ◌-◌, ◌≤◌, ◌∙◌, ap, sym, subst, arith, length, List}
use Rattle.std.specs.Prelude.{fold}
use Rattle.std.specs.List.{range_with_len}
use Rattle.heap_core.specs.Heap.{Heap}
use Rattle.canonical_order.specs.Canonical.{IsVisit}
use Rattle.canonical_order.specs.Met.{Met}
use Rattle.canonical_order.specs.Visiting.{with_fields, visited}
use Rattle.canonical_order.proofs.Visited.{visited_is_visit}
use Rattle.canonical_order.proofs.visit.visit_order.Goals as goal

-- the first of the places that are left
next_place : (heap : Heap) (order : List ℕ) (k n : ℕ) → k + 1 ≤ n → fold (with_fields heap) order (range_with_len k (n - k)) ≡ fold (with_fields heap) (with_fields heap order k) (range_with_len (k + 1) (n - (k + 1)))
next_place heap order k n small =
    let e : n - k ≡ suc (n - (k + 1)) = omega arith in
    ap (λ d. fold (with_fields heap) order (range_with_len k d)) e

pub loop-place-preserved : goal.loop-place-preserved
loop-place-preserved c =
    let heap = c.args.start.now.objects in
    let same : c.as_slice-objects.result.now ≡ heap = cc in
    let new = c.in_ok-meet_fields.ensures in
    let order : c.meet_fields.new.self.order ≡ with_fields heap c.loop-place.visit.order c.loop-place.place =
    ap (λ (m : Met). m.order) new ∙ ap (λ h. with_fields h c.loop-place.visit.order c.loop-place.place) same
    in
    let small : c.loop-place.place + 1 ≤ length heap = omega (arith, c.loop-place-test.true, ap length same) in
    (ap (λ (m : Met). m.count) new ∙ c.loop-place.invariant.0, ap (λ o. fold (with_fields heap) o (range_with_len (c.loop-place.place + 1) (length heap - (c.loop-place.place + 1)))) order ∙ sym (next_place heap c.loop-place.visit.order c.loop-place.place (length heap) small) ∙ c.loop-place.invariant.1)

pub returns : goal.returns
returns c =
    let heap = c.args.start.now.objects in
    let same : c.as_slice-objects.result.now ≡ heap = cc in
    let none : length heap - c.loop-place.place ≡ 0 = omega (arith, c.loop-place-test.false, ap length same) in
    let order : visited c.args.start.now ≡ c.into_order.result.items =
    sym c.loop-place.invariant.1 ∙ ap (λ d. fold (with_fields heap) c.loop-place.visit.order (range_with_len c.loop-place.place d)) none ∙ sym c.into_order.ensures
    in
    subst (IsVisit c.args.start.now) order (visited_is_visit c.args.start.now c.args._problem.now c.requires)
