use Rattle.std.proofs.Common.{◌-◌, ap, ◌∙◌, arith}
use Rattle.std.proofs.lemmas.Bool.{lt-ltb}
use Rattle.rel_core.specs.Uses.{AsFlag, is_spread}
use Rattle.dyn_steps.proofs.Combining.{both_of}
use Rattle.dyn_steps.proofs.Growing.{room_of, placed_of}
use Rattle.dyn_steps.proofs.making.object_made.Goals as goal

pub returns-clause-meaning : goal.returns-clause-meaning
returns-clause-meaning c = λ m.
    c.in_ok-all.ensures.meaning m
    ∙ both_of _ _ _ _
    (c.in_ok-front.ensures.meaning m
    ∙ both_of _ _ _ _
    (c.in_ok-room.ensures.meaning m ∙ room_of m _ _ _ _ c.live-live.ensures c.objects_of-objects.ensures)
    (c.in_ok-placed.ensures.meaning m ∙ placed_of m c.args.variable _ _ _ _ c.live-live.ensures c.objects_of-objects.ensures))
    (c.in_ok-lives.ensures.meaning m)

pub returns-clause-sorted : goal.returns-clause-sorted
returns-clause-sorted c = λ kinds variable.
    let p = c.args.basis.problem.now in
    let low = c.well_posed.ensures.scope.scope.objects_low in
    let same = c.objects_of-objects.ensures in
    let spread = ap (is_spread p kinds AsFlag) c.live-live.ensures in
    c.in_ok-all.ensures.sorted p kinds
    (c.in_ok-front.ensures.sorted p kinds
    (c.in_ok-room.ensures.sorted p kinds (lt-ltb (c.objects_of-objects.result - 1) p.scope.objects (omega (arith, low, same))) spread)
    (c.in_ok-placed.ensures.sorted p kinds (omega (arith, same)) variable spread))
    (c.in_ok-lives.ensures.sorted p kinds (lt-ltb 0 p.scope.objects (omega (arith, low))) variable)
