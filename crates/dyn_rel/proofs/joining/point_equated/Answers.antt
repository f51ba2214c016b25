use Rattle.std.proofs.Common.{refl, ◌∙◌}
use Rattle.std.specs.Prelude.{slice_get}
use Rattle.dyn_steps.proofs.Combining.{both_of}
use Rattle.dyn_rel.proofs.Joints.{point_said}
use Rattle.dyn_rel.proofs.joining.point_equated.Goals as goal

pub returns : goal.returns
returns c = λ p vars list over.
    point_said p c.args.kinds.now vars c.args.set.now c.args.at.now c.args.joint.now list over _ _ _ _ _ _ _ _ _
    c.as_slice.ensures c.as_slice-2.ensures c.as_slice-3.ensures c.as_slice-4.ensures
    (c.in_ok-fields.ensures p) (c.in_ok-vars.ensures p) (c.in_ok-live.ensures p refl) (c.in_ok-class.ensures p refl)
    (λ m. c.in_ok-all.ensures.meaning m ∙ both_of _ _ _ _ (c.in_ok-lists.ensures.meaning m) (c.in_ok-heap.ensures.meaning m))
    (λ fields slots live class. c.in_ok-all.ensures.sorted p (slice_get c.args.kinds.now)
    (c.in_ok-lists.ensures.sorted p (slice_get c.args.kinds.now) fields slots) (c.in_ok-heap.ensures.sorted p (slice_get c.args.kinds.now) live class))
