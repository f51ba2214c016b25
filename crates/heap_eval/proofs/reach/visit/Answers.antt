use Rattle.std.proofs.Common.{◌≡◌, ◌<◌, ◌≤◌, ℕ, true, length, subst, ap, arith, slice_set}
use Rattle.heap_core.specs.Posed.{Posed}
use Rattle.heap_core.specs.declared.visit.Stage.TheVariants.{Done}
use Rattle.heap_core.specs.Outcomes.{is_object}
use Rattle.heap_core.specs.Eval.{points, reached}
use Rattle.heap_core.specs.Closure.{BeginsBelow}
use Rattle.heap_core.specs.Stages.{found, is_unseen, stage_of}
use Rattle.heap_core.proofs.Reach.{points_within, reach_is_least_closed}
use Rattle.heap_core.proofs.Visiting.{Visits, Upon, upon_value, begun, turned, left_turned, ended}
use Rattle.heap_eval.specs.Environs.{env_of}
use Rattle.heap_eval.specs.Stages.{found_along}
use Rattle.heap_eval.proofs.Visiting.{upon_fields}
use Rattle.heap_eval.proofs.reach.visit.Goals as goal

pub loop-place-init : goal.loop-place-init
loop-place-init c =
    let env = env_of c.args.env in
    let fields = c.args.fields.now in
    let from = c.args.from in
    let before = c.args.stages.now in
    let after = c.find.new.stages in
    let made : found before from ≡ after = cc in
    let upon : Upon (λ o. is_object o from) before after = subst (λ ss. Upon (λ o. is_object o from) before ss) made (upon_value before from) in
    let least = reach_is_least_closed env fields from c.requires.within.now in
    let objects : c.problem.inside.scope.objects ≡ env.objects = ap (λ (p : Posed). p.scope.objects) c.problem.view_is in
    let small : length env.heap ≤ length before = omega (arith, objects, c.requires.within.now, c.requires.sized, c.problem.invariant.scope.objects_high) in
    let inside : BeginsBelow (length before) (points env fields) = λ p o to. omega (arith, points_within env fields p o to, small) in
    let fresh : (o : ℕ) → o < length before → is_unseen (stage_of before o) ≡ true = λ o within. c.requires.fresh o (omega (arith, within, c.requires.sized)) in
    subst (λ n. Visits n (points env fields) (λ o. is_object o from) (reached env fields from) after) c.requires.sized
    (begun (points env fields) (λ o. is_object o from) (reached env fields from) before after inside least.holds fresh upon)

pub loop-place-smaller : goal.loop-place-smaller
loop-place-smaller c =
    let env = env_of c.args.env in
    let fields = c.args.fields.now in
    let place = c.in-Some.place in
    let before = slice_set c.loop-place.stages place Done in
    let after = c.find_along.new.stages in
    let classes : c.problem.inside.unit.classes ≡ env.classes = ap (λ (p : Posed). p.unit.classes) c.problem.view_is in
    let made : found_along env.classes env.heap place before fields ≡ after = cc in
    let upon = subst (λ ss. Upon (points env fields place) before ss) made (upon_fields env fields place before) in
    omega (arith, left_turned (points env fields place) c.loop-place.stages after place c.in-Some.ensures.some.1 upon)

pub loop-place-preserved : goal.loop-place-preserved
loop-place-preserved c =
    let env = env_of c.args.env in
    let fields = c.args.fields.now in
    let from = c.args.from in
    let place = c.in-Some.place in
    let before = slice_set c.loop-place.stages place Done in
    let after = c.find_along.new.stages in
    let classes : c.problem.inside.unit.classes ≡ env.classes = ap (λ (p : Posed). p.unit.classes) c.problem.view_is in
    let made : found_along env.classes env.heap place before fields ≡ after = cc in
    let upon = subst (λ ss. Upon (points env fields place) before ss) made (upon_fields env fields place before) in
    let least = reach_is_least_closed env fields from c.requires.within.now in
    turned 256 (points env fields) (λ o. is_object o from) (reached env fields from) c.loop-place.stages after place least.closed c.loop-place.invariant c.in-Some.ensures.some.1 upon

pub returns : goal.returns
returns c =
    let env = env_of c.args.env in
    let fields = c.args.fields.now in
    let from = c.args.from in
    ended 256 (points env fields) (λ o. is_object o from) (reached env fields from) c.loop-place.stages (reach_is_least_closed env fields from c.requires.within.now) c.loop-place.invariant c.in_default.ensures.none
