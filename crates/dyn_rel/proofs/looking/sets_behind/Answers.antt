use Rattle.std.proofs.Common.{◌-◌, refl, sym, map, drop, length, subst, ◌∙◌}
use Rattle.dyn_rel.specs.Looking.{looked_in_turn, looked_from, IsList}
use Rattle.dyn_rel.proofs.LookedSets.{turn_none, turn_step, at_end, behind_none, behind_step, behind_all}
use Rattle.dyn_rel.proofs.looking.sets_behind.Goals as goal

pub loop-done-init : goal.loop-done-init
loop-done-init c = λ n vars list. (
  turn_none n vars c.args.parts.now c.args.set.now c.in_ok-looked.looked c.in_ok-looked.ensures list,
  behind_none n vars c.args.parts.now _ (c.from_vec-sets.ensures ∙ c.in_ok-with_capacity.ensures.items),
)

pub loop-done-preserved : goal.loop-done-preserved
loop-done-preserved c = λ n vars list.
    let before = c.loop-done.invariant n vars list in
    let later = looked_in_turn (map looked_from (drop (length c.args.parts.now - c.loop-done.done) c.args.parts.now)) vars in
    let split =
    at_end c.args.parts.now (length c.args.parts.now) c.loop-done.done c.loop-done-test.true refl c.index-parts-parts.result c.index-parts-parts.is
    in (
      turn_step n vars c.args.parts.now c.loop-done.done c.index-parts-parts.result c.loop-done.looked _ split before.0 (λ one. c.in_ok-looked-2.ensures n later one),
      behind_step n vars c.args.parts.now c.loop-done.done c.index-parts-parts.result c.loop-done.sets _ c.in_ok-behind.behind split c.in_ok-push.ensures.ok
          (c.in_ok-behind.ensures n later (subst (λ z. IsList n later z) (sym c.as_slice.ensures) before.0)) before.1,
    )

pub returns : goal.returns
returns c = λ n vars list. behind_all n vars c.args.parts.now c.loop-done.done c.loop-done.sets c.loop-done-test.false ((c.loop-done.invariant n vars list).1)
