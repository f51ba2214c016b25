use Rattle.std.proofs.Common.{◌+◌, length, inr, sym, ap, subst, ◌∙◌}
use Rattle.std.specs.Prelude.{map, slice_get}
use Rattle.dyn_steps.specs.declared.point.Point.{Point}
use Rattle.dyn_rel.specs.Looking.{looked_by_any, looked_from, IsBehind}
use Rattle.dyn_rel.proofs.Walking.{seq_begun, seq_step, seq_ended, choice_begun, choice_step, choice_ended}
use Rattle.dyn_rel.proofs.LookedSets.{behind, seq_taken}
use Rattle.dyn_rel.proofs.Walking.{prog_of_act, prog_of_test, prog_of_seq, prog_of_choice, prog_of_star}
use Rattle.dyn_rel.proofs.walk.+walking.Goals as goal

pub part_of-returns-in_ok-part-in-Act : goal.part_of-returns-in_ok-part-in-Act
part_of-returns-in_ok-part-in-Act t c = λ vars there.
    prog_of_act c.args.basis.problem.now c.args.basis.kinds.now vars c.args.prog.now _ c.args.from _ c.in-Act.is c.in_ok-part-in-Act.ensures

pub part_of-returns-in_ok-part-in-Test : goal.part_of-returns-in_ok-part-in-Test
part_of-returns-in_ok-part-in-Test t c = λ vars there.
    prog_of_test c.args.basis.problem.now c.args.basis.kinds.now vars c.args.prog.now _ _ c.args.from _ c.in-Test.is
    (c.in_ok-part-in-Test.ensures c.args.basis.problem.now c.args.basis.kinds.now)

pub part_of-returns-in_ok-part-in-Seq : goal.part_of-returns-in_ok-part-in-Seq
part_of-returns-in_ok-part-in-Seq t c = λ vars there.
    prog_of_seq c.args.basis.problem.now c.args.basis.kinds.now vars c.args.prog.now _ _ c.args.from c.in_ok-part-in-Seq.part (length c.args.basis.kinds.now) c.args.after.now
    c.in-Seq.is c.as_slice.ensures (c.in_ok-part-in-Seq.ensures vars) there

pub part_of-returns-in_ok-part-in-Choice : goal.part_of-returns-in_ok-part-in-Choice
part_of-returns-in_ok-part-in-Choice t c = λ vars there.
    prog_of_choice c.args.basis.problem.now c.args.basis.kinds.now vars c.args.prog.now _ _ c.args.from c.in_ok-part-in-Choice.part (length c.args.basis.kinds.now)
    c.args.after.now c.in-Choice.is c.as_slice-in-Choice.ensures (c.in_ok-part-in-Choice.ensures vars) there

pub part_of-returns-in_ok-formula-in-Star : goal.part_of-returns-in_ok-formula-in-Star
part_of-returns-in_ok-formula-in-Star t c = λ vars there.
    prog_of_star c.args.basis.problem.now c.args.basis.kinds.now vars c.args.prog.now _ c.args.from _ c.in-Star.is c.in_ok-formula-in-Star.ensures.meaning
    (c.in_ok-formula-in-Star.ensures.sorted c.args.basis.problem.now (slice_get c.args.basis.kinds.now))

pub choice-loop-branch-init : goal.choice-loop-branch-init
choice-loop-branch-init t c = λ vars list kinded point.
    choice_begun c.args.basis.problem.now c.args.basis.kinds.now (looked_by_any (map looked_from c.args.branches.now) vars) vars c.args.from _ _ c.in_ok-first.ensures
    (c.in_ok-all.ensures c.args.basis.problem.now c.args.basis.kinds.now (looked_by_any (map looked_from c.args.branches.now) vars) vars) point

pub choice-loop-branch-preserved : goal.choice-loop-branch-preserved
choice-loop-branch-preserved t c = λ vars list kinded point.
    choice_step c.args.basis.problem.now c.args.basis.kinds.now vars c.args.from (record { at = c.in_ok-at.at; next = c.loop-branch.all.end.next })
    c.args.branches.now c.loop-branch.branch-index c.branch-item.result
    c.loop-branch.all c.in_ok-made.made c.in_ok-all-2.all kinded point c.loop-branch-test.true c.branch-item.is
    (ap (λ (z : Point). record { at = z; next = c.loop-branch.all.end.next }) c.in_ok-at.ensures)
    (c.loop-branch.invariant vars list kinded point) (c.in_ok-made.ensures vars (inr list)) (c.in_ok-all-2.ensures c.args.basis.problem.now vars list)

pub choice-returns : goal.choice-returns
choice-returns t c = λ vars list kinded point.
    choice_ended c.args.basis.problem.now c.args.basis.kinds.now vars c.args.from c.args.branches.now c.loop-branch.branch-index _ c.loop-branch-test.false
    (c.loop-branch.invariant vars list kinded point)

pub sequence-loop-part-init : goal.sequence-loop-part-init
sequence-loop-part-init t c = λ vars list. (
  c.in_ok-sets.ensures (length c.args.basis.kinds.now) vars list,
  λ kinded point. seq_begun c.args.basis.problem.now c.args.basis.kinds.now vars c.args.parts.now c.args.from _ (c.from_vec-all.ensures ∙ c.in_ok-with_capacity.ensures.items) point,
)

pub sequence-loop-part-preserved : goal.sequence-loop-part-preserved
sequence-loop-part-preserved t c = λ vars list.
    let before = c.loop-part.invariant vars list in
    let taken =
    seq_taken (length c.args.basis.kinds.now) vars c.args.parts.now c.loop-part.part-index c.part-item.result c.loop-part.sets c.last_set-behind.new.sets
    c.last_set-behind.result c.loop-part-test.true c.part-item.is before.0 c.last_set-behind.ensures
    in
    let later = behind vars c.args.parts.now (c.loop-part.part-index + 1) in (
      taken.1,
      λ kinded point.
          seq_step c.args.basis.problem.now c.args.basis.kinds.now vars c.args.from c.loop-part.front c.args.parts.now c.loop-part.part-index c.part-item.result
          c.loop-part.all _ _ c.in_ok-made.made c.well_posed.ensures.unit kinded c.loop-part-test.true c.part-item.is c.into_inner.ensures c.in_ok-push.ensures.ok
          (before.1 kinded point)
          (c.in_ok-made.ensures later (subst (λ z. IsBehind c.part-item.result (length c.args.basis.kinds.now) later z) (sym c.as_slice.ensures) taken.0)),
    )

pub sequence-returns : goal.sequence-returns
sequence-returns t c = λ vars list kinded point.
    seq_ended c.args.basis.problem.now c.args.basis.kinds.now vars c.args.from _ c.args.parts.now c.loop-part.part-index _ _ c.loop-part-test.false
    c.in_ok-formula.ensures.meaning (c.in_ok-formula.ensures.sorted c.args.basis.problem.now (slice_get c.args.basis.kinds.now)) ((c.loop-part.invariant vars list).1 kinded point)
