use Rattle.std.proofs.Common.{◌-◌, refl, sym, map, drop, length, subst}
use Rattle.dyn_rel.specs.Looking.{looked_in_turn, looked_from, IsList}
use Rattle.dyn_rel.proofs.LookedSets.{before_is_act, before_is_seq, before_is_choice, turn_none, turn_step, turn_all, at_end, any_step, any_all}
use Rattle.dyn_rel.proofs.looking.+looking.Goals as goal

pub before-returns-in-Act : goal.before-returns-in-Act
before-returns-in-Act t c = λ n vars list. before_is_act n vars _ _ _ c.in-Act.is (c.before_act.ensures n vars list)

pub before-returns-in_ok-looked-in-Seq : goal.before-returns-in_ok-looked-in-Seq
before-returns-in_ok-looked-in-Seq t c = λ n vars list. before_is_seq n vars c.args.prog.now _ _ _ c.in-Seq.is c.as_slice.ensures (c.in_ok-looked-in-Seq.ensures n vars list)

pub before-returns-in_ok-looked-in-Choice : goal.before-returns-in_ok-looked-in-Choice
before-returns-in_ok-looked-in-Choice t c = λ n vars list.
    before_is_choice n vars c.args.prog.now _ _ c.args.set _ _ c.in-Choice.is c.as_slice-in-Choice-2.ensures c.as_slice-in-Choice.ensures (c.in_ok-looked-in-Choice.ensures n vars) list

pub before_all-loop-done-init : goal.before_all-loop-done-init
before_all-loop-done-init t c = λ n vars list. turn_none n vars c.args.parts.now c.args.set c.args.set refl list

pub before_all-loop-done-preserved : goal.before_all-loop-done-preserved
before_all-loop-done-preserved t c = λ n vars list.
    turn_step n vars c.args.parts.now c.loop-done.done c.index-parts-parts.result c.loop-done.looked _
    (at_end c.args.parts.now (length c.args.parts.now) c.loop-done.done c.loop-done-test.true refl c.index-parts-parts.result c.index-parts-parts.is)
    (c.loop-done.invariant n vars list)
    (λ before. c.in_ok-looked.ensures n (looked_in_turn (map looked_from (drop (length c.args.parts.now - c.loop-done.done) c.args.parts.now)) vars) before)

pub before_all-returns : goal.before_all-returns
before_all-returns t c = λ n vars list. turn_all n vars c.args.parts.now c.loop-done.done c.loop-done.looked c.loop-done-test.false (c.loop-done.invariant n vars list)

pub before_any-loop-branch-preserved : goal.before_any-loop-branch-preserved
before_any-loop-branch-preserved t c = λ n vars list.
    any_step n vars c.args.branches.now c.loop-branch.branch-index c.branch-item.result c.loop-branch.all c.in_ok-looked.looked _ _ _
    c.loop-branch-test.true c.branch-item.is c.in_ok-all-2.ensures c.as_slice.ensures c.as_slice-in-loop-branch.ensures (c.loop-branch.invariant n vars list)
    (c.in_ok-looked.ensures n vars (subst (λ z. IsList n vars z) (sym c.in_ok-behind.ensures) list))

pub before_any-returns : goal.before_any-returns
before_any-returns t c = λ n vars list. any_all n vars c.args.branches.now c.loop-branch.branch-index c.loop-branch.all c.loop-branch-test.false (c.loop-branch.invariant n vars list)
