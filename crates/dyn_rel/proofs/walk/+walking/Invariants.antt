use Rattle.std.proofs.Common.{◌≡◌, true, length, drop}
use Rattle.rel_core.specs.declared.formula.Formula.TheVariants as form
use Rattle.dyn_core.specs.declared.prog.Prog.TheVariants as q
use Rattle.dyn_core.specs.Kinds.{is_kinded}
use Rattle.dyn_steps.specs.Points.{IsPoint}
use Rattle.dyn_steps.specs.Looked.{Vars}
use Rattle.dyn_rel.specs.Looking.{IsList, AreBehind}
use Rattle.dyn_rel.proofs.Walking.{IsBegun, IsOneOf}
use Rattle.dyn_rel.proofs.walk.+walking.Given as goal

abbrev pub invariant-sequence-loop-part : goal.invariant-sequence-loop-part
invariant-sequence-loop-part l =
    (vars : Vars) → IsList (length l.basis.kinds.now) vars l.after
    → AreBehind (length l.basis.kinds.now) vars (drop l.part-index l.parts) l.sets
    × (is_kinded l.basis.problem.now l.basis.kinds.now (q.Seq l.parts) ≡ true
    → IsPoint l.basis.problem.now l.basis.kinds.now l.initial.front.next l.initial.front.at
    → IsBegun l.basis.problem.now l.basis.kinds.now vars l.parts l.part-index l.initial.front (record { formula = form.And l.all; end = l.front }))

abbrev pub invariant-choice-loop-branch : goal.invariant-choice-loop-branch
invariant-choice-loop-branch l =
    (vars : Vars) → IsList (length l.basis.kinds.now) vars l.after
    → is_kinded l.basis.problem.now l.basis.kinds.now (q.Choice l.branches) ≡ true
    → IsPoint l.basis.problem.now l.basis.kinds.now l.from.next l.from.at
    → IsOneOf l.basis.problem.now l.basis.kinds.now vars l.branches l.branch-index l.from l.all
