use Rattle.std.proofs.Common.{sym, subst}
use Rattle.heap_core.specs.Eval.{eval}
use Rattle.heap_core.specs.Judge.{invariant_env}
use Rattle.jml_rel.specs.Places.{Shows, Sorts}
use Rattle.jml_rel.specs.Clauses.{clause_point}
use Rattle.jml_rel.proofs.Environments.{invariant_shown, invariant_sorts}
use Rattle.jml_rel.proofs.invariants.of_invariant.Goals as goal

pub returns-clause-meaning : goal.returns-clause-meaning
returns-clause-meaning c at m heap is shown there = c.asked_of.ensures.told m (eval c.args.clause.now.expr (invariant_env c.args.problem.now heap c.args.object))
    (c.in_ok-formulas.ensures.told (invariant_env c.args.problem.now heap c.args.object) m
    (subst (λ i. Shows (clause_point c.args.problem.now i i c.in_ok-this.this) (invariant_env c.args.problem.now heap c.args.object) m) (sym is)
    (invariant_shown c.args.problem.now m at heap c.args.object c.in_ok-this.this (c.in_ok-this.ensures.meaning m) shown there)))

pub returns-clause-sorted : goal.returns-clause-sorted
returns-clause-sorted c at kinds is below = c.asked_of.ensures.sorted c.args.problem.now kinds
    (c.in_ok-formulas.ensures.sorted kinds
    (subst (λ i. Sorts (clause_point c.args.problem.now i i c.in_ok-this.this) kinds) (sym is)
    (invariant_sorts c.args.problem.now kinds at c.in_ok-this.this (c.in_ok-this.ensures.sorted c.args.problem.now kinds below))))
