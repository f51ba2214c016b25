use Rattle.std.proofs.Common.{subst, sym}
use Rattle.dyn_steps.specs.Paths.{IsStep}
use Rattle.dyn_steps.proofs.acting.act.Goals as goal

pub returns-in_ok-part-in-Copy : goal.returns-in_ok-part-in-Copy
returns-in_ok-part-in-Copy c = subst (λ a. IsStep c.args.basis.problem.now c.args.basis.kinds.now a c.args.from c.in_ok-part-in-Copy.part) (sym c.in-Copy.is) c.in_ok-part-in-Copy.ensures

pub returns-in_ok-part-in-Const : goal.returns-in_ok-part-in-Const
returns-in_ok-part-in-Const c = subst (λ a. IsStep c.args.basis.problem.now c.args.basis.kinds.now a c.args.from c.in_ok-part-in-Const.part) (sym c.in-Const.is) c.in_ok-part-in-Const.ensures

pub returns-in_ok-part-in-Sum : goal.returns-in_ok-part-in-Sum
returns-in_ok-part-in-Sum c = subst (λ a. IsStep c.args.basis.problem.now c.args.basis.kinds.now a c.args.from c.in_ok-part-in-Sum.part) (sym c.in-Sum.is) c.in_ok-part-in-Sum.ensures

pub returns-in_ok-part-in-Diff : goal.returns-in_ok-part-in-Diff
returns-in_ok-part-in-Diff c = subst (λ a. IsStep c.args.basis.problem.now c.args.basis.kinds.now a c.args.from c.in_ok-part-in-Diff.part) (sym c.in-Diff.is) c.in_ok-part-in-Diff.ensures

pub returns-in_ok-part-in-Product : goal.returns-in_ok-part-in-Product
returns-in_ok-part-in-Product c = subst (λ a. IsStep c.args.basis.problem.now c.args.basis.kinds.now a c.args.from c.in_ok-part-in-Product.part) (sym c.in-Product.is) c.in_ok-part-in-Product.ensures

pub returns-in_ok-part-in-Same : goal.returns-in_ok-part-in-Same
returns-in_ok-part-in-Same c = subst (λ a. IsStep c.args.basis.problem.now c.args.basis.kinds.now a c.args.from c.in_ok-part-in-Same.part) (sym c.in-Same.is) c.in_ok-part-in-Same.ensures

pub returns-in_ok-part-in-Below : goal.returns-in_ok-part-in-Below
returns-in_ok-part-in-Below c = subst (λ a. IsStep c.args.basis.problem.now c.args.basis.kinds.now a c.args.from c.in_ok-part-in-Below.part) (sym c.in-Below.is) c.in_ok-part-in-Below.ensures

pub returns-in_ok-part-in-Read : goal.returns-in_ok-part-in-Read
returns-in_ok-part-in-Read c = subst (λ a. IsStep c.args.basis.problem.now c.args.basis.kinds.now a c.args.from c.in_ok-part-in-Read.part) (sym c.in-Read.is) c.in_ok-part-in-Read.ensures

pub returns-in_ok-part-in-Write : goal.returns-in_ok-part-in-Write
returns-in_ok-part-in-Write c = subst (λ a. IsStep c.args.basis.problem.now c.args.basis.kinds.now a c.args.from c.in_ok-part-in-Write.part) (sym c.in-Write.is) c.in_ok-part-in-Write.ensures

pub returns-in_ok-part-in-Make : goal.returns-in_ok-part-in-Make
returns-in_ok-part-in-Make c = subst (λ a. IsStep c.args.basis.problem.now c.args.basis.kinds.now a c.args.from c.in_ok-part-in-Make.part) (sym c.in-Make.is) c.in_ok-part-in-Make.ensures
