use Rattle.std.proofs.Common.{sym, subst}
use Rattle.sat_solver.specs.Answers.{IsAnswer}
use Rattle.sat_solver.specs.declared.answer.SatAnswer.TheVariants.{Refuted}
use Rattle.sat_solver.proofs.solver.Solver.solve.Goals as goal

pub returns-then-not-branch-clause-answer : goal.returns-then-not-branch-clause-answer
returns-then-not-branch-clause-answer c =
    let s = c.solved.result in
    let budget = c.args.self.budget in
    subst (IsAnswer s.cnf s.log budget) (sym c.solved.ensures.answer)
    (subst (λ log. IsAnswer s.cnf log budget Refuted) (sym c.solved.ensures.log)
    (subst (λ cnf. IsAnswer cnf c.load.new.self.log budget Refuted) (sym c.solved.ensures.cnf) (c.in_ok-load.ensures.answer c.if-not-branch.true budget)))
