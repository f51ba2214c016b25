use Rattle.std.proofs.Common.{◌≡◌, [], length, subst, sym, ap, arith}
use Rattle.derivation.specs.Propagation.{Follows}
use Rattle.sat_solver.specs.Answers.{IsAnswer}
use Rattle.sat_solver.specs.declared.answer.SatAnswer.TheVariants.{Refuted}
use Rattle.sat_solver.proofs.Loading.{logged_nil}
use Rattle.sat_solver.proofs.Turning.{answer_refuted}
use Rattle.sat_solver.proofs.search.Search.refute_clause.Goals as goal

pub returns-clause-answer : goal.returns-clause-answer
returns-clause-answer g c = λ budget.
    let s = c.args.self.now in
    let none : s.log ≡ [] = c.requires.1.1.1.1.1.1.1 in
    subst (λ log. IsAnswer s.cnf log budget Refuted) (sym c.in_ok-push.ensures.ok)
    (answer_refuted s.cnf s.log budget c.in_ok-line.line (logged_nil s.cnf s.log none) (λ some. omega (arith, ap length none))
    (subst (λ k. Follows k c.in_ok-line.line) c.requires.0 c.in_ok-line.ensures.follows) c.in_ok-line.ensures.empty c.push.ensures.fit)
