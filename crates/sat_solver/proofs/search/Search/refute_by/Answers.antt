use Rattle.std.proofs.Common.{subst, sym}
use Rattle.derivation.specs.Propagation.{Follows}
use Rattle.sat_solver.specs.Answers.{IsAnswer}
use Rattle.sat_solver.specs.declared.answer.SatAnswer.TheVariants.{Refuted}
use Rattle.sat_solver.proofs.Turning.{answer_refuted}
use Rattle.sat_solver.proofs.search.Search.refute_by.Goals as goal

pub returns-clause-answer : goal.returns-clause-answer
returns-clause-answer g c =
    let s = c.args.self.now in
    subst (λ log. IsAnswer s.cnf log c.args.budget Refuted) (sym c.in_ok-push.ensures.ok)
    (answer_refuted s.cnf s.log c.args.budget c.in_ok-line.line c.requires.1.0.logged c.requires.1.1.1.0
    (subst (λ k. Follows k c.in_ok-line.line) c.requires.0 c.in_ok-line.ensures.follows) c.in_ok-line.ensures.empty c.push.ensures.fit)
