use Rattle.sat_solver.proofs.search.Search.load.Goals as goal

pub returns-then-not-branch-clause-answer : goal.returns-then-not-branch-clause-answer
returns-then-not-branch-clause-answer c = λ _. c.in_ok-load_clause.ensures.answer c.if-not-branch.true
