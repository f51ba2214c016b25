use Rattle.jml_rel.proofs.walk.variable.Goals as goal

pub returns-in_ok-term-in-None-clause-sorted : goal.returns-in_ok-term-in-None-clause-sorted
returns-in_ok-term-in-None-clause-sorted c p kinds shown = c.in_ok-term-in-None.ensures.sorted p kinds
