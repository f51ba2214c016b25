use Rattle.std.proofs.Common.{true, ◌∙◌}
use Rattle.rel_core.specs.Uses.{is_sorted}
use Rattle.rel_core.proofs.Forms.{sorted_const}
use Rattle.rel_core.proofs.formula.Formula.all.Goals as goal

pub returns-in_ok-never-clause-sorted : goal.returns-in_ok-never-clause-sorted
returns-in_ok-never-clause-sorted c = λ p kinds parts. c.in_ok-never.ensures.sorted p kinds

pub returns-in_ok-all-clause-sorted : goal.returns-in_ok-all-clause-sorted
returns-in_ok-all-clause-sorted c = λ p kinds parts. c.in_ok-all.ensures.sorted p kinds (c.in_ok-open.ensures (is_sorted p kinds) (sorted_const p kinds true) ∙ parts)
