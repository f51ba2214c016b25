use Rattle.std.proofs.Common.{sym, subst, ◌∙◌}
use Rattle.heap_core.specs.Posed.{Posed}
use Rattle.bounds_table.specs.Core.{ArePossible}
use Rattle.bounds_rows.proofs.Row.{kept_first}
use Rattle.bounds_rows.proofs.tests.two_passes_share_the_table.Goals as goal

pub keep-requires-clause-possible : goal.keep-requires-clause-possible
keep-requires-clause-possible g c = subst (λ (p : Posed). ArePossible p 0 2) (sym (c.in_ok-bounds.ensures.problem ∙ c.in_ok-problem.ensures)) kept_first
