-- A pass of a table, by what its parts are.
use Rattle.std.proofs.Common.{◌≡◌, sym, ap, ◌∙◌}
use Rattle.std.specs.Prelude.{Option, Some}
use Rattle.atomic_table.specs.Seated.{TableId}
use Rattle.heap_core.specs.Posed.{Posed}
use Rattle.bounds_table.specs.Rule.{TableOf, PassOf, IsOf}

module _ (t u : TableOf) (q r : PassOf) (e : t ≡ u) (f : q ≡ r) (of : IsOf u r) where
  pub tied_problem : q.problem ≡ Some t.problem
  tied_problem = ap {A = PassOf} {B = Option Posed} (λ x. x.problem) f ∙ of.same_problem ∙ ap {A = TableOf} {B = Option Posed} (λ x. Some x.problem) (sym e)

  pub tied_table : q.table ≡ t.table
  tied_table = ap {A = PassOf} {B = TableId} (λ x. x.table) f ∙ of.same_table ∙ ap {A = TableOf} {B = TableId} (λ x. x.table) (sym e)
