use Rattle.java_tree.specs.Expressions.{predicate}
use Rattle.reading_core.proofs.Instance.{one_tree}
use Rattle.expression_reading.specs.Reading.{expression_in}
use Rattle.expression_reading.specs.Wants.{is_ready}
use Rattle.expression_reading.proofs.Alone.{react, start, owes}
use Rattle.std.proofs.Common.{true}
use Rattle.expression_reading.proofs.laws.a_clause_has_one_tree_at_most.Goals as goal

pub returns : goal.returns
returns c ts a b x y = one_tree react is_ready start predicate (expression_in true) owes ts a b x.levels y.levels x.parse y.parse
