use Rattle.std.proofs.Common.{true}
use Rattle.java_tree.specs.Seen.{jml_tree}
use Rattle.expression_reading.specs.Levels.{within_left}
use Rattle.expression_reading.specs.Reading.{operand_in}
use Rattle.expression_reading.proofs.Shorter.{gives_fewer, operand_fewer}
use Rattle.jml_reader.proofs.clauses.predicate.Goals as goal

pub returns-clause-shorter : goal.returns-clause-shorter
returns-clause-shorter c =
    gives_fewer jml_tree c.operand.result c.args.tokens.now (operand_in true (within_left true c.args.left) 8 c.args.tokens.now) c.operand.ensures (operand_fewer true c.args.left 8 c.args.tokens.now)
