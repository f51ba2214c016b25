use Rattle.std.proofs.Common.{false}
use Rattle.java_tree.specs.Seen.{java_tree}
use Rattle.expression_reading.specs.Levels.{within_left}
use Rattle.expression_reading.specs.Reading.{operand_in}
use Rattle.expression_reading.proofs.Shorter.{gives_fewer, operand_fewer}
use Rattle.code_reader.proofs.Answered.{gives_blames}
use Rattle.code_reader.proofs.code.expression.Goals as goal

pub returns-clause-is : goal.returns-clause-is
returns-clause-is c = gives_blames java_tree c.operand.result (operand_in false (within_left false c.args.left) 6 c.args.tokens.now) c.operand.ensures

pub returns-clause-shorter : goal.returns-clause-shorter
returns-clause-shorter c =
    gives_fewer java_tree c.operand.result c.args.tokens.now (operand_in false (within_left false c.args.left) 6 c.args.tokens.now) c.operand.ensures (operand_fewer false c.args.left 6 c.args.tokens.now)
