use Rattle.std.proofs.Common.{◌≡◌, ◌+◌, ◌-◌, ◌*◌, ◌≤◌, true}
use Rattle.java_tree.specs.Seen.{jml_tree}
use Rattle.expression_reading.specs.Levels.{links_in, within_left}
use Rattle.expression_reading.specs.Reading.{chain_in, operand_in}
use Rattle.jml_reader.proofs.descent.+descent.Given as goal

-- what is left of the links of an operand
abbrev pub invariant-operand-loop-link : goal.invariant-operand-loop-link
invariant-operand-loop-link l = operand_in true (within_left true l.left) l.number l.fn.tokens ≡ links_in true (within_left true l.left) l.link (l.number - l.link) (jml_tree l.tree) l.rest

-- what is left of the chain
abbrev pub invariant-chain-loop-token : goal.invariant-chain-loop-token
invariant-chain-loop-token l = (chain_in true (within_left true l.fn.left) l.number (jml_tree l.fn.start) l.fn.tokens ≡ chain_in true (within_left true l.levels) l.number (jml_tree l.tree) l.rest) × (l.levels ≤ l.fn.left)

abbrev pub decreases-chain-loop-token : goal.decreases-chain-loop-token
decreases-chain-loop-token l = l.levels

abbrev pub decreases-operand : goal.decreases-operand
decreases-operand l = 8 * l.left + 7

abbrev pub decreases-chain : goal.decreases-chain
decreases-chain l = 8 * l.left + 1

abbrev pub decreases-implied : goal.decreases-implied
decreases-implied l = 8 * l.left

abbrev pub decreases-unary : goal.decreases-unary
decreases-unary l = 8 * l.left + 6

abbrev pub decreases-negated : goal.decreases-negated
decreases-negated l = 8 * l.left

abbrev pub decreases-subtracted : goal.decreases-subtracted
decreases-subtracted l = 8 * l.left

abbrev pub decreases-group : goal.decreases-group
decreases-group l = 8 * l.left + 3

abbrev pub decreases-paren : goal.decreases-paren
decreases-paren l = 8 * l.left

abbrev pub decreases-quantified : goal.decreases-quantified
decreases-quantified l = 8 * l.less + 9

abbrev pub decreases-ranged : goal.decreases-ranged
decreases-ranged l = 8 * l.less + 8

abbrev pub decreases-inside : goal.decreases-inside
decreases-inside l = 8 * l.less + 8

abbrev pub decreases-bracketed : goal.decreases-bracketed
decreases-bracketed l = 8 * l.left

abbrev pub decreases-old : goal.decreases-old
decreases-old l = 8 * l.left + 1

abbrev pub decreases-reached : goal.decreases-reached
decreases-reached l = 8 * l.left + 2

abbrev pub decreases-reach : goal.decreases-reach
decreases-reach l = 8 * l.left + 1

abbrev pub decreases-question : goal.decreases-question
decreases-question l = 8 * l.left + 1
