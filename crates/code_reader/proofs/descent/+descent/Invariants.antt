use Rattle.std.proofs.Common.{◌≡◌, ◌+◌, ◌-◌, ◌*◌, ◌≤◌, false, length, map}
use Rattle.java_tree.specs.Seen.{java_tree}
use Rattle.reading_core.specs.Read.{is_comma}
use Rattle.expression_reading.specs.Levels.{links_in, readers_of, within_left}
use Rattle.expression_reading.specs.Reading.{argument_in, arguments_in, chain_in, exprs, first_is, operand_in, steps_in}
use Rattle.expression_reading.proofs.Gathered.{gathered}
use Rattle.code_reader.proofs.descent.+descent.Given as goal

-- what is left of the links of an operand
abbrev pub invariant-operand-loop-link : goal.invariant-operand-loop-link
invariant-operand-loop-link l = operand_in false (within_left false l.left) l.number l.fn.tokens ≡ links_in false (within_left false l.left) l.link (l.number - l.link) (java_tree l.tree) l.rest

-- what is left of the chain
abbrev pub invariant-chain-loop-token : goal.invariant-chain-loop-token
invariant-chain-loop-token l = (chain_in false (within_left false l.fn.left) l.number (java_tree l.fn.start) l.fn.tokens ≡ chain_in false (within_left false l.levels) l.number (java_tree l.tree) l.rest) × (l.levels ≤ l.fn.left)

abbrev pub decreases-chain-loop-token : goal.decreases-chain-loop-token
decreases-chain-loop-token l = l.levels

-- the steps that are left
abbrev pub invariant-steps-loop-token : goal.invariant-steps-loop-token
invariant-steps-loop-token l = (steps_in false (within_left false l.fn.left) (java_tree l.fn.start) l.fn.tokens ≡ steps_in false (within_left false l.levels) (java_tree l.tree) l.rest) × (l.levels ≤ l.fn.left)

abbrev pub decreases-steps-loop-token : goal.decreases-steps-loop-token
decreases-steps-loop-token l = l.levels

-- the arguments that are left
abbrev pub invariant-inside-arguments : goal.invariant-inside-arguments
invariant-inside-arguments l =
    arguments_in (readers_of false l.less) l.fn.tokens ≡ gathered exprs (first_is (is_comma false)) (argument_in (readers_of false l.less)) (map java_tree l.arguments.items) l.rest

abbrev pub decreases-inside-arguments : goal.decreases-inside-arguments
decreases-inside-arguments l = length l.rest

abbrev pub decreases-operand : goal.decreases-operand
decreases-operand l = 8 * l.left + 7

abbrev pub decreases-chain : goal.decreases-chain
decreases-chain l = 8 * l.left + 1

abbrev pub decreases-unary : goal.decreases-unary
decreases-unary l = 8 * l.left + 6

abbrev pub decreases-negated : goal.decreases-negated
decreases-negated l = 8 * l.left

abbrev pub decreases-subtracted : goal.decreases-subtracted
decreases-subtracted l = 8 * l.left

abbrev pub decreases-group : goal.decreases-group
decreases-group l = 8 * l.left + 1

abbrev pub decreases-named : goal.decreases-named
decreases-named l = 8 * l.left + 5

abbrev pub decreases-made : goal.decreases-made
decreases-made l = 8 * l.left + 1

abbrev pub decreases-steps : goal.decreases-steps
decreases-steps l = 8 * l.left

abbrev pub decreases-step : goal.decreases-step
decreases-step l = 8 * l.left + 4

abbrev pub decreases-given : goal.decreases-given
decreases-given l = 8 * l.left + 3

abbrev pub decreases-arguments : goal.decreases-arguments
decreases-arguments l = 8 * l.left + 2

abbrev pub decreases-inside : goal.decreases-inside
decreases-inside l = 8 * l.less + 9

abbrev pub decreases-argument : goal.decreases-argument
decreases-argument l = 8 * l.less + 8
