use Rattle.std.proofs.Common.{◌≡◌, true}
use Rattle.java_tree.specs.Seen.{jml_tree}
use Rattle.expression_reading.specs.Levels.{within_left}
use Rattle.expression_reading.specs.Reading.{steps_in}
use Rattle.jml_reader.proofs.steps.steps.Given as goal

-- the steps that are left
abbrev pub invariant-loop-token : goal.invariant-loop-token
invariant-loop-token l = steps_in true (within_left true l.fn.left) (jml_tree l.fn.start) l.fn.tokens ≡ steps_in true (within_left true l.levels) (jml_tree l.tree) l.rest

abbrev pub decreases-loop-token : goal.decreases-loop-token
decreases-loop-token l = l.levels
