use Rattle.std.proofs.Common.{◌≡◌, ℕ, ◌+◌, suc, Bool, true, false, MatchOption, Option, Some, None, ◌∙◌, ap, arith}
use Rattle.expression_reading.specs.Levels.{level_of, within_left}
use Rattle.expression_reading.specs.Reading.{below}
use Rattle.expression_reading.proofs.levels.deeper.Goals as goal

level_below : (side : Bool) (left : ℕ) (r : Option ℕ) → MatchOption r (left ≡ 0) (λ less. left ≡ less + 1) → MatchOption r (within_left side left ≡ None) (λ less. within_left side left ≡ Some (level_of side less))
unfolding below
level_below side left None is = ap (within_left side) is
level_below side left (Some less) is = let more : less + 1 ≡ suc less = omega arith in ap (within_left side) (is ∙ more)

pub returns-clause-code : goal.returns-clause-code
returns-clause-code c = level_below false c.args.left c.lower.result c.lower.ensures

pub returns-clause-clause : goal.returns-clause-clause
returns-clause-clause c = level_below true c.args.left c.lower.result c.lower.ensures
