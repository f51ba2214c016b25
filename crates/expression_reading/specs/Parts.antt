-- What the parts of a reader's code read, in the words of reading. side: of code (false) or of a clause (true); left:
-- the levels that are left; ts: the tokens from the first of the part on; rest: those behind it.
use Rattle.std.specs.Prelude.{ℕ, Bool, List}
use Rattle.java_lex.specs.declared.token.Token.{Token}
use Rattle.java_tree.specs.Trees.{Expr, minus, negation}
use Rattle.reading_core.specs.Read.{Read, Got, ◌>>=◌}
use Rattle.reading_core.specs.Deeper.{bracket, deeper}
use Rattle.expression_reading.specs.Levels.{within_left}
use Rattle.expression_reading.specs.Reading.{group_in}

-- `!` and its operand
abbrev pub negated_in : Bool → ℕ → ℕ → List Token → List Token → Read Expr
negated_in side left at ts rest = deeper (within_left side left) ts rest (λ b. b.operand 0 rest >>= (λ e rest. Got (negation at e) rest))

-- `-` and its operand
abbrev pub subtracted_in : Bool → ℕ → ℕ → List Token → List Token → Read Expr
subtracted_in side left at ts rest = deeper (within_left side left) ts rest (λ b. b.operand 0 rest >>= (λ e rest. Got (minus at e) rest))

-- `(` and what begins with it
abbrev pub grouped_in : Bool → ℕ → ℕ → List Token → List Token → Read Expr
grouped_in side left at ts rest = deeper (within_left side left) ts rest (λ b. group_in side (within_left side left) at b rest)

-- empty brackets
abbrev pub empty_in : Bool → ℕ → List Token → Read (Unit {0})
empty_in side left ts = bracket side (within_left side left) ts (λ b rest. Got (tt {0}) rest)
