-- Levels in the code: each may be opened where one is left.
use Rattle.std.specs.Prelude.{ℕ, zero, suc, Bool, List, Option}
use Rattle.java_lex.specs.declared.token.Token.{Token}
use Rattle.java_tree.specs.Trees.{Expr}
use Rattle.reading_core.specs.Read.{Read, Got, ◌>>=◌}
use Rattle.reading_core.specs.Deeper.{Level, always}
use Rattle.expression_reading.specs.Reading.{Below, operand_in, chain_in, step_in, below}

-- what is read within so many levels that are left
abbrev pub within_left : Bool → ℕ → Option (Level Below)
within_left side left = below side always left

abbrev pub readers_of : Bool → ℕ → Below
readers_of side left = record { operand = operand_in side (within_left side left); chain = chain_in side (within_left side left); step = step_in side (within_left side left) }

abbrev pub level_of : Bool → ℕ → Level Below
level_of side left = record { may = always left; readers = readers_of side left }

-- the links behind a left part, from the operand number n on, so many of them
abbrev pub links_in : Bool → Option (Level Below) → ℕ → ℕ → Expr → List Token → Read Expr
links_in side level n zero e ts = Got e ts
links_in side level n (suc count) e ts = chain_in side level n e ts >>= (λ e rest. links_in side level (suc n) count e rest)
