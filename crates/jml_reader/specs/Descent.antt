-- What the parts of the descent read, in the words of reading.
use Rattle.std.specs.Prelude.{ℕ, Bool, true, List, ◌∷◌}
use Rattle.java_lex.specs.declared.token.Token.{Token}
use Rattle.java_tree.specs.declared.expressions.Sign.TheVariants.{Implies}
use Rattle.java_tree.specs.declared.names.Ident.{Ident}
use Rattle.java_tree.specs.Trees.{Expr, bin, old, quant_in}
use Rattle.java_tree.specs.Expressions.{place}
use Rattle.reading_core.specs.Read.{Read, Got, expect, is_close, ◌>>=◌}
use Rattle.reading_core.specs.Deeper.{bracket, deeper}
use Rattle.reading_core.specs.Loops.{repeat}
use Rattle.expression_reading.specs.Levels.{within_left}
use Rattle.expression_reading.specs.Operators.{top}
use Rattle.expression_reading.specs.Reading.{field_in, first_is, is_dot, is_plus, operand_in, question_in, reach_in, steps_in}

-- the fields of a reach, behind the first one
abbrev pub fields_in : Ident → List Token → Read (List Ident)
fields_in start ts = repeat (first_is (is_plus true)) field_in ts >>= (λ is rest. Got (start ∷ is) rest)

-- ts: the tokens from the first of the part on; rest: those behind it; left: the levels that are left

-- `==>` and what stands behind it
abbrev pub implied_in : ℕ → Expr → List Token → List Token → Read Expr
implied_in left start ts rest = deeper (within_left true left) ts rest (λ b. b.operand 7 rest >>= (λ right rest. Got (bin (place start) Implies start right) rest))

-- a whole expression in its brackets
abbrev pub bracketed_in : ℕ → List Token → Read Expr
bracketed_in left ts = bracket true (within_left true left) ts (λ b rest. b.operand (top true) rest)

-- `\old` behind its word
abbrev pub old_in : ℕ → ℕ → List Token → Read Expr
old_in left at ts = bracketed_in left ts >>= (λ e rest. steps_in true (within_left true left) (old at e) rest)

-- a reach behind its word
abbrev pub reached_in : ℕ → ℕ → List Token → Read Expr
reached_in left at ts = bracket true (within_left true left) ts reach_in >>= (λ r rest. expect (is_dot true) rest >>= (λ _ rest. question_in (within_left true left) at r rest))

-- JExpr ")", behind the range of a quantifier and its `;`
abbrev pub ranged_in : ℕ → ℕ → Bool → Ident → Ident → Expr → List Token → Read Expr
ranged_in less at all kind i range ts =
    operand_in true (within_left true less) (top true) ts >>= (λ body rest. expect (is_close true) rest >>= (λ _ rest'. Got (quant_in at all kind i range body) rest'))
