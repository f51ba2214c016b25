-- What the parts of the descent read, in the words of reading. left: the levels that are left.
use Rattle.std.specs.Prelude.{ℕ, false, List, [], ◌∷◌, Option, Some, None}
use Rattle.java_lex.specs.declared.spelling.Terminal.{Terminal}
use Rattle.java_lex.specs.declared.spelling.Terminal.TheVariants as terminal
use Rattle.java_lex.specs.declared.token.Token.{Token}
use Rattle.java_tree.specs.Trees.{Expr, Exprs, make}
use Rattle.java_tree.specs.Phrases.{ident_of}
use Rattle.reading_core.specs.Read.{Read, Got, at_side, expect, is_name, ◌>>=◌}
use Rattle.reading_core.specs.Deeper.{enclosed}
use Rattle.expression_reading.specs.Levels.{within_left}
use Rattle.expression_reading.specs.Parts.{empty_in}
use Rattle.expression_reading.specs.Reading.{arguments_in, steps_in}
use Rattle.code_reader.specs.Targets.{step_on}

-- [ Args ], by what the first token is
abbrev pub given_by : Terminal → ℕ → Token → List Token → Read (Option Exprs)
given_by terminal.OpenParen left t ts = enclosed false (within_left false left) t ts arguments_in >>= (λ es rest. Got (Some es) rest)
given_by x left t ts = Got None (t ∷ ts)

-- [ Args ], behind a name
abbrev pub given_in : ℕ → List Token → Read (Option Exprs)
given_in left [] = Got None []
given_in left (t ∷ ts) = given_by (at_side false t) left t ts

-- Step, behind a target and its `.`
abbrev pub step_of : ℕ → Expr → List Token → Read Expr
step_of left target ts = expect (is_name false) ts >>= (λ i rest. given_in left rest >>= (λ es rest'. Got (step_on (Some target) (ident_of i) es) rest'))

-- [ Args ] { "." Step }, behind the name that the token is
abbrev pub named_in : ℕ → Token → List Token → Read Expr
named_in left t ts = given_in left ts >>= (λ es rest. steps_in false (within_left false left) (step_on None (ident_of t) es) rest)

-- Name "(" ")" { "." Step }, behind `new`
abbrev pub made_in : ℕ → ℕ → List Token → Read Expr
made_in left at ts = expect (is_name false) ts >>= (λ i rest. empty_in false left rest >>= (λ _ rest'. steps_in false (within_left false left) (make at (ident_of i)) rest'))
