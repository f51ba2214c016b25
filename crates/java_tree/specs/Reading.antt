-- What a list of tokens stands for, and which token is at fault.
use Rattle.std.specs.Prelude.{◌≡◌, ◌⊎◌, ℕ, ◌≤◌, ◌<◌, List, [], ◌∷◌, ◌++◌, length, Option, Some, None}
use Rattle.java_lex.specs.declared.spelling.Absent.{Absent}
use Rattle.java_lex.specs.declared.spelling.Terminal.{Terminal}
use Rattle.java_lex.specs.declared.spelling.Terminal.TheVariants as terminal
use Rattle.java_lex.specs.declared.token.Token.{Token}
use Rattle.java_lex.specs.Terminals.{terminal_of}
use Rattle.java_tree.specs.Trees.{Expr, Classes}
use Rattle.java_tree.specs.Phrases.{Phrase, Limit}
use Rattle.java_tree.specs.Expressions.{predicate}
use Rattle.java_tree.specs.Members.{text}

-- a phrase of the grammar under a limit on levels
abbrev pub Limited : Type 1
Limited = Limit → Phrase

-- some text
abbrev pub some_text : Limited
some_text May l ts k rest = (cs : Classes) × text May cs l ts k rest

-- some expression of a clause
abbrev pub some_predicate : Limited
some_predicate May l ts k rest = (e : Expr) × predicate May e l ts k rest

-- The tokens are such a phrase.
pub record Parses (p : Phrase) (ts : List Token) : Type 0 where
  pub levels : ℕ
  pub parse : p 0 ts levels []

-- levels up to 64 may be opened
abbrev pub within : Limit
within level rest = level ≤ 64

-- every level may be opened
abbrev pub any_level : Limit
any_level level rest = Unit {0}

-- levels up to 64 may be opened, and every level by the last tokens, of which there are so many
abbrev pub within_before : ℕ → Limit
within_before last level rest = (level ≤ 64) ⊎ (length rest < last)

-- The tokens are a text with this tree, within the levels.
abbrev pub Parse : List Token → Classes → Type 0
Parse ts cs = Parses (text within cs) ts

-- Some tokens behind these make a phrase of them, whatever levels are opened.
pub record Begins (p : Limited) (ts : List Token) : Type 0 where
  pub more : List Token
  pub parses : Parses (p any_level) (ts ++ more)

-- Some tokens behind these make a phrase of them, and these open levels up to 64 alone.
pub record BeginsWithin (p : Limited) (ts : List Token) : Type 0 where
  pub more : List Token
  pub parses : Parses (p (within_before (length more))) (ts ++ more)

-- The first token with which no phrase begins within the levels; rest: the tokens from it on.
pub record FirstFault (p : Limited) (ts rest : List Token) : Type 0 where
  pub front : List Token
  pub at : Token
  pub behind : List Token
  pub here : rest ≡ at ∷ behind
  pub parts : ts ≡ front ++ rest
  pub before : BeginsWithin p front
  pub with_it : BeginsWithin p (front ++ at ∷ []) → ⊥

-- It is at fault whatever levels are opened: Syntax, or Unsupported where the profile has not what the token is.
pub record FirstWrong (p : Limited) (ts rest : List Token) : Type 0 where
  pub fault : FirstFault p ts rest
  pub wrong : Begins p (fault.front ++ fault.at ∷ []) → ⊥

-- It is at fault for the level that it opens alone: Deep.
pub record FirstDeep (p : Limited) (ts rest : List Token) : Type 0 where
  pub fault : FirstFault p ts rest
  pub deeper : Begins p (fault.front ++ fault.at ∷ [])

-- what the profile has not, where the token is of that
abbrev pub absent_part : Terminal → Option Absent
absent_part (terminal.Absent part) = Some part
absent_part x = None

abbrev pub absent : Token → Option Absent
absent t = absent_part (terminal_of t)
