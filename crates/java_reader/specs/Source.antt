-- What reading a text answers.
use Rattle.std.specs.Prelude.{◌≡◌, ◌⊎◌, ℕ, List, [], ◌∷◌, Option, Some, None, MatchOption, Result, Ok, Err}
use Rattle.java_lex.specs.declared.token.Token.{Token}
use Rattle.java_lex.specs.declared.spelling.Absent.{Absent}
use Rattle.java_lex.specs.declared.fault.LexFault.{LexFault}
use Rattle.java_lex.specs.declared.fault.LexFault.TheVariants.{BadToken as Unlexed, NoMemory as OutOfMemory}
use Rattle.java_lex.specs.Cut.{Cut, BadAt}
use Rattle.java_tree.specs.declared.members.Tree.{Tree}
use Rattle.java_tree.specs.Trees.{Classes}
use Rattle.java_tree.specs.Seen.{classes_tree}
use Rattle.java_tree.specs.Reading.{some_text, Parse, FirstWrong, FirstDeep, absent}
use Rattle.text_reading.specs.Verdicts.{Verdict, Text, WrongFrom, DeepFrom}
use Rattle.java_reader.specs.declared.fault.SourceFault.{SourceFault}
use Rattle.java_reader.specs.declared.fault.SourceFault.TheVariants.{BadToken, Syntax, Unsupported, Deep, NoMemory}

abbrev pub of_lexer : LexFault → SourceFault
of_lexer (Unlexed at) = BadToken at
of_lexer OutOfMemory = NoMemory

-- The tokens of the text are a text of the grammar with these classes.
pub record IsText (text : List ℕ) (cs : Classes) : Type 0 where
  pub tokens : List Token
  pub cut : Cut text tokens
  pub parse : Parse tokens cs

-- The first token with which no text begins, whatever levels are opened, stands at this place and is of this part
-- that the profile has not.
pub record IsWrongAt (text : List ℕ) (at : ℕ) (part : Option Absent) : Type 0 where
  pub tokens : List Token
  pub cut : Cut text tokens
  pub rest : List Token
  pub wrong : FirstWrong some_text tokens rest
  pub place : wrong.fault.at.from ≡ at
  pub kind : absent wrong.fault.at ≡ part

-- The first token with which no text begins within the levels opens a level too many, and stands at this place.
pub record IsDeepAt (text : List ℕ) (at : ℕ) : Type 0 where
  pub tokens : List Token
  pub cut : Cut text tokens
  pub rest : List Token
  pub deep : FirstDeep some_text tokens rest
  pub place : deep.fault.at.from ≡ at

abbrev pub Answers : List ℕ → Result Tree SourceFault → Type 0
Answers text (Ok tree) = IsText text (classes_tree tree)
Answers text (Err (BadToken at)) = BadAt text at
Answers text (Err (Syntax at)) = IsWrongAt text at None
Answers text (Err (Unsupported part at)) = IsWrongAt text at (Some part)
Answers text (Err (Deep at)) = IsDeepAt text at
Answers text (Err NoMemory) = Unit {0}

-- the fault of a token with which no text begins
abbrev pub WrongOf : List Token → SourceFault → Type 0
WrongOf [] fault = Unit {0}
WrongOf (t ∷ ts) fault = MatchOption (absent t) (fault ≡ Syntax t.from) (λ part. fault ≡ Unsupported part t.from)

-- the fault of a token that opens a level too many
abbrev pub DeepOf : List Token → SourceFault → Type 0
DeepOf [] fault = Unit {0}
DeepOf (t ∷ ts) fault = fault ≡ Deep t.from

-- The answer is what the verdict on the tokens says, or want of memory.
abbrev pub Is : Result Tree SourceFault → Verdict → Type 0
Is (Ok tree) (Text cs) = classes_tree tree ≡ cs
Is (Ok tree) (WrongFrom rest) = ⊥
Is (Ok tree) (DeepFrom rest) = ⊥
Is (Err fault) (Text cs) = fault ≡ NoMemory
Is (Err fault) (WrongFrom rest) = (fault ≡ NoMemory) ⊎ WrongOf rest fault
Is (Err fault) (DeepFrom rest) = (fault ≡ NoMemory) ⊎ DeepOf rest fault

-- The answer is this fault, or want of memory.
abbrev pub Fails : Result Tree SourceFault → SourceFault → Type 0
Fails result fault = (result ≡ Err fault) ⊎ (result ≡ Err NoMemory)
