-- What the grammar says of a list of tokens: it is a text, or it has a first token at fault.
use Rattle.std.specs.Prelude.{◌≡◌, List, [], ◌∷◌, ◌++◌, All}
use Rattle.java_lex.specs.declared.spelling.Terminal.TheVariants as terminal
use Rattle.java_lex.specs.declared.token.Token.{Token}
use Rattle.java_lex.specs.Terminals.{terminal_of}
use Rattle.java_tree.specs.Trees.{Classes}
use Rattle.java_tree.specs.Phrases.{letter, java}
use Rattle.java_tree.specs.Reading.{some_text, Parse, FirstWrong, FirstDeep}
use Rattle.reading_core.specs.Read.{Read, Got, Bad, Deep}

-- the token is not the end of the text
abbrev pub GoesOn : Token → Type 0
GoesOn t = terminal_of t ≡ terminal.End → ⊥

-- The tokens end with the end of the text, and have it nowhere else.
pub record Ended (ts : List Token) : Type 0 where
  pub before : List Token
  pub end : Token
  pub parts : ts ≡ before ++ end ∷ []
  pub is_end : letter end ≡ java terminal.End
  pub goes_on : All GoesOn before

pub data Verdict : Type 0 where
  -- a text with this tree
  Text : Classes → Verdict
  -- the tokens from the first one on with which no text begins, whatever levels are opened
  WrongFrom : List Token → Verdict
  -- the tokens from the first one on that opens a level too many
  DeepFrom : List Token → Verdict

-- the verdict holds of the tokens
abbrev pub Holds : List Token → Verdict → Type 0
Holds ts (Text classes) = Parse ts classes
Holds ts (WrongFrom rest) = FirstWrong some_text ts rest
Holds ts (DeepFrom rest) = FirstDeep some_text ts rest

-- One verdict holds of the tokens, and no other one.
pub record Judged (ts : List Token) : Type 0 where
  pub verdict : Verdict
  pub holds : Holds ts verdict
  pub only : (other : Verdict) → Holds ts other → other ≡ verdict

-- what reading gives where the verdict holds
abbrev pub told : Verdict → Read Classes
told (Text classes) = Got classes []
told (WrongFrom rest) = Bad rest
told (DeepFrom rest) = Deep rest

-- What is read is the verdict: each verdict that holds is what reading gives, and what it gives holds.
pub record Tells (ts : List Token) (read : Read Classes) (verdict : Verdict) : Type 0 where
  pub gives : Holds ts verdict → read ≡ told verdict
  pub holds : read ≡ told verdict → Holds ts verdict
