-- What the loops of the cut have done so far.
use Rattle.std.specs.Prelude.{◌≡◌, ℕ, ◌+◌, ◌<◌, ◌≤◌, Bool, List, ◌++◌, length}
use Rattle.java_lex.specs.declared.fault.LexFault.{LexFault}
use Rattle.java_lex.specs.declared.fault.LexFault.TheVariants.{BadToken, NoMemory}
use Rattle.java_lex.specs.declared.front.Front.{Front}
use Rattle.java_lex.specs.declared.front.Front.TheVariants.{Bad}
use Rattle.java_lex.specs.declared.token.Token.{Token}
use Rattle.java_lex.specs.Cut.{Rule, Leads, BadAt, IsNote}

-- A piece of n bytes stands first, and its tokens were added.
pub record Takes (Piece : Rule) (at : ℕ) (text : List ℕ) (old new : List Token) (n : ℕ) : Type 0 where
  pub gained : List Token
  pub all : new ≡ old ++ gained
  pub some : 0 < n
  pub within : n ≤ length text
  pub piece : Piece at text n gained

-- Pieces lead to this place, and their tokens were added.
pub record Reaches (Piece : Rule) (at : ℕ) (text : List ℕ) (old new : List Token) (place : ℕ) (rest : List ℕ) : Type 0 where
  pub gained : List Token
  pub all : new ≡ old ++ gained
  pub leads : Leads Piece at text gained place rest
  pub size : place + length rest ≡ at + length text

-- The tokens of the annotation were added.
pub record GainsNote (closed : Bool) (at : ℕ) (content : List ℕ) (old new : List Token) : Type 0 where
  pub gained : List Token
  pub all : new ≡ old ++ gained
  pub note : IsNote closed at content gained

-- Where the fault is one of the text, it is at such a place.
abbrev pub Blames : (ℕ → Type 0) → LexFault → Type 0
Blames P (BadToken at) = P at
Blames P NoMemory = Unit {0}

-- Nothing that may stand there stands first at this place.
pub record IsBadHere (at : ℕ) (front : Front) (place : ℕ) : Type 0 where
  pub here : place ≡ at
  pub bad : front ≡ Bad

-- What is wrong with a text has its first place.
abbrev pub BlamesText : List ℕ → LexFault → Type 0
BlamesText text fault = Blames (BadAt text) fault
