-- The tokens of a text. A text is parted into pieces, one behind the other: white space, comments, tokens,
-- annotations, each as long as it can be. An annotation is parted so in turn, by the rules inside it.
use Rattle.std.specs.Prelude.{◌≡◌, ℕ, ◌+◌, ◌<◌, ◌≤◌, Bool, true, false, List, [], ◌∷◌, ◌++◌, length, take, drop}
use Rattle.std.specs.List.{prefix_len}
use Rattle.java_lex.specs.declared.front.Front.{Front}
use Rattle.java_lex.specs.declared.front.Front.TheVariants.{Gap, Token as token, Bad}
use Rattle.java_lex.specs.declared.front.Outside.{Outside}
use Rattle.java_lex.specs.declared.front.Outside.TheVariants.{Plain, Note}
use Rattle.java_lex.specs.declared.front.Shape.{Shape}
use Rattle.java_lex.specs.declared.front.Shape.TheVariants as shape
use Rattle.java_lex.specs.declared.token.Token.{Token}
use Rattle.java_lex.specs.declared.token.TokenKind.{TokenKind}
use Rattle.java_lex.specs.declared.token.TokenKind.TheVariants as kind
use Rattle.java_lex.specs.Bytes.{is_at}
use Rattle.java_lex.specs.Fronts.{front_in, front_out}

-- what bytes of this shape are
abbrev pub kind_of : Shape → List ℕ → TokenKind
kind_of shape.Word bytes = kind.Word bytes
kind_of (shape.Number n) bytes = kind.Number n
kind_of shape.Quoted bytes = kind.Quoted
kind_of shape.Slashed bytes = kind.Slashed bytes
kind_of shape.Symbol bytes = kind.Symbol bytes

-- the token of these bytes, at this place
abbrev pub token_of : Shape → Bool → ℕ → List ℕ → Token
token_of shape jml at bytes = record { kind = kind_of shape bytes; jml = jml; from = at; to = at + length bytes }

-- the token at the end of the text, which stands in no annotation
abbrev pub end_at : ℕ → Token
end_at at = record { kind = kind.End; jml = false; from = at; to = at }

-- The first n bytes of the text, which begins at this place, are such a piece and have these tokens.
abbrev pub Rule : Type 1
Rule = (at : ℕ) (text : List ℕ) (n : ℕ) (tokens : List Token) → Type 0

-- Pieces of these lengths lead from a place and what stands there to another, and have these tokens.
abbrev pub Chain : Rule → List ℕ → ℕ → List ℕ → List Token → ℕ → List ℕ → Type 0
Chain Piece [] at text tokens end rest = (tokens ≡ []) × (end ≡ at) × (rest ≡ text)
Chain Piece (n ∷ ns) at text tokens end rest =
    (first more : List Token) × (tokens ≡ first ++ more) × (0 < n) × (n ≤ length text) × Piece at text n first × Chain Piece ns (at + n) (drop n text) more end rest

-- Some pieces lead from here to there.
pub record Leads (Piece : Rule) (at : ℕ) (text : List ℕ) (tokens : List Token) (end : ℕ) (rest : List ℕ) : Type 0 where
  pub lengths : List ℕ
  pub chain : Chain Piece lengths at text tokens end rest

-- White space and comments have no token, and a token has itself.
abbrev pub IsPlain : Bool → Front → Rule
IsPlain jml (Gap m) at text n tokens = (n ≡ m) × (tokens ≡ [])
IsPlain jml (token shape m) at text n tokens = (n ≡ m) × (tokens ≡ token_of shape jml at (take m text) ∷ [])
IsPlain jml Bad at text n tokens = ⊥

-- A piece of an annotation, which ends with `*/` or not.
abbrev pub IsInside : Bool → Rule
IsInside closed at text n tokens = IsPlain true (front_in closed text) at text n tokens

-- how many `@` stand first: they are white space
abbrev pub signs : List ℕ → ℕ
signs content = prefix_len is_at content

-- An annotation with these tokens; content: what stands behind its first two bytes, up to its end.
abbrev pub IsNote : Bool → ℕ → List ℕ → List Token → Type 0
IsNote closed at content tokens = Leads (IsInside closed) (at + signs content) (drop (signs content) content) tokens (at + length content) []

-- A piece outside annotations: an annotation is one.
abbrev pub IsOutside : Outside → Rule
IsOutside (Plain front) at text n tokens = IsPlain false front at text n tokens
IsOutside (Note content whole closed) at text n tokens = (n ≡ whole) × IsNote closed (at + 2) (take content (drop 2 text)) tokens

abbrev pub IsPiece : Rule
IsPiece at text n tokens = IsOutside (front_out text) at text n tokens

-- The text has these tokens.
pub record Cut (text : List ℕ) (tokens : List Token) : Type 0 where
  pub before : List Token
  pub leads : Leads IsPiece 0 text before (length text) []
  pub whole : tokens ≡ before ++ end_at (length text) ∷ []

-- At this place in an annotation, which pieces reach, nothing stands that may stand there.
pub record IsBadNote (closed : Bool) (at : ℕ) (content : List ℕ) (place : ℕ) : Type 0 where
  pub before : List Token
  pub rest : List ℕ
  pub leads : Leads (IsInside closed) (at + signs content) (drop (signs content) content) before place rest
  pub bad : front_in closed rest ≡ Bad

-- At this place nothing stands that may stand there: where the text begins, or in the annotation with which it begins.
abbrev pub IsBad : ℕ → List ℕ → Outside → ℕ → Type 0
IsBad at text (Plain (Gap n)) place = ⊥
IsBad at text (Plain (token shape n)) place = ⊥
IsBad at text (Plain Bad) place = place ≡ at
IsBad at text (Note content whole closed) place = IsBadNote closed (at + 2) (take content (drop 2 text)) place

-- The first place of the text at which nothing stands that may stand there.
pub record BadAt (text : List ℕ) (place : ℕ) : Type 0 where
  pub before : List Token
  pub at : ℕ
  pub rest : List ℕ
  pub leads : Leads IsPiece 0 text before at rest
  pub bad : IsBad at rest (front_out rest) place
