-- Phrases of tokens: what leads from the tokens that are left before it to those that are left behind it.
-- Beside the tokens it leads from a number of levels of nesting that are open to another.
use Rattle.std.specs.Prelude.{◌≡◌, ◌⊎◌, ℕ, zero, suc, Bool, true, false, List, [], ◌∷◌}
use Rattle.java_lex.specs.declared.spelling.Terminal.{Terminal}
use Rattle.java_lex.specs.declared.spelling.Terminal.TheVariants as terminal
use Rattle.java_lex.specs.declared.token.Token.{Token}
use Rattle.java_lex.specs.declared.token.TokenKind.{TokenKind}
use Rattle.java_lex.specs.declared.token.TokenKind.TheVariants.{Word, Number, Quoted, Slashed, Symbol, End}
use Rattle.java_lex.specs.Terminals.{terminal_of}
use Rattle.java_tree.specs.declared.names.Ident.{Ident}

-- what a token is: whether it stands in an annotation, and its terminal
abbrev pub Letter : Type 0
Letter = Bool × Terminal

abbrev pub letter : Token → Letter
letter t = (t.jml, terminal_of t)

-- a terminal outside annotations
abbrev pub java : Terminal → Letter
java x = (false, x)

-- a terminal in an annotation
abbrev pub jml : Terminal → Letter
jml x = (true, x)

-- the bytes of a word
abbrev pub text_of : TokenKind → List ℕ
text_of (Word bytes) = bytes
text_of (Number n) = []
text_of Quoted = []
text_of (Slashed bytes) = []
text_of (Symbol bytes) = []
text_of End = []

-- the name that a word is
abbrev pub ident_of : Token → Ident
ident_of t = record { text = text_of t.kind; at = t.from }

-- levels open and tokens left before the phrase, and behind it
abbrev pub Phrase : Type 1
Phrase = ℕ → List Token → ℕ → List Token → Type 0

infixr 30 ◌▸◌
-- one phrase and then the other
abbrev pub ◌▸◌ : Phrase → Phrase → Phrase
◌▸◌ p q l ts k rest = (m : ℕ) × (mid : List Token) × p l ts m mid × q m mid k rest

-- no token
abbrev pub nothing : Phrase
nothing l ts k rest = (k ≡ l) × (rest ≡ ts)

-- one or the other
abbrev pub either : Phrase → Phrase → Phrase
either p q l ts k rest = p l ts k rest ⊎ q l ts k rest

-- the phrase or nothing
abbrev pub maybe : Phrase → Phrase
maybe p = either nothing p

-- the phrase so many times
abbrev pub times : ℕ → Phrase → Phrase
times zero p = nothing
times (suc n) p = p ▸ times n p

-- the phrase any number of times
abbrev pub many : Phrase → Phrase
many p l ts k rest = (n : ℕ) × times n p l ts k rest

-- the phrase, where a fact holds
abbrev pub where_ : Type 0 → Phrase → Phrase
where_ P p l ts k rest = P × p l ts k rest

-- one token with this fact
abbrev pub token : (Token → Type 0) → Phrase
token P l ts k rest = (t : Token) × P t × (ts ≡ t ∷ rest) × (k ≡ l)

-- one token that is this
abbrev pub one : Letter → Phrase
one x = token (λ t. letter t ≡ x)

-- one token that is this, at this place
abbrev pub one_at : Letter → ℕ → Phrase
one_at x at = token (λ t. (letter t ≡ x) × (t.from ≡ at))

-- a name
abbrev pub name : Bool → Ident → Phrase
name side i = token (λ t. (letter t ≡ (side, terminal.Name)) × (ident_of t ≡ i))

-- some name
abbrev pub any_name : Bool → Phrase
any_name side = one (side, terminal.Name)

-- a name that is this word
abbrev pub word : Bool → List ℕ → Phrase
word side bytes = token (λ t. (letter t ≡ (side, terminal.Name)) × (t.kind ≡ Word bytes))

-- a number, at this place
abbrev pub number : Bool → ℕ → ℕ → Phrase
number side at n = token (λ t. (letter t ≡ (side, terminal.Number)) × (t.kind ≡ Number n) × (t.from ≡ at))

-- which levels may be opened by a token, by the tokens that are left behind it
abbrev pub Limit : Type 1
Limit = ℕ → List Token → Type 0

-- the token before opens a level
abbrev pub opens : Limit → Phrase
opens May l ts k rest = (k ≡ suc l) × May k ts × (rest ≡ ts)

-- the levels that the phrase opens end with it
abbrev pub closed : Phrase → Phrase
closed p l ts k rest = (m : ℕ) × p l ts m rest × (k ≡ l)
