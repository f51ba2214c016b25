-- What holds of the tokens of each piece of a text holds of all its tokens.
use Rattle.std.proofs.Common.{ℕ, ◌+◌, Bool, List, [], ◌∷◌, ◌++◌, length, drop, sym, subst}
use Rattle.java_lex.specs.declared.token.Token.{Token}
use Rattle.java_lex.specs.Cut.{Rule, Chain, IsInside, IsNote, signs}

-- it holds of each token
abbrev pub Each : (Token → Type 0) → List Token → Type 0
Each P [] = Unit {0}
Each P (t ∷ ts) = P t × Each P ts

each_append : (P : Token → Type 0) (f g : List Token) → Each P f → Each P g → Each P (f ++ g)
each_append P [] g p q = q
each_append P (t ∷ f) g p q = (p.0, each_append P f g p.1 q)

pub chain_each : (P : Token → Type 0) (Piece : Rule) → ((at : ℕ) (text : List ℕ) (n : ℕ) (tokens : List Token) → Piece at text n tokens → Each P tokens) → (ns : List ℕ) (at : ℕ) (text : List ℕ) (tokens : List Token) (end : ℕ) (rest : List ℕ)
    → Chain Piece ns at text tokens end rest → Each P tokens
chain_each P Piece piece [] at text tokens end rest h = subst (Each P) (sym h.0) tt
chain_each P Piece piece (n ∷ ns) at text tokens end rest h =
    subst (Each P) (sym h.2) (each_append P h.0 h.1 (piece at text n h.0 h.5) (chain_each P Piece piece ns (at + n) (drop n text) h.1 end rest h.6))

pub note_each : (P : Token → Type 0) (closed : Bool) → ((at : ℕ) (text : List ℕ) (n : ℕ) (tokens : List Token) → IsInside closed at text n tokens → Each P tokens) → (at : ℕ) (content : List ℕ) (tokens : List Token)
    → IsNote closed at content tokens → Each P tokens
note_each P closed piece at content tokens h = chain_each P (IsInside closed) piece h.lengths (at + signs content) (drop (signs content) content) tokens (at + length content) [] h.chain
