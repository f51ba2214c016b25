-- Tokens that spell words, and words that a text can hold.
use Rattle.std.proofs.Common.{◌≡◌, ℕ, ◌+◌, ◌<◌, Bool, true, false, List, [], ◌∷◌, ◌++◌, length, refl, sym, subst}
use Rattle.std.specs.List.{list_all, prefix_len}
use Rattle.java_lex.specs.declared.token.Token.{Token}
use Rattle.java_lex.specs.declared.token.TokenKind.{TokenKind}
use Rattle.java_lex.specs.declared.token.TokenKind.TheVariants as kind
use Rattle.java_lex.specs.Bytes.{is_white}
use Rattle.java_lex.proofs.Notes.{is_inner}
use Rattle.java_lex.specs.Cut.{Rule, IsPiece, IsInside}
use Rattle.java_tree.specs.Print.{Word, bytes_of}

-- SPELLED

-- the tokens from these up to the rest spell the words
abbrev pub Spells : List Word → List Token → List Token → Type 0
Spells [] ts rest = ts ≡ rest
Spells (w ∷ ws) ts rest = (t : Token) × (more : List Token) × (ts ≡ t ∷ more) × (t.jml ≡ w.0) × (t.kind ≡ w.1) × Spells ws more rest

pub spells_parts : (v w : List Word) (ts rest : List Token) → Spells (v ++ w) ts rest → (mid : List Token) × Spells v ts mid × Spells w mid rest
spells_parts [] w ts rest spelled = (ts, refl, spelled)
spells_parts (x ∷ v) w ts rest (t, more, is, side, kind_is, spelled) =
    let (mid, one, two) = spells_parts v w more rest spelled in
    (mid, (t, more, is, side, kind_is, one), two)

pub spells_append : (v w : List Word) (ts mid rest : List Token) → Spells v ts mid → Spells w mid rest → Spells (v ++ w) ts rest
spells_append [] w ts mid rest one two = subst (λ (us : List Token). Spells w us rest) (sym one) two
spells_append (x ∷ v) w ts mid rest (t, more, is, side, kind_is, one) two = (t, more, is, side, kind_is, spells_append v w more mid rest one two)

-- WHAT A TEXT CAN HOLD

-- a piece of a text: outside annotations, or in one that `*/` ends
abbrev pub IsPieceOf : Bool → Rule
IsPieceOf false = IsPiece
IsPieceOf true = IsInside true

-- Before a space the word is a token, whatever stands behind the space.
pub record Spellable (w : Word) : Type 0 where
  pub some : 0 < length (bytes_of w.1)
  pub solid : (rest : List ℕ) → prefix_len is_white (bytes_of w.1 ++ rest) ≡ 0
  pub inner : list_all is_inner (bytes_of w.1) ≡ true
  pub piece : (at : ℕ) (rest : List ℕ) → IsPieceOf w.0 at (bytes_of w.1 ++ 32 ∷ rest) (length (bytes_of w.1)) (record { kind = w.1; jml = w.0; from = at; to = at + length (bytes_of w.1) } ∷ [])

abbrev pub AllSpellable : List Word → Type 0
AllSpellable [] = Unit {0}
AllSpellable (w ∷ ws) = Spellable w × AllSpellable ws

pub spellable_append : (v w : List Word) → AllSpellable v → AllSpellable w → AllSpellable (v ++ w)
spellable_append [] w a b = b
spellable_append (x ∷ v) w (one, a) b = (one, spellable_append v w a b)

-- what is known of the tokens of a text: its words and numbers can be written again
abbrev pub IsKnown : Bool → TokenKind → Type 0
IsKnown jml (kind.Word bytes) = Spellable (jml, kind.Word bytes)
IsKnown jml (kind.Number n) = Spellable (jml, kind.Number n)
IsKnown jml k = Unit {0}

abbrev pub Known : List Token → Type 0
Known [] = Unit {0}
Known (t ∷ ts) = IsKnown t.jml t.kind × Known ts
