-- The words of a text: its runs of bytes without white space, where comment lines count as blanks.
use Rattle.std.specs.Prelude.{ℕ, ◌==◌, suc, Bool, false, not, ◌||◌, List, [], ◌∷◌, length, if◌then◌else◌}
use Rattle.derivation.specs.declared.comment.Spot.{Spot}
use Rattle.derivation.specs.declared.comment.Spot.TheVariants.{LineStart, Within, Comment}

-- a space or a tab
abbrev pub is_blank : ℕ → Bool
is_blank b = (b == 32) || (b == 9)

-- a carriage return or a line feed, each of which ends a line
abbrev pub is_line_end : ℕ → Bool
is_line_end b = (b == 13) || (b == 10)

-- white space: blanks, line ends and the form feed
abbrev pub is_white : ℕ → Bool
is_white b = is_blank b || ((b == 12) || is_line_end b)

-- whether a byte at this spot of its line belongs to a comment: to a line that begins with `c`
abbrev pub in_comment : Spot → ℕ → Bool
in_comment LineStart b = b == 99
in_comment Within b = false
in_comment Comment b = not (is_line_end b)

-- the spot behind the byte
abbrev pub spot_behind : Spot → ℕ → Spot
spot_behind spot b = if is_line_end b then LineStart else (if in_comment spot b then Comment else Within)

-- the text with a space for each byte of a comment
abbrev pub uncommented : Spot → List ℕ → List ℕ
uncommented spot [] = []
uncommented spot (b ∷ bs) = (if in_comment spot b then 32 else b) ∷ uncommented (spot_behind spot b) bs

-- a word: its place, the white space before it, and its bytes
pub record Run : Type 0 where
  pub at : ℕ
  pub gap : List ℕ
  pub bytes : List ℕ

-- white space before the first of these words
abbrev pub widened : ℕ → List Run → List Run
widened b [] = []
widened b (w ∷ ws) = record { at = w.at; gap = b ∷ w.gap; bytes = w.bytes } ∷ ws

-- a byte at this place before these words: it belongs to the first one where no white space parts them
abbrev pub begun : ℕ → ℕ → List Run → List Run
begun at b [] = record { at = at; gap = []; bytes = b ∷ [] } ∷ []
begun at b (w ∷ ws) = if length w.gap == 0 then record { at = at; gap = []; bytes = b ∷ w.bytes } ∷ ws else record { at = at; gap = []; bytes = b ∷ [] } ∷ w ∷ ws

-- the words of bytes that begin at this place
abbrev pub runs : ℕ → List ℕ → List Run
runs at [] = []
runs at (b ∷ bs) = if is_white b then widened b (runs (suc at) bs) else begun at b (runs (suc at) bs)

-- the words of a text
abbrev pub words_of : List ℕ → List Run
words_of text = runs 0 (uncommented LineStart text)
