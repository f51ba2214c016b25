-- What a text begins with: white space or a comment, a token, an annotation; each as long as it can be.
use Rattle.std.specs.Prelude.{ℕ, ◌<◌, ◌≤◌, ◌+◌, ◌==◌, nat_eq, nat_lt, Bool, true, false, ◌&&◌, ◌||◌, List, [], ◌∷◌, Option, Some, None, option_map, length, take, drop, codes, if◌then◌else◌}
use Rattle.std.specs.List.{prefix_len, list_any, starts_with}
use Rattle.std.specs.Char.{is_ascii_digit}
use Rattle.java_lex.specs.declared.front.Front.{Front}
use Rattle.java_lex.specs.declared.front.Front.TheVariants.{Gap, Token, Bad}
use Rattle.java_lex.specs.declared.front.Outside.{Outside}
use Rattle.java_lex.specs.declared.front.Outside.TheVariants.{Plain, Note}
use Rattle.java_lex.specs.declared.front.Shape.{Shape}
use Rattle.java_lex.specs.declared.front.Shape.TheVariants.{Word, Number, Quoted, Slashed, Symbol}
use Rattle.java_lex.specs.Bytes.{is_white, is_line_end, is_in_line, is_at, begins_word, continues_word, continues_number, continues_slashed}
use Rattle.java_lex.specs.Literals.{first_close, quoted_len, number_of}
use Rattle.java_lex.specs.Spellings.{symbol_len}

-- a token with as many bytes as this option says, and else nothing that may stand there
abbrev pub token_of_len : Shape → Option ℕ → Front
token_of_len shape (Some n) = Token shape n
token_of_len shape None = Bad

-- a number of these bytes
abbrev pub number_front : ℕ → Option ℕ → Front
number_front n (Some value) = Token (Number value) n
number_front n None = Bad

-- the token at the front
abbrev pub token_front : Bool → List ℕ → Front
token_front jml [] = Gap 0
token_front jml (b ∷ bs) =
    if begins_word b then Token Word (1 + prefix_len continues_word bs)
    else if is_ascii_digit b then number_front (1 + prefix_len continues_number bs) (number_of (take (1 + prefix_len continues_number bs) (b ∷ bs)))
    else if b == 34 || b == 39 then token_of_len Quoted (option_map (λ n. 1 + n) (quoted_len b false bs))
    else if b == 92 then (if jml && nat_lt 0 (prefix_len continues_slashed bs) then Token Slashed (1 + prefix_len continues_slashed bs) else Bad)
    else token_of_len Symbol (symbol_len jml (b ∷ bs))

-- how much white space stands at the front inside an annotation: behind the start of a line a run of `@` is some
abbrev pub gap_len : List ℕ → ℕ
gap_len text =
    let white = prefix_len is_white text in
    if list_any is_line_end (take white text) then white + prefix_len is_at (drop white text) else white

-- at the front of what is left of an annotation; where `*/` ends it, a run of `@` directly before that is white space
abbrev pub front_in : Bool → List ℕ → Front
front_in closed text =
    if nat_lt 0 (gap_len text) then Gap (gap_len text)
    else if closed && prefix_len is_at text == length text then Gap (length text)
    else if starts_with nat_eq text (codes "//") then Gap (prefix_len is_in_line text)
    else token_front true text

-- a comment, or an annotation, where `@` stands first in it
abbrev pub comment_front : List ℕ → ℕ → Bool → Outside
comment_front content whole closed = if starts_with nat_eq content (codes "@") then Note (length content) whole closed else Plain (Gap whole)

-- the comment up to the end of the line; text: what stands behind `//`
abbrev pub line_front : List ℕ → Outside
line_front text = comment_front (take (prefix_len is_in_line text) text) (2 + prefix_len is_in_line text) false

-- the comment up to the first `*/`; text: what stands behind `/*`
abbrev pub block_front : List ℕ → Option ℕ → Outside
block_front text (Some n) = comment_front (take n text) (4 + n) true
block_front text None = Plain Bad

-- at the front outside annotations
abbrev pub front_out : List ℕ → Outside
front_out text =
    if nat_lt 0 (prefix_len is_white text) then Plain (Gap (prefix_len is_white text))
    else if starts_with nat_eq text (codes "//") then line_front (drop 2 text)
    else if starts_with nat_eq text (codes "/*") then block_front (drop 2 text) (first_close (drop 2 text))
    else Plain (token_front false text)

-- It lies in the text, and is not empty where the text is not.
pub record LiesIn (text : List ℕ) (n : ℕ) : Type 0 where
  pub some : 0 < length text → 0 < n
  pub within : n ≤ length text

-- So does what stands at the front.
abbrev pub Lies : List ℕ → Front → Type 0
Lies text (Gap n) = LiesIn text n
Lies text (Token shape n) = LiesIn text n
Lies text Bad = Unit {0}

abbrev pub LiesOutside : List ℕ → Outside → Type 0
LiesOutside text (Plain front) = Lies text front
LiesOutside text (Note content whole closed) = LiesIn text whole × (2 + content ≤ whole)
