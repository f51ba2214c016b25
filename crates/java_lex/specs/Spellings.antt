-- The tables of words and symbols.
use Rattle.std.specs.Prelude.{ℕ, Bool, not, nat_eq, bytes_eq, ◌||◌, ◌&&◌, List, Option, option_map, find, length, map}
use Rattle.std.specs.List.{starts_with}
use Rattle.java_lex.specs.declared.spelling.Terminal.{Terminal}
use Rattle.java_lex.specs.declared.tables.TheConstants.{SYMBOLS}

-- bytes that mean something by themselves, whether they do so in annotations alone, and what they are to the grammar
abbrev pub Spelling : Type 0
Spelling = List ℕ × Bool × Terminal

-- whether a spelling has its meaning here
abbrev pub means : Bool → Spelling → Bool
means jml s = jml || not s.1

-- whether a spelling stands first in the text and has its meaning there
abbrev pub stands : Bool → List ℕ → Spelling → Bool
stands jml text s = means jml s && starts_with nat_eq text s.0

-- the length of the first of the table that stands first in the text
abbrev pub first_in : Bool → List ℕ → List Spelling → Option ℕ
first_in jml text table = option_map (λ s. length s.0) (find (stands jml text) table)

-- what these bytes are to the grammar, by the table
abbrev pub spelled_in : Bool → List ℕ → List Spelling → Option Terminal
spelled_in jml bytes table = option_map (λ s. s.2) (find (λ s. means jml s && bytes_eq s.0 bytes) table)

-- the separators and operators
abbrev pub symbols : List Spelling
symbols = map (λ s. (s.0.now, s.1, s.2)) SYMBOLS

-- the length of the symbol that stands first
abbrev pub symbol_len : Bool → List ℕ → Option ℕ
symbol_len jml text = first_in jml text symbols
