-- Words of a Java text. (Java Language Specification, "Identifiers", at the letters and digits of ASCII.)
use Rattle.std.specs.Prelude.{ℕ, Bool, false, ◌==◌, ◌&&◌, ◌||◌, List, [], ◌∷◌}
use Rattle.std.specs.List.{list_all}
use Rattle.std.specs.Char.{is_ascii_alphabetic, is_ascii_alphanumeric}

-- a byte that may stand first in a word: a letter, `_` or `$`
abbrev pub begins_word : ℕ → Bool
begins_word b = is_ascii_alphabetic b || b == 95 || b == 36

-- a byte that may stand behind the first: a letter, a digit, `_` or `$`
abbrev pub continues_word : ℕ → Bool
continues_word b = is_ascii_alphanumeric b || b == 95 || b == 36

-- the bytes are a word
abbrev pub is_word : List ℕ → Bool
is_word [] = false
is_word (b ∷ bs) = begins_word b && list_all continues_word bs
