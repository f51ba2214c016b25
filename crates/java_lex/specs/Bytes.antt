-- Classes of bytes. (Java Language Specification, "White Space", "Line Terminators", "Identifiers", in ASCII.)
use Rattle.std.specs.Prelude.{ℕ, Bool, not, ◌==◌, ◌||◌}
use Rattle.std.specs.Char.{is_ascii_alphabetic, is_ascii_alphanumeric, is_ascii_digit}
use Rattle.java_lex.specs.declared.classes.Class.{Class}
use Rattle.java_lex.specs.declared.classes.Class.TheVariants.{White, LineEnd, InLine, WordStart, WordPart, Digit, NumberPart, SlashPart, At}

-- carriage return and line feed end a line
abbrev pub is_line_end : ℕ → Bool
is_line_end b = b == 10 || b == 13

-- space, tab, form feed and what ends a line
abbrev pub is_white : ℕ → Bool
is_white b = b == 32 || b == 9 || b == 12 || b == 10 || b == 13

-- a byte of a line
abbrev pub is_in_line : ℕ → Bool
is_in_line b = not (is_line_end b)

-- a letter, `_` or `$`
abbrev pub begins_word : ℕ → Bool
begins_word b = is_ascii_alphabetic b || b == 95 || b == 36

-- a letter, a digit, `_` or `$`
abbrev pub continues_word : ℕ → Bool
continues_word b = is_ascii_alphanumeric b || b == 95 || b == 36

-- a letter, a digit or `_`
abbrev pub continues_number : ℕ → Bool
continues_number b = is_ascii_alphanumeric b || b == 95

-- a letter or `_`
abbrev pub continues_slashed : ℕ → Bool
continues_slashed b = is_ascii_alphabetic b || b == 95

-- the sign `@`
abbrev pub is_at : ℕ → Bool
is_at b = b == 64

-- the class that the code names
abbrev pub is_of : Class → ℕ → Bool
is_of White = is_white
is_of LineEnd = is_line_end
is_of InLine = is_in_line
is_of WordStart = begins_word
is_of WordPart = continues_word
is_of Digit = is_ascii_digit
is_of NumberPart = continues_number
is_of SlashPart = continues_slashed
is_of At = is_at
