-- Numbers, text literals and the end of a comment. (Java Language Specification, "Integer Literals", "String
-- Literals", "Character Literals", "Comments", in the profile.)
use Rattle.std.specs.Prelude.{ℕ, suc, ◌+◌, ◌-◌, ◌*◌, ◌==◌, nat_eq, nat_lt, Bool, not, ◌&&◌, List, [], ◌∷◌, Option, Some, None, option_map, codes, if◌then◌else◌}
use Rattle.std.specs.List.{starts_with}
use Rattle.std.specs.Char.{is_ascii_digit}
use Rattle.java_lex.specs.Bytes.{is_line_end}

-- the place of the first `*/`
abbrev pub first_close : List ℕ → Option ℕ
first_close [] = None
first_close (b ∷ bs) = if starts_with nat_eq (b ∷ bs) (codes "*/") then Some 0 else option_map suc (first_close bs)

-- how many bytes there are up to the next quote and with it, on the line; a backslash takes the byte behind it along
abbrev pub quoted_len : ℕ → Bool → List ℕ → Option ℕ
quoted_len quote escaped [] = None
quoted_len quote escaped (b ∷ bs) =
    if is_line_end b then None
    else if not escaped && b == quote then Some 1
    else option_map suc (quoted_len quote (not escaped && b == 92) bs)

-- the number that digits give behind this one; None at another byte, or above 2147483647
abbrev pub number_from : ℕ → List ℕ → Option ℕ
number_from n [] = Some n
number_from n (d ∷ ds) =
    if not (is_ascii_digit d) then None
    else if nat_lt 2147483647 (10 * n + (d - 48)) then None
    else number_from (10 * n + (d - 48)) ds

-- the number of decimal digits, up to 2147483647; a zero stands first in 0 alone
abbrev pub number_of : List ℕ → Option ℕ
number_of [] = None
number_of (d ∷ []) = number_from 0 (d ∷ [])
number_of (d ∷ e ∷ ds) = if d == 48 then None else number_from 0 (d ∷ e ∷ ds)
