-- The kinds of expressions, and which fit. (Java Language Specification, "Expressions"; the kinds are this project's.)
use Rattle.std.specs.Prelude.{ℕ, Bool, true, false, ◌==◌}
use Rattle.declared_names.specs.declared.sort.Sort.{Sort}
use Rattle.declared_names.specs.declared.sort.Sort.TheVariants.{Loose, Null, Int, Flag, Object}

abbrev pub is_int : Sort → Bool
is_int Loose = true
is_int Null = false
is_int Int = true
is_int Flag = false
is_int (Object c) = false

abbrev pub is_flag : Sort → Bool
is_flag Loose = true
is_flag Null = false
is_flag Int = false
is_flag Flag = true
is_flag (Object c) = false

-- an object of the class, which may be null
abbrev pub is_object : ℕ → Sort → Bool
is_object d Loose = true
is_object d Null = false
is_object d Int = false
is_object d Flag = false
is_object d (Object c) = d == c

-- the same, or `null`
abbrev pub is_reference : ℕ → Sort → Bool
is_reference d Loose = true
is_reference d Null = true
is_reference d Int = false
is_reference d Flag = false
is_reference d (Object c) = d == c

abbrev pub is_null_or_object : Sort → Bool
is_null_or_object Loose = true
is_null_or_object Null = true
is_null_or_object Int = false
is_null_or_object Flag = false
is_null_or_object (Object c) = true

-- a value of the second kind can stand where the first is wanted; what is of no known kind fits everywhere
abbrev pub fits : Sort → Sort → Bool
fits Loose s = true
fits Null s = is_null_or_object s
fits Int s = is_int s
fits Flag s = is_flag s
fits (Object d) s = is_reference d s
