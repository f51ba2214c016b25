-- No symbol is empty.
use Rattle.std.proofs.Common.{◌≡◌, ℕ, ◌<◌, Bool, true, List, [], ◌∷◌, length, nat_lt, refl, arith, Some}
use Rattle.std.proofs.lemmas.Bool.Decides.{nat_tests}
use Rattle.std.specs.List.{list_all}
use Rattle.java_lex.specs.Spellings.{Spelling, first_in, symbols}

-- every symbol of the table has bytes
abbrev pub are_some : List Spelling → Bool
are_some table = list_all (λ s. nat_lt 0 (length s.0)) table

pub first_some : (jml : Bool) (text : List ℕ) (table : List Spelling) (n : ℕ) → are_some table ≡ true → first_in jml text table ≡ Some n → 0 < n
first_some jml text [] n all is = grind arith
first_some jml text (s ∷ rest) n all is = grind (arith, nat_tests, first_some jml text rest n)

pub symbol_some : (jml : Bool) (text : List ℕ) (n : ℕ) → first_in jml text symbols ≡ Some n → 0 < n
symbol_some jml text n is = first_some jml text symbols n refl is
