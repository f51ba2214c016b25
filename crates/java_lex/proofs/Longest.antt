-- The symbol that is read is the longest.
use Rattle.std.proofs.Common.{◌≡◌, ℕ, ◌≤◌, ◌&&◌, Bool, true, false, List, [], ◌∷◌, length, nat_le, refl, arith, Some, All, IsTrue, subst}
use Rattle.std.proofs.lemmas.Bool.Decides.{nat_tests}
use Rattle.std.proofs.lemmas.List.Elements.{All-from_recursion}
use Rattle.std.specs.List.{list_all, AllByRecursion}
use Rattle.java_lex.specs.Spellings.{Spelling, first_in, stands, symbols}

-- no symbol is longer than one before it
abbrev pub falls : List Spelling → Bool
falls [] = true
falls (s ∷ rest) = list_all (λ t. nat_le (length t.0) (length s.0)) rest && falls rest

abbrev pub IsUpTo : Bool → List ℕ → ℕ → Spelling → Type 0
IsUpTo jml text n s = IsTrue (stands jml text s) → length s.0 ≤ n

behind : (jml : Bool) (text : List ℕ) (m : ℕ) (rest : List Spelling) → list_all (λ t. nat_le (length t.0) m) rest ≡ true → AllByRecursion (IsUpTo jml text m) rest
behind jml text m [] all = tt
behind jml text m (s ∷ rest) all = (λ stood. grind (arith, nat_tests, all), behind jml text m rest (grind (arith, nat_tests, all)))

at_first : (jml : Bool) (text : List ℕ) (s : Spelling) (rest : List Spelling) (n : ℕ) (b : Bool) → stands jml text s ≡ b → falls (s ∷ rest) ≡ true → first_in jml text (s ∷ rest) ≡ Some n
    → (first_in jml text rest ≡ Some n → AllByRecursion (IsUpTo jml text n) rest) → AllByRecursion (IsUpTo jml text n) (s ∷ rest)
at_first jml text s rest n true stood fall is later =
    let size : length s.0 ≡ n = grind (arith, nat_tests, stood, is) in
    (λ _. omega arith, subst (λ (m : ℕ). AllByRecursion (IsUpTo jml text m) rest) size (behind jml text (length s.0) rest (grind (arith, nat_tests, fall))))
at_first jml text s rest n false stood fall is later = (λ t. grind (arith, nat_tests, stood, t), later (grind (arith, nat_tests, stood, is)))

first_longest : (jml : Bool) (text : List ℕ) (table : List Spelling) (n : ℕ) → falls table ≡ true → first_in jml text table ≡ Some n → AllByRecursion (IsUpTo jml text n) table
first_longest jml text [] n fall is = tt
first_longest jml text (s ∷ rest) n fall is = at_first jml text s rest n (stands jml text s) refl fall is (λ here. first_longest jml text rest n (grind (arith, nat_tests, fall)) here)

pub symbol_longest : (jml : Bool) (text : List ℕ) (n : ℕ) → first_in jml text symbols ≡ Some n → All (IsUpTo jml text n) symbols
symbol_longest jml text n is = All-from_recursion (IsUpTo jml text n) symbols (first_longest jml text symbols n refl is)
