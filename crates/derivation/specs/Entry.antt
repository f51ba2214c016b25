-- The words of a clause in a text.
use Rattle.std.specs.Prelude.{◌≡◌, ◌≢◌, ℕ, ◌/◌, ◌≤◌, List, [], ◌∷◌, ◌++◌}
use Rattle.cnf_core.specs.Literal.{IsOver}
use Rattle.derivation.specs.declared.entry.Entry.{Entry}
use Rattle.derivation.specs.declared.entry.Entry.TheVariants.{End, Literal}

-- an entry as a number: a literal's own, and 0 for the end of the clause
abbrev pub entry_number : Entry → ℕ
entry_number End = 0
entry_number (Literal lit) = lit

-- The literal of an entry is of one of the variables 1 to vars.
abbrev pub IsWithin : ℕ → Entry → Type 0
IsWithin vars End = Unit {0}
IsWithin vars (Literal lit) = IsOver vars lit

-- A number of an entry: a literal of one of the variables, or 0. (1 would be the negation of the variable 0.)
abbrev pub IsEntry : ℕ → ℕ → Type 0
IsEntry vars lit = (lit ≢ 1) × (lit / 2 ≤ vars)

-- The entry ends the clause that is begun, or adds its literal to it.
abbrev pub Puts : Entry → List (List ℕ) → List ℕ → List (List ℕ) → List ℕ → Type 0
Puts End done begun done' begun' = (done' ≡ done ++ begun ∷ []) × (begun' ≡ [])
Puts (Literal lit) done begun done' begun' = (done' ≡ done) × (begun' ≡ begun ++ lit ∷ [])
