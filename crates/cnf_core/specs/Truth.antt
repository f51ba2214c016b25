-- The truth of clauses under an assignment, which gives each variable a truth value.
use Rattle.std.specs.Prelude.{ℕ, ◌-◌, ◌/◌, Bool, false, not, IsTrue, List, slice_index_or, if◌then◌else◌}
use Rattle.std.specs.List.{list_any, list_all}
use Rattle.cnf_core.specs.Literal.{is_negative}

-- whether a literal is true: a positive one where its variable is, a negative one where it is not
abbrev pub lit_holds : (ℕ → Bool) → ℕ → Bool
lit_holds values lit = if is_negative lit then not (values (lit / 2)) else values (lit / 2)

-- whether a clause is true: some literal of it is
abbrev pub clause_holds : (ℕ → Bool) → List ℕ → Bool
clause_holds values clause = list_any (lit_holds values) clause

-- whether all of the clauses are true
abbrev pub clauses_hold : (ℕ → Bool) → List (List ℕ) → Bool
clauses_hold values clauses = list_all (clause_holds values) clauses

-- The assignment makes all of the clauses true.
abbrev pub Satisfies : (ℕ → Bool) → List (List ℕ) → Type 0
Satisfies values clauses = IsTrue (clauses_hold values clauses)

-- No assignment makes all of the clauses true.
abbrev pub IsUnsatisfiable : List (List ℕ) → Type 0
IsUnsatisfiable clauses = (values : ℕ → Bool) → ¬ Satisfies values clauses

-- The assignment that a list of values stands for: the variable 1 has the first one.
abbrev pub assigned : List Bool → ℕ → Bool
assigned values var = slice_index_or values (var - 1) false
