-- How far the writing has come.
use Rattle.std.specs.Prelude.{◌≡◌, ℕ, ◌+◌, ◌*◌, ◌/◌, ◌<◌, ◌≤◌, ◌==◌, Bool, true, false, ◌&&◌, if◌then◌else◌, List, [], ◌∷◌, take, slice_index_or, slice_get, Some}
use Rattle.std.specs.List.{list_all}
use Rattle.gate_core.specs.declared.circuit.Node.{Node}
use Rattle.gate_core.specs.declared.circuit.Node.TheVariants.{And}
use Rattle.gate_core.specs.Circuit.{StandsAt}
use Rattle.cnf_core.specs.Literal.{negated}
use Rattle.cnf_core.specs.Truth.{lit_holds, clauses_hold}

-- the clauses of a root: none of the one that is always true, the empty one of the one that is always false
abbrev pub root_clauses : ℕ → List (List ℕ)
root_clauses root = if root == 1 then [] else (if root == 0 then [] ∷ [] else (root ∷ []) ∷ [])

-- the three clauses of a conjunction: the node implies either side, and both sides imply the node
abbrev pub node_clauses : ℕ → ℕ → ℕ → List (List ℕ)
node_clauses place a b = ((2 * place + 1) ∷ a ∷ []) ∷ ((2 * place + 1) ∷ b ∷ []) ∷ ((2 * place) ∷ negated a ∷ negated b ∷ []) ∷ []

-- the root is true under an assignment
abbrev pub root_holds : (ℕ → Bool) → ℕ → Bool
root_holds values root = if root == 1 then true else (if root == 0 then false else lit_holds values root)

-- the node is marked
abbrev pub is_marked : List Bool → ℕ → Bool
is_marked marks place = slice_index_or marks place false

-- the roots so far are marked and written
pub record IsRooted (roots : List ℕ) (i : ℕ) (marks : List Bool) (clauses : List (List ℕ)) : Type 0 where
  pub marked : (k root : ℕ) → k < i → slice_get roots k ≡ Some root → is_marked marks (root / 2) ≡ true
  pub holds : (values : ℕ → Bool) → clauses_hold values clauses ≡ list_all (root_holds values) (take i roots)

-- the marked conjunctions from a place on are as their sides are
abbrev pub AreJoined : (ℕ → Bool) → List Node → List Bool → ℕ → Type 0
AreJoined values nodes marks from =
    (place a b : ℕ) → from ≤ place → is_marked marks place ≡ true → StandsAt nodes (And a b) place → values place ≡ (lit_holds values a && lit_holds values b)

-- the nodes below the roots are marked and written, from a place on
pub record IsDown (nodes : List Node) (roots : List ℕ) (from : ℕ) (marks : List Bool) (clauses : List (List ℕ)) : Type 0 where
  pub marked : (k root : ℕ) → slice_get roots k ≡ Some root → is_marked marks (root / 2) ≡ true
  pub sides : (place a b : ℕ) → from ≤ place → is_marked marks place ≡ true → StandsAt nodes (And a b) place → (is_marked marks (a / 2) ≡ true) × (is_marked marks (b / 2) ≡ true)
  pub roots_hold : (values : ℕ → Bool) → clauses_hold values clauses ≡ true → list_all (root_holds values) roots ≡ true
  pub joined : (values : ℕ → Bool) → clauses_hold values clauses ≡ true → AreJoined values nodes marks from
  pub enough : (values : ℕ → Bool) → list_all (root_holds values) roots ≡ true → AreJoined values nodes marks from → clauses_hold values clauses ≡ true
