-- Unit propagation along hints, over the list of the literals that were made true.
use Rattle.std.specs.Prelude.{ℕ, ◌-◌, ◌/◌, ◌==◌, nat_lt, nat_le, Bool, true, false, not, ◌&&◌, List, [], ◌∷◌, ◌++◌, length, map, filter, slice_index_or, IsTrue, if◌then◌else◌}
use Rattle.std.specs.List.{list_any, list_all}
use Rattle.cnf_core.specs.Literal.{negated}
use Rattle.cnf_core.specs.Trues.{is_true}
use Rattle.derivation.specs.Step.{Step}
use Rattle.derivation.specs.declared.effect.Effect.{Effect}
use Rattle.derivation.specs.declared.effect.Effect.TheVariants.{Conflicts, Forces, Fails}

-- the literals of a clause that are not false
abbrev pub not_false : List ℕ → List ℕ → List ℕ
not_false trues clause = filter (λ lit. not (is_true trues (negated lit))) clause

-- what a clause with these literals that are not false does: with none of them it is the conflict; with
-- one that is distinct and has no value yet, it forces this one
abbrev pub effect_by : List ℕ → List ℕ → Effect
effect_by trues [] = Conflicts
effect_by trues (lit ∷ lits) = if list_all (λ other. other == lit) lits && not (is_true trues lit) then Forces lit else Fails

-- what a clause does under what is true
abbrev pub effect_of : List ℕ → List ℕ → Effect
effect_of trues clause = effect_by trues (not_false trues clause)

-- whether a hint is the number of a known clause; they count from 1
abbrev pub is_hint : List (List ℕ) → ℕ → Bool
is_hint known hint = nat_lt 0 hint && nat_le hint (length known)

-- the clause of a number
abbrev pub hinted : List (List ℕ) → ℕ → List ℕ
hinted known hint = slice_index_or known (hint - 1) []

-- how it goes on: the conflict must be the last hint; a forced literal is made true for the next
abbrev pub goes_on : Effect → List ℕ → List ℕ → (List ℕ → Bool) → Bool
goes_on Conflicts left trues next = length left == 0
goes_on (Forces lit) left trues next = next (trues ++ lit ∷ [])
goes_on Fails left trues next = false

-- whether the hints in order end in a conflict
abbrev pub ends : List (List ℕ) → List ℕ → List ℕ → Bool
ends known [] trues = false
ends known (hint ∷ left) trues = is_hint known hint && goes_on (effect_of trues (hinted known hint)) left trues (ends known left)

-- whether no variable is in the clause twice
abbrev pub once : List ℕ → Bool
once [] = true
once (lit ∷ lits) = not (list_any (λ other. other / 2 == lit / 2) lits) && once lits

-- whether a line follows from the known clauses: with all of its literals false its hints end in a conflict
abbrev pub follows : List (List ℕ) → Step → Bool
follows known step = once step.clause && ends known step.hints (map negated step.clause)

-- A line follows from the known clauses.
abbrev pub Follows : List (List ℕ) → Step → Type 0
Follows known step = IsTrue (follows known step)
