-- Why the entries of a trail are true, by numbers of known clauses; and what hints of a conflict say.
use Rattle.std.specs.Prelude.{◌≡◌, ℕ, ◌/◌, ◌<◌, ◌⊎◌, true, List, [], ◌∷◌, All, length, take, slice_index, slice_index_or, MatchOption}
use Rattle.cnf_core.specs.Literal.{negated}
use Rattle.derivation.specs.Propagation.{is_hint, hinted, ends}
use Rattle.sat_watch.specs.declared.trail.Entry.{Entry}
use Rattle.cnf_core.specs.Trues.{is_true}
use Rattle.sat_watch.specs.Literals.{has}
use Rattle.sat_watch.specs.Propagation.{Forces}
use Rattle.sat_watch.specs.Trail.{literals}

-- The number is that of a known clause with the same literals.
pub record IsNumberOf (known : List (List ℕ)) (clause : List ℕ) (number : ℕ) : Type 0 where
  pub hint : is_hint known number ≡ true
  pub same : (lit : ℕ) → has (hinted known number) lit ≡ has clause lit

-- Each clause has such a number.
abbrev pub AreNumbered : List (List ℕ) → List (List ℕ) → List ℕ → Type 0
AreNumbered known clauses numbers = (c : ℕ) → c < length clauses → IsNumberOf known (slice_index_or clauses c []) (slice_index numbers c)

-- The entry is of level 0, and its literal is a clause by itself, which has the number that its variable has.
pub record IsRoot (known : List (List ℕ)) (units : List ℕ) (e : Entry) : Type 0 where
  pub root : e.level ≡ 0
  pub number : IsNumberOf known (e.lit ∷ []) (slice_index units (e.lit / 2))

-- The entry opens its level.
pub record IsDecision (front : List Entry) (e : Entry) : Type 0 where
  pub above : 0 < e.level
  pub opens : All (λ before. before.level < e.level) front

-- An entry behind others is forced by the clause that is its reason, or is a clause by itself, or opens its level.
abbrev pub IsBacked : List (List ℕ) → List (List ℕ) → List ℕ → List Entry → Entry → Type 0
IsBacked known clauses units front e =
    MatchOption e.reason (IsRoot known units e ⊎ IsDecision front e) (λ c. (c < length clauses) × Forces (literals front) (slice_index_or clauses c []) e.lit)

abbrev pub AreBacked : List (List ℕ) → List (List ℕ) → List ℕ → List Entry → Type 0
AreBacked known clauses units entries = (i : ℕ) (d : Entry) → i < length entries → IsBacked known clauses units (take i entries) (slice_index_or entries i d)

-- All that the one makes true the other does.
abbrev pub Within : List ℕ → List ℕ → Type 0
Within part trues = (lit : ℕ) → is_true part lit ≡ true → is_true trues lit ≡ true

-- From any part of the true literals that makes all marked ones false which these make false, the hints end in a conflict.
abbrev pub Derives : List (List ℕ) → List ℕ → List ℕ → List ℕ → Type 0
Derives known marks hints trues = (part : List ℕ) → Within part trues
    → ((lit : ℕ) → has marks lit ≡ true → is_true trues (negated lit) ≡ true → is_true part (negated lit) ≡ true) → ends known hints part ≡ true
