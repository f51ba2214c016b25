-- Closure over a graph on numbers, and its laws. (This project's own.)
use Rattle.std.specs.Prelude.{◌≡◌, ℕ, zero, suc, ◌+◌, ◌<◌, ◌≤◌, Bool, ◌&&◌, ◌||◌, IsTrue}
use Rattle.std.specs.List.{list_any, range_with_len}

-- whether an edge leads from a number to another
abbrev pub Graph : Type 0
Graph = ℕ → ℕ → Bool

-- the set, with all that an edge leads to from its numbers below the bound
abbrev pub widened : Graph → ℕ → (ℕ → Bool) → ℕ → Bool
widened edge bound set o = set o || list_any (λ p. set p && edge p o) (range_with_len 0 bound)

-- the set, widened n times
abbrev pub rounds : ℕ → Graph → ℕ → (ℕ → Bool) → ℕ → Bool
rounds zero edge bound set = set
rounds (suc n) edge bound set = widened edge bound (rounds n edge bound set)

-- the least set that holds the set and that no edge leaves which begins below the bound: as many rounds as
-- there are numbers below the bound make it closed
abbrev pub closure : Graph → ℕ → (ℕ → Bool) → ℕ → Bool
closure edge bound set = rounds bound edge bound set

-- ## closed sets

-- all numbers of the set are in the other
abbrev pub Within : (ℕ → Bool) → (ℕ → Bool) → Type 0
Within set other = (o : ℕ) → IsTrue (set o) → IsTrue (other o)

-- no edge leaves the set
abbrev pub IsClosed : Graph → (ℕ → Bool) → Type 0
IsClosed edge set = (p o : ℕ) → IsTrue (set p) → IsTrue (edge p o) → IsTrue (set o)

-- each edge begins below the bound
abbrev pub BeginsBelow : ℕ → Graph → Type 0
BeginsBelow bound edge = (p o : ℕ) → IsTrue (edge p o) → p < bound

-- the second set holds the first, is closed, and lies in every closed set that holds the first
pub record IsLeastClosed (edge : Graph) (set full : ℕ → Bool) : Type 0 where
  pub holds : Within set full
  pub closed : IsClosed edge full
  pub least : (other : ℕ → Bool) → Within set other → IsClosed edge other → Within full other

-- ## the laws

-- where each edge begins below the bound, the closure is the least closed set
abbrev pub ClosureIsLeastClosed : Type 0
ClosureIsLeastClosed =
    (edge : Graph) (bound : ℕ) (set : ℕ → Bool) → BeginsBelow bound edge → IsLeastClosed edge set (closure edge bound set)

-- from as many rounds on as there are numbers below the bound, nothing more comes
abbrev pub RoundsEnd : Type 0
RoundsEnd =
    (edge : Graph) (bound : ℕ) (set : ℕ → Bool) (m o : ℕ) → bound ≤ m → rounds m edge bound set o ≡ closure edge bound set o

-- the rounds of a union are the union of the rounds
abbrev pub RoundsOfUnion : Type 0
RoundsOfUnion =
    (edge : Graph) (bound : ℕ) (a b : ℕ → Bool) (n o : ℕ)
    → rounds n edge bound (λ q. a q || b q) o ≡ (rounds n edge bound a o || rounds n edge bound b o)

-- m + n rounds are m rounds after n
abbrev pub RoundsOfSum : Type 0
RoundsOfSum =
    (edge : Graph) (bound : ℕ) (set : ℕ → Bool) (m n o : ℕ)
    → rounds (m + n) edge bound set o ≡ rounds m edge bound (rounds n edge bound set) o
