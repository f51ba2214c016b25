-- The state of the table that workers shrink. (This project's own.)
use Rattle.std.specs.Prelude.{◌≡◌, ℕ, ◌+◌, ◌*◌, List, length, slice_index_or, sum_by, Option, Some, None, IsSome, unwrap_or, []}
use Rattle.heap_core.specs.Posed.{Posed}
use Rattle.tuple_sets.specs.Words.{has, IsWithin}
use Rattle.tuple_sets.specs.Numbered.{word_count, IsPossible, IsImpossible}
use Rattle.bounds_table.specs.declared.known.Known.{Known}

-- the sets as words of 64 bits; the workers made so far, in the order of their numbers, and for each that is
-- live what it knows
pub record State : Type 0 where
  pub problem : Posed
  pub table : List ℕ
  pub kept : List ℕ
  pub claimed : List ℕ
  pub workers : List (Option Known)

-- the number of a pair of round and tuple in the sets of claims: each round has words of its own
abbrev pub pair : Posed → ℕ → ℕ → ℕ
pair p round t = 64 * (round * word_count p) + t

abbrev pub IsLive : State → ℕ → Type 0
IsLive s w = IsSome (slice_index_or s.workers w None)

-- what a live worker knows
abbrev pub blank : Known
blank = record { seen = []; kept = []; claimed = []; claims = [] }

abbrev pub known_of : State → ℕ → Known
known_of s w = unwrap_or (slice_index_or s.workers w None) blank

-- 1 where the worker claimed the pair, else 0
abbrev pub claim_of : ℕ → Option Known → ℕ
claim_of c None = 0
claim_of c (Some k) = has k.claims c

-- how many live workers claimed the pair
abbrev pub claimants : State → ℕ → ℕ
claimants s c = sum_by (claim_of c) s.workers

-- what a worker saw is the table as it was once, so it has all that the table has, and of the kept tuples and of
-- the claimed pairs it saw no more than there are
pub record IsSeen (s : State) (k : Known) : Type 0 where
  pub seen : IsWithin s.table k.seen
  pub kept : IsWithin k.kept s.kept
  pub claimed : IsWithin k.claimed s.claimed

-- the state is safe: each tuple that the table lacks is impossible, and each kept tuple is possible; each live
-- worker saw no more than was there; and a claimed pair is in the claims of one live worker, a pair that is not
-- claimed in those of none
pub record IsSafe (s : State) : Type 0 where
  pub lacked : (t : ℕ) → has s.table t ≡ 0 → IsImpossible s.problem t
  pub kept : (t : ℕ) → has s.kept t ≡ 1 → IsPossible s.problem t
  pub seen : (w : ℕ) → IsLive s w → IsSeen s (known_of s w)
  pub claims : (c : ℕ) → claimants s c ≡ has s.claimed c

-- there are as many words as the tuples have, and as the pairs of 8 rounds have
pub record HasWords (p : Posed) (k : Known) : Type 0 where
  pub seen : length k.seen ≡ word_count p
  pub kept : length k.kept ≡ word_count p
  pub claimed : length k.claimed ≡ 8 * word_count p
  pub claims : length k.claims ≡ 8 * word_count p

pub record IsSized (s : State) : Type 0 where
  pub table : length s.table ≡ word_count s.problem
  pub kept : length s.kept ≡ word_count s.problem
  pub claimed : length s.claimed ≡ 8 * word_count s.problem
  pub workers : (w : ℕ) → IsLive s w → HasWords s.problem (known_of s w)

-- what a worker knows later on: of the table it saw no more than before, of all else no less
pub record IsLater (old new : Known) : Type 0 where
  pub seen : IsWithin new.seen old.seen
  pub kept : IsWithin old.kept new.kept
  pub claimed : IsWithin old.claimed new.claimed
  pub claims : IsWithin old.claims new.claims

-- what is kept of every state: it is safe, and has the words of its problem
pub record IsSound (s : State) : Type 0 where
  pub sized : IsSized s
  pub safe : IsSafe s

-- two know of as many words
pub record HasSameWords (a b : Known) : Type 0 where
  pub seen : length a.seen ≡ length b.seen
  pub kept : length a.kept ≡ length b.kept
  pub claimed : length a.claimed ≡ length b.claimed
  pub claims : length a.claims ≡ length b.claims
