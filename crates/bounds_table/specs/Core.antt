-- What workers may do to the table, one step after another. (This project's own.)
use Rattle.std.specs.Prelude.{◌≡◌, ℕ, ◌+◌, ◌*◌, ◌/◌, ◌<◌, ◌≤◌, ◌≢◌, Bool, false, ◌&&◌, ◌||◌, ◌==◌, IsFalse, if◌then◌else◌, List, [], ◌∷◌, ◌++◌, length, slice_index, slice_index_or, slice_set, Option, Some, None}
use Rattle.std.specs.Int.{bit_at}
use Rattle.heap_core.specs.Posed.{Posed}
use Rattle.canonical_order.specs.Tuples.{tuples}
use Rattle.tuple_sets.specs.Words.{has, with_bits, gain, lose, read_word, meet, union, all_below, none_of}
use Rattle.tuple_sets.specs.Numbered.{word_count, IsPossible, IsRefuted}
use Rattle.bounds_table.specs.declared.known.Known.{Known}
use Rattle.bounds_table.specs.declared.event.Event.{Event}
use Rattle.bounds_table.specs.declared.event.Event.TheVariants.{Claim, CopyWord, Clear, KeepWord, SeeKept, Split, Join}
use Rattle.bounds_table.specs.declared.event.Reply.{Reply}
use Rattle.bounds_table.specs.declared.event.Reply.TheVariants.{Claimed, Word, Done, Worker}
use Rattle.bounds_table.specs.State.{State, pair, IsLive, known_of, IsSafe, IsSound, IsLater}

-- the number of tuples
abbrev pub tuple_count : Posed → ℕ
tuple_count p = length (tuples p)

-- at first worker 0 alone is made; all tuples are in the table, and it has seen them; all else is empty
abbrev pub first : Posed → Known
first p = record {
  seen = all_below (tuple_count p);
  kept = none_of (word_count p);
  claimed = none_of (8 * word_count p);
  claims = none_of (8 * word_count p);
}

abbrev pub opening : Posed → State
opening p = record {
  problem = p;
  table = all_below (tuple_count p);
  kept = none_of (word_count p);
  claimed = none_of (8 * word_count p);
  workers = Some (first p) ∷ [];
}

-- all bits of this word are possible tuples
abbrev pub ArePossible : Posed → ℕ → ℕ → Type 0
ArePossible p i bits = (j : ℕ) → j < 64 → bit_at bits j ≡ 1 → IsPossible p (64 * i + j)

-- when an event is lawful: what it names is there; a tuple is cleared only where no canonical start with a good
-- heap, all of whose tuples the worker saw in the table, holds it; only possible tuples are kept
abbrev pub IsLawful : State → Event → Type 0
IsLawful s (Claim w r t) = IsLive s w × (r < 8) × (t < tuple_count s.problem)
IsLawful s (CopyWord w i) = IsLive s w × (i < word_count s.problem)
IsLawful s (Clear w t) = IsLive s w × (t < tuple_count s.problem) × IsRefuted s.problem (known_of s w).seen t
IsLawful s (KeepWord w i bits) = IsLive s w × (i < word_count s.problem) × ArePossible s.problem i bits
IsLawful s (SeeKept w i) = IsLive s w × (i < word_count s.problem)
IsLawful s (Split w) = IsLive s w
IsLawful s (Join w v) = IsLive s w × IsLive s v × (v ≢ w)

-- the pair is not claimed
abbrev pub is_free : List ℕ → ℕ → Bool
is_free claimed c = has claimed c == 0

-- who claims a pair has seen it claimed then, and has it in its claims where it was free
abbrev pub claiming : Bool → ℕ → Known → Known
claiming free c k = record k { claimed = gain k.claimed c; claims = if free then gain k.claims c else k.claims }

-- who reads a word of the table, or of the kept tuples, has seen that word
abbrev pub seeing : List ℕ → ℕ → Known → Known
seeing table i k = record k { seen = read_word k.seen table i }

abbrev pub seeing_kept : List ℕ → ℕ → Known → Known
seeing_kept kept i k = record k { kept = read_word k.kept kept i }

-- a worker that is made has seen what this one has, and claimed nothing
abbrev pub without_claims : Known → Known
without_claims k = record k { claims = none_of (length k.claims) }

-- what two know together: of the table what both saw, of all else what either has
abbrev pub joined : Known → Known → Known
joined a b = record {
  seen = meet a.seen b.seen;
  kept = union a.kept b.kept;
  claimed = union a.claimed b.claimed;
  claims = union a.claims b.claims;
}

-- the workers, where this one knows that
abbrev pub knowing : State → ℕ → Known → List (Option Known)
knowing s w k = slice_set s.workers w (Some k)

-- the state after an event. A pair that is claimed already stays claimed, and its claim changes nothing else
abbrev pub after : State → Event → State
after s (Claim w r t) =
    let c = pair s.problem r t in
    record s { claimed = gain s.claimed c; workers = knowing s w (claiming (is_free s.claimed c) c (known_of s w)) }
after s (CopyWord w i) = record s { workers = knowing s w (seeing s.table i (known_of s w)) }
after s (Clear w t) =
    let table = lose s.table t in
    record s { table = table; workers = knowing s w (seeing table (t / 64) (known_of s w)) }
after s (KeepWord w i bits) =
    let kept = with_bits s.kept i bits in
    record s { kept = kept; workers = knowing s w (seeing_kept kept i (known_of s w)) }
after s (SeeKept w i) = record s { workers = knowing s w (seeing_kept s.kept i (known_of s w)) }
after s (Split w) = record s { workers = s.workers ++ Some (without_claims (known_of s w)) ∷ [] }
after s (Join w v) = record s { workers = slice_set (knowing s w (joined (known_of s w) (known_of s v))) v None }

-- what an event answers
abbrev pub reply : State → Event → Reply
reply s (Claim w r t) = Claimed (is_free s.claimed (pair s.problem r t))
reply s (CopyWord w i) = Word (slice_index s.table i)
reply s (Clear w t) = Done
reply s (KeepWord w i bits) = Done
reply s (SeeKept w i) = Word (slice_index s.kept i)
reply s (Split w) = Worker (length s.workers)
reply s (Join w v) = Done

-- a list of events, each lawful where it comes, and the state after them
abbrev pub AreLawful : State → List Event → Type 0
AreLawful s [] = Unit {0}
AreLawful s (e ∷ es) = IsLawful s e × AreLawful (after s e) es

abbrev pub run : State → List Event → State
run s [] = s
run s (e ∷ es) = run (after s e) es

-- the event claims this pair, and is answered true
abbrev pub is_claim : ℕ → ℕ → Event → Bool
is_claim r t (Claim w r' t') = (r' == r) && (t' == t)
is_claim r t _ = false

abbrev pub is_won : Reply → Bool
is_won (Claimed b) = b
is_won _ = false

-- how many claims of this pair are answered true
abbrev pub wins : ℕ → ℕ → State → List Event → ℕ
wins r t s [] = 0
wins r t s (e ∷ es) = (if is_claim r t e && is_won (reply s e) then 1 else 0) + wins r t (after s e) es

-- the laws of the table, for every list of lawful events from the opening state: the state after it is safe; no
-- worker has regained a tuple or lost a kept one since any point of it; of the claims of one pair one at most was
-- answered true
abbrev pub StaysSafe : Type 0
StaysSafe = (p : Posed) (es : List Event) → AreLawful (opening p) es → IsSafe (run (opening p) es)

abbrev pub NeverGoesBack : Type 0
NeverGoesBack =
    (p : Posed) (es fs : List Event) (w : ℕ) → AreLawful (opening p) (es ++ fs) → IsLive (run (opening p) (es ++ fs)) w → IsLive (run (opening p) es) w
    → IsLater (known_of (run (opening p) es) w) (known_of (run (opening p) (es ++ fs)) w)

abbrev pub IsClaimedOnce : Type 0
IsClaimedOnce = (p : Posed) (es : List Event) (r t : ℕ) → AreLawful (opening p) es → wins r t (opening p) es ≤ 1

-- what the sum of the claims says of a sound state: who has a claim has one of a claimed pair, no two workers have
-- one of the same pair, and each claimed pair is some worker's
pub record HasOneClaimant (s : State) : Type 0 where
  pub claimed : (c w : ℕ) → IsLive s w → has (known_of s w).claims c ≡ 1 → has s.claimed c ≡ 1
  pub apart : (c v w : ℕ) → IsLive s v → IsLive s w → v ≢ w → has (known_of s v).claims c ≡ 1 → has (known_of s w).claims c ≡ 0
  pub somebody : (c : ℕ) → has s.claimed c ≡ 1 → (w : ℕ) × IsLive s w × (has (known_of s w).claims c ≡ 1)

abbrev pub ClaimsAreApart : Type 0
ClaimsAreApart = (s : State) → IsSound s → HasOneClaimant s

-- the event is one of this worker: it acts, or it ends
abbrev pub is_of_worker : ℕ → Event → Bool
is_of_worker u (Claim w r t) = u == w
is_of_worker u (CopyWord w i) = u == w
is_of_worker u (Clear w t) = u == w
is_of_worker u (KeepWord w i bits) = u == w
is_of_worker u (SeeKept w i) = u == w
is_of_worker u (Split w) = u == w
is_of_worker u (Join w v) = u == w || u == v

-- what a worker knows is changed by its own events alone
abbrev pub OthersKeepAll : Type 0
OthersKeepAll =
    (s : State) (e : Event) (u : ℕ) → IsLawful s e → IsLive s u → IsFalse (is_of_worker u e) → slice_index_or (after s e).workers u None ≡ slice_index_or s.workers u None

-- a worker is made
abbrev pub IsSplit : Event → Type 0
IsSplit (Split w) = Unit {0}
IsSplit _ = ⊥
