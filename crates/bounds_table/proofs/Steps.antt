-- Each lawful event keeps the state safe.
use Rattle.std.proofs.Common.{◌≡◌, ℕ, ◌+◌, ◌<◌, List, length, set, subst, ◌∙◌, arith}
use Rattle.std.specs.Prelude.{Some, sum_by}
use Rattle.tuple_sets.specs.Words.{has, IsWithin}
use Rattle.tuple_sets.specs.Numbered.{IsPossible, IsImpossible}
use Rattle.bounds_table.specs.declared.known.Known.{Known}
use Rattle.bounds_table.specs.State.{State, IsLive, known_of, claim_of, IsSeen, IsSafe, HasWords, IsSized, IsLater}
use Rattle.bounds_table.specs.Core.{knowing}
use Rattle.bounds_table.proofs.Workers.{live_within, known, sum_with, entry_is, each}

-- what a step does: the state stays safe, and no live worker knows less of what only grows
pub record Goes (s n : State) : Type 0 where
  pub sized : IsSized n
  pub safe : IsSafe n
  pub later : (u : ℕ) → IsLive s u → IsLive n u → IsLater (known_of s u) (known_of n u)
  pub claims : IsWithin s.claimed n.claimed

-- what is to be shown of an event of worker w, which knows x then
pub record Moves (s : State) (w : ℕ) (T K C : List ℕ) (x : Known) : Type 0 where
  pub lengths : (length T ≡ length s.table) × (length K ≡ length s.kept) × (length C ≡ length s.claimed)
  pub words : HasWords s.problem x
  pub lacked : (t : ℕ) → has T t ≡ 0 → IsImpossible s.problem t
  pub possible : (t : ℕ) → has K t ≡ 1 → IsPossible s.problem t
  pub down : IsWithin T s.table
  pub up_kept : IsWithin s.kept K
  pub up_claimed : IsWithin s.claimed C
  pub sees : IsWithin T x.seen
  pub sees_kept : IsWithin x.kept K
  pub sees_claimed : IsWithin x.claimed C
  pub gains : (c : ℕ) → has x.claims c + has s.claimed c ≡ has (known_of s w).claims c + has C c
  pub later : IsLater (known_of s w) x

pub same_later : (k : Known) → IsLater k k
same_later k = record { seen = λ t. omega arith; kept = λ t. omega arith; claimed = λ t. omega arith; claims = λ t. omega arith }

module _ (s : State) (w : ℕ) (T K C : List ℕ) (x : Known) (sized : IsSized s) (safe : IsSafe s) (live : IsLive s w) (m : Moves s w T K C x) where
  within : w < length s.workers
  within = live_within s.workers w live

  moved-sized : IsSized (record { problem = s.problem; table = T; kept = K; claimed = C; workers = knowing s w x })
  moved-sized = record {
    table = m.lengths.0 ∙ sized.table;
    kept = m.lengths.1 ∙ sized.kept;
    claimed = m.lengths.2 ∙ sized.claimed;
    workers = each (λ u k. HasWords s.problem k) s.workers w x within m.words sized.workers;
  }

  -- what another worker saw is still right
  seen_still : (k : Known) → IsSeen s k → IsSeen (record { problem = s.problem; table = T; kept = K; claimed = C; workers = knowing s w x }) k
  seen_still k o = record {
    seen = λ t. let a = m.down t in let b = o.seen t in omega arith;
    kept = λ t. let a = m.up_kept t in let b = o.kept t in omega arith;
    claimed = λ t. let a = m.up_claimed t in let b = o.claimed t in omega arith;
  }

  moved-safe : IsSafe (record { problem = s.problem; table = T; kept = K; claimed = C; workers = knowing s w x })
  moved-safe = record {
    lacked = m.lacked;
    kept = m.possible;
    seen = each (λ u k. IsSeen (record { problem = s.problem; table = T; kept = K; claimed = C; workers = knowing s w x }) k) s.workers w x within
        (record { seen = m.sees; kept = m.sees_kept; claimed = m.sees_claimed }) (λ u h. seen_still (known s.workers u) (safe.seen u h));
    claims = λ c.
        let a : sum_by (claim_of c) (set s.workers w (Some x)) + claim_of c (Some (known s.workers w)) ≡ sum_by (claim_of c) s.workers + has x.claims c =
        subst (λ o. sum_by (claim_of c) (set s.workers w (Some x)) + claim_of c o ≡ sum_by (claim_of c) s.workers + has x.claims c) (entry_is s.workers w live) (sum_with s.workers w c (Some x) within)
        in
        let b = m.gains c in
        let d = safe.claims c in
        omega arith;
  }

  pub moved : Goes s (record { problem = s.problem; table = T; kept = K; claimed = C; workers = knowing s w x })
  moved = record {
    sized = moved-sized;
    safe = moved-safe;
    later = λ u was. each (λ v k. IsLater (known s.workers v) k) s.workers w x within m.later (λ v h. same_later (known s.workers v)) u;
    claims = m.up_claimed;
  }
