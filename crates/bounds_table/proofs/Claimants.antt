-- The sum of the claims, said of single workers.
use Rattle.std.proofs.Common.{◌≡◌, ℕ, zero, suc, ◌+◌, ◌<◌, ◌≤◌, List, [], ◌∷◌, get_or, refl, sym, subst, arith, ⊎_elim}
use Rattle.std.specs.Prelude.{Option, Some, None, IsSome, sum_by}
use Rattle.std.proofs.lemmas.List.Sums.{get_or-le-sum_by, sum_by-cons}
use Rattle.tuple_sets.specs.Words.{has}
use Rattle.tuple_sets.proofs.Sets.{has_cases, has-le}
use Rattle.bounds_table.specs.declared.known.Known.{Known}
use Rattle.bounds_table.specs.State.{State, IsLive, known_of, claim_of, claimants, IsSafe}
use Rattle.bounds_table.specs.Core.{ClaimsAreApart}
use Rattle.bounds_table.proofs.Workers.{live_within, known, entry_is}
use Rattle.bounds_table.proofs.Turnover.{claims_apart}

-- who has a claim adds one to the sum
has_claim : (s : State) (w c : ℕ) → IsSafe s → IsLive s w → has (known_of s w).claims c ≤ has s.claimed c
has_claim s w c safe live =
    let a : claim_of c (Some (known s.workers w)) ≤ claimants s c = subst (λ o. claim_of c o ≤ claimants s c) (entry_is s.workers w live) (get_or-le-sum_by (claim_of c) s.workers w None (live_within s.workers w live)) in
    let b = safe.claims c in
    omega arith

-- where the sum is not 0, somebody has the claim
some_claim : (ws : List (Option Known)) (c : ℕ) → 0 < sum_by (claim_of c) ws → (w : ℕ) × IsSome (get_or ws w None) × (has (known ws w).claims c ≡ 1)
some_claim [] c h = absurd (omega arith)
some_claim (None ∷ ws) c h =
    let r = some_claim ws c (let e = sum_by-cons (claim_of c) None ws in omega arith) in
    (suc r.0, r.1, r.2)
some_claim (Some k ∷ ws) c h =
    ⊎_elim
    (λ none. let r = some_claim ws c (let e : sum_by (claim_of c) (Some k ∷ ws) ≡ has k.claims c + sum_by (claim_of c) ws = sum_by-cons (claim_of c) (Some k) ws in omega arith) in (suc r.0, r.1, r.2))
    (λ one. (zero, refl, one))
    (has_cases k.claims c)

pub claims_are_apart : ClaimsAreApart
claims_are_apart s sound = record {
  claimed = λ c w live one. let a = has_claim s w c sound.safe live in let b = has-le s.claimed c in omega arith;
  apart = λ c v w live other ne one.
      let a = claims_apart s v sound.sized sound.safe live w other (λ e. ne (sym e)) c in
      let b = has-le s.claimed c in
      omega arith;
  somebody = λ c one. some_claim s.workers c (let e = sound.safe.claims c in omega arith);
}
