-- The two events by which a worker begins and ends.
use Rattle.std.proofs.Common.{◌≡◌, ◌≢◌, ℕ, suc, ◌+◌, ◌<◌, ◌≤◌, List, [], ◌∷◌, ◌++◌, length, get_or, set, sym, ap, subst, ◌∙◌, arith, length-set}
use Rattle.std.specs.Prelude.{Option, Some, None, IsSome, unwrap_or, sum_by}
use Rattle.std.proofs.lemmas.List.{get_or_append_left, length-replicate, length-append}
use Rattle.std.proofs.Math.Seq.{get_or-append_seam}
use Rattle.std.proofs.lemmas.List.{get_or-set_same, get_or-set_other}
use Rattle.std.proofs.lemmas.List.Sums.{sum_by-append}
use native.Mathlib.Decide.{ℕ_discrete}
use mathlib.Core.Logic.{dite}
use Rattle.tuple_sets.specs.Words.{has, none_of}
use Rattle.tuple_sets.proofs.Sets.{has-le, has-none_of, has-meet, has-union}
use Rattle.bounds_table.specs.declared.known.Known.{Known}
use Rattle.bounds_table.specs.State.{State, IsLive, known_of, claim_of, blank, IsSeen, IsSafe, HasWords, IsSized, IsLater}
use Rattle.bounds_table.specs.Core.{without_claims, joined, knowing}
use Rattle.bounds_table.proofs.Workers.{live_within, known, live_other, known_other, sum_with, entry_is, each}
use Rattle.bounds_table.proofs.Steps.{Goes, same_later}
use Rattle.bounds_table.proofs.Together.{joined_words, joined_later}

-- a fact of each live worker, after one more was made
pub each_more : (P : ℕ → Known → Type 0) (ws : List (Option Known)) (x : Known) → P (length ws) x → ((u : ℕ) → IsSome (get_or ws u None) → P u (known ws u)) → (u : ℕ) → IsSome (get_or (ws ++ Some x ∷ []) u None) → P u (known (ws ++ Some x ∷ []) u)
each_more P ws x here there u live =
    dite (ℕ_discrete u (length ws))
    (λ e. subst (λ v. P v (known (ws ++ Some x ∷ []) v)) (sym e) (subst (P (length ws)) (sym (ap (λ o. unwrap_or o blank) (get_or-append_seam ws (Some x) [] None))) here))
    (λ ne.
    let l = live_within (ws ++ Some x ∷ []) u live in
    let long : length (ws ++ Some x ∷ []) ≡ suc (length ws) = omega (arith, length-append ws (Some x ∷ [])) in
    let left : get_or (ws ++ Some x ∷ []) u None ≡ get_or ws u None = get_or_append_left ws (Some x ∷ []) None u (omega arith) in
    subst (P u) (sym (ap (λ o. unwrap_or o blank) left)) (there u (subst (λ o. IsSome o) left live)))

none_live : (o : Option Known) → o ≡ None → IsSome o → ⊥
none_live o e h = cc

-- after one has ended
pub each_less : (P : ℕ → Known → Type 0) (ws : List (Option Known)) (v : ℕ) → ((u : ℕ) → IsSome (get_or ws u None) → P u (known ws u)) → (u : ℕ) → IsSome (get_or (set ws v None) u None) → P u (known (set ws v None) u)
each_less P ws v there u live =
    dite (ℕ_discrete u v)
    (λ e.
    let l = live_within (set ws v None) u live in
    let in_ws : v < length ws = omega (arith, e, length-set ws v None) in
    let gone : get_or (set ws v None) u None ≡ None = ap (λ n. get_or (set ws v None) n None) e ∙ get_or-set_same ws v None None in_ws in
    absurd (none_live (get_or (set ws v None) u None) gone live))
    (λ ne. subst (P u) (sym (known_other ws v u None ne)) (there u (live_other ws v u None ne live)))

module _ (s : State) (w : ℕ) (sized : IsSized s) (safe : IsSafe s) (live : IsLive s w) where
  pub splits : Goes s (record s { workers = s.workers ++ Some (without_claims (known_of s w)) ∷ [] })
  splits =
      let z = sized.workers w live in
      let o = safe.seen w live in
      record {
        sized = record {
          table = sized.table;
          kept = sized.kept;
          claimed = sized.claimed;
          workers = each_more (λ u k. HasWords s.problem k) s.workers (without_claims (known_of s w)) (record { seen = z.seen; kept = z.kept; claimed = z.claimed; claims = length-replicate _ 0 ∙ z.claims }) sized.workers;
        };
        safe = record {
          lacked = safe.lacked;
          kept = safe.kept;
          seen = each_more (λ u k. IsSeen (record s { workers = s.workers ++ Some (without_claims (known_of s w)) ∷ [] }) k) s.workers (without_claims (known_of s w)) (record { seen = o.seen; kept = o.kept; claimed = o.claimed })
              (λ u h. let q = safe.seen u h in record { seen = q.seen; kept = q.kept; claimed = q.claimed });
          claims = λ c.
              let a = sum_by-append (claim_of c) s.workers (Some (without_claims (known_of s w)) ∷ []) in
              let b : has (none_of (length (known_of s w).claims)) c ≡ 0 = has-none_of (length (known_of s w).claims) c in
              let d = safe.claims c in
              omega arith;
        };
        later = λ u was h. each_more (λ v k. IsLive s v → IsLater (known s.workers v) k) s.workers (without_claims (known_of s w))
            (λ h'. absurd (let l = live_within s.workers (length s.workers) h' in omega arith)) (λ v h' was'. same_later (known s.workers v)) u h was;
        claims = λ c. omega arith;
      }

  module _ (v : ℕ) (other : IsLive s v) (apart : v ≢ w) where
    -- no pair is in the claims of both
    pub claims_apart : (c : ℕ) → has (known_of s w).claims c + has (known_of s v).claims c ≤ has s.claimed c
    claims_apart c =
        let ws = s.workers in
        let in_w : w < length ws = live_within ws w live in
        let in_v : v < length (set ws w None) = let l = live_within ws v other in omega (arith, l, length-set ws w None) in
        let a : sum_by (claim_of c) (set ws w None) + has (known_of s w).claims c ≡ sum_by (claim_of c) ws + 0 =
        subst (λ o. sum_by (claim_of c) (set ws w None) + claim_of c o ≡ sum_by (claim_of c) ws + 0) (entry_is ws w live) (sum_with ws w c None in_w)
        in
        let there : get_or (set ws w None) v None ≡ Some (known ws v) = get_or-set_other ws w v None None apart ∙ entry_is ws v other in
        let b : sum_by (claim_of c) (set (set ws w None) v None) + has (known_of s v).claims c ≡ sum_by (claim_of c) (set ws w None) + 0 =
        subst (λ o. sum_by (claim_of c) (set (set ws w None) v None) + claim_of c o ≡ sum_by (claim_of c) (set ws w None) + 0) there (sum_with (set ws w None) v c None in_v)
        in
        let d = safe.claims c in
        omega arith

    -- what the two know together
    both_words : HasWords s.problem (joined (known_of s w) (known_of s v))
    both_words = joined_words s.problem (known_of s w) (known_of s v) (sized.workers w live) (sized.workers v other)

    both_seen : IsSeen s (joined (known_of s w) (known_of s v))
    both_seen =
        let z = sized.workers w live in
        let y = sized.workers v other in
        let o = safe.seen w live in
        let q = safe.seen v other in
        record {
          seen = λ t. let m = has-meet (known_of s w).seen (known_of s v).seen t (z.seen ∙ sym y.seen) in let a = o.seen t in let b = q.seen t in omega arith;
          kept = λ t. let m = has-union (known_of s w).kept (known_of s v).kept t (z.kept ∙ sym y.kept) in let a = o.kept t in let b = q.kept t in omega arith;
          claimed = λ t. let m = has-union (known_of s w).claimed (known_of s v).claimed t (z.claimed ∙ sym y.claimed) in let a = o.claimed t in let b = q.claimed t in omega arith;
        }

    both_later : IsLater (known_of s w) (joined (known_of s w) (known_of s v))
    both_later = joined_later s.problem (known_of s w) (known_of s v) (sized.workers w live) (sized.workers v other)

    both_claims : (c : ℕ) → sum_by (claim_of c) (set (knowing s w (joined (known_of s w) (known_of s v))) v None) ≡ has s.claimed c
    both_claims c =
        let ws = s.workers in
        let x = joined (known_of s w) (known_of s v) in
        let in_w : w < length ws = live_within ws w live in
        let in_v : v < length (set ws w (Some x)) = let l = live_within ws v other in omega (arith, l, length-set ws w (Some x)) in
        let a : sum_by (claim_of c) (set ws w (Some x)) + has (known_of s w).claims c ≡ sum_by (claim_of c) ws + has x.claims c =
        subst (λ o. sum_by (claim_of c) (set ws w (Some x)) + claim_of c o ≡ sum_by (claim_of c) ws + has x.claims c) (entry_is ws w live) (sum_with ws w c (Some x) in_w)
        in
        let there : get_or (set ws w (Some x)) v None ≡ Some (known ws v) = get_or-set_other ws w v (Some x) None apart ∙ entry_is ws v other in
        let b : sum_by (claim_of c) (set (set ws w (Some x)) v None) + has (known_of s v).claims c ≡ sum_by (claim_of c) (set ws w (Some x)) + 0 =
        subst (λ o. sum_by (claim_of c) (set (set ws w (Some x)) v None) + claim_of c o ≡ sum_by (claim_of c) (set ws w (Some x)) + 0) there (sum_with (set ws w (Some x)) v c None in_v)
        in
        let z = sized.workers w live in
        let y = sized.workers v other in
        let m = has-union (known_of s w).claims (known_of s v).claims c (z.claims ∙ sym y.claims) in
        let e = claims_apart c in
        let l = has-le s.claimed c in
        let d = safe.claims c in
        omega arith

    pub joins : Goes s (record s { workers = set (knowing s w (joined (known_of s w) (known_of s v))) v None })
    joins =
        let x = joined (known_of s w) (known_of s v) in
        let in_w : w < length s.workers = live_within s.workers w live in
        record {
          sized = record {
            table = sized.table;
            kept = sized.kept;
            claimed = sized.claimed;
            workers = each_less (λ u k. HasWords s.problem k) (set s.workers w (Some x)) v (each (λ u k. HasWords s.problem k) s.workers w x in_w both_words sized.workers);
          };
          safe = record {
            lacked = safe.lacked;
            kept = safe.kept;
            seen = λ u h. let q = each_less (λ u k. IsSeen s k) (set s.workers w (Some x)) v (each (λ u k. IsSeen s k) s.workers w x in_w both_seen safe.seen) u h in record { seen = q.seen; kept = q.kept; claimed = q.claimed };
            claims = both_claims;
          };
          later = λ u was. each_less (λ u k. IsLater (known s.workers u) k) (set s.workers w (Some x)) v (each (λ u k. IsLater (known s.workers u) k) s.workers w x in_w both_later (λ u h. same_later (known s.workers u))) u;
          claims = λ c. omega arith;
        }
