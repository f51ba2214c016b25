-- The five events of one worker, and those by which a worker begins and ends.
use Rattle.std.proofs.Common.{◌≡◌, ℕ, ◌+◌, ◌*◌, ◌/◌, ◌%◌, ◌<◌, ◌≤◌, true, false, List, length, get_or, refl, sym, subst, ◌∙◌, arith, ⊎_elim, bit_or, length-set}
use Rattle.std.specs.Prelude.{Some, None}
use Rattle.std.specs.Int.{bit_at}
use Rattle.std.proofs.Math.Nat.{mod-lt, div-add-mod'}
use Rattle.std.proofs.lemmas.Bool.Decides.{eqb_tells}
use Rattle.std.proofs.lemmas.List.Sums.{get_or-le-sum_by}
use Rattle.std.proofs.lemmas.Nat.Bits.{bit_at-lt}
use native.Mathlib.Decide.{ℕ_discrete}
use mathlib.Core.Logic.{dite}
use Rattle.tuple_sets.specs.Words.{has, IsWithin, gain, lose, read_word, with_bits}
use Rattle.tuple_sets.specs.Numbered.{word_count, IsPossible, IsImpossible, IsRefuted}
use Rattle.tuple_sets.proofs.Sets.{has_cases, has-le, has-set_cases, gain_here, gain_there, lose_here, lose_there, read_word_cases, with_bits_here}
use Rattle.tuple_sets.proofs.Numbers.{refuted}
use Rattle.bounds_table.specs.State.{State, IsLive, known_of, claim_of, claimants, IsSafe, IsSized}
use Rattle.bounds_table.specs.Core.{ArePossible, is_free, claiming, seeing, seeing_kept}
use Rattle.bounds_table.proofs.Workers.{live_within, known, entry_is}
use Rattle.bounds_table.proofs.Steps.{Moves}

-- a word of the table is read: what is seen shrinks, and still has the table
pub reads_down : (T seen : List ℕ) (i : ℕ) → IsWithin T seen → IsWithin T (read_word seen T i) × IsWithin (read_word seen T i) seen
reads_down T seen i h = (
  (λ t. ⊎_elim (λ e. omega (arith, e)) (λ e. let a = h t in omega (arith, e)) (read_word_cases seen T i t)),
  (λ t. ⊎_elim (λ e. let a = h t in omega (arith, e)) (λ e. omega (arith, e)) (read_word_cases seen T i t)),
)

-- a word of the kept tuples is read: what was seen kept grows, and still is kept
pub reads_up : (K kept : List ℕ) (i : ℕ) → IsWithin kept K → IsWithin (read_word kept K i) K × IsWithin kept (read_word kept K i)
reads_up K kept i h = (
  (λ t. ⊎_elim (λ e. omega (arith, e)) (λ e. let a = h t in omega (arith, e)) (read_word_cases kept K i t)),
  (λ t. ⊎_elim (λ e. let a = h t in omega (arith, e)) (λ e. omega (arith, e)) (read_word_cases kept K i t)),
)

loses : (ws : List ℕ) (t : ℕ) → IsWithin (lose ws t) ws
loses ws t u = dite (ℕ_discrete u t) (λ e. subst (λ v. has (lose ws t) v ≤ has ws v) (sym e) (let z = lose_here ws t in omega arith)) (λ ne. let o = lose_there ws t u ne in omega arith)

pub gains_one : (ws : List ℕ) (c : ℕ) → c / 64 < length ws → IsWithin ws (gain ws c)
gains_one ws c h u = dite (ℕ_discrete u c) (λ e. subst (λ v. has ws v ≤ has (gain ws c) v) (sym e) (let a = gain_here ws c h in let b = has-le ws c in omega arith)) (λ ne. let o = gain_there ws c u ne in omega arith)

-- what is gained in two sets of which one is within the other
gains_both : (a b : List ℕ) (c : ℕ) → c / 64 < length b → IsWithin a b → IsWithin (gain a c) (gain b c)
gains_both a b c h w u = dite (ℕ_discrete u c) (λ e. subst (λ v. has (gain a c) v ≤ has (gain b c) v) (sym e) (let x = gain_here b c h in let y = has-le (gain a c) c in omega arith)) (λ ne. let x = gain_there a c u ne in let y = gain_there b c u ne in let z = w u in omega arith)

-- bits are added to a word
bits_added : (ws : List ℕ) (i bits : ℕ) → IsWithin ws (with_bits ws i bits)
bits_added ws i bits t =
    ⊎_elim
    (λ e. let h = with_bits_here ws i bits t e.0 e.1 in omega (arith, h))
    (λ e. omega (arith, e))
    (has-set_cases ws i (bit_or (get_or ws i 0) bits) t)

module _ (s : State) (w : ℕ) (sized : IsSized s) (safe : IsSafe s) (live : IsLive s w) where
  pub copies : (i : ℕ) → Moves s w s.table s.kept s.claimed (seeing s.table i (known_of s w))
  copies i =
      let z = sized.workers w live in
      let o = safe.seen w live in
      let d = reads_down s.table (known_of s w).seen i o.seen in
      record {
        lengths = (refl, refl, refl);
        words = record { seen = length-set _ i _ ∙ z.seen; kept = z.kept; claimed = z.claimed; claims = z.claims };
        lacked = safe.lacked;
        possible = safe.kept;
        down = λ t. omega arith;
        up_kept = λ t. omega arith;
        up_claimed = λ t. omega arith;
        sees = d.0;
        sees_kept = o.kept;
        sees_claimed = o.claimed;
        gains = λ c. refl;
        later = record { seen = d.1; kept = λ t. omega arith; claimed = λ t. omega arith; claims = λ t. omega arith };
      }

  pub sees_kept_word : (i : ℕ) → Moves s w s.table s.kept s.claimed (seeing_kept s.kept i (known_of s w))
  sees_kept_word i =
      let z = sized.workers w live in
      let o = safe.seen w live in
      let d = reads_up s.kept (known_of s w).kept i o.kept in
      record {
        lengths = (refl, refl, refl);
        words = record { seen = z.seen; kept = length-set _ i _ ∙ z.kept; claimed = z.claimed; claims = z.claims };
        lacked = safe.lacked;
        possible = safe.kept;
        down = λ t. omega arith;
        up_kept = λ t. omega arith;
        up_claimed = λ t. omega arith;
        sees = o.seen;
        sees_kept = d.0;
        sees_claimed = o.claimed;
        gains = λ c. refl;
        later = record { seen = λ t. omega arith; kept = d.1; claimed = λ t. omega arith; claims = λ t. omega arith };
      }

  -- each tuple that the worker lacks is impossible
  pub lacks : (u : ℕ) → has (known_of s w).seen u ≡ 0 → IsImpossible s.problem u
  lacks u none = safe.lacked u (let a = (safe.seen w live).seen u in omega arith)

  pub clears : (t : ℕ) → IsRefuted s.problem (known_of s w).seen t → Moves s w (lose s.table t) s.kept s.claimed (seeing (lose s.table t) (t / 64) (known_of s w))
  clears t none =
      let z = sized.workers w live in
      let o = safe.seen w live in
      let down : IsWithin (lose s.table t) s.table = loses s.table t in
      let d = reads_down (lose s.table t) (known_of s w).seen (t / 64) (λ u. let a = down u in let b = o.seen u in omega arith) in
      record {
        lengths = (length-set s.table _ _, refl, refl);
        words = record { seen = length-set _ (t / 64) _ ∙ z.seen; kept = z.kept; claimed = z.claimed; claims = z.claims };
        lacked = λ u h. dite (ℕ_discrete u t)
            (λ e. subst (λ v. IsImpossible s.problem v) (sym e) (refuted s.problem (known_of s w).seen lacks t none))
            (λ ne. safe.lacked u (sym (lose_there s.table t u ne) ∙ h));
        possible = safe.kept;
        down = down;
        up_kept = λ u. omega arith;
        up_claimed = λ u. omega arith;
        sees = d.0;
        sees_kept = o.kept;
        sees_claimed = o.claimed;
        gains = λ c. refl;
        later = record { seen = d.1; kept = λ u. omega arith; claimed = λ u. omega arith; claims = λ u. omega arith };
      }

  added_possible : (i bits : ℕ) → ArePossible s.problem i bits → (t : ℕ) → has (with_bits s.kept i bits) t ≡ 1 → IsPossible s.problem t
  added_possible i bits are t h =
      ⊎_elim
      (λ e.
      let m = with_bits_here s.kept i bits t e.0 e.1 in
      let small = mod-lt t {m = 64} (omega arith) in
      let here : 64 * i + t % 64 ≡ t = let d = div-add-mod' t 64 in let q = e.0 in omega arith in
      ⊎_elim
      (λ none. subst (λ u. IsPossible s.problem u) here (are (t % 64) small (let l = bit_at-lt bits (t % 64) in let x : ℕ = bit_at bits (t % 64) in omega (arith, m, h, none))))
      (λ one. safe.kept t one)
      (has_cases s.kept t))
      (λ e. safe.kept t (sym e ∙ h))
      (has-set_cases s.kept i _ t)

  pub keeps : (i bits : ℕ) → ArePossible s.problem i bits → Moves s w s.table (with_bits s.kept i bits) s.claimed (seeing_kept (with_bits s.kept i bits) i (known_of s w))
  keeps i bits are =
      let z = sized.workers w live in
      let o = safe.seen w live in
      let up : IsWithin s.kept (with_bits s.kept i bits) = bits_added s.kept i bits in
      let d = reads_up (with_bits s.kept i bits) (known_of s w).kept i (λ u. let a = up u in let b = o.kept u in omega arith) in
      record {
        lengths = (refl, length-set s.kept _ _, refl);
        words = record { seen = z.seen; kept = length-set _ i _ ∙ z.kept; claimed = z.claimed; claims = z.claims };
        lacked = safe.lacked;
        possible = added_possible i bits are;
        down = λ u. omega arith;
        up_kept = up;
        up_claimed = λ u. omega arith;
        sees = o.seen;
        sees_kept = d.0;
        sees_claimed = o.claimed;
        gains = λ c. refl;
        later = record { seen = λ u. omega arith; kept = d.1; claimed = λ u. omega arith; claims = λ u. omega arith };
      }

  -- where no worker has the claim, this one has not
  pub unclaimed : (c : ℕ) → has s.claimed c ≡ 0 → has (known_of s w).claims c ≡ 0
  unclaimed c h =
      let a : claim_of c (Some (known s.workers w)) ≤ claimants s c = subst (λ o. claim_of c o ≤ claimants s c) (entry_is s.workers w live) (get_or-le-sum_by (claim_of c) s.workers w None (live_within s.workers w live)) in
      let b = safe.claims c in
      omega arith

  module _ (c : ℕ) (small : c / 64 < 8 * word_count s.problem) where
    claims_free : has s.claimed c ≡ 0 → Moves s w s.table s.kept (gain s.claimed c) (claiming true c (known_of s w))
    claims_free free =
        let z = sized.workers w live in
        let o = safe.seen w live in
        let k = known_of s w in
        let in_all : c / 64 < length s.claimed = let e = sized.claimed in omega arith in
        let in_claims : c / 64 < length k.claims = let e = z.claims in omega arith in
        let in_seen : c / 64 < length k.claimed = let e = z.claimed in omega arith in
        record {
          lengths = (refl, refl, length-set s.claimed _ _);
          words = record { seen = z.seen; kept = z.kept; claimed = length-set _ (c / 64) _ ∙ z.claimed; claims = length-set _ (c / 64) _ ∙ z.claims };
          lacked = safe.lacked;
          possible = safe.kept;
          down = λ u. omega arith;
          up_kept = λ u. omega arith;
          up_claimed = gains_one s.claimed c in_all;
          sees = o.seen;
          sees_kept = o.kept;
          sees_claimed = gains_both k.claimed s.claimed c in_all o.claimed;
          gains = λ d. dite (ℕ_discrete d c)
              (λ e. subst (λ v. has (gain k.claims c) v + has s.claimed v ≡ has k.claims v + has (gain s.claimed c) v) (sym e) (let a = gain_here k.claims c in_claims in let b = gain_here s.claimed c in_all in let u = unclaimed c free in omega arith))
              (λ ne. let a = gain_there k.claims c d ne in let b = gain_there s.claimed c d ne in omega arith);
          later = record { seen = λ u. omega arith; kept = λ u. omega arith; claimed = gains_one k.claimed c in_seen; claims = gains_one k.claims c in_claims };
        }

    claims_taken : has s.claimed c ≡ 1 → Moves s w s.table s.kept (gain s.claimed c) (claiming false c (known_of s w))
    claims_taken taken =
        let z = sized.workers w live in
        let o = safe.seen w live in
        let k = known_of s w in
        let in_all : c / 64 < length s.claimed = let e = sized.claimed in omega arith in
        let in_seen : c / 64 < length k.claimed = let e = z.claimed in omega arith in
        record {
          lengths = (refl, refl, length-set s.claimed _ _);
          words = record { seen = z.seen; kept = z.kept; claimed = length-set _ (c / 64) _ ∙ z.claimed; claims = z.claims };
          lacked = safe.lacked;
          possible = safe.kept;
          down = λ u. omega arith;
          up_kept = λ u. omega arith;
          up_claimed = gains_one s.claimed c in_all;
          sees = o.seen;
          sees_kept = o.kept;
          sees_claimed = gains_both k.claimed s.claimed c in_all o.claimed;
          gains = λ d. dite (ℕ_discrete d c)
              (λ e. subst (λ v. has k.claims v + has s.claimed v ≡ has k.claims v + has (gain s.claimed c) v) (sym e) (let b = gain_here s.claimed c in_all in omega arith))
              (λ ne. let b = gain_there s.claimed c d ne in omega arith);
          later = record { seen = λ u. omega arith; kept = λ u. omega arith; claimed = gains_one k.claimed c in_seen; claims = λ u. omega arith };
        }

    pub claims_moves : Moves s w s.table s.kept (gain s.claimed c) (claiming (is_free s.claimed c) c (known_of s w))
    claims_moves =
        ⊎_elim
        (λ e. subst (λ b. Moves s w s.table s.kept (gain s.claimed c) (claiming b c (known_of s w))) (sym e.0) (claims_free e.1))
        (λ e. subst (λ b. Moves s w s.table s.kept (gain s.claimed c) (claiming b c (known_of s w))) (sym e.0) (claims_taken (⊎_elim (λ z. absurd (e.1 z)) (λ o. o) (has_cases s.claimed c))))
        (eqb_tells (has s.claimed c) 0)
