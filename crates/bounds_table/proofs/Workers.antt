-- Who is live, what each knows and who claimed what, after the list of workers has changed.
use Rattle.std.proofs.Common.{◌≡◌, ◌≢◌, ℕ, ◌+◌, ◌<◌, List, length, get_or, set, refl, sym, ap, subst, get_or-set_same, get_or-set_other, lt_of_not-le}
use Rattle.std.specs.Prelude.{Option, Some, None, IsSome, unwrap_or, sum_by}
use Rattle.std.proofs.lemmas.List.{get_or_past}
use Rattle.std.proofs.lemmas.List.Sums.{sum_by-set}
use native.Mathlib.Decide.{ℕ_discrete, dec_le}
use mathlib.Core.Logic.{dite}
use Rattle.bounds_table.specs.declared.known.Known.{Known}
use Rattle.bounds_table.specs.State.{claim_of, blank}

-- what a worker of the list knows
abbrev pub known : List (Option Known) → ℕ → Known
known ws w = unwrap_or (get_or ws w None) blank

module _ (ws : List (Option Known)) (w : ℕ) where
  -- a live worker is one of the list
  pub live_within : IsSome (get_or ws w None) → w < length ws
  live_within h = dite (dec_le (length ws) w) (λ past. let e = get_or_past ws w None past in absurd (cc)) (λ before. lt_of_not-le before)

  -- the worker that has changed
  pub entry_same : (x : Option Known) → w < length ws → get_or (set ws w x) w None ≡ x
  entry_same x h = get_or-set_same ws w x None h

  pub known_same : (x : Known) → w < length ws → known (set ws w (Some x)) w ≡ x
  known_same x h = ap (λ o. unwrap_or o blank) (entry_same (Some x) h)

  -- another
  pub known_other : (u : ℕ) (x : Option Known) → u ≢ w → known (set ws w x) u ≡ known ws u
  known_other u x ne = ap (λ o. unwrap_or o blank) (get_or-set_other ws w u x None ne)

  pub live_other : (u : ℕ) (x : Option Known) → u ≢ w → IsSome (get_or (set ws w x) u None) → IsSome (get_or ws u None)
  live_other u x ne h = subst (λ o. IsSome o) (get_or-set_other ws w u x None ne) h

  -- the claims of all, of whom one has changed
  pub sum_with : (c : ℕ) (x : Option Known) → w < length ws → sum_by (claim_of c) (set ws w x) + claim_of c (get_or ws w None) ≡ sum_by (claim_of c) ws + claim_of c x
  sum_with c x h = sum_by-set (claim_of c) ws w x None h

entry_some : (o : Option Known) → IsSome o → o ≡ Some (unwrap_or o blank)
entry_some None h = cc
entry_some (Some x) h = refl

pub entry_is : (ws : List (Option Known)) (w : ℕ) → IsSome (get_or ws w None) → get_or ws w None ≡ Some (known ws w)
entry_is ws w h = entry_some (get_or ws w None) h

-- a fact of each live worker, after one has changed
pub each : (P : ℕ → Known → Type 0) (ws : List (Option Known)) (w : ℕ) (x : Known) → w < length ws → P w x → ((u : ℕ) → IsSome (get_or ws u None) → P u (known ws u)) → (u : ℕ) → IsSome (get_or (set ws w (Some x)) u None) → P u (known (set ws w (Some x)) u)
each P ws w x h here there u live =
    dite (ℕ_discrete u w)
    (λ e. subst (λ v. P v (known (set ws w (Some x)) v)) (sym e) (subst (P w) (sym (known_same ws w x h)) here))
    (λ ne. subst (P u) (sym (known_other ws w u (Some x) ne)) (there u (live_other ws w u (Some x) ne live)))
