-- The claim of a pair, by its word and its mask.
use Rattle.std.proofs.Common.{◌≡◌, ℕ, ◌+◌, ◌*◌, ◌/◌, ◌%◌, ◌<◌, Bool, List, length, get_or, set, bit_and, sym, ap, subst, ◌∙◌, arith, eqb}
use Rattle.std.specs.Prelude.{Option, Some, None, unwrap_or}
use Rattle.std.proofs.lemmas.List.{get_or_read}
use Rattle.tuple_sets.specs.Words.{one_bit, with_bits}
use Rattle.tuple_sets.specs.Numbered.{word_count}
use Rattle.tuple_sets.proofs.Sets.{free_bit, gain_is}
use Rattle.bounds_table.specs.declared.known.Known.{Known}
use Rattle.bounds_table.specs.declared.event.Event.TheVariants.{Claim}
use Rattle.bounds_table.specs.State.{State, pair, blank, known_of, IsSound}
use Rattle.bounds_table.specs.Core.{IsLawful, is_free, claiming, after}
use Rattle.bounds_table.specs.Plays.{told}
use Rattle.bounds_table.proofs.Telling.{told_is}
use Rattle.bounds_table.proofs.Workers.{live_within}
use Rattle.bounds_table.proofs.Runs.{pair_within, pair_bit}

-- a worker that was looked up knows what the state says
pub looked_up : (s : State) (w : ℕ) (x : Option Known) → w < length s.workers → x ≡ get_or s.workers w x → unwrap_or x blank ≡ known_of s w
looked_up s w x within e = ap (λ o. unwrap_or o blank) (get_or_read s.workers w x within e None)

module _ (s : State) (w r t at mask words : ℕ) (x : Option Known) (sound : IsSound s) (ok : IsLawful s (Claim w r t)) (as_many : words ≡ length s.table) (at_is : at ≡ (64 * (r * words) + t) / 64) (mask_is : mask ≡ one_bit (t % 64)) (entry : x ≡ get_or s.workers w x) where
  place : at ≡ pair s.problem r t / 64
  place = at_is ∙ ap (λ n. (64 * (r * n) + t) / 64) (as_many ∙ sound.sized.table)

  bit : mask ≡ one_bit (pair s.problem r t % 64)
  bit = mask_is ∙ ap one_bit (sym (pair_bit s.problem r t))

  known_is : unwrap_or x blank ≡ known_of s w
  known_is = looked_up s w x (live_within s.workers w ok.0) entry

  pub within : at < 8 * word_count s.problem
  within = subst (λ n. n < 8 * word_count s.problem) (sym place) (pair_within s.problem r t ok.1 ok.2)

  pub in_set : at < length s.claimed
  in_set = let a = within in let e = sound.sized.claimed in omega arith

  pub in_claimed : at < length (unwrap_or x blank).claimed
  in_claimed = let a = within in let e = (sound.sized.workers w ok.0).claimed in let k = ap (λ k. length k.claimed) known_is in omega arith

  pub in_claims : at < length (unwrap_or x blank).claims
  in_claims = let a = within in let e = (sound.sized.workers w ok.0).claims in let k = ap (λ k. length k.claims) known_is in omega arith

  pub free_is : eqb (bit_and (get_or s.claimed at 0) mask) 0 ≡ is_free s.claimed (pair s.problem r t)
  free_is = free_bit s.claimed at mask (pair s.problem r t) place bit

  -- what the worker knows then
  pub claiming_is : (free : Bool) → free ≡ is_free s.claimed (pair s.problem r t) → told free at mask (unwrap_or x blank) ≡ claiming (is_free s.claimed (pair s.problem r t)) (pair s.problem r t) (known_of s w)
  claiming_is free e =
      ap {A = Known} {B = Known} (λ k. told free at mask k) known_is
      ∙ ap {A = Bool} {B = Known} (λ b. told b at mask (known_of s w)) e
      ∙ told_is (is_free s.claimed (pair s.problem r t)) at mask (pair s.problem r t) (known_of s w) place bit

  pub claimed_is : (free : Bool) (C : List ℕ) (y : Option Known) → free ≡ is_free s.claimed (pair s.problem r t) → C ≡ with_bits s.claimed at mask
      → y ≡ Some (told free at mask (unwrap_or x blank))
      → after s (Claim w r t) ≡ record s { claimed = C; workers = set s.workers w y }
  claimed_is free C y e f g =
      ap {A = List ℕ} {B = State} (λ l. record s { claimed = l; workers = set s.workers w (Some (claiming (is_free s.claimed (pair s.problem r t)) (pair s.problem r t) (known_of s w))) }) (sym (f ∙ gain_is s.claimed at mask (pair s.problem r t) place bit))
      ∙ ap {A = Option Known} {B = State} (λ o. record s { claimed = C; workers = set s.workers w o }) (ap Some (sym (claiming_is free e)) ∙ sym g)
