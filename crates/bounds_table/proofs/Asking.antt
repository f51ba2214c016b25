-- What the calls owe at their steps, where the number of words and the masks are those of the code.
use Rattle.std.proofs.Common.{◌≡◌, ℕ, ◌+◌, ◌*◌, ◌/◌, ◌%◌, ◌<◌, bit_and, bit_or, sym, ap, subst, ◌∙◌, arith}
use Rattle.std.specs.Prelude.{Some}
use Rattle.std.specs.Int.{bit_not, w64}
use mathlib.Core.Option.{none}
use Rattle.atomic_table.specs.Table.{Me, step, Allows}
use Rattle.atomic_table.specs.Seated.{TableId}
use Rattle.heap_core.specs.Posed.{Posed}
use Rattle.tuple_sets.specs.Words.{one_bit}
use Rattle.tuple_sets.specs.Numbered.{word_count, IsRefuted}
use Rattle.bounds_table.specs.declared.rule.View.{View}
use Rattle.bounds_table.specs.State.{pair}
use Rattle.bounds_table.specs.Core.{tuple_count, ArePossible}
use Rattle.bounds_table.specs.Rule.{Stands, IsLaidOut}
use Rattle.bounds_table.specs.Plays as play
use Rattle.bounds_table.proofs.Runs.{pair_within}
use Rattle.bounds_table.proofs.Allowed.{see_allowed, clear_allowed, keep_allowed, claim_allowed}

module _ (p : Posed) (slots id : ℕ) (me : Me (Unit {0}) View) (of : me.0.problem ≡ Some p) where
  pub clear_asked : (t mask : ℕ) → mask ≡ one_bit (t % 64) → t < tuple_count p → IsRefuted p me.0.known.seen t
      → Allows (Stands p) slots id me (t / 64) (λ n. bit_and n (bit_not w64 mask)) (play.clears (step slots (t / 64) (bit_not w64 mask) 0 none) me)
  clear_asked t mask e small refutes =
      subst (λ m. Allows (Stands p) slots id me (t / 64) (λ n. bit_and n (bit_not w64 m)) (play.clears (step slots (t / 64) (bit_not w64 m) 0 none) me)) (sym e) (clear_allowed p slots id me t of small refutes)

  pub see_asked : (n i : ℕ) → n ≡ word_count p → i < word_count p → Allows (Stands p) slots id me (n + i) (λ x. x) (play.sees (step slots (n + i) 0 0 none) me)
  see_asked n i e within =
      subst (λ m. Allows (Stands p) slots id me (m + i) (λ x. x) (play.sees (step slots (m + i) 0 0 none) me)) (sym e) (see_allowed p slots id me i of within)

  pub keep_asked : (n i bits : ℕ) → n ≡ word_count p → i < word_count p → ArePossible p i bits → Allows (Stands p) slots id me (n + i) (λ x. bit_or x bits) (play.keeps (step slots (n + i) bits 0 none) me)
  keep_asked n i bits e within are =
      subst (λ m. Allows (Stands p) slots id me (m + i) (λ x. bit_or x bits) (play.keeps (step slots (m + i) bits 0 none) me)) (sym e) (keep_allowed p slots id me i bits of within are)

  pub claim_asked : (n r t at mask : ℕ) → n ≡ word_count p → r < 8 → t < tuple_count p → at ≡ (64 * (r * n) + t) / 64 → mask ≡ one_bit (t % 64)
      → Allows (Stands p) slots id me (2 * n + at) (λ x. bit_or x mask) (play.claims (step slots (2 * n + at) mask 0 none) me)
  claim_asked n r t at mask e few small at_is mask_is =
      subst (λ m. Allows (Stands p) slots id me (2 * m + at) (λ x. bit_or x mask) (play.claims (step slots (2 * m + at) mask 0 none) me)) (sym e) (claim_allowed p slots id me r t n at mask of few small e at_is mask_is)

-- the place of a claim lies within the words
module _ (p : Posed) (count n r t at : ℕ) (z : TableId) (laid : IsLaidOut p count n z) (few : r < 8) (small : t < tuple_count p) (at_is : at ≡ (64 * (r * n) + t) / 64) where
  pub claim_place : at ≡ pair p r t / 64
  claim_place = at_is ∙ ap (λ m. (64 * (r * m) + t) / 64) laid.words

  pub claim_within : at < 8 * n
  claim_within =
      let a : pair p r t / 64 < 8 * word_count p = pair_within p r t few small in
      let b : at ≡ pair p r t / 64 = claim_place in
      let e : n ≡ word_count p = laid.words in
      let x : ℕ = pair p r t / 64 in
      omega arith
