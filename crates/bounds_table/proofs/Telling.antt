-- What the steps of a pass tell, read back.
use Rattle.std.proofs.Common.{◌≡◌, ℕ, ◌+◌, ◌-◌, ◌*◌, ◌/◌, ◌%◌, ◌<◌, Bool, true, false, List, length, set, refl, sym, ap, subst, ◌∙◌, arith, bit_or, max}
use Rattle.std.specs.Prelude.{Option, Some, IfSome, IsTrue, ◌↔◌, if◌then◌else◌}
use Rattle.std.specs.Int.{bit_at}
use Rattle.std.proofs.lemmas.Nat.Bits.{bit_at-lt, bit_at_or}
use Rattle.heap_core.specs.Posed.{Posed}
use Rattle.tuple_sets.specs.Words.{has, one_bit, with_bits, gain}
use Rattle.tuple_sets.proofs.Sets.{gain_here, gain_is, written_here}
use Rattle.bounds_table.specs.declared.known.Known.{Known}
use Rattle.bounds_table.specs.Core.{ArePossible, claiming}
use Rattle.bounds_table.specs.Rule.{IsGained}
use Rattle.bounds_table.specs.Plays.{IsRight, IsNews, told}
use Rattle.bounds_table.specs.State.{HasWords}
use Rattle.tuple_sets.specs.Numbered.{word_count}

-- what is said of a problem that is there
pub says : (F : Posed → Type 0) (o : Option Posed) (p : Posed) → o ≡ Some p → IfSome o F → F p
says F o p e h = subst (λ x. IfSome x F) e h

pub told_is : (free : Bool) (at mask c : ℕ) (k : Known) → at ≡ c / 64 → mask ≡ one_bit (c % 64) → told free at mask k ≡ claiming free c k
told_is free at mask c k e f =
    ap {A = List ℕ} {B = Known} (λ l. record k { claimed = l; claims = if free then with_bits k.claims at mask else k.claims }) (gain_is k.claimed at mask c e f)
    ∙ ap {A = List ℕ} {B = Known} (λ l. record k { claimed = gain k.claimed c; claims = if free then l else k.claims }) (gain_is k.claims at mask c e f)

-- the claim is gained exactly where it was free
pub gained_iff : (free : Bool) (c : ℕ) (k : Known) → c / 64 < length k.claims → (IsTrue free → has k.claims c ≡ 0) → IsTrue free ↔ IsGained c k (claiming free c k)
gained_iff true c k within news = (λ yes. record { before = news yes; now = gain_here k.claims c within }, λ g. refl)
gained_iff false c k within news = (λ no. cc, λ g. absurd (let a = g.before in let b = g.now in omega arith))

-- what a pass knows after its step on a claim word
module _ (p : Posed) (k new : Known) (n at mask c : ℕ) (free : Bool) (e : n ≡ word_count p) (at_is : at ≡ c / 64) (mask_is : mask ≡ one_bit (c % 64)) (words : HasWords p k) (within : c / 64 < 8 * word_count p) (now : new ≡ told free (2 * n + at - 2 * word_count p) mask k) where
  claim_place : 2 * n + at - 2 * word_count p ≡ at
  claim_place = place n at (word_count p) e
    where
      place : (a b m : ℕ) → a ≡ m → 2 * a + b - 2 * m ≡ b
      place a b m f = omega arith

  pub claim_told : new ≡ claiming free c k
  claim_told = now ∙ ap {A = ℕ} {B = Known} (λ j. told free j mask k) claim_place ∙ told_is free at mask c k at_is mask_is

  pub claim_gained : IsNews free (2 * n + at - 2 * word_count p) mask k → IsTrue free ↔ IsGained c k new
  claim_gained news =
      subst (λ (x : Known). IsTrue free ↔ IsGained c k x) (sym claim_told) (gained_iff free c k (let l = words.claims in omega arith) (λ yes. news yes c (claim_place ∙ at_is) mask_is))

  pub claim_seen : has new.claimed c ≡ 1
  claim_seen = ap {A = Known} {B = ℕ} (λ x. has x.claimed c) claim_told ∙ gain_here k.claimed c (let l = words.claimed in omega arith)

-- what a pass has seen kept after its steps on a kept word
module _ (p : Posed) (k new : Known) (n i x : ℕ) (words : HasWords p k) (e : n ≡ word_count p) (within : i < word_count p) (now : new ≡ record k { kept = set k.kept (n + i - word_count p) x }) where
  pub kept_word : new.kept ≡ set k.kept i x
  kept_word = ap {A = Known} {B = List ℕ} (λ q. q.kept) now ∙ ap (λ j. set k.kept j x) (let m : ℕ = word_count p in let f : n ≡ m = e in place n i m f)
    where
      place : (a b m : ℕ) → a ≡ m → a + b - m ≡ b
      place a b m f = omega arith

  kept_bit : (j : ℕ) → j < 64 → has new.kept (64 * i + j) ≡ bit_at x j
  kept_bit j small = ap (λ l. has l (64 * i + j)) kept_word ∙ written_here k.kept i x j (let l = words.kept in omega arith) small

  pub kept_now : (found bits : ℕ) → x ≡ bit_or found bits → (j : ℕ) → j < 64 → bit_at bits j ≡ 1 → has new.kept (64 * i + j) ≡ 1
  kept_now found bits is j small one =
      kept_bit j small ∙ ap (λ m. bit_at m j) is ∙ bit_at_or found bits j ∙ most (bit_at found j) (bit_at bits j) (bit_at-lt found j) one
    where
      most : (a b : ℕ) → a < 2 → b ≡ 1 → max a b ≡ 1
      most a b h f = omega arith

  pub kept_possible : IsRight p new → ArePossible p i x
  kept_possible right j small one = right.kept (64 * i + j) (kept_bit j small ∙ one)
