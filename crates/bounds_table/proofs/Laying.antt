-- How the words are laid out at first and at the end.
use Rattle.std.proofs.Common.{◌≡◌, ◌≢◌, ℕ, zero, suc, ◌+◌, ◌-◌, ◌*◌, ◌<◌, ◌≤◌, ◌⊎◌, Bool, true, false, List, [], ◌∷◌, ◌++◌, length, get_or, take, drop, refl, sym, ap, ◌∙◌, arith, ⊎_elim, add-one, zero-add, ext_get_or}
use Rattle.std.specs.Prelude.{Some, None, unwrap_or, ◌==◌, if◌then◌else◌}
use mathlib.Core.Option.{some, some-injective, some-ne-none}
use lib.ListN.{get_elem?}
use Rattle.std.proofs.Math.Seq.{take-append_seam, drop-append_seam, drop-append-add}
use Rattle.std.proofs.lemmas.List.{take-replicate, drop-replicate}
use Rattle.std.proofs.lemmas.Bool.Decides.{eqb_tells}
use Rattle.std.proofs.Math.Nat.{suc-add}
use Rattle.heap_core.specs.Posed.{Posed}
use Rattle.tuple_sets.specs.Words.{has, IsWithin, all_below, none_of}
use Rattle.tuple_sets.specs.Numbered.{word_count}
use Rattle.tuple_sets.proofs.Sets.{length-all_below}
use Rattle.bounds_table.specs.declared.known.Known.{Known}
use Rattle.bounds_table.specs.declared.rule.View.{View}
use Rattle.bounds_table.specs.State.{State, IsSound, IsLive, known_of, blank}
use Rattle.bounds_table.proofs.Showing.{worker_at}
use Rattle.bounds_table.proofs.Allowed.{some_live}
use Rattle.bounds_table.specs.Core.{tuple_count, first, opening}
use Rattle.bounds_table.specs.Rule.{shown, first_view, spare, opening_words}

-- one word more of a part
take_more : (xs : List ℕ) (at x : ℕ) → get_elem? xs at ≡ some x → take (suc at) xs ≡ take at xs ++ x ∷ []
take_more [] at x e = absurd (some-ne-none x (sym e))
take_more (y ∷ ys) zero x e = ap (λ z. z ∷ []) (some-injective y x e)
take_more (y ∷ ys) (suc at) x e = ap (λ l. y ∷ l) (take_more ys at x e)

dropped : (xs : List ℕ) (from at : ℕ) → get_elem? (drop from xs) at ≡ get_elem? xs (from + at)
dropped xs zero at = ap (λ n. get_elem? xs n) (sym (zero-add at))
dropped [] (suc from) at = refl
dropped (y ∷ ys) (suc from) at = dropped ys from at ∙ ap (λ n. get_elem? (y ∷ ys) n) (sym (suc-add from at))

pub take_next : (xs : List ℕ) (from at x : ℕ) → get_elem? xs (from + at) ≡ some x → take (at + 1) (drop from xs) ≡ take at (drop from xs) ++ x ∷ []
take_next xs from at x e = rw add-one (take_more (drop from xs) at x (dropped xs from at ∙ e))

-- there is room behind the table
room : (b : Bool) (n : ℕ) → ((b ≡ true) × (n ≡ 0)) ⊎ ((b ≡ false) × (n ≢ 0)) → (n ≤ (if b then 1 else 9 * n)) × (8 * n ≤ (if b then 1 else 9 * n) - n) × (0 < n + (if b then 1 else 9 * n)) × (10 * n ≤ n + (if b then 1 else 9 * n))
room true n tells = ⊎_elim (λ e. let z = e.1 in (omega arith, omega arith, omega arith, omega arith)) (λ e. absurd (cc)) tells
room false n tells = ⊎_elim (λ e. absurd (cc)) (λ e. let z = e.1 in (omega arith, omega arith, omega arith, omega arith)) tells

pub spare_room : (n : ℕ) → (n ≤ spare n) × (8 * n ≤ spare n - n) × (0 < n + spare n) × (10 * n ≤ n + spare n)
spare_room n = room (n == 0) n (eqb_tells n 0)

-- the words at first show the opening state
pub opening_shown : (p : Posed) (cells : List ℕ) → cells ≡ opening_words p → opening p ≡ shown p cells (first_view p ∷ [])
opening_shown p cells e =
    let all = all_below (tuple_count p) in
    let none = none_of (spare (word_count p)) in
    let n : ℕ = word_count p in
    let room = spare_room (word_count p) in
    let long : length all ≡ n = length-all_below (tuple_count p) in
    let a : take n cells ≡ all = ap (λ l. take n l) e ∙ ap (λ m. take m (all ++ none)) (sym long) ∙ take-append_seam all none in
    let rest : drop n cells ≡ none = ap (λ l. drop n l) e ∙ ap (λ m. drop m (all ++ none)) (sym long) ∙ drop-append_seam all none in
    let b : take n (drop n cells) ≡ none_of n = ap (λ l. take n l) rest ∙ take-replicate n (spare n) 0 room.0 in
    let twice : 2 * n ≡ length all + n = omega arith in
    let d : drop (2 * n) cells ≡ none_of (spare n - n) = ap (λ l. drop (2 * n) l) e ∙ ap (λ m. drop m (all ++ none)) twice ∙ drop-append-add all none n ∙ drop-replicate n (spare n) 0 in
    let f : take (8 * n) (drop (2 * n) cells) ≡ none_of (8 * n) = ap (λ l. take (8 * n) l) d ∙ take-replicate (8 * n) (spare n - n) 0 room.1 in
    ap {A = List ℕ} {B = State} (λ l. record { problem = p; table = l; kept = none_of n; claimed = none_of (8 * n); workers = Some (first p) ∷ [] }) (sym a)
    ∙ ap {A = List ℕ} {B = State} (λ l. record { problem = p; table = take n cells; kept = l; claimed = none_of (8 * n); workers = Some (first p) ∷ [] }) (sym b)
    ∙ ap {A = List ℕ} {B = State} (λ l. record { problem = p; table = take n cells; kept = take n (drop n cells); claimed = l; workers = Some (first p) ∷ [] }) (sym f)

-- a list that was copied word by word
pub copied_all : (copy seen : List ℕ) (n at : ℕ) → length copy ≡ n → length seen ≡ n → n ≤ at → ((k : ℕ) → k < at → get_or copy k 0 ≡ get_or seen k 0) → copy ≡ seen
copied_all copy seen n at a b past done = ext_get_or 0 copy seen (a ∙ sym b) (λ k h. done k (omega arith))

-- what is left of the words at the end, for a pass that is a worker of the state that they show
module _ (p : Posed) (n : ℕ) (ws us : List ℕ) (vs : List View) (id : ℕ) (v : View) (e : n ≡ word_count p) (same : us ≡ ws) (sound : IsSound (shown p us vs)) (at : get_elem? vs id ≡ some v) (of : v.problem ≡ Some p) where
  live : IsLive (shown p us vs) id
  live = some_live _ _ (worker_at vs id v p None at of)

  known : known_of (shown p us vs) id ≡ v.known
  known = ap (λ o. unwrap_or o blank) (worker_at vs id v p None at of)

  pub left_table : take n ws ≡ (shown p us vs).table
  left_table = ap (λ m. take m ws) e ∙ ap (λ l. take (word_count p) l) (sym same)

  pub left_kept : take n (drop n ws) ≡ (shown p us vs).kept
  left_kept = ap (λ m. take m (drop m ws)) e ∙ ap (λ l. take (word_count p) (drop (word_count p) l)) (sym same)

  pub left_cleared : IsWithin (take n ws) v.known.seen
  left_cleared t =
      let a = (sound.safe.seen id live).seen t in
      let b = ap (λ l. has l t) left_table in
      let d = ap {A = Known} {B = ℕ} (λ k. has k.seen t) known in
      omega arith

  pub left_kept_too : IsWithin v.known.kept (take n (drop n ws))
  left_kept_too t =
      let a = (sound.safe.seen id live).kept t in
      let b = ap (λ l. has l t) left_kept in
      let d = ap {A = Known} {B = ℕ} (λ k. has k.kept t) known in
      omega arith
