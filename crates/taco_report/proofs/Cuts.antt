-- Texts that are cut before the first space or line feed: each way of it is the only one.
use Rattle.std.proofs.Common.{◌≡◌, ℕ, suc, ◌+◌, ◌==◌, nat_eq, Bool, true, false, Option, Some, None, Bor, MatchOption, List, [], ◌∷◌, ◌++◌, length, take, drop, refl, sym, ap, ◌∙◌, inl, inr, arith}
use Rattle.std.specs.Cmp.Lexicographic.{pointwise}
use Rattle.std.specs.List.{list_all, prefix_len}
use Rattle.std.proofs.lemmas.Bool.{and_parts, and_from, not-true, not_from_false, or_from, ne_eqb, cases_Bool, false≢true}
use Rattle.std.proofs.lemmas.List.{take-append-le, take-append-drop, take_all}
use Rattle.std.proofs.lemmas.Slice.Eq.{bytes_eq-Decides}
use Rattle.taco_report.specs.States.{is_inner, ends}

pub front_passes : (p : ℕ → Bool) (xs : List ℕ) → list_all p (take (prefix_len p xs) xs) ≡ true
front_passes p [] = refl
front_passes p (x ∷ xs) =
    let one : 1 + prefix_len p xs ≡ suc (prefix_len p xs) = omega arith in
    elim (cases_Bool (p x)) [
      | inl passes ↦ rw (passes, one) (and_from (p x) _ passes (front_passes p xs))
      | inr fails ↦ rw fails refl
    ]

behind_front : (p : ℕ → Bool) (stops : List ℕ → Bool) → stops [] ≡ true → ((b : ℕ) (bs : List ℕ) → p b ≡ false → stops (b ∷ bs) ≡ true)
    → (xs : List ℕ) → stops (drop (prefix_len p xs) xs) ≡ true
behind_front p stops none some [] = none
behind_front p stops none some (x ∷ xs) =
    let one : 1 + prefix_len p xs ≡ suc (prefix_len p xs) = omega arith in
    elim (cases_Bool (p x)) [
      | inl passes ↦ rw (passes, one) (behind_front p stops none some xs)
      | inr fails ↦ rw fails (some x xs fails)
    ]

pub front_ends : (xs : List ℕ) → ends (drop (prefix_len is_inner xs) xs) ≡ true
front_ends xs = behind_front is_inner ends refl (λ b bs fails. not_from_false (is_inner b) fails) xs

pub inner_from : (b : ℕ) → (b ≡ 32 → ⊥) → (b ≡ 10 → ⊥) → is_inner b ≡ true
inner_from b space feed = not_from_false _ (or_from (b == 32) (b == 10) (ne_eqb b 32 space) (ne_eqb b 10 feed))

-- a text is cut behind a word in one way alone
pub record SameCut (xs ys more more' : List ℕ) : Type 0 where
  pub word : xs ≡ ys
  pub rest : more ≡ more'

pub same_cut : (xs ys more more' : List ℕ) → list_all is_inner xs ≡ true → list_all is_inner ys ≡ true → ends more ≡ true → ends more' ≡ true
    → xs ++ more ≡ ys ++ more' → SameCut xs ys more more'
same_cut [] [] more more' in_x in_y end end' same = record { word = refl; rest = same }
same_cut [] (y ∷ ys) more more' in_x in_y end end' same =
    absurd (false≢true (sym (not-true (is_inner y) (sym (ap ends same) ∙ end)) ∙ (and_parts (is_inner y) (list_all is_inner ys) in_y).0))
same_cut (x ∷ xs) [] more more' in_x in_y end end' same =
    absurd (false≢true (sym (not-true (is_inner x) (ap ends same ∙ end')) ∙ (and_parts (is_inner x) (list_all is_inner xs) in_x).0))
same_cut (x ∷ xs) (y ∷ ys) more more' in_x in_y end end' same =
    let here : x ≡ y = cc in
    let later : xs ++ more ≡ ys ++ more' = cc in
    let h : SameCut xs ys more more' =
    same_cut xs ys more more' (and_parts (is_inner x) (list_all is_inner xs) in_x).1 (and_parts (is_inner y) (list_all is_inner ys) in_y).1 end end' later in
    record { word = cc (here, h.word); rest = h.rest }

-- what stands behind a literal text
pub stripped : (text literal : List ℕ) (r : Option (Bor (List ℕ)))
    → MatchOption r (pointwise nat_eq (take (length literal) text) literal ≡ false) (λ x. (pointwise nat_eq (take (length literal) text) literal ≡ true) × (x.now ≡ drop (length literal) text) × (length x.now + length literal ≡ length text))
    → MatchOption r ((more : List ℕ) → text ≡ literal ++ more → ⊥) (λ rest. text ≡ literal ++ rest.now)
stripped text literal None differs =
    λ more same.
    let front : take (length literal) text ≡ literal =
    ap (take (length literal)) same ∙ take-append-le (length literal) literal more (omega arith) ∙ take_all (length literal) literal (omega arith) in
    false≢true (sym differs ∙ (bytes_eq-Decides (take (length literal) text) literal).1 front)
stripped text literal (Some rest) parts =
    let front : take (length literal) text ≡ literal = (bytes_eq-Decides (take (length literal) text) literal).0 parts.0 in
    sym (take-append-drop (length literal) text) ∙ ap (λ l. l ++ drop (length literal) text) front ∙ ap (λ l. literal ++ l) (sym parts.1)
