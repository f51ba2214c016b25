-- Words that spell numbers and end with the word of 0: what they spell is the only list that they do.
use Rattle.std.proofs.Common.{◌≡◌, ℕ, All, List, [], ◌∷◌, ◌++◌, map, drop, refl, ap}
use Rattle.std.proofs.lemmas.List.Elements.{All-head, All-tail}

-- Each of these numbers has a word of its own, other than that of 0.
pub record HasWords (word : ℕ → List ℕ) (D : ℕ → Type 0) : Type 0 where
  pub same : (x y : ℕ) → D x → D y → word x ≡ word y → x ≡ y
  pub apart : (x : ℕ) → D x → word x ≡ word 0 → ⊥

-- what is still to come where the words before spell the first numbers
pub record Goes (word : ℕ → List ℕ) (before : List ℕ) (rest : List (List ℕ)) (numbers : List ℕ) (tail : List (List ℕ)) : Type 0 where
  pub later : List ℕ
  pub numbers_are : numbers ≡ before ++ later
  pub rest_is : rest ≡ map word (later ++ 0 ∷ []) ++ tail

module _ (word : ℕ → List ℕ) (D : ℕ → Type 0) (words : HasWords word D) where
  pub goes : (before numbers : List ℕ) (rest tail : List (List ℕ)) → All D before → All D numbers
      → map word before ++ rest ≡ map word (numbers ++ 0 ∷ []) ++ tail → Goes word before rest numbers tail
  goes [] numbers rest tail all_before all same = record { later = numbers; numbers_are = refl; rest_is = same }
  goes (x ∷ xs) [] rest tail all_before all same =
      let first : word x ≡ word 0 = cc in
      absurd (words.apart x (All-head D x xs all_before) first)
  goes (x ∷ xs) (y ∷ ys) rest tail all_before all same =
      let first : word x ≡ word y = cc in
      let others : map word xs ++ rest ≡ map word (ys ++ 0 ∷ []) ++ tail = cc in
      let h : Goes word xs rest ys tail = goes xs ys rest tail (All-tail D x xs all_before) (All-tail D y ys all) others in
      let here : x ≡ y = words.same x y (All-head D x xs all_before) (All-head D y ys all) first in
      record { later = h.later; numbers_are = cc (here, h.numbers_are); rest_is = h.rest_is }

  -- two lists of numbers with the same words in front are one
  pub record SameFront (xs ys : List ℕ) (xs' ys' : List (List ℕ)) : Type 0 where
    pub numbers : xs ≡ ys
    pub tails : xs' ≡ ys'

  pub same_front : (xs ys : List ℕ) (xs' ys' : List (List ℕ)) → All D xs → All D ys
      → map word (xs ++ 0 ∷ []) ++ xs' ≡ map word (ys ++ 0 ∷ []) ++ ys' → SameFront xs ys xs' ys'
  same_front [] [] xs' ys' all_x all_y same = record { numbers = refl; tails = ap (drop 1) same }
  same_front [] (y ∷ ys) xs' ys' all_x all_y same =
      let first : word y ≡ word 0 = cc in
      absurd (words.apart y (All-head D y ys all_y) first)
  same_front (x ∷ xs) [] xs' ys' all_x all_y same =
      let first : word x ≡ word 0 = cc in
      absurd (words.apart x (All-head D x xs all_x) first)
  same_front (x ∷ xs) (y ∷ ys) xs' ys' all_x all_y same =
      let first : word x ≡ word y = cc in
      let others : map word (xs ++ 0 ∷ []) ++ xs' ≡ map word (ys ++ 0 ∷ []) ++ ys' = cc in
      let h : SameFront xs ys xs' ys' = same_front xs ys xs' ys' (All-tail D x xs all_x) (All-tail D y ys all_y) others in
      let here : x ≡ y = words.same x y (All-head D x xs all_x) (All-head D y ys all_y) first in
      record { numbers = cc (here, h.numbers); tails = h.tails }
