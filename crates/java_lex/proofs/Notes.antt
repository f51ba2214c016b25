-- Spaces between words, and annotations round them, as pieces of a text.
use Rattle.std.proofs.Common.{◌≡◌, ℕ, suc, ◌+◌, ◌<◌, ◌==◌, ◌&&◌, cond, Bool, true, false, not, List, [], ◌∷◌, ◌++◌, length, take, drop, Some, option_map, nat_lt, nat_eq, refl, sym, ap, ◌∙◌, subst, arith}
use Rattle.std.proofs.lemmas.Bool.Decides.{nat_tests}
use Rattle.std.specs.List.{list_all, list_any, prefix_len}
use Rattle.java_lex.specs.declared.front.Front.{Front}
use Rattle.java_lex.specs.declared.front.Front.TheVariants.{Gap}
use Rattle.java_lex.specs.declared.front.Outside.{Outside}
use Rattle.java_lex.specs.declared.front.Outside.TheVariants.{Plain, Note}
use Rattle.java_lex.specs.declared.token.Token.{Token}
use Rattle.java_lex.specs.Bytes.{is_white, is_line_end, is_at, begins_word, continues_word}
use Rattle.std.specs.Char.{is_ascii_digit}
use Rattle.java_lex.specs.Literals.{first_close}
use Rattle.java_lex.specs.Fronts.{token_front, gap_len, front_in, front_out, block_front}
use Rattle.java_lex.specs.Cut.{IsPlain, IsInside, IsNote, IsOutside, IsPiece}
use Rattle.java_lex.proofs.Written.{Begins, front_inside, take_first, and_left, and_right, pick, take_all, no_white, word_begins, digit_begins, IsWordText, IsNumberText, none_empty}

-- a text that begins so
abbrev pub Starts : List ℕ → Type 0
Starts [] = ⊥
Starts (b ∷ bs) = Begins b

-- what begins so inside an annotation is a token of its own
pub inside_text : (text : List ℕ) → Starts text → (at n : ℕ) (tokens : List Token) → IsPlain true (token_front true text) at text n tokens → IsInside true at text n tokens
inside_text [] starts at n tokens piece = absurd starts
inside_text (b ∷ bs) starts at n tokens piece = subst (λ (f : Front). IsPlain true f at (b ∷ bs) n tokens) (sym (front_inside b bs starts)) piece

-- one space, where no white space stands behind it

one_white : (text : List ℕ) → prefix_len is_white text ≡ 0 → prefix_len is_white (32 ∷ text) ≡ 1
one_white text is = ap (λ n. 1 + n) is

pub gap_outside : (at : ℕ) (text : List ℕ) → prefix_len is_white text ≡ 0 → IsPiece at (32 ∷ text) 1 []
gap_outside at text is = subst (λ (o : Outside). IsOutside o at (32 ∷ text) 1 []) (sym front) (refl, refl)
  where
    front : front_out (32 ∷ text) ≡ Plain (Gap 1)
    front = take_first (nat_lt 0 (prefix_len is_white (32 ∷ text))) _ _ (ap (λ n. nat_lt 0 n) (one_white text is)) ∙ ap (λ n. Plain (Gap n)) (one_white text is)

pub gap_inside : (at : ℕ) (text : List ℕ) → prefix_len is_white text ≡ 0 → IsInside true at (32 ∷ text) 1 []
gap_inside at text is = subst (λ (f : Front). IsPlain true f at (32 ∷ text) 1 []) (sym front) (refl, refl)
  where
    gap : gap_len (32 ∷ text) ≡ 1
    gap = ap (λ (w : ℕ). cond (list_any is_line_end (take w (32 ∷ text))) (w + prefix_len is_at (drop w (32 ∷ text))) w) (one_white text is)

    front : front_in true (32 ∷ text) ≡ Gap 1
    front = take_first (nat_lt 0 (gap_len (32 ∷ text))) _ _ (ap (λ n. nat_lt 0 n) gap) ∙ ap (λ n. Gap n) gap

-- the `@` before the end
pub sign_inside : (at : ℕ) → IsInside true at (64 ∷ []) 1 []
sign_inside at = (refl, refl)

-- ANNOTATIONS

-- a byte that no end of a comment has last
abbrev pub is_inner : ℕ → Bool
is_inner b = not (b == 47)

close_behind : (body rest : List ℕ) → list_all is_inner body ≡ true → first_close (body ++ 42 ∷ 47 ∷ rest) ≡ Some (length body)
close_behind [] rest all = refl
close_behind (b ∷ []) rest all = by (nat_eq 42 b)
  where
    by : (c : Bool) → cond (c && false) (Some 0) (option_map suc (first_close (42 ∷ 47 ∷ rest))) ≡ Some 1
    by true = refl
    by false = refl
close_behind (b ∷ c ∷ bs) rest all = by (nat_eq 42 b) (close_behind (c ∷ bs) rest (and_right (is_inner b) _ all)) (and_left (is_inner c) _ (and_right (is_inner b) _ all))
  where
    no_close : (d : Bool) → is_inner c ≡ true → (nat_eq 47 c && d) ≡ false
    no_close d inner = let other : nat_eq 47 c ≡ false = grind (arith, nat_tests, inner) in ap (λ e. e && d) other

    by : (d : Bool) → first_close (c ∷ (bs ++ 42 ∷ 47 ∷ rest)) ≡ Some (length (c ∷ bs)) → is_inner c ≡ true
        → cond (d && (nat_eq 47 c && true)) (Some 0) (option_map suc (first_close (c ∷ (bs ++ 42 ∷ 47 ∷ rest)))) ≡ Some (length (b ∷ c ∷ bs))
    by true behind inner = pick _ _ _ (no_close true inner) ∙ ap (λ o. option_map suc o) behind
    by false behind inner = ap (λ o. option_map suc o) behind

-- an annotation between `/*@` and `@*/`, by what stands in it
pub note_piece : (at : ℕ) (content rest : List ℕ) (tokens : List Token) → list_all is_inner (64 ∷ content) ≡ true → IsNote true (at + 2) (64 ∷ content) tokens
    → IsPiece at (47 ∷ 42 ∷ 64 ∷ (content ++ 42 ∷ 47 ∷ rest)) (4 + length (64 ∷ content)) tokens
note_piece at content rest tokens all note = subst (λ (o : Outside). IsOutside o at (47 ∷ 42 ∷ 64 ∷ (content ++ 42 ∷ 47 ∷ rest)) (4 + length (64 ∷ content)) tokens) (sym front)
    (refl, subst (λ (body : List ℕ). IsNote true (at + 2) (64 ∷ body) tokens) (sym (take_all content (42 ∷ 47 ∷ rest))) note)
  where
    front : front_out (47 ∷ 42 ∷ 64 ∷ (content ++ 42 ∷ 47 ∷ rest)) ≡ Note (length (64 ∷ content)) (4 + length (64 ∷ content)) true
    front = ap (λ o. block_front (64 ∷ (content ++ 42 ∷ 47 ∷ rest)) o) (close_behind (64 ∷ content) rest all)
        ∙ ap (λ (body : List ℕ). Note (suc (length body)) (4 + suc (length content)) true) (take_all content (42 ∷ 47 ∷ rest))

-- WORDS AND NUMBERS

all_inner : (p : ℕ → Bool) → ((b : ℕ) → p b ≡ true → is_inner b ≡ true) → (bs : List ℕ) → list_all p bs ≡ true → list_all is_inner bs ≡ true
all_inner p one [] all = refl
all_inner p one (b ∷ bs) all = ap (λ c. c && list_all is_inner bs) (one b (and_left (p b) _ all)) ∙ all_inner p one bs (and_right (p b) _ all)

continues_inner : (b : ℕ) → continues_word b ≡ true → is_inner b ≡ true
continues_inner b is = grind (arith, nat_tests, is)

begins_inner : (b : ℕ) → begins_word b ≡ true → is_inner b ≡ true
begins_inner b is = grind (arith, nat_tests, is)

digit_inner : (b : ℕ) → is_ascii_digit b ≡ true → is_inner b ≡ true
digit_inner b is = grind (arith, nat_tests, is)

-- Bytes that are some, begin with no white space and have no `/`.
pub record IsSolid (bytes : List ℕ) : Type 0 where
  pub some : 0 < length bytes
  pub solid : (rest : List ℕ) → prefix_len is_white (bytes ++ rest) ≡ 0
  pub inner : list_all is_inner bytes ≡ true

pub word_solid : (bytes : List ℕ) → IsWordText bytes → IsSolid bytes
word_solid [] is = absurd is
word_solid (b ∷ bs) (begins, all) = record {
  some = omega arith;
  solid = λ rest. no_white b (bs ++ rest) (word_begins b begins).white;
  inner = ap (λ c. c && list_all is_inner bs) (begins_inner b begins) ∙ all_inner continues_word continues_inner bs all;
}

pub number_solid : (n : ℕ) (bytes : List ℕ) → IsNumberText n bytes → IsSolid bytes
number_solid n [] is = absurd (none_empty n is)
number_solid n (d ∷ ds) is = record {
  some = omega arith;
  solid = λ rest. no_white d (ds ++ rest) (digit_begins d (and_left (is_ascii_digit d) _ is.digits.all)).white;
  inner = all_inner is_ascii_digit digit_inner (d ∷ ds) is.digits.all;
}
