-- Words and numbers of a text, written again with a space behind them, are cut as they were.
use Rattle.std.proofs.Common.{◌≡◌, ℕ, suc, ◌+◌, ◌-◌, ◌*◌, ◌/◌, ◌%◌, ◌<◌, ◌≤◌, ◌==◌, ◌&&◌, ◌||◌, cond, Bool, true, false, not, List, [], ◌∷◌, ◌++◌, length, take, drop, Option, Some, None, option_map, nat_lt, nat_eq, refl, sym, ap, ◌∙◌, subst, arith, codes, ◌^◌, get_or}
use Rattle.std.proofs.lemmas.Bool.{ne_eqb}
use Rattle.std.proofs.lemmas.Bool.Decides.{nat_tests}
use Rattle.std.proofs.lemmas.Fmt.{decimal_by_steps, first_decimal}
use Rattle.std.specs.Fmt.{decimal}
use Rattle.std.specs.List.{list_all, list_any, prefix_len, starts_with}
use Rattle.std.specs.Char.{is_ascii_digit}
use Rattle.java_lex.specs.declared.front.Front.{Front}
use Rattle.java_lex.specs.declared.front.Front.TheVariants.{Gap, Token as token, Bad}
use Rattle.java_lex.specs.declared.front.Outside.{Outside}
use Rattle.java_lex.specs.declared.front.Outside.TheVariants.{Plain, Note}
use Rattle.java_lex.specs.declared.front.Shape.{Shape}
use Rattle.java_lex.specs.declared.front.Shape.TheVariants as shape
use Rattle.java_lex.specs.declared.token.Token.{Token}
use Rattle.java_lex.specs.declared.token.TokenKind.{TokenKind}
use Rattle.java_lex.specs.declared.token.TokenKind.TheVariants as kind
use Rattle.java_lex.specs.Bytes.{is_white, is_line_end, is_in_line, is_at, begins_word, continues_word, continues_number, continues_slashed}
use Rattle.java_lex.specs.Literals.{number_from, number_of, first_close, quoted_len}
use Rattle.java_lex.specs.Spellings.{symbol_len}
use Rattle.java_lex.specs.Fronts.{token_front, number_front, token_of_len, gap_len, front_in, front_out, comment_front, line_front, block_front}
use Rattle.java_lex.proofs.Pieces.{Each, chain_each, note_each}
use Rattle.java_lex.specs.Cut.{IsPlain, IsInside, IsOutside, IsPiece, Cut, token_of, kind_of}

pub pick : {A : Type 0} (c : Bool) (x y : A) → c ≡ false → cond c x y ≡ y
pick true x y is = absurd (cc)
pick false x y is = refl

pub take_first : {A : Type 0} (c : Bool) (x y : A) → c ≡ true → cond c x y ≡ x
take_first true x y is = refl
take_first false x y is = absurd (cc)

pub and_left : (a b : Bool) → (a && b) ≡ true → a ≡ true
and_left true b is = refl
and_left false b is = is

pub and_right : (a b : Bool) → (a && b) ≡ true → b ≡ true
and_right true b is = is
and_right false b is = absurd (cc)

suc_one : (n : ℕ) → suc n ≡ 1 + n
suc_one n = omega arith

-- AT THE FRONT

-- neither white space nor `@` nor `/`
pub record Begins (b : ℕ) : Type 0 where
  pub white : is_white b ≡ false
  pub sign : is_at b ≡ false
  pub slash : nat_eq 47 b ≡ false

pub no_white : (b : ℕ) (bs : List ℕ) → is_white b ≡ false → prefix_len is_white (b ∷ bs) ≡ 0
no_white b bs is = pick (is_white b) _ _ is

no_slash : (b : ℕ) (more : Bool) → nat_eq 47 b ≡ false → (nat_eq 47 b && more) ≡ false
no_slash b more is = ap (λ c. c && more) is

pub front_inside : (b : ℕ) (bs : List ℕ) → Begins b → front_in true (b ∷ bs) ≡ token_front true (b ∷ bs)
front_inside b bs is =
    let text = b ∷ bs in
    let gap : gap_len text ≡ 0 = ap (λ (w : ℕ). cond (list_any is_line_end (take w text)) (w + prefix_len is_at (drop w text)) w) (no_white b bs is.white) in
    let some : (0 ≡ length text → ⊥) = λ e. omega (arith, e) in
    pick (nat_lt 0 (gap_len text)) _ _ (ap (λ n. nat_lt 0 n) gap)
    ∙ pick (prefix_len is_at text == length text) _ _ (ap (λ n. n == length text) (pick (is_at b) _ _ is.sign) ∙ ne_eqb 0 (length text) some)
    ∙ pick (starts_with nat_eq text (codes "//")) _ _ (no_slash b _ is.slash)

pub front_outside : (b : ℕ) (bs : List ℕ) → Begins b → front_out (b ∷ bs) ≡ Plain (token_front false (b ∷ bs))
front_outside b bs is =
    let text = b ∷ bs in
    pick (nat_lt 0 (prefix_len is_white text)) _ _ (ap (λ n. nat_lt 0 n) (no_white b bs is.white))
    ∙ pick (starts_with nat_eq text (codes "//")) _ _ (no_slash b _ is.slash)
    ∙ pick (starts_with nat_eq text (codes "/*")) _ _ (no_slash b _ is.slash)

-- WORDS

prefix_all : (p : ℕ → Bool) (bs rest : List ℕ) → list_all p bs ≡ true → p 32 ≡ false → prefix_len p (bs ++ 32 ∷ rest) ≡ length bs
prefix_all p [] rest all stop = pick (p 32) _ _ stop
prefix_all p (b ∷ bs) rest all stop =
    take_first (p b) _ _ (and_left (p b) _ all) ∙ ap (λ n. 1 + n) (prefix_all p bs rest (and_right (p b) _ all) stop) ∙ sym (suc_one (length bs))

pub word_begins : (b : ℕ) → begins_word b ≡ true → Begins b
word_begins b is = record { white = grind (arith, nat_tests, is); sign = grind (arith, nat_tests, is); slash = grind (arith, nat_tests, is) }

pub digit_begins : (b : ℕ) → is_ascii_digit b ≡ true → Begins b
digit_begins b is = record { white = grind (arith, nat_tests, is); sign = grind (arith, nat_tests, is); slash = grind (arith, nat_tests, is) }

digit_no_word : (b : ℕ) → is_ascii_digit b ≡ true → begins_word b ≡ false
digit_no_word b is = grind (arith, nat_tests, is)

pub take_all : (bs rest : List ℕ) → take (length bs) (bs ++ rest) ≡ bs
take_all [] rest = refl
take_all (b ∷ bs) rest = ap (λ cs. b ∷ cs) (take_all bs rest)

-- a letter, `_` or `$`, and what continues a word
abbrev pub IsWordText : List ℕ → Type 0
IsWordText [] = ⊥
IsWordText (b ∷ bs) = (begins_word b ≡ true) × (list_all continues_word bs ≡ true)

word_front : (jml : Bool) (b : ℕ) (bs rest : List ℕ) → begins_word b ≡ true → list_all continues_word bs ≡ true → token_front jml (b ∷ (bs ++ 32 ∷ rest)) ≡ token shape.Word (length (b ∷ bs))
word_front jml b bs rest begins all =
    take_first (begins_word b) _ _ begins ∙ ap (λ n. token shape.Word (1 + n)) (prefix_all continues_word bs rest all refl) ∙ ap (λ n. token shape.Word n) (sym (suc_one (length bs)))

-- what stands at the front is this token
plain_token : (jml : Bool) (front : Front) (s : Shape) (at : ℕ) (bytes rest : List ℕ) → front ≡ token s (length bytes) → IsPlain jml front at (bytes ++ rest) (length bytes) (token_of s jml at bytes ∷ [])
plain_token jml front s at bytes rest is =
    subst (λ (f : Front). IsPlain jml f at (bytes ++ rest) (length bytes) (token_of s jml at bytes ∷ [])) (sym is) (refl, ap (λ (cs : List ℕ). token_of s jml at cs ∷ []) (sym (take_all bytes rest)))

pub word_inside : (at : ℕ) (bytes rest : List ℕ) → IsWordText bytes → IsInside true at (bytes ++ 32 ∷ rest) (length bytes) (token_of shape.Word true at bytes ∷ [])
word_inside at [] rest is = absurd is
word_inside at (b ∷ bs) rest (begins, all) = plain_token true _ shape.Word at (b ∷ bs) (32 ∷ rest) (front_inside b (bs ++ 32 ∷ rest) (word_begins b begins) ∙ word_front true b bs rest begins all)

pub word_outside : (at : ℕ) (bytes rest : List ℕ) → IsWordText bytes → IsPiece at (bytes ++ 32 ∷ rest) (length bytes) (token_of shape.Word false at bytes ∷ [])
word_outside at [] rest is = absurd is
word_outside at (b ∷ bs) rest (begins, all) =
    subst (λ (o : Outside). IsOutside o at (b ∷ (bs ++ 32 ∷ rest)) (length (b ∷ bs)) (token_of shape.Word false at (b ∷ bs) ∷ [])) (sym (front_outside b (bs ++ 32 ∷ rest) (word_begins b begins)))
    (plain_token false _ shape.Word at (b ∷ bs) (32 ∷ rest) (word_front false b bs rest begins all))

-- NUMBERS

-- digits, one behind the other
from_more : (k d : ℕ) (ds : List ℕ) (m : ℕ) → number_from k ds ≡ Some m → number_from k (ds ++ d ∷ []) ≡ number_from m (d ∷ [])
from_more k d [] m is = let same : k ≡ m = cc in ap (λ n. number_from n (d ∷ [])) same
from_more k d (e ∷ ds) m is = by (not (is_ascii_digit e)) (nat_lt 2147483647 (10 * k + (e - 48))) (λ here. from_more (10 * k + (e - 48)) d ds m here) is
  where
    by : (a b : Bool) → (number_from (10 * k + (e - 48)) ds ≡ Some m → number_from (10 * k + (e - 48)) (ds ++ d ∷ []) ≡ number_from m (d ∷ [])) → cond a None (cond b None (number_from (10 * k + (e - 48)) ds)) ≡ Some m → cond a None (cond b None (number_from (10 * k + (e - 48)) (ds ++ d ∷ []))) ≡ number_from m (d ∷ [])
    by true b behind is = absurd (cc)
    by false true behind is = absurd (cc)
    by false false behind is = behind is

-- what a decimal number is: digits with its value
pub record IsDigits (n : ℕ) (ds : List ℕ) : Type 0 where
  pub value : n ≤ 2147483647 → number_from 0 ds ≡ Some n
  pub all : list_all is_ascii_digit ds ≡ true
  pub single : n < 10 → length ds ≡ 1

all_append : (p : ℕ → Bool) (xs : List ℕ) (y : ℕ) → list_all p xs ≡ true → p y ≡ true → list_all p (xs ++ y ∷ []) ≡ true
all_append p [] y all one = ap (λ c. c && true) one
all_append p (x ∷ xs) y all one = ap (λ c. c && list_all p (xs ++ y ∷ [])) (and_left (p x) _ all) ∙ all_append p xs y (and_right (p x) _ all) one

a_digit : (r : ℕ) → r < 10 → is_ascii_digit (48 + r) ≡ true
a_digit r low = grind (arith, nat_tests, low)

one_digit : (m r : ℕ) → r < 10 → 10 * m + r ≤ 2147483647 → number_from m ((48 + r) ∷ []) ≡ Some (10 * m + r)
one_digit m r low high =
    pick (not (is_ascii_digit (48 + r))) _ _ (ap not (a_digit r low))
    ∙ pick (nat_lt 2147483647 (10 * m + (48 + r - 48))) _ _ (let e : 48 + r - 48 ≡ r = omega arith in ap (λ k. nat_lt 2147483647 (10 * m + k)) e ∙ not_less (10 * m + r) high)
    ∙ ap (λ k. Some k) (let e : 10 * m + (48 + r - 48) ≡ 10 * m + r = omega arith in e)
  where
    not_less : (k : ℕ) → k ≤ 2147483647 → nat_lt 2147483647 k ≡ false
    not_less k le = grind (arith, nat_tests, le)

pub decimal_digits : (n : ℕ) → n < 2 ^ 64 → IsDigits n (decimal n)
decimal_digits = decimal_by_steps IsDigits first more
  where
    first : (n : ℕ) → n < 10 → IsDigits n ((48 + n) ∷ [])
    first n low = record {
      value = λ high. one_digit 0 n low (omega arith) ∙ ap (λ k. Some k) (let e : 10 * 0 + n ≡ n = omega arith in e);
      all = all_append is_ascii_digit [] (48 + n) refl (a_digit n low);
      single = λ _. refl;
    }

    more : (n : ℕ) (ds : List ℕ) → 10 ≤ n → IsDigits (n / 10) ds → IsDigits n (ds ++ (48 + n % 10) ∷ [])
    more n ds high is = record {
      value = λ le.
          let e : 10 * (n / 10) + n % 10 ≡ n = omega arith in
          from_more 0 (48 + n % 10) ds (n / 10) (is.value (omega arith)) ∙ one_digit (n / 10) (n % 10) (omega arith) (omega (arith, e)) ∙ ap (λ k. Some k) e;
      all = all_append is_ascii_digit ds (48 + n % 10) is.all (a_digit (n % 10) (omega arith));
      single = λ low. omega arith;
    }

continues_digits : (ds : List ℕ) → list_all is_ascii_digit ds ≡ true → list_all continues_number ds ≡ true
continues_digits [] all = refl
continues_digits (d ∷ ds) all = ap (λ c. c && list_all continues_number ds) (continues d (and_left (is_ascii_digit d) _ all)) ∙ continues_digits ds (and_right (is_ascii_digit d) _ all)
  where
    continues : (d : ℕ) → is_ascii_digit d ≡ true → continues_number d ≡ true
    continues d is = grind (arith, nat_tests, is)

not_single : (n m : ℕ) → (n < 10 → suc (suc m) ≡ 1) → 10 ≤ n
not_single n m f = by (nat_lt n 10) refl
  where
    by : (b : Bool) → nat_lt n 10 ≡ b → 10 ≤ n
    by true is = let low : n < 10 = grind (arith, nat_tests, is) in let no : suc (suc m) ≡ 1 = f low in absurd (omega arith)
    by false is = grind (arith, nat_tests, is)

-- the first digit of more than one is no 0
number_value : (n d : ℕ) (ds : List ℕ) → IsDigits n (d ∷ ds) → n ≤ 2147483647 → (10 ≤ n → 48 < d) → number_of (d ∷ ds) ≡ Some n
number_value n d [] is low more = is.value low
number_value n d (e ∷ es) is low more =
    let high : 10 ≤ n = not_single n (length es) is.single in
    let above = more high in
    pick (d == 48) _ _ (ne_eqb d 48 (λ same. omega (arith, same))) ∙ is.value low

number_token : (jml : Bool) (n d : ℕ) (ds rest : List ℕ) → IsDigits n (d ∷ ds) → n ≤ 2147483647 → (10 ≤ n → 48 < d) → token_front jml (d ∷ (ds ++ 32 ∷ rest)) ≡ token (shape.Number n) (length (d ∷ ds))
number_token jml n d ds rest is low more =
    let digit = and_left (is_ascii_digit d) _ is.all in
    let behind = prefix_all continues_number ds rest (continues_digits ds (and_right (is_ascii_digit d) _ is.all)) refl in
    pick (begins_word d) _ _ (digit_no_word d digit)
    ∙ take_first (is_ascii_digit d) _ _ digit
    ∙ ap (λ k. number_front (1 + k) (number_of (take (1 + k) (d ∷ (ds ++ 32 ∷ rest))))) behind
    ∙ ap (λ k. number_front k (number_of (take k (d ∷ (ds ++ 32 ∷ rest))))) (sym (suc_one (length ds)))
    ∙ ap (λ (cs : List ℕ). number_front (suc (length ds)) (number_of (d ∷ cs))) (take_all ds (32 ∷ rest))
    ∙ ap (λ o. number_front (suc (length ds)) o) (number_value n d ds is low more)

-- digits with this value, which may be written behind anything
pub record IsNumberText (n : ℕ) (bytes : List ℕ) : Type 0 where
  pub digits : IsDigits n bytes
  pub low : n ≤ 2147483647
  pub more : 10 ≤ n → 48 < get_or bytes 0 0

pub decimal_text : (n : ℕ) → n ≤ 2147483647 → IsNumberText n (decimal n)
decimal_text n low = record { digits = decimal_digits n (omega arith); low = low; more = λ high. first_decimal n (omega arith) (omega arith) }

pub none_empty : (n : ℕ) → IsNumberText n [] → ⊥
none_empty n is =
    let zero_is : Some 0 ≡ Some n = is.digits.value is.low in
    let same : 0 ≡ n = cc in
    let one : 0 ≡ 1 = is.digits.single (omega arith) in
    omega arith

pub number_inside : (at n : ℕ) (bytes rest : List ℕ) → IsNumberText n bytes → IsInside true at (bytes ++ 32 ∷ rest) (length bytes) (token_of (shape.Number n) true at bytes ∷ [])
number_inside at n [] rest is = absurd (none_empty n is)
number_inside at n (d ∷ ds) rest is =
    plain_token true _ (shape.Number n) at (d ∷ ds) (32 ∷ rest)
    (front_inside d (ds ++ 32 ∷ rest) (digit_begins d (and_left (is_ascii_digit d) _ is.digits.all)) ∙ number_token true n d ds rest is.digits is.low is.more)

pub number_outside : (at n : ℕ) (bytes rest : List ℕ) → IsNumberText n bytes → IsPiece at (bytes ++ 32 ∷ rest) (length bytes) (token_of (shape.Number n) false at bytes ∷ [])
number_outside at n [] rest is = absurd (none_empty n is)
number_outside at n (d ∷ ds) rest is =
    subst (λ (o : Outside). IsOutside o at (d ∷ (ds ++ 32 ∷ rest)) (length (d ∷ ds)) (token_of (shape.Number n) false at (d ∷ ds) ∷ [])) (sym (front_outside d (ds ++ 32 ∷ rest) (digit_begins d (and_left (is_ascii_digit d) _ is.digits.all))))
    (plain_token false _ (shape.Number n) at (d ∷ ds) (32 ∷ rest) (number_token false n d ds rest is.digits is.low is.more))

-- WHAT IS KNOWN OF THE TOKENS OF A TEXT

-- its words are word texts, and its numbers are not above 2147483647
abbrev pub IsWritten : TokenKind → Type 0
IsWritten (kind.Word bytes) = IsWordText bytes
IsWritten (kind.Number n) = n ≤ 2147483647
IsWritten kind.Quoted = Unit {0}
IsWritten (kind.Slashed bytes) = Unit {0}
IsWritten (kind.Symbol bytes) = Unit {0}
IsWritten kind.End = Unit {0}

prefix_passes : (p : ℕ → Bool) (bs : List ℕ) → list_all p (take (prefix_len p bs) bs) ≡ true
prefix_passes p [] = refl
prefix_passes p (b ∷ bs) = by (p b) refl (prefix_passes p bs)
  where
    by : (c : Bool) → p b ≡ c → list_all p (take (prefix_len p bs) bs) ≡ true → list_all p (take (cond c (1 + prefix_len p bs) 0) (b ∷ bs)) ≡ true
    by true is behind = ap (λ k. list_all p (take k (b ∷ bs))) (sym (suc_one (prefix_len p bs))) ∙ ap (λ c. c && list_all p (take (prefix_len p bs) bs)) is ∙ behind
    by false is behind = refl

from_low : (k : ℕ) (ds : List ℕ) (v : ℕ) → k ≤ 2147483647 → number_from k ds ≡ Some v → v ≤ 2147483647
from_low k [] v low is = let same : k ≡ v = cc in omega arith
from_low k (d ∷ ds) v low is = by (not (is_ascii_digit d)) (nat_lt 2147483647 (10 * k + (d - 48))) refl (λ small here. from_low (10 * k + (d - 48)) ds v small here) is
  where
    small_enough : (m : ℕ) → nat_lt 2147483647 m ≡ false → m ≤ 2147483647
    small_enough m is = grind (arith, nat_tests, is)

    by : (a b : Bool) → nat_lt 2147483647 (10 * k + (d - 48)) ≡ b → (10 * k + (d - 48) ≤ 2147483647 → number_from (10 * k + (d - 48)) ds ≡ Some v → v ≤ 2147483647)
        → cond a None (cond b None (number_from (10 * k + (d - 48)) ds)) ≡ Some v → v ≤ 2147483647
    by true b so behind is = absurd (cc)
    by false true so behind is = absurd (cc)
    by false false so behind is = behind (small_enough _ so) is

number_low : (bytes : List ℕ) (v : ℕ) → number_of bytes ≡ Some v → v ≤ 2147483647
number_low [] v is = absurd (cc)
number_low (d ∷ []) v is = from_low 0 (d ∷ []) v (omega arith) is
number_low (d ∷ e ∷ ds) v is = by (d == 48) is
  where
    by : (b : Bool) → cond b None (number_from 0 (d ∷ e ∷ ds)) ≡ Some v → v ≤ 2147483647
    by true is = absurd (cc)
    by false is = from_low 0 (d ∷ e ∷ ds) v (omega arith) is

-- this is what the token at the front is
abbrev IsKind : List ℕ → Shape → ℕ → Type 0
IsKind text s m = IsWritten (kind_of s (take m text))

len_kind : (sh : Shape) (text : List ℕ) (o : Option ℕ) (s : Shape) (m : ℕ) → ((k : ℕ) → IsKind text sh k) → token_of_len sh o ≡ token s m → IsKind text s m
len_kind sh text None s m free is = absurd (cc)
len_kind sh text (Some n) s m free is = let same : sh ≡ s = cc in subst (λ (x : Shape). IsKind text x m) same (free m)

number_kind : (text : List ℕ) (n : ℕ) (o : Option ℕ) (s : Shape) (m : ℕ) → ((v : ℕ) → o ≡ Some v → v ≤ 2147483647) → number_front n o ≡ token s m → IsKind text s m
number_kind text n None s m low is = absurd (cc)
number_kind text n (Some v) s m low is = let same : shape.Number v ≡ s = cc in subst (λ (x : Shape). IsKind text x m) same (low v refl)

slashed_kind : (text : List ℕ) (c : Bool) (n : ℕ) (s : Shape) (m : ℕ) → cond c (token shape.Slashed n) Bad ≡ token s m → IsKind text s m
slashed_kind text true n s m is = let same : shape.Slashed ≡ s = cc in subst (λ (x : Shape). IsKind text x m) same tt
slashed_kind text false n s m is = absurd (cc)

word_kind : (b : ℕ) (bs : List ℕ) (s : Shape) (m : ℕ) → begins_word b ≡ true → token shape.Word (1 + prefix_len continues_word bs) ≡ token s m → IsKind (b ∷ bs) s m
word_kind b bs s m begins is =
    let same : shape.Word ≡ s = cc in
    let size : 1 + prefix_len continues_word bs ≡ m = cc in
    subst (λ (x : Shape). IsKind (b ∷ bs) x m) same
    (subst (λ (k : ℕ). IsKind (b ∷ bs) shape.Word k) (suc_one (prefix_len continues_word bs) ∙ size) (begins, prefix_passes continues_word bs))

front_kind : (jml : Bool) (text : List ℕ) (s : Shape) (m : ℕ) → token_front jml text ≡ token s m → IsKind text s m
front_kind jml [] s m is = absurd (cc)
front_kind jml (b ∷ bs) s m is = by (begins_word b) (is_ascii_digit b) (b == 34 || b == 39) (b == 92) refl is
  where
    by : (w d q l : Bool) → begins_word b ≡ w
        → cond w (token shape.Word (1 + prefix_len continues_word bs))
        (cond d (number_front (1 + prefix_len continues_number bs) (number_of (take (1 + prefix_len continues_number bs) (b ∷ bs))))
        (cond q (token_of_len shape.Quoted (option_map (λ n. 1 + n) (quoted_len b false bs)))
        (cond l (cond (jml && nat_lt 0 (prefix_len continues_slashed bs)) (token shape.Slashed (1 + prefix_len continues_slashed bs)) Bad) (token_of_len shape.Symbol (symbol_len jml (b ∷ bs)))))) ≡ token s m
        → IsKind (b ∷ bs) s m
    by true d q l so is = word_kind b bs s m so is
    by false true q l so is = number_kind (b ∷ bs) _ _ s m (λ v. number_low (take (1 + prefix_len continues_number bs) (b ∷ bs)) v) is
    by false false true l so is = len_kind shape.Quoted (b ∷ bs) _ s m (λ k. tt) is
    by false false false true so is = slashed_kind (b ∷ bs) _ _ s m is
    by false false false false so is = len_kind shape.Symbol (b ∷ bs) _ s m (λ k. tt) is

inside_kind : (closed : Bool) (text : List ℕ) (s : Shape) (m : ℕ) → front_in closed text ≡ token s m → IsKind text s m
inside_kind closed text s m is = by (nat_lt 0 (gap_len text)) (closed && prefix_len is_at text == length text) (starts_with nat_eq text (codes "//")) is
  where
    by : (a b c : Bool) → cond a (Gap (gap_len text)) (cond b (Gap (length text)) (cond c (Gap (prefix_len is_in_line text)) (token_front true text))) ≡ token s m → IsKind text s m
    by true b c is = absurd (cc)
    by false true c is = absurd (cc)
    by false false true is = absurd (cc)
    by false false false is = front_kind true text s m is

-- what an outside front has: no token but one of its own
abbrev IsPlainKind : List ℕ → Outside → Type 0
IsPlainKind text (Plain (token s m)) = IsKind text s m
IsPlainKind text (Plain (Gap m)) = Unit {0}
IsPlainKind text (Plain Bad) = Unit {0}
IsPlainKind text (Note content whole closed) = Unit {0}

token_kind : (text : List ℕ) (f : Front) → ((s : Shape) (m : ℕ) → f ≡ token s m → IsKind text s m) → IsPlainKind text (Plain f)
token_kind text (token s m) is = is s m refl
token_kind text (Gap m) is = tt
token_kind text Bad is = tt

comment_kind : (text content : List ℕ) (whole : ℕ) (closed : Bool) → IsPlainKind text (comment_front content whole closed)
comment_kind text content whole closed = by (starts_with nat_eq content (codes "@"))
  where
    by : (c : Bool) → IsPlainKind text (cond c (Note (length content) whole closed) (Plain (Gap whole)))
    by true = tt
    by false = tt

block_kind : (text behind : List ℕ) (o : Option ℕ) → IsPlainKind text (block_front behind o)
block_kind text behind None = tt
block_kind text behind (Some n) = comment_kind text (take n behind) (4 + n) true

outside_kind : (text : List ℕ) → IsPlainKind text (front_out text)
outside_kind text = by (nat_lt 0 (prefix_len is_white text)) (starts_with nat_eq text (codes "//")) (starts_with nat_eq text (codes "/*"))
  where
    by : (a b c : Bool)
        → IsPlainKind text (cond a (Plain (Gap (prefix_len is_white text))) (cond b (line_front (drop 2 text)) (cond c (block_front (drop 2 text) (first_close (drop 2 text))) (Plain (token_front false text)))))
    by true b c = tt
    by false true c = comment_kind text (take (prefix_len is_in_line (drop 2 text)) (drop 2 text)) (2 + prefix_len is_in_line (drop 2 text)) false
    by false false true = block_kind text (drop 2 text) (first_close (drop 2 text))
    by false false false = token_kind text (token_front false text) (λ s m. front_kind false text s m)

-- each token is so
abbrev pub AllWritten : List Token → Type 0
AllWritten ts = Each (λ t. IsWritten t.kind) ts

plain_written : (jml : Bool) (front : Front) (at : ℕ) (text : List ℕ) (n : ℕ) (tokens : List Token) → ((s : Shape) (m : ℕ) → front ≡ token s m → IsKind text s m) → IsPlain jml front at text n tokens → AllWritten tokens
plain_written jml (Gap m) at text n tokens kinds h = subst AllWritten (sym h.1) tt
plain_written jml (token s m) at text n tokens kinds h = subst AllWritten (sym h.1) (kinds s m refl, tt)
plain_written jml Bad at text n tokens kinds h = absurd h

outside_written : (o : Outside) (at : ℕ) (text : List ℕ) (n : ℕ) (tokens : List Token) → IsPlainKind text o → IsOutside o at text n tokens → AllWritten tokens
outside_written (Plain front) at text n tokens is h = plain_written false front at text n tokens (λ s m same. subst (λ (f : Front). IsPlainKind text (Plain f)) same is) h
outside_written (Note content whole closed) at text n tokens is h =
    note_each (λ t. IsWritten t.kind) closed (λ at text n tokens. plain_written true (front_in closed text) at text n tokens (λ s m. inside_kind closed text s m)) (at + 2) (take content (drop 2 text)) tokens h.1

-- each word and each number of a piece can be written again
pub piece_written : (at : ℕ) (text : List ℕ) (n : ℕ) (tokens : List Token) → IsPiece at text n tokens → AllWritten tokens
piece_written at text n tokens piece = outside_written (front_out text) at text n tokens (outside_kind text) piece

-- so can those of a text
pub cut_written : (text : List ℕ) (ts : List Token) (cut : Cut text ts) → AllWritten cut.before
cut_written text ts cut = chain_each (λ t. IsWritten t.kind) IsPiece piece_written cut.leads.lengths 0 text cut.before (length text) [] cut.leads.chain
