-- Lists of bytes, cut at a byte: each way of it is the only one.
use Rattle.std.proofs.Common.{◌≡◌, ℕ, ◌==◌, true, false, not, List, [], ◌∷◌, ◌++◌, All, drop, refl, sym, ap, ◌∙◌}
use Rattle.std.specs.List.{list_all, slice_split, join_with_byte}
use Rattle.std.proofs.lemmas.Bool.{and_parts, and_from, not-true, not_from_true, false≢true, eq-eqb}
use Rattle.std.proofs.lemmas.List.Folds.{list_all-append}
use Rattle.std.proofs.lemmas.List.Elements.{All-nil, All-cons}
use Rattle.std.proofs.lemmas.List.Splits.{slice_split_none, slice_split_at}
use Rattle.derivation.specs.Cuts.{lacks, IsCut}

lacks_all : (byte : ℕ) (bytes : List ℕ) → lacks byte bytes ≡ true → All (λ b. (b == byte) ≡ false) bytes
lacks_all byte [] none = All-nil (λ (b : ℕ). (b == byte) ≡ false)
lacks_all byte (b ∷ bs) none =
    let parts : (not (b == byte) ≡ true) × (lacks byte bs ≡ true) = and_parts (not (b == byte)) (lacks byte bs) none in
    All-cons (λ (x : ℕ). (x == byte) ≡ false) b bs (not-true (b == byte) parts.0) (lacks_all byte bs parts.1)

pub fields_none : (bytes : List ℕ) → lacks 32 bytes ≡ true → slice_split (λ b. b == 32) bytes ≡ bytes ∷ []
fields_none bytes none = slice_split_none (λ b. b == 32) bytes (lacks_all 32 bytes none)

pub fields_cut : (bytes front behind : List ℕ) → IsCut 32 bytes front behind → slice_split (λ b. b == 32) bytes ≡ front ∷ slice_split (λ b. b == 32) behind
fields_cut bytes front behind cut =
    ap (slice_split (λ b. b == 32)) cut.parts ∙ slice_split_at (λ b. b == 32) front 32 behind (lacks_all 32 front cut.first) refl

-- bytes are cut at the first such byte in one way alone
pub record SameCut (xs ys xs' ys' : List ℕ) : Type 0 where
  pub front : xs ≡ ys
  pub behind : xs' ≡ ys'

pub same_cut : (byte : ℕ) (xs ys xs' ys' : List ℕ) → lacks byte xs ≡ true → lacks byte ys ≡ true → xs ++ byte ∷ xs' ≡ ys ++ byte ∷ ys' → SameCut xs ys xs' ys'
same_cut byte [] [] xs' ys' none_x none_y same = record { front = refl; behind = ap (drop 1) same }
same_cut byte [] (y ∷ ys) xs' ys' none_x none_y same =
    let here : byte ≡ y = cc in
    absurd (false≢true (sym (not_from_true (y == byte) (eq-eqb y byte (sym here))) ∙ (and_parts (not (y == byte)) (lacks byte ys) none_y).0))
same_cut byte (x ∷ xs) [] xs' ys' none_x none_y same =
    let here : x ≡ byte = cc in
    absurd (false≢true (sym (not_from_true (x == byte) (eq-eqb x byte here)) ∙ (and_parts (not (x == byte)) (lacks byte xs) none_x).0))
same_cut byte (x ∷ xs) (y ∷ ys) xs' ys' none_x none_y same =
    let here : x ≡ y = cc in
    let later : xs ++ byte ∷ xs' ≡ ys ++ byte ∷ ys' = cc in
    let h : SameCut xs ys xs' ys' = same_cut byte xs ys xs' ys' (and_parts (not (x == byte)) (lacks byte xs) none_x).1 (and_parts (not (y == byte)) (lacks byte ys) none_y).1 later in
    record { front = cc (here, h.front); behind = h.behind }

-- words without the byte, joined by it and cut again
pub split_joined : (words : List (List ℕ)) (word : List ℕ) → list_all (lacks 32) (word ∷ words) ≡ true → slice_split (λ b. b == 32) (join_with_byte 32 (word ∷ words)) ≡ word ∷ words
split_joined [] word none = fields_none word (and_parts (lacks 32 word) true none).0
split_joined (next ∷ words) word none =
    let parts : (lacks 32 word ≡ true) × (list_all (lacks 32) (next ∷ words) ≡ true) = and_parts (lacks 32 word) (list_all (lacks 32) (next ∷ words)) none in
    fields_cut _ word (join_with_byte 32 (next ∷ words)) (record { parts = refl; first = parts.0 }) ∙ ap (λ ws. word ∷ ws) (split_joined words next parts.1)

-- bytes that none of the words has, and that is not the one that joins them, are not in the whole
pub lacks_joined : (byte : ℕ) (words : List (List ℕ)) → not (32 == byte) ≡ true → list_all (lacks byte) words ≡ true → lacks byte (join_with_byte 32 words) ≡ true
lacks_joined byte [] other none = refl
lacks_joined byte (word ∷ []) other none = (and_parts (lacks byte word) true none).0
lacks_joined byte (word ∷ next ∷ words) other none =
    let parts : (lacks byte word ≡ true) × (list_all (lacks byte) (next ∷ words) ≡ true) = and_parts (lacks byte word) (list_all (lacks byte) (next ∷ words)) none in
    list_all-append (λ b. not (b == byte)) word (32 ∷ join_with_byte 32 (next ∷ words)) ∙ and_from _ _ parts.0 (and_from _ _ other (lacks_joined byte (next ∷ words) other parts.1))
