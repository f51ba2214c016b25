-- The text of a line: its words stand apart, and it ends at the first line feed.
use Rattle.std.proofs.Common.{◌≡◌, ℕ, ◌/◌, ◌^◌, ◌<◌, ◌≤◌, ◌==◌, true, All, List, [], ◌∷◌, ◌++◌, map, length, get_or, suc, zero, refl, sym, ap, subst, inl, inr, ◌∙◌, arith}
use Rattle.std.specs.Fmt.{decimal}
use Rattle.std.specs.List.{list_all, slice_split, join_with_byte}
use Rattle.std.proofs.lemmas.Bool.{and_from, cases_Bool, ne_eqb, not_from_false}
use Rattle.std.proofs.lemmas.List.{append_assoc}
use Rattle.std.proofs.lemmas.List.Elements.{All-head, All-tail, All-append, All-cons, All-nil}
use Rattle.std.proofs.lemmas.List.Folds.{list_all-append}
use Rattle.std.proofs.lemmas.List.Splits.{join_with_byte-slice_split}
use Rattle.cnf_core.specs.Literal.{is_negative}
use Rattle.derivation.specs.Cuts.{lacks, IsCut}
use Rattle.derivation.specs.LogText.{IsLine, line_words, line_text}
use Rattle.derivation.specs.Step.{Step}
use Rattle.derivation.specs.Texts.{literal_text}
use Rattle.derivation.proofs.CutLemmas.{SameCut, same_cut, split_joined, lacks_joined}
use Rattle.derivation.proofs.Literals.{negative_text, positive_text}
use Rattle.derivation.proofs.Numbers.{decimal_digits}

-- each byte is a digit or a minus, so none is white space
pub record IsWord (bytes : List ℕ) : Type 0 where
  pub high : (i : ℕ) → i < length bytes → 45 ≤ get_or bytes i 0

word_tail : (b : ℕ) (bs : List ℕ) → IsWord (b ∷ bs) → IsWord bs
word_tail b bs word = record { high = λ i within. word.high (suc i) (omega arith) }

pub lacks_low : (byte : ℕ) (bytes : List ℕ) → byte < 45 → IsWord bytes → lacks byte bytes ≡ true
lacks_low byte [] low word = refl
lacks_low byte (b ∷ bs) low word =
    and_from _ _ (not_from_false (b == byte) (ne_eqb b byte (λ e. let h : 45 ≤ b = word.high 0 (omega arith) in absurd (omega arith))))
    (lacks_low byte bs low (word_tail b bs word))

pub number_word : (n : ℕ) → n < 2 ^ 64 → IsWord (decimal n)
number_word n small = record { high = λ i within. omega (arith, (decimal_digits n i small within).0) }

pub literal_word : (lit : ℕ) → lit / 2 < 2 ^ 64 → IsWord (literal_text lit)
literal_word lit small =
    elim (cases_Bool (is_negative lit)) [
      | inl negative ↦ subst IsWord (sym (negative_text lit negative)) (signed (decimal (lit / 2)) (number_word (lit / 2) small))
      | inr positive ↦ subst IsWord (sym (positive_text lit positive)) (number_word (lit / 2) small)
    ]
  where
    signed : (bytes : List ℕ) → IsWord bytes → IsWord (45 ∷ bytes)
    signed bytes word = record { high = high }
      where
        high : (i : ℕ) → i < length (45 ∷ bytes) → 45 ≤ get_or (45 ∷ bytes) i 0
        high zero within = omega arith
        high (suc i) within = word.high i (omega arith)

-- words of numbers that are small enough
pub all_lack : (byte : ℕ) (word : ℕ → List ℕ) (numbers : List ℕ) → byte < 45 → All (λ n. IsWord (word n)) numbers → list_all (lacks byte) (map word numbers) ≡ true
all_lack byte word [] low all = refl
all_lack byte word (n ∷ ns) low all =
    and_from _ _ (lacks_low byte (word n) low (All-head (λ (m : ℕ). IsWord (word m)) n ns all)) (all_lack byte word ns low (All-tail (λ (m : ℕ). IsWord (word m)) n ns all))

pub line_lacks : (byte vars : ℕ) (step : Step) → byte < 45 → vars < 2 ^ 31 → IsLine vars step → list_all (lacks byte) (line_words step) ≡ true
line_lacks byte vars step low small is =
    list_all-append (lacks byte) (map literal_text (step.clause ++ 0 ∷ [])) (map decimal (step.hints ++ 0 ∷ []))
    ∙ and_from _ _
    (all_lack byte literal_text (step.clause ++ 0 ∷ []) low
    (All-append (λ (m : ℕ). IsWord (literal_text m)) step.clause (0 ∷ [])
    (λ k d within. literal_word (get_or step.clause k d) (omega (arith, (is.clause.over k d within).1)))
    (All-cons (λ (m : ℕ). IsWord (literal_text m)) 0 [] (literal_word 0 (omega arith)) (All-nil (λ (m : ℕ). IsWord (literal_text m))))))
    (all_lack byte decimal (step.hints ++ 0 ∷ []) low
    (All-append (λ (m : ℕ). IsWord (decimal m)) step.hints (0 ∷ [])
    (λ k d within. number_word (get_or step.hints k d) (omega (arith, (is.hints k d within).1)))
    (All-cons (λ (m : ℕ). IsWord (decimal m)) 0 [] (number_word 0 (omega arith)) (All-nil (λ (m : ℕ). IsWord (decimal m))))))

split_words : (words : List (List ℕ)) → (words ≡ [] → ⊥) → list_all (lacks 32) words ≡ true → slice_split (λ b. b == 32) (join_with_byte 32 words) ≡ words
split_words [] some none = absurd (some refl)
split_words (w ∷ ws) some none = split_joined ws w none

some_words : (step : Step) → line_words step ≡ [] → ⊥
some_words step = by_clause step.clause
  where
    by_clause : (clause : List ℕ) → map literal_text (clause ++ 0 ∷ []) ++ map decimal (step.hints ++ 0 ∷ []) ≡ [] → ⊥
    by_clause [] e = cc
    by_clause (x ∷ xs) e = cc

-- a right line at the front of a text is what stands before the first line feed
pub record IsFrontLine (step : Step) (front behind more : List ℕ) : Type 0 where
  pub words : slice_split (λ b. b == 32) front ≡ line_words step
  pub rest : behind ≡ more

pub front_line : (vars : ℕ) (text front behind : List ℕ) (step : Step) (more : List ℕ) → vars < 2 ^ 31 → IsCut 10 text front behind → IsLine vars step
    → text ≡ line_text step ++ more → IsFrontLine step front behind more
front_line vars text front behind step more small cut is same =
    let joined : lacks 10 (join_with_byte 32 (line_words step)) ≡ true = lacks_joined 10 (line_words step) refl (line_lacks 10 vars step (omega arith) small is) in
    let cuts : front ++ 10 ∷ behind ≡ join_with_byte 32 (line_words step) ++ 10 ∷ more =
    sym cut.parts ∙ same ∙ append_assoc (join_with_byte 32 (line_words step)) (10 ∷ []) more in
    let h : SameCut front (join_with_byte 32 (line_words step)) behind more = same_cut 10 front (join_with_byte 32 (line_words step)) behind more cut.first joined cuts in
    record {
      words = ap (slice_split (λ b. b == 32)) h.front ∙ split_words (line_words step) (some_words step) (line_lacks 32 vars step (omega arith) small is);
      rest = h.behind;
    }

-- and words that a line has make its text
pub line_made : (text front behind : List ℕ) (step : Step) → IsCut 10 text front behind → slice_split (λ b. b == 32) front ≡ line_words step → text ≡ line_text step ++ behind
line_made text front behind step cut words =
    cut.parts
    ∙ ap (λ bs. bs ++ 10 ∷ behind) (sym (join_with_byte-slice_split 32 front) ∙ ap (join_with_byte 32) words)
    ∙ sym (append_assoc (join_with_byte 32 (line_words step)) (10 ∷ []) behind)
