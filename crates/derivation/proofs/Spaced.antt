-- Words joined by spaces, and words with a space behind each.
use Rattle.std.proofs.Common.{◌≡◌, ℕ, List, [], ◌∷◌, ◌++◌, map, refl, sym, ap, ◌∙◌, arith}
use Rattle.std.specs.Fmt.{decimal}
use Rattle.std.specs.List.{join_with_byte}
use Rattle.std.proofs.lemmas.Fmt.{decimal_digit}
use Rattle.std.proofs.lemmas.List.{append_assoc, map-append}
use Rattle.std.proofs.lemmas.Grind.{flat_map-append}
use Rattle.derivation.specs.CnfText.{clause_line}
use Rattle.derivation.specs.LogText.{line_words, line_text}
use Rattle.derivation.specs.Step.{Step}
use Rattle.derivation.specs.Texts.{literal_text, spaced}

pub join_last : (words : List (List ℕ)) (last : List ℕ) → join_with_byte 32 (words ++ last ∷ []) ≡ spaced words ++ last
join_last [] last = refl
join_last (w ∷ []) last = simp append_assoc
join_last (w ∷ v ∷ ws) last =
    ap (λ bs. w ++ 32 ∷ bs) (join_last (v ∷ ws) last)
    ∙ sym (append_assoc (w ++ 32 ∷ []) (spaced (v ∷ ws)) last ∙ append_assoc w (32 ∷ []) (spaced (v ∷ ws) ++ last))

zero_text : decimal 0 ≡ 48 ∷ []
zero_text = decimal_digit 0 (omega arith)

-- a clause's words, ended by 0
pub clause_spaced : (clause : List ℕ) → join_with_byte 32 (map literal_text (clause ++ 0 ∷ [])) ≡ spaced (map literal_text clause) ++ 48 ∷ []
clause_spaced clause =
    ap (join_with_byte 32) (map-append literal_text clause (0 ∷ []))
    ∙ join_last (map literal_text clause) (literal_text 0)
    ∙ ap (λ z. spaced (map literal_text clause) ++ z) zero_text

pub line_spaced : (step : Step) (before : List ℕ)
    → (((before ++ spaced (map literal_text step.clause)) ++ 48 ∷ 32 ∷ []) ++ spaced (map decimal step.hints)) ++ 48 ∷ 10 ∷ [] ≡ before ++ line_text step
line_spaced step before =
    let lits = map literal_text step.clause in
    let hints = map decimal step.hints in
    let words : line_words step ≡ (lits ++ literal_text 0 ∷ hints) ++ decimal 0 ∷ [] = simp (map-append, append_assoc) in
    let text : line_text step ≡ ((spaced lits ++ (48 ∷ 32 ∷ spaced hints)) ++ 48 ∷ []) ++ 10 ∷ [] =
    ap (λ ws. join_with_byte 32 ws ++ 10 ∷ []) words
    ∙ ap (λ bs. bs ++ 10 ∷ []) (join_last (lits ++ literal_text 0 ∷ hints) (decimal 0))
    ∙ ap (λ bs. (bs ++ decimal 0) ++ 10 ∷ []) (flat_map-append (λ word. word ++ 32 ∷ []) lits (literal_text 0 ∷ hints))
    ∙ ap (λ z. ((spaced lits ++ ((z ++ 32 ∷ []) ++ spaced hints)) ++ z) ++ 10 ∷ []) zero_text in
    regrouped before (spaced lits) (spaced hints) ∙ ap (λ t. before ++ t) (sym text)
  where
    regrouped : (a b c : List ℕ) → (((a ++ b) ++ 48 ∷ 32 ∷ []) ++ c) ++ 48 ∷ 10 ∷ [] ≡ a ++ (((b ++ (48 ∷ 32 ∷ c)) ++ 48 ∷ []) ++ 10 ∷ [])
    regrouped a b c = simp append_assoc

pub clause_line_spaced : (clause before : List ℕ) → (before ++ spaced (map literal_text clause)) ++ 48 ∷ 10 ∷ [] ≡ before ++ clause_line clause
clause_line_spaced clause before =
    regrouped before (spaced (map literal_text clause)) ∙ ap (λ t. before ++ (t ++ 10 ∷ [])) (sym (clause_spaced clause))
  where
    regrouped : (a b : List ℕ) → (a ++ b) ++ 48 ∷ 10 ∷ [] ≡ a ++ ((b ++ 48 ∷ []) ++ 10 ∷ [])
    regrouped a b = simp append_assoc
