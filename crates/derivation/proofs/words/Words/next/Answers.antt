use Rattle.std.proofs.Common.{◌≡◌, ℕ, ◌+◌, ◌∷◌, List, length, take, drop, sym, ap, subst, ◌≤◌, ◌∙◌}
use Rattle.std.proofs.lemmas.Bool.{eqb-true, eqb-false}
use Rattle.derivation.specs.Runs.{Run, runs}
use Rattle.derivation.proofs.RunLemmas.{no_run, next_run, dark_len}
use Rattle.derivation.proofs.words.Words.next.Goals as goal

pub returns-then-is_empty-clause-word : goal.returns-then-is_empty-clause-word
returns-then-is_empty-clause-word c =
    sym c.self.view_is
    ∙ no_run _ c.self.inside.rest.now c.split_at.result.1.now (c.split_at.ensures.back ∙ ap (λ n. drop n c.self.inside.rest.now) c.white_len.ensures.value)
    (eqb-true (length c.split_at.result.1.now) 0 (sym c.is_empty.ensures ∙ c.if-is_empty.true))

pub returns-clause-word : goal.returns-clause-word
returns-clause-word c =
    let size : dark_len c.split_at.result.1.now ≡ length c.split_at-2.result.0.now = sym c.word_len.ensures.value ∙ sym c.split_at-2.ensures.front_len in
    let word : take (dark_len c.split_at.result.1.now) c.split_at.result.1.now ≡ c.split_at-2.result.0.now =
    ap (λ k. take k c.split_at.result.1.now) (sym c.word_len.ensures.value) ∙ sym c.split_at-2.ensures.front in
    let rest : drop (dark_len c.split_at.result.1.now) c.split_at.result.1.now ≡ c.split_at-2.result.1.now =
    ap (λ k. drop k c.split_at.result.1.now) (sym c.word_len.ensures.value) ∙ sym c.split_at-2.ensures.back in
    let G : List ℕ → ℕ → List ℕ → List Run =
    λ bytes k behind. record { at = c.self.inside.at + length c.split_at.result.0.now; gap = c.split_at.result.0.now; bytes = bytes } ∷ runs (c.self.inside.at + length c.split_at.result.0.now + k) behind in
    sym c.self.view_is
    ∙ next_run c.self.inside.at c.self.inside.rest.now c.split_at.result.0.now c.split_at.result.1.now
    (c.split_at.ensures.front ∙ ap (λ n. take n c.self.inside.rest.now) c.white_len.ensures.value)
    (c.split_at.ensures.back ∙ ap (λ n. drop n c.self.inside.rest.now) c.white_len.ensures.value)
    (subst (λ (n : ℕ). n ≤ length c.self.inside.rest.now) c.white_len.ensures.value c.white_len.ensures.within)
    (eqb-false (length c.split_at.result.1.now) 0 (sym c.is_empty.ensures ∙ c.if-is_empty.false))
    ∙ ap (λ b. G b (dark_len c.split_at.result.1.now) (drop (dark_len c.split_at.result.1.now) c.split_at.result.1.now)) word
    ∙ ap (λ k. G c.split_at-2.result.0.now k (drop (dark_len c.split_at.result.1.now) c.split_at.result.1.now)) size
    ∙ ap (λ b. G c.split_at-2.result.0.now (length c.split_at-2.result.0.now) b) rest
