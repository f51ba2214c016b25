-- Hints that count from 1 and fit 32 bits: those of a valid log do, so a text can hold its lines.
use Rattle.std.proofs.Common.{◌≡◌, ℕ, ◌<◌, ◌==◌, Bool, true, All, List, [], ◌∷◌, ◌++◌, length, map, sym, subst}
use Rattle.std.specs.Prelude.{nat_lt, nat_le}
use Rattle.std.proofs.lemmas.Bool.{and_parts, eqb-true, false≢true, ltb-true}
use Rattle.std.proofs.lemmas.List.{nil_from_length}
use Rattle.std.proofs.lemmas.List.Elements.{All-nil, All-cons}
use Rattle.cnf_core.specs.Literal.{negated}
use Rattle.derivation.specs.declared.effect.Effect.{Effect}
use Rattle.derivation.specs.declared.effect.Effect.TheVariants.{Conflicts, Forces, Fails}
use Rattle.derivation.specs.Logs.{valid}
use Rattle.derivation.specs.LogText.{IsClause, IsInOrder, IsLine}
use Rattle.derivation.specs.Propagation.{ends, effect_of, follows, goes_on, hinted, is_hint, once}
use Rattle.derivation.specs.Step.{Step, HintsFit}

abbrev AreAbove : List ℕ → Type 0
AreAbove hints = All (λ hint. 0 < hint) hints

left_above : (effect : Effect) (left trues : List ℕ) (next : List ℕ → Bool) → goes_on effect left trues next ≡ true
    → ((lit : ℕ) → next (trues ++ lit ∷ []) ≡ true → AreAbove left) → AreAbove left
left_above Conflicts left trues next goes later = subst AreAbove (sym (nil_from_length left (eqb-true (length left) 0 goes))) (All-nil (λ hint. 0 < hint))
left_above (Forces lit) left trues next goes later = later lit goes
left_above Fails left trues next goes later = absurd (false≢true goes)

ends_above : (known : List (List ℕ)) (hints trues : List ℕ) → ends known hints trues ≡ true → AreAbove hints
ends_above known [] trues ended = absurd (false≢true ended)
ends_above known (hint ∷ left) trues ended =
    let effect = effect_of trues (hinted known hint) in
    let parts : (is_hint known hint ≡ true) × (goes_on effect left trues (ends known left) ≡ true) = and_parts (is_hint known hint) _ ended in
    All-cons (λ h. 0 < h) hint left (ltb-true 0 hint (and_parts (nat_lt 0 hint) (nat_le hint (length known)) parts.0).0)
    (left_above effect left trues (ends known left) parts.1 (λ lit. ends_above known left (trues ++ lit ∷ [])))

-- the hints of a line that follows count from 1
pub follows_above : (known : List (List ℕ)) (step : Step) → follows known step ≡ true → All (λ hint. 0 < hint) step.hints
follows_above known step followed = ends_above known step.hints (map negated step.clause) (and_parts (once step.clause) _ followed).1

-- so do those of all lines of a valid log, which is in order where its clauses are
pub valid_in_order : (vars : ℕ) (known : List (List ℕ)) (steps : List Step) → valid known steps ≡ true → All (λ step. IsClause vars step.clause) steps → All (IsInOrder vars) steps
valid_in_order vars known steps is_valid clauses = λ k d within. record { clause = clauses k d within; hints = hints known steps is_valid k d within }
  where
    hints : (before : List (List ℕ)) (xs : List Step) → valid before xs ≡ true → All (λ (x : Step). All (λ hint. 0 < hint) x.hints) xs
    hints before [] is = All-nil (λ (x : Step). All (λ hint. 0 < hint) x.hints)
    hints before (x ∷ xs) is =
        let parts : (follows before x ≡ true) × (valid (before ++ x.clause ∷ []) xs ≡ true) = and_parts (follows before x) (valid (before ++ x.clause ∷ []) xs) is in
        All-cons (λ (y : Step). All (λ hint. 0 < hint) y.hints) x xs (follows_above before x parts.0) (hints (before ++ x.clause ∷ []) xs parts.1)

-- a line in order whose hints fit is one that a text can hold
pub line_in_order : (vars : ℕ) (step : Step) → IsInOrder vars step → HintsFit step → IsLine vars step
line_in_order vars step order fit = record { clause = order.clause; hints = λ k d within. (order.hints k d within, fit k d within) }

-- a line that follows is one where its clause is
pub line_follows : (vars : ℕ) (known : List (List ℕ)) (step : Step) → follows known step ≡ true → IsClause vars step.clause → HintsFit step → IsLine vars step
line_follows vars known step followed clause fit = line_in_order vars step (record { clause = clause; hints = follows_above known step followed }) fit
