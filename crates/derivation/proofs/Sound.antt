-- What follows is true wherever the known clauses are.
use Rattle.std.proofs.Common.{◌≡◌, ℕ, ◌-◌, ◌<◌, ◌/◌, suc, zero, nat_lt, nat_le, length, slice_index_or, slice_get, ◌==◌, Bool, true, false, not, ◌&&◌, ◌||◌, cond, List, [], ◌∷◌, ◌++◌, map, refl, sym, ap, subst, inl, inr, ◌∙◌, arith}
use Rattle.std.proofs.lemmas.List.Folds.{list_all-append}
use Rattle.std.proofs.lemmas.Bool.{false≢true, and_parts, or_cases, or_left, or_right, eqb-true, cases_Bool, not-true, cond_both, and_from, or_parts, ltb-true, leb-true, true_from_ne_false, ne_eqb}
use Rattle.std.proofs.lemmas.Bool.Decides.{nat_tests}
use Rattle.std.specs.Option.{option_map_or}
use Rattle.std.specs.List.{list_all}
use Rattle.cnf_core.specs.Literal.{negated, is_negative}
use Rattle.cnf_core.specs.Truth.{lit_holds, clause_holds, clauses_hold, IsUnsatisfiable}
use Rattle.derivation.specs.Step.{Step}
use Rattle.derivation.specs.declared.effect.Effect.{Effect}
use Rattle.derivation.specs.declared.effect.Effect.TheVariants.{Conflicts, Forces, Fails}
use Rattle.cnf_core.specs.Trues.{is_true}
use Rattle.derivation.specs.Propagation.{not_false, effect_by, effect_of, is_hint, hinted, goes_on, ends, once, follows}
use Rattle.derivation.specs.Logs.{clauses_of, valid, ends_empty}

same_half : (lit : ℕ) → negated lit / 2 ≡ lit / 2
same_half lit = grind (arith, nat_tests)

other_sign : (lit : ℕ) → is_negative (negated lit) ≡ not (is_negative lit)
other_sign lit = grind (arith, nat_tests)

pub negated_holds : (values : ℕ → Bool) (lit : ℕ) → lit_holds values (negated lit) ≡ not (lit_holds values lit)
negated_holds values lit =
    ap (λ b. cond b (not (values (negated lit / 2))) (values (negated lit / 2))) (other_sign lit)
    ∙ ap (λ v. cond (not (is_negative lit)) (not (values v)) (values v)) (same_half lit)
    ∙ flipped (is_negative lit) (values (lit / 2))
  where
    flipped : (b v : Bool) → cond (not b) (not v) v ≡ not (cond b (not v) v)
    flipped true true = refl
    flipped true false = refl
    flipped false v = refl

-- what was made true holds, where all of it does
member_holds : (values : ℕ → Bool) (trues : List ℕ) (lit : ℕ) → list_all (lit_holds values) trues ≡ true → is_true trues lit ≡ true → lit_holds values lit ≡ true
member_holds values [] lit all is = absurd (false≢true is)
member_holds values (t ∷ ts) lit all is =
    let parts : (lit_holds values t ≡ true) × (list_all (lit_holds values) ts ≡ true) = and_parts (lit_holds values t) (list_all (lit_holds values) ts) all in
    elim (or_cases (t == lit) (is_true ts lit) is) [
      | inl here ↦ subst (λ (l : ℕ). lit_holds values l ≡ true) (eqb-true t lit here) parts.0
      | inr there ↦ member_holds values ts lit parts.1 there
    ]

-- a true clause has a true literal among those that are not false
not_false_holds : (values : ℕ → Bool) (trues clause : List ℕ) → list_all (lit_holds values) trues ≡ true → clause_holds values clause ≡ true
    → clause_holds values (not_false trues clause) ≡ true
not_false_holds values trues [] all holds = holds
not_false_holds values trues (l ∷ ls) all holds =
    elim (cases_Bool (is_true trues (negated l))) [
      | inl false_one ↦
          let lit_false : lit_holds values l ≡ false = not-true (lit_holds values l) (sym (negated_holds values l) ∙ member_holds values trues (negated l) all false_one) in
          rw false_one (not_false_holds values trues ls all (sym (ap (λ b. b || clause_holds values ls) lit_false) ∙ holds))
      | inr open_one ↦
          rw open_one (elim (or_cases (lit_holds values l) (clause_holds values ls) holds) [
            | inl here ↦ or_left (lit_holds values l) _ here
            | inr there ↦ or_right (lit_holds values l) _ (not_false_holds values trues ls all there)
          ])
    ]

-- literals that are all the same one hold only where it does
only_holds : (values : ℕ → Bool) (lit : ℕ) (lits : List ℕ) → list_all (λ other. other == lit) lits ≡ true → clause_holds values lits ≡ true → lit_holds values lit ≡ true
only_holds values lit [] all holds = absurd (false≢true holds)
only_holds values lit (l ∷ ls) all holds =
    let parts : (l == lit ≡ true) × (list_all (λ other. other == lit) ls ≡ true) = and_parts (l == lit) (list_all (λ other. other == lit) ls) all in
    elim (or_cases (lit_holds values l) (clause_holds values ls) holds) [
      | inl here ↦ subst (λ (m : ℕ). lit_holds values m ≡ true) (eqb-true l lit parts.0) here
      | inr there ↦ only_holds values lit ls parts.1 there
    ]

-- what an effect says of values under which the clause and all that was made true hold
abbrev IsSound : (ℕ → Bool) → Effect → Type 0
IsSound values Conflicts = ⊥
IsSound values (Forces lit) = lit_holds values lit ≡ true
IsSound values Fails = Unit {0}

effect_by_sound : (values : ℕ → Bool) (trues open_lits : List ℕ) → clause_holds values open_lits ≡ true → IsSound values (effect_by trues open_lits)
effect_by_sound values trues [] holds = false≢true holds
effect_by_sound values trues (l ∷ ls) holds =
    cond_both (list_all (λ other. other == l) ls && not (is_true trues l)) (Forces l) Fails (IsSound values)
    (λ single. elim (or_cases (lit_holds values l) (clause_holds values ls) holds) [
      | inl here ↦ here
      | inr there ↦ only_holds values l ls (and_parts (list_all (λ other. other == l) ls) (not (is_true trues l)) single).0 there
    ])
    (λ _. tt)

effect_sound : (values : ℕ → Bool) (trues clause : List ℕ) → list_all (lit_holds values) trues ≡ true → clause_holds values clause ≡ true
    → IsSound values (effect_of trues clause)
effect_sound values trues clause all holds = effect_by_sound values trues (not_false trues clause) (not_false_holds values trues clause all holds)

-- a hinted clause is one of the known ones
hinted_holds : (values : ℕ → Bool) (known : List (List ℕ)) (place : ℕ) → place < length known → clauses_hold values known ≡ true
    → clause_holds values (slice_index_or known place []) ≡ true
hinted_holds values [] place within all = absurd (omega arith)
hinted_holds values (c ∷ cs) zero within all = (and_parts (clause_holds values c) (clauses_hold values cs) all).0
hinted_holds values (c ∷ cs) (suc place) within all =
    hinted_holds values cs place (omega arith) (and_parts (clause_holds values c) (clauses_hold values cs) all).1

-- hints lead to no conflict among what holds
ends_sound : (values : ℕ → Bool) (known : List (List ℕ)) (hints trues : List ℕ) → clauses_hold values known ≡ true → list_all (lit_holds values) trues ≡ true
    → ends known hints trues ≡ true → ⊥
ends_sound values known [] trues all holds ended = false≢true ended
ends_sound values known (hint ∷ left) trues all holds ended =
    let parts : (is_hint known hint ≡ true) × (goes_on (effect_of trues (hinted known hint)) left trues (ends known left) ≡ true) =
    and_parts (is_hint known hint) (goes_on (effect_of trues (hinted known hint)) left trues (ends known left)) ended in
    let range : (nat_lt 0 hint ≡ true) × (nat_le hint (length known) ≡ true) = and_parts (nat_lt 0 hint) (nat_le hint (length known)) parts.0 in
    let within : hint - 1 < length known = omega (arith, ltb-true 0 hint range.0, leb-true hint (length known) range.1) in
    on_effect (effect_of trues (hinted known hint))
    (effect_sound values trues (hinted known hint) holds (hinted_holds values known (hint - 1) within all)) parts.1
    (λ lit lit_is. ends_sound values known left (trues ++ lit ∷ []) all (list_all-append (lit_holds values) trues (lit ∷ []) ∙ and_from _ _ holds (and_from _ _ lit_is refl)))
  where
    on_effect : (effect : Effect) → IsSound values effect → goes_on effect left trues (ends known left) ≡ true
        → ((lit : ℕ) → lit_holds values lit ≡ true → ends known left (trues ++ lit ∷ []) ≡ true → ⊥) → ⊥
    on_effect Conflicts sound goes next = sound
    on_effect (Forces lit) sound goes next = next lit sound goes
    on_effect Fails sound goes next = false≢true goes

-- where a clause is false, the negations of its literals are true
denied_hold : (values : ℕ → Bool) (clause : List ℕ) → clause_holds values clause ≡ false → list_all (lit_holds values) (map negated clause) ≡ true
denied_hold values [] is_false = refl
denied_hold values (l ∷ ls) is_false =
    let parts : (lit_holds values l ≡ false) × (clause_holds values ls ≡ false) = or_parts (lit_holds values l) (clause_holds values ls) is_false in
    and_from _ _ (negated_holds values l ∙ ap not parts.0) (denied_hold values ls parts.1)

pub follows_sound : (values : ℕ → Bool) (known : List (List ℕ)) (step : Step) → clauses_hold values known ≡ true → follows known step ≡ true
    → clause_holds values step.clause ≡ true
follows_sound values known step all followed =
    true_from_ne_false (clause_holds values step.clause)
    (λ is_false. ends_sound values known step.hints (map negated step.clause) all (denied_hold values step.clause is_false) (and_parts (once step.clause) _ followed).1)

pub valid_sound : (values : ℕ → Bool) (known : List (List ℕ)) (steps : List Step) → clauses_hold values known ≡ true → valid known steps ≡ true
    → clauses_hold values (clauses_of steps) ≡ true
valid_sound values known [] all is_valid = refl
valid_sound values known (step ∷ steps) all is_valid =
    let parts : (follows known step ≡ true) × (valid (known ++ step.clause ∷ []) steps ≡ true) = and_parts (follows known step) (valid (known ++ step.clause ∷ []) steps) is_valid in
    let here : clause_holds values step.clause ≡ true = follows_sound values known step all parts.0 in
    and_from _ _ here
    (valid_sound values (known ++ step.clause ∷ []) steps (list_all-append (clause_holds values) known (step.clause ∷ []) ∙ and_from _ _ all (and_from _ _ here refl)) parts.1)

-- no line that holds is empty
none_empty : (values : ℕ → Bool) (steps : List Step) (place : ℕ) → clauses_hold values (clauses_of steps) ≡ true
    → option_map_or (λ step. length step.clause == 0) (slice_get steps place) false ≡ false
none_empty values [] place all = refl
none_empty values (step ∷ steps) zero all = has_one step.clause (and_parts (clause_holds values step.clause) _ all).0
  where
    has_one : (clause : List ℕ) → clause_holds values clause ≡ true → (length clause == 0) ≡ false
    has_one [] holds = absurd (false≢true holds)
    has_one (l ∷ ls) holds = ne_eqb (suc (length ls)) 0 (λ e. absurd (omega arith))
none_empty values (step ∷ steps) (suc place) all = none_empty values steps place (and_parts (clause_holds values step.clause) _ all).1

pub refutes_sound : (clauses : List (List ℕ)) (steps : List Step) → valid clauses steps ≡ true → ends_empty steps ≡ true → IsUnsatisfiable clauses
refutes_sound clauses steps is_valid ended values all =
    false≢true (sym (none_empty values steps (length steps - 1) (valid_sound values clauses steps all is_valid)) ∙ ended)
