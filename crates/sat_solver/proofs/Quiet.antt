-- Clauses that are neither unit nor false: what is learnt contains none of them, and no hints refute.
use Rattle.std.proofs.Common.{◌≡◌, ◌≢◌, ℕ, ◌-◌, ◌<◌, true, false, eqb, not, ◌&&◌, List, [], ◌∷◌, ◌++◌, length, get_or, refl, sym, ap, ◌∙◌, subst, inl, inr, ◌⊎◌, arith, All}
use Rattle.std.specs.Prelude.{nat_lt, nat_le}
use Rattle.std.specs.List.{list_any, list_all}
use Rattle.std.proofs.lemmas.Bool.{and_parts, or_cases, or_right, false_from_ne_true, not_from_false, cases_lt, false≢true, ltb-true, leb-true, cond_both}
use Rattle.std.proofs.lemmas.List.{get_or_default}
use Rattle.std.proofs.lemmas.List.Folds.{list_any_none}
use Rattle.cnf_core.specs.Literal.{negated}
use Rattle.derivation.specs.Step.{Step}
use Rattle.derivation.specs.Propagation.{ends, effect_by, effect_of, not_false, goes_on, hinted, is_hint}
use Rattle.derivation.specs.declared.effect.Effect.{Effect}
use Rattle.derivation.specs.declared.effect.Effect.TheVariants.{Conflicts, Forces, Fails}
use Rattle.derivation.specs.Logs.{contains_clause, is_new}
use Rattle.cnf_core.specs.Trues.{is_true}
use Rattle.sat_watch.specs.Literals.{has, IsOpen, AreApart}
use Rattle.sat_watch.specs.Propagation.{IsQuiet}
use Rattle.sat_watch.specs.Trail.{TrailState, literals, up_to}
use Rattle.sat_watch.proofs.LiteralLemmas.{tested, equal, unequal, is_true-append}
use Rattle.sat_watch.proofs.VisitLemmas.{apart_both}
use Rattle.sat_analysis.specs.Learnt.{IsLearnt}
use Rattle.sat_analysis.specs.Reasons.{Within}
use Rattle.sat_analysis.specs.Walk.{AreLeveled}
use Rattle.sat_analysis.proofs.Bridge.{kept, was, all_are, rest_has, front_has}
use Rattle.sat_analysis.proofs.Levels.{true_up_to, up_to_true, level_negated}
use Rattle.sat_analysis.proofs.Order.{place_has, once_apart}
use Rattle.sat_solver.specs.Search.{IsWatchedAs, IsRootOf, AreHeld, AreQuietBelow}

-- a clause with the same literals is as quiet
pub quiet_same : (trues one other : List ℕ) → ((lit : ℕ) → has one lit ≡ has other lit) → IsQuiet trues one → IsQuiet trues other
quiet_same trues one other same q = record {
  not_false = λ f. q.not_false (λ lit h. f lit (sym (same lit) ∙ h));
  not_unit = λ lit f. q.not_unit lit (record { inside = same lit ∙ f.inside; unset = f.unset; others = λ x h d. f.others x (sym (same x) ∙ h) d });
}

-- one literal that is true
pub quiet_root : (trues clause : List ℕ) (lit : ℕ) → AreApart trues → has clause lit ≡ true → ((other : ℕ) → has clause other ≡ true → other ≡ lit) → is_true trues lit ≡ true → IsQuiet trues clause
quiet_root trues clause lit a inside only on = record {
  not_false = λ f. apart_both trues lit a on (f lit inside);
  not_unit = λ x f. let e : x ≡ lit = only x f.inside in let both : true ≡ false = sym on ∙ ap (is_true trues) (sym e) ∙ f.unset.0 in cc;
}

-- what a part of the true literals lets a quiet clause force is true already, and it is no conflict
abbrev IsIdle : List ℕ → Effect → Type 0
IsIdle trues Conflicts = ⊥
IsIdle trues (Forces lit) = is_true trues lit ≡ true
IsIdle trues Fails = Unit {0}

idle : (part trues clause : List ℕ) → Within part trues → IsQuiet trues clause → IsIdle trues (effect_of part clause)
idle part trues clause w q = go (not_false part clause) refl
  where
    none_left : (left : List ℕ) → left ≡ not_false part clause → (lit : ℕ) → has clause lit ≡ true → (has left lit ≡ true → ⊥) → is_true trues (negated lit) ≡ true
    none_left left e lit h n = elim (tested (is_true part (negated lit))) [
      | inl f ↦ w (negated lit) f
      | inr t ↦ absurd (n (ap (λ xs. has xs lit) e ∙ kept part clause lit h t))
    ]

    go : (left : List ℕ) → left ≡ not_false part clause → IsIdle trues (effect_by part left)
    go [] e = q.not_false (λ lit h. none_left [] e lit h (λ b. let both : false ≡ true = b in cc))
    go (x ∷ xs) e =
        cond_both (list_all (λ y. eqb y x) xs && not (is_true part x)) (Forces x) Fails (IsIdle trues)
        (λ one.
        let parts = and_parts (list_all (λ y. eqb y x) xs) (not (is_true part x)) one in
        let inside : has clause x ≡ true = (was part clause x (ap (λ ys. has ys x) (sym e) ∙ front_has x xs)).0 in
        let others : (other : ℕ) → has clause other ≡ true → other ≢ x → is_true trues (negated other) ≡ true =
        λ other h d. none_left (x ∷ xs) e other h (λ b. d (elim (tested (eqb x other)) [ inl same ↦ sym (equal x other same) | inr away ↦ all_are xs x other parts.0 (rest_has x other xs b away) ])) in
        elim (tested (is_true trues x)) [
          | inl on ↦ on
          | inr off ↦ elim (tested (is_true trues (negated x))) [
            | inl f ↦ absurd (q.not_false (λ lit h. elim (tested (eqb x lit)) [
              | inl same ↦ ap (λ k. is_true trues (negated k)) (sym (equal x lit same)) ∙ f
              | inr away ↦ others lit h (λ s. unequal x lit away (sym s))
            ]))
            | inr t ↦ absurd (q.not_unit x (record { inside = inside; unset = (off, t); others = others }))
          ]
        ])
        (λ _. tt)

-- where all known clauses are quiet, no hints end in a conflict from a part of the true literals
pub never_ends : (known : List (List ℕ)) (trues hints part : List ℕ) → ((place : ℕ) → place < length known → IsQuiet trues (get_or known place [])) → Within part trues → ends known hints part ≡ true → ⊥
never_ends known trues [] part q w ended = false≢true ended
never_ends known trues (hint ∷ left) part q w ended =
    let parts : (is_hint known hint ≡ true) × (goes_on (effect_of part (hinted known hint)) left part (ends known left) ≡ true) =
    and_parts (is_hint known hint) (goes_on (effect_of part (hinted known hint)) left part (ends known left)) ended in
    let range : (nat_lt 0 hint ≡ true) × (nat_le hint (length known) ≡ true) = and_parts (nat_lt 0 hint) (nat_le hint (length known)) parts.0 in
    let within : hint - 1 < length known = omega (arith, ltb-true 0 hint range.0, leb-true hint (length known) range.1) in
    on_effect (effect_of part (hinted known hint)) (idle part trues (hinted known hint) w (q (hint - 1) within)) parts.1
    (λ lit on. never_ends known trues left (part ++ lit ∷ []) q (λ x h. elim (or_cases (is_true part x) (is_true (lit ∷ []) x) (sym (is_true-append part (lit ∷ []) x) ∙ h)) [
      | inl a ↦ w x a
      | inr b ↦ subst (λ k. is_true trues k ≡ true) (equal lit x (grind (arith, b))) on
    ]))
  where
    on_effect : (effect : Effect) → IsIdle trues effect → goes_on effect left part (ends known left) ≡ true → ((lit : ℕ) → is_true trues lit ≡ true → ends known left (part ++ lit ∷ []) ≡ true → ⊥) → ⊥
    on_effect Conflicts i goes next = i
    on_effect (Forces lit) i goes next = next lit i goes
    on_effect Fails i goes next = false≢true goes

-- of a clause that was learnt: under the entries up to its level all but the first literal are false
pub learnt_false : (known : List (List ℕ)) (t : TrailState) (table lits : List ℕ) (line : Step) (back lit : ℕ) → IsLearnt known t table line lits back → AreLeveled table t.entries
    → has lits lit ≡ true → lit ≢ get_or lits 0 0 → is_true (literals (up_to back t.entries)) (negated lit) ≡ true
learnt_false known t table lits line back lit l leveled h d =
    true_up_to table t.entries back (negated lit) leveled (l.are_false lit h) (omega (arith, l.others lit h d, level_negated table lit))

-- and the first one has no value
pub learnt_open : (known : List (List ℕ)) (t : TrailState) (table lits : List ℕ) (line : Step) (back : ℕ) → IsLearnt known t table line lits back → AreLeveled table t.entries → AreApart (literals t.entries)
    → IsOpen (literals (up_to back t.entries)) (get_or lits 0 0)
learnt_open known t table lits line back l leveled apart =
    let first = get_or lits 0 0 in
    let first_false : is_true (literals t.entries) (negated first) ≡ true = l.are_false first (place_has lits 0 0 l.some) in (
      false_from_ne_true (is_true (literals (up_to back t.entries)) first) (λ on. apart_both (literals t.entries) first apart (up_to_true table t.entries back first leveled on).0 first_false),
      false_from_ne_true (is_true (literals (up_to back t.entries)) (negated first)) (λ on. let p = up_to_true table t.entries back (negated first) leveled on in omega (arith, p.1, l.first, l.below, level_negated table first)),
    )

-- what is learnt contains no clause that is held
contains_none : (known : List (List ℕ)) (clauses : List (List ℕ)) (t : TrailState) (table lits clause : List ℕ) (line : Step) (back : ℕ) → IsLearnt known t table line lits back → AreLeveled table t.entries → AreApart (literals t.entries)
    → All (IsQuiet (literals (up_to back t.entries))) clauses → IsWatchedAs clauses clause ⊎ IsRootOf t.entries clause → contains_clause line.clause clause ≡ true → ⊥
contains_none known clauses t table lits clause line back l leveled apart quiet held contains =
    let first = get_or lits 0 0 in
    let inside : (lit : ℕ) → has clause lit ≡ true → has lits lit ≡ true = λ lit h. sym (l.same lit) ∙ all_in clause contains lit h in
    elim held [
      | inl watched ↦
          let q : IsQuiet (literals (up_to back t.entries)) clause = quiet_same (literals (up_to back t.entries)) (get_or clauses watched.place []) clause watched.same (quiet watched.place [] watched.within) in
          elim (tested (has clause first)) [
            | inl on ↦ q.not_unit first (record { inside = on; unset = learnt_open known t table lits line back l leveled apart; others = λ other h d. learnt_false known t table lits line back other l leveled (inside other h) d })
            | inr off ↦ q.not_false (λ lit h. learnt_false known t table lits line back lit l leveled (inside lit h) (λ e. let both : true ≡ false = sym h ∙ ap (has clause) e ∙ off in cc))
          ]
      | inr root ↦
          let on : is_true (literals t.entries) root.lit ≡ true = (up_to_true table t.entries 0 root.lit leveled root.root).0 in
          apart_both (literals t.entries) root.lit apart on (l.are_false root.lit (inside root.lit root.inside))
    ]
  where
    all_in : (xs : List ℕ) → list_all (is_true line.clause) xs ≡ true → (lit : ℕ) → has xs lit ≡ true → has line.clause lit ≡ true
    all_in [] a lit h = absurd (let both : false ≡ true = h in cc)
    all_in (x ∷ xs) a lit h =
        let parts = and_parts (is_true line.clause x) (list_all (is_true line.clause) xs) a in
        elim (tested (eqb x lit)) [
          | inl same ↦ ap (has line.clause) (sym (equal x lit same)) ∙ parts.0
          | inr other ↦ all_in xs parts.1 lit (grind (arith, h, other))
        ]

pub learnt_new : (known : List (List ℕ)) (clauses : List (List ℕ)) (t : TrailState) (table lits : List ℕ) (line : Step) (back : ℕ) → IsLearnt known t table line lits back → AreLeveled table t.entries → AreApart (literals t.entries)
    → AreQuietBelow clauses t → AreHeld known clauses t.entries → is_new known line ≡ true
learnt_new known clauses t table lits line back l leveled apart quiet held =
    or_right (eqb (length line.clause) 0) _ (not_from_false (list_any (contains_clause line.clause) known)
    (list_any_none (contains_clause line.clause) known (λ k d within. false_from_ne_true (contains_clause line.clause (get_or known k d))
    (λ contains. contains_none known clauses t table lits (get_or known k []) line back l leveled apart (quiet back l.below) (held k within)
    (ap (contains_clause line.clause) (get_or_default known k [] d within) ∙ contains)))))

-- what is learnt is quiet below its level
pub learnt_quiet : (known : List (List ℕ)) (t : TrailState) (table lits : List ℕ) (line : Step) (back level : ℕ) → IsLearnt known t table line lits back → AreLeveled table t.entries → level < back
    → IsQuiet (literals (up_to level t.entries)) lits
learnt_quiet known t table lits line back level l leveled below =
    let first = get_or lits 0 0 in
    let first_in : has lits first ≡ true = place_has lits 0 0 l.some in
    let first_off : is_true (literals (up_to level t.entries)) (negated first) ≡ true → ⊥ =
    λ on. let p = up_to_true table t.entries level (negated first) leveled on in omega (arith, p.1, l.first, l.below, below, level_negated table first) in
    let many : 1 < length lits = elim (cases_lt 1 (length lits)) [ inl m ↦ m | inr few ↦ absurd (omega (arith, l.alone (omega (arith, few, l.some)), below)) ] in
    let second = get_or lits 1 0 in
    record {
      not_false = λ f. first_off (f first first_in);
      not_unit = λ lit f. elim (tested (eqb lit first)) [
        | inl same ↦
            let away : second ≢ lit = λ e. once_apart lits 0 1 l.once (omega arith) many (sym (equal lit first same) ∙ sym e) in
            let p = up_to_true table t.entries level (negated second) leveled (f.others second (place_has lits 1 0 many) away) in
            omega (arith, p.1, l.second many, below, level_negated table second)
        | inr other ↦ first_off (f.others first first_in (λ e. unequal lit first other (sym e)))
      ];
    }
