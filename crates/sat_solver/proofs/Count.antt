-- How many lines a fresh log can have: each is a number of as many digits in base 3 as there are variables.
use Rattle.std.proofs.Common.{◌≡◌, ◌≢◌, ℕ, zero, suc, ◌+◌, ◌*◌, ◌/◌, ◌%◌, ◌^◌, ◌<◌, ◌≤◌, Bool, true, false, cond, eqb, not, List, [], ◌∷◌, ◌++◌, length, map, refl, sym, ap, ◌∙◌, subst, inl, inr, ◌⊎◌, arith, All}
use Rattle.std.specs.List.{list_any, list_all, IsDistinct, AllByRecursion}
use Rattle.std.proofs.lemmas.Bool.{and_parts, or_cases, or_parts, false_from_ne_true, cases_lt, false≢true, not-true, eqb-true, ne_eqb}
use Rattle.std.proofs.lemmas.List.{length-map, nil_from_length}
use Rattle.std.proofs.lemmas.List.Folds.{list_any-append}
use Rattle.std.proofs.lemmas.List.Elements.{All-head, All-tail}
use Rattle.std.proofs.lemmas.Map.Steps.{length-le_from_distinct_below}
use Rattle.cnf_core.specs.Literal.{IsOver}
use Rattle.derivation.specs.LogText.{IsClause}
use Rattle.derivation.specs.Step.{Step}
use Rattle.derivation.specs.Propagation.{once, follows}
use Rattle.derivation.specs.Logs.{contains_clause, is_new, fresh, valid}
use Rattle.cnf_core.specs.Trues.{is_true}
use Rattle.sat_watch.specs.Literals.{has}
use Rattle.sat_watch.proofs.LiteralLemmas.{equal, unequal}
use Rattle.sat_watch.proofs.WatchLemmas.{over_has}

-- the digit of a variable: whether it is in the clause, and with which sign
digit : List ℕ → ℕ → ℕ
digit clause var = cond (has clause (2 * var)) 1 (cond (has clause (2 * var + 1)) 2 0)

code : ℕ → List ℕ → ℕ
code zero clause = 0
code (suc v) clause = digit clause (suc v) + 3 * code v clause

digit_small : (clause : List ℕ) (var : ℕ) → digit clause var < 3
unfolding digit
digit_small clause var = go (has clause (2 * var)) (has clause (2 * var + 1))
  where
    go : (a b : Bool) → cond a 1 (cond b 2 0) < 3
    go true b = omega arith
    go false true = omega arith
    go false false = omega arith

code_small : (v : ℕ) (clause : List ℕ) → code v clause < 3 ^ v
unfolding code
code_small zero clause = omega arith
code_small (suc v) clause =
    let below : code v clause < 3 ^ v = code_small v clause in
    let more : digit clause (suc v) < 3 = digit_small clause (suc v) in
    let power : 3 ^ suc v ≡ 3 * 3 ^ v = pow v in
    omega (arith, below, more, power)
  where
    pow : (n : ℕ) → 3 ^ suc n ≡ 3 * 3 ^ n
    pow n = omega arith

-- equal numbers have equal digits
same_digits : (v : ℕ) (a b : List ℕ) (var : ℕ) → code v a ≡ code v b → 0 < var → var ≤ v → digit a var ≡ digit b var
unfolding code
same_digits zero a b var e l m = absurd (omega arith)
same_digits (suc v) a b var e l m =
    let da : digit a (suc v) < 3 = digit_small a (suc v) in
    let db : digit b (suc v) < 3 = digit_small b (suc v) in
    let top : digit a (suc v) ≡ digit b (suc v) = omega (arith, e, da, db) in
    let rest : code v a ≡ code v b = omega (arith, e, da, db) in
    elim (cases_lt var (suc v)) [
      | inl below ↦ same_digits v a b var rest l (omega (arith, below))
      | inr at ↦ let q : suc v ≡ var = omega arith in subst (λ k. digit a k ≡ digit b k) q top
    ]

-- a clause has no two literals of one variable
one_sign : (xs : List ℕ) (var : ℕ) → once xs ≡ true → has xs (2 * var) ≡ true → has xs (2 * var + 1) ≡ true → ⊥
one_sign [] var o p q = false≢true p
one_sign (x ∷ xs) var o p q =
    let apart : list_any (λ other. eqb (other / 2) (x / 2)) xs ≡ false = not-true (list_any (λ other. eqb (other / 2) (x / 2)) xs) (and_parts (not (list_any (λ other. eqb (other / 2) (x / 2)) xs)) (once xs) o).0 in
    let rest : once xs ≡ true = (and_parts (not (list_any (λ other. eqb (other / 2) (x / 2)) xs)) (once xs) o).1 in
    elim (or_cases (eqb x (2 * var)) (has xs (2 * var)) p) [
      | inl here ↦ elim (or_cases (eqb x (2 * var + 1)) (has xs (2 * var + 1)) q) [
        | inl there ↦ let e : x ≡ 2 * var = equal x (2 * var) here in let f : x ≡ 2 * var + 1 = equal x (2 * var + 1) there in omega (arith, e, f)
        | inr there ↦ let e : x ≡ 2 * var = equal x (2 * var) here in half_in xs (2 * var + 1) x apart there (omega (arith, e))
      ]
      | inr here ↦ elim (or_cases (eqb x (2 * var + 1)) (has xs (2 * var + 1)) q) [
        | inl there ↦ let f : x ≡ 2 * var + 1 = equal x (2 * var + 1) there in half_in xs (2 * var) x apart here (omega (arith, f))
        | inr there ↦ one_sign xs var rest here there
      ]
    ]
  where
    half_in : (ys : List ℕ) (y x : ℕ) → list_any (λ other. eqb (other / 2) (x / 2)) ys ≡ false → has ys y ≡ true → y / 2 ≡ x / 2 → ⊥
    half_in [] y x n h e = false≢true h
    half_in (z ∷ zs) y x n h e =
        let parts = or_parts (eqb (z / 2) (x / 2)) (list_any (λ other. eqb (other / 2) (x / 2)) zs) n in
        elim (or_cases (eqb z y) (has zs y) h) [
          | inl here ↦ unequal (z / 2) (x / 2) parts.0 (ap (λ k. k / 2) (equal z y here) ∙ e)
          | inr there ↦ half_in zs y x parts.1 there e
        ]

-- a clause with the number of another has all of its literals
same_code : (v : ℕ) (a b : List ℕ) → once a ≡ true → ((lit : ℕ) → has a lit ≡ true → IsOver v lit) → code v a ≡ code v b → (lit : ℕ) → has a lit ≡ true → has b lit ≡ true
unfolding digit
same_code v a b o over e lit h =
    let range : IsOver v lit = over lit h in
    let same : digit a (lit / 2) ≡ digit b (lit / 2) = same_digits v a b (lit / 2) e range.0 range.1 in
    elim (sign lit) [
      | inl even ↦
          let on : has a (2 * (lit / 2)) ≡ true = ap (has a) (sym even) ∙ h in
          let one : digit a (lit / 2) ≡ 1 = rw on refl in
          ap (has b) even ∙ positive (has b (2 * (lit / 2))) (has b (2 * (lit / 2) + 1)) (digit a (lit / 2)) same one
      | inr odd ↦
          let on : has a (2 * (lit / 2) + 1) ≡ true = ap (has a) (sym odd) ∙ h in
          let off : has a (2 * (lit / 2)) ≡ false = false_from_ne_true (has a (2 * (lit / 2))) (λ q. one_sign a (lit / 2) o q on) in
          let two : digit a (lit / 2) ≡ 2 = rw (off, on) refl in
          ap (has b) odd ∙ negative (has b (2 * (lit / 2))) (has b (2 * (lit / 2) + 1)) (digit a (lit / 2)) same two
    ]
  where
    sign : (n : ℕ) → (n ≡ 2 * (n / 2)) ⊎ (n ≡ 2 * (n / 2) + 1)
    sign n = elim (cases_lt (n % 2) 1) [ inl even ↦ inl (omega arith) | inr odd ↦ inr (omega arith) ]

    positive : (p q : Bool) (k : ℕ) → k ≡ cond p 1 (cond q 2 0) → k ≡ 1 → p ≡ true
    positive true q k h e = refl
    positive false true k h e = absurd (omega arith)
    positive false false k h e = absurd (omega arith)

    negative : (p q : Bool) (k : ℕ) → k ≡ cond p 1 (cond q 2 0) → k ≡ 2 → q ≡ true
    negative true q k h e = absurd (omega arith)
    negative false true k h e = refl
    negative false false k h e = absurd (omega arith)

-- What is contained in none of the known clauses is not in this one.
abbrev IsKnown : List (List ℕ) → List ℕ → Type 0
IsKnown known clause = (test : List ℕ → Bool) → list_any test known ≡ false → test clause ≡ false

-- no later line has the number of a known clause
codes_apart : (v : ℕ) (known : List (List ℕ)) (clause : List ℕ) (steps : List Step) → IsKnown known clause → once clause ≡ true → ((lit : ℕ) → has clause lit ≡ true → IsOver v lit)
    → fresh known steps ≡ true → All (λ step. step.clause ≢ []) steps → AllByRecursion (λ y. eqb (code v clause) y ≡ false) (map (λ step. code v step.clause) steps)
codes_apart v known clause [] k o over f n = tt
codes_apart v known clause (s ∷ ss) k o over f n =
    let parts = and_parts (is_new known s) (fresh (known ++ s.clause ∷ []) ss) f in
    let none : list_any (contains_clause s.clause) known ≡ false = elim (or_cases (eqb (length s.clause) 0) (not (list_any (contains_clause s.clause) known)) parts.0) [
      | inl empty ↦ absurd (All-head (λ (step : Step). step.clause ≢ []) s ss n (nil_from_length s.clause (eqb-true (length s.clause) 0 empty)))
      | inr new ↦ not-true (list_any (contains_clause s.clause) known) new
    ] in (
      ne_eqb (code v clause) (code v s.clause) (λ e. false≢true (sym (k (contains_clause s.clause) none) ∙ contained s.clause (same_code v clause s.clause o over e))),
      codes_apart v (known ++ s.clause ∷ []) clause ss (λ test h. k test (or_parts (list_any test known) (list_any test (s.clause ∷ [])) (sym (list_any-append test known (s.clause ∷ [])) ∙ h)).0) o over parts.1
          (All-tail (λ (step : Step). step.clause ≢ []) s ss n),
    )
  where
    contained_in : (xs ys : List ℕ) → ((lit : ℕ) → has xs lit ≡ true → has ys lit ≡ true) → list_all (is_true ys) xs ≡ true
    contained_in [] ys h = refl
    contained_in (x ∷ xs) ys h = let here : is_true ys x ≡ true = h x (grind arith) in rw here (contained_in xs ys (λ lit g. h lit (grind (arith, g))))

    contained : (ys : List ℕ) → ((lit : ℕ) → has clause lit ≡ true → has ys lit ≡ true) → contains_clause ys clause ≡ true
    contained ys h = contained_in clause ys h

codes_distinct : (v : ℕ) (known : List (List ℕ)) (steps : List Step) → fresh known steps ≡ true → All (λ step. step.clause ≢ []) steps → All (λ step. IsClause v step.clause) steps → valid known steps ≡ true
    → IsDistinct eqb (map (λ step. code v step.clause) steps)
unfolding IsDistinct
codes_distinct v known [] f n c w = tt
codes_distinct v known (s ∷ ss) f n c w =
    let parts = and_parts (is_new known s) (fresh (known ++ s.clause ∷ []) ss) f in
    let follow = and_parts (follows known s) (valid (known ++ s.clause ∷ []) ss) w in
    let o : once s.clause ≡ true = (and_parts (once s.clause) _ follow.0).0 in
    let here : IsClause v s.clause = All-head (λ (step : Step). IsClause v step.clause) s ss c in
    let rest : All (λ (step : Step). step.clause ≢ []) ss = All-tail (λ (step : Step). step.clause ≢ []) s ss n in (
      codes_apart v (known ++ s.clause ∷ []) s.clause ss (λ test h. (or_parts (test s.clause) false (or_parts (list_any test known) (list_any test (s.clause ∷ [])) (sym (list_any-append test known (s.clause ∷ [])) ∙ h)).1).0) o
          (λ lit h. over_has v s.clause lit here.over h) parts.1 rest,
      codes_distinct v (known ++ s.clause ∷ []) ss parts.1 rest (All-tail (λ (step : Step). IsClause v step.clause) s ss c) follow.1,
    )

-- no fresh log over v variables has more than 3 to the v lines
pub fresh_bound : (v : ℕ) (known : List (List ℕ)) (steps : List Step) → fresh known steps ≡ true → All (λ step. step.clause ≢ []) steps → All (λ step. IsClause v step.clause) steps → valid known steps ≡ true
    → length steps ≤ 3 ^ v
fresh_bound v known steps f n c w =
    subst (λ k. k ≤ 3 ^ v) (length-map steps (λ step. code v step.clause))
    (length-le_from_distinct_below (map (λ step. code v step.clause) steps) (3 ^ v) (codes_distinct v known steps f n c w) (below steps))
  where
    below : (ss : List Step) (q : ℕ) → list_any (eqb q) (map (λ step. code v step.clause) ss) ≡ true → q < 3 ^ v
    below [] q h = absurd (false≢true h)
    below (s ∷ ss) q h = elim (or_cases (eqb q (code v s.clause)) (list_any (eqb q) (map (λ step. code v step.clause) ss)) h) [
      | inl here ↦ subst (λ k. k < 3 ^ v) (sym (equal q (code v s.clause) here)) (code_small v s.clause)
      | inr there ↦ below ss q there
    ]
