-- How many entries of a level are marked, with one literal more or one entry less.
use Rattle.std.proofs.Common.{◌≡◌, ◌≢◌, ℕ, ◌+◌, ◌/◌, ◌<◌, ◌≤◌, Bool, true, false, suc, cond, eqb, ◌&&◌, List, [], ◌∷◌, ◌++◌, length, get_or, refl, sym, ap, ◌∙◌, subst, inl, inr, arith, All}
use Rattle.std.specs.Prelude.{filter}
use Rattle.std.proofs.lemmas.List.{append_assoc, append-nil}
use Rattle.std.proofs.lemmas.List.Elements.{All-head, All-tail}
use Rattle.cnf_core.specs.Literal.{negated}
use Rattle.sat_watch.specs.declared.trail.Entry.{Entry}
use Rattle.cnf_core.specs.Trues.{is_true}
use Rattle.sat_watch.specs.Literals.{has, AreApart, EachOnce}
use Rattle.sat_watch.specs.Trail.{literals, levels, Rises}
use Rattle.sat_watch.proofs.LiteralLemmas.{tested, equal, unequal, negated-negated, negated-half}
use Rattle.sat_watch.proofs.TrailLemmas.{rises_up}
use Rattle.sat_watch.proofs.ThreadLemmas.{has-append, once_between}
use Rattle.sat_analysis.specs.Walk.{marked_at, AreLeveled}

-- a literal is not the negation of another where that is not its negation
other_way : (x y : ℕ) → eqb x (negated y) ≡ false → eqb y (negated x) ≡ false
other_way x y h = elim (tested (eqb y (negated x))) [
  | inl q ↦ absurd (unequal x (negated y) h (sym (negated-negated x) ∙ ap negated (sym (equal y (negated x) q))))
  | inr q ↦ q
]

-- a mark that no entry has
marked_none : (entries : List Entry) (marks : List ℕ) (level lit : ℕ) → is_true (literals entries) (negated lit) ≡ false → marked_at (marks ++ lit ∷ []) level entries ≡ marked_at marks level entries
marked_none [] marks level lit n = refl
marked_none (e ∷ es) marks level lit n =
    let away : eqb e.lit (negated lit) ≡ false = grind (arith, n) in
    let other : eqb lit (negated e.lit) ≡ false = other_way e.lit lit away in
    let same : has (marks ++ lit ∷ []) (negated e.lit) ≡ has marks (negated e.lit) = has-append marks (lit ∷ []) (negated e.lit) ∙ grind (arith, other) in
    let rest : marked_at (marks ++ lit ∷ []) level es ≡ marked_at marks level es = marked_none es marks level lit (grind (arith, n, away)) in
    rw same (kept (eqb e.level level && has marks (negated e.lit)) e (filter (λ (x : Entry). eqb x.level level && has (marks ++ lit ∷ []) (negated x.lit)) es) (filter (λ (x : Entry). eqb x.level level && has marks (negated x.lit)) es) rest)
  where
    kept : (b : Bool) (e : Entry) (xs ys : List Entry) → length xs ≡ length ys → length (cond b (e ∷ xs) xs) ≡ length (cond b (e ∷ ys) ys)
    kept true e xs ys h = ap (λ n. suc n) h
    kept false e xs ys h = h

-- a mark more, which one entry has
pub marked_one : (entries : List Entry) (table marks : List ℕ) (level lit : ℕ) → AreApart (literals entries) → AreLeveled table entries → has marks lit ≡ false → is_true (literals entries) (negated lit) ≡ true
    → marked_at (marks ++ lit ∷ []) level entries ≡ marked_at marks level entries + cond (eqb (get_or table (lit / 2) 0) level) 1 0
marked_one [] table marks level lit a l n t = absurd (let both : false ≡ true = t in cc)
marked_one (e ∷ es) table marks level lit a l n t = elim (tested (eqb e.lit (negated lit))) [
  | inl same ↦
      let e_is : e.lit ≡ negated lit = equal e.lit (negated lit) same in
      let back : negated e.lit ≡ lit = ap negated e_is ∙ negated-negated lit in
      let half : e.lit / 2 ≡ lit / 2 = ap (λ n. n / 2) e_is ∙ negated-half lit in
      let level_is : get_or table (lit / 2) 0 ≡ e.level = ap (λ k. get_or table k 0) (sym half) ∙ All-head (λ (x : Entry). get_or table (x.lit / 2) 0 ≡ x.level) e es l in
      let new : has (marks ++ lit ∷ []) (negated e.lit) ≡ true = ap (has (marks ++ lit ∷ [])) back ∙ has-append marks (lit ∷ []) lit ∙ grind (arith, n) in
      let old : has marks (negated e.lit) ≡ false = ap (has marks) back ∙ n in
      let rest : marked_at (marks ++ lit ∷ []) level es ≡ marked_at marks level es =
      marked_none es marks level lit (ap (is_true (literals es)) (sym e_is) ∙ a.0.0) in
      rw (new, old, level_is) (one (eqb e.level level) e (filter (λ (x : Entry). eqb x.level level && has (marks ++ lit ∷ []) (negated x.lit)) es) (filter (λ (x : Entry). eqb x.level level && has marks (negated x.lit)) es) rest)
  | inr other ↦
      let away : eqb lit (negated e.lit) ≡ false = other_way e.lit lit other in
      let same : has (marks ++ lit ∷ []) (negated e.lit) ≡ has marks (negated e.lit) = has-append marks (lit ∷ []) (negated e.lit) ∙ grind (arith, away) in
      rw same (kept (eqb e.level level && has marks (negated e.lit)) (cond (eqb (get_or table (lit / 2) 0) level) 1 0) e
      (filter (λ (x : Entry). eqb x.level level && has (marks ++ lit ∷ []) (negated x.lit)) es) (filter (λ (x : Entry). eqb x.level level && has marks (negated x.lit)) es)
      (marked_one es table marks level lit a.1 (All-tail (λ (x : Entry). get_or table (x.lit / 2) 0 ≡ x.level) e es l) n (grind (arith, t, other))))
]
  where
    one : (b : Bool) (e : Entry) (xs ys : List Entry) → length xs ≡ length ys → length (cond (b && true) (e ∷ xs) xs) ≡ length (cond (b && false) (e ∷ ys) ys) + cond b 1 0
    one true e xs ys h = omega (arith, h)
    one false e xs ys h = omega (arith, h)

    kept : (b : Bool) (n : ℕ) (e : Entry) (xs ys : List Entry) → length xs ≡ length ys + n → length (cond b (e ∷ xs) xs) ≡ length (cond b (e ∷ ys) ys) + n
    kept true n e xs ys h = omega (arith, h)
    kept false n e xs ys h = h

-- as many more as the marks that were added are of the level
pub marked_more : (entries : List Entry) (table marks more : List ℕ) (level : ℕ) → AreApart (literals entries) → AreLeveled table entries → EachOnce (marks ++ more)
    → ((lit : ℕ) → has more lit ≡ true → is_true (literals entries) (negated lit) ≡ true)
    → marked_at (marks ++ more) level entries ≡ marked_at marks level entries + length (filter (λ lit. eqb (get_or table (lit / 2) 0) level) more)
marked_more entries table marks [] level a l o f = ap (λ ms. marked_at ms level entries) (append-nil marks) ∙ omega arith
marked_more entries table marks (x ∷ xs) level a l o f =
    let here : has marks x ≡ false = grind (arith, has-append marks xs x, (once_between marks xs x o).1) in
    let assoc : (marks ++ x ∷ []) ++ xs ≡ marks ++ x ∷ xs = append_assoc marks (x ∷ []) xs in
    let rest : marked_at ((marks ++ x ∷ []) ++ xs) level entries ≡ marked_at (marks ++ x ∷ []) level entries + length (filter (λ lit. eqb (get_or table (lit / 2) 0) level) xs) =
    marked_more entries table (marks ++ x ∷ []) xs level a l (subst EachOnce (sym assoc) o) (λ lit h. f lit (grind (arith, h))) in
    let one : marked_at (marks ++ x ∷ []) level entries ≡ marked_at marks level entries + cond (eqb (get_or table (x / 2) 0) level) 1 0 =
    marked_one entries table marks level x a l here (f x (grind arith)) in
    ap (λ ms. marked_at ms level entries) (sym assoc) ∙ rest ∙ ap (λ n. n + length (filter (λ lit. eqb (get_or table (lit / 2) 0) level) xs)) one
    ∙ sums (eqb (get_or table (x / 2) 0) level) (marked_at marks level entries) x (filter (λ lit. eqb (get_or table (lit / 2) 0) level) xs)
  where
    sums : (b : Bool) (m x : ℕ) (ys : List ℕ) → m + cond b 1 0 + length ys ≡ m + length (cond b (x ∷ ys) ys)
    sums true m x ys = omega arith
    sums false m x ys = omega arith

-- where some entry is of the level, the last level is not below it
pub marked_late : (entries : List Entry) (marks : List ℕ) (level from to : ℕ) → Rises from (levels entries) to → 0 < marked_at marks level entries → level ≤ to
marked_late [] marks level from to r c = absurd (omega arith)
marked_late (e ∷ es) marks level from to r c = elim (tested (eqb e.level level)) [
  | inl same ↦ let is : e.level ≡ level = equal e.level level same in omega (arith, rises_up e.level to (levels es) r.2)
  | inr other ↦ marked_late es marks level e.level to r.2 (let skip : marked_at marks level (e ∷ es) ≡ marked_at marks level es = rw other refl in omega arith)
]

-- no entry of lower levels counts
pub marked_low : (entries : List Entry) (marks : List ℕ) (level : ℕ) → All (λ (e : Entry). e.level < level) entries → marked_at marks level entries ≡ 0
marked_low [] marks level a = refl
marked_low (e ∷ es) marks level a =
    let below : e.level < level = All-head (λ (x : Entry). x.level < level) e es a in
    let other : eqb e.level level ≡ false = let d : e.level ≢ level = omega arith in grind (arith, d) in
    rw (other, marked_low es marks level (All-tail (λ (x : Entry). x.level < level) e es a)) refl
