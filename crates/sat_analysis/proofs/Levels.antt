-- At which levels literals are false.
use Rattle.std.proofs.Common.{◌≡◌, ◌≢◌, ℕ, zero, suc, ◌-◌, ◌/◌, ◌<◌, ◌≤◌, Bool, true, false, cond, eqb, ◌&&◌, List, [], ◌∷◌, length, take, get_or, refl, sym, ap, ◌∙◌, inl, inr, arith}
use Rattle.std.specs.Prelude.{filter, nat_le}
use Rattle.std.proofs.lemmas.Bool.{cases_lt, le-leb, leb-true}
use Rattle.std.proofs.lemmas.List.Elements.{All-head, All-tail}
use Rattle.cnf_core.specs.Literal.{negated}
use Rattle.sat_watch.specs.declared.trail.Entry.{Entry}
use Rattle.cnf_core.specs.Trues.{is_true}
use Rattle.sat_watch.specs.Literals.{has}
use Rattle.sat_watch.specs.Trail.{literals, levels, up_to, Rises}
use Rattle.sat_watch.specs.Propagation.{IsFalse}
use Rattle.sat_watch.proofs.LiteralLemmas.{tested, equal, negated-half, negated-negated}
use Rattle.sat_watch.proofs.TrailLemmas.{rises_up}
use Rattle.sat_analysis.specs.Learnt.{level_of}
use Rattle.sat_analysis.specs.Walk.{marked_at, AreLeveled}

abbrev HasLevel : List ℕ → Entry → Type 0
HasLevel table e = get_or table (e.lit / 2) 0 ≡ e.level

-- both literals of a variable have one level
pub level_negated : (table : List ℕ) (lit : ℕ) → level_of table (negated lit) ≡ level_of table lit
level_negated table lit = ap (λ k. get_or table k 0) (negated-half lit)

-- what is true at a level that is not above is true of the entries up to it
pub true_up_to : (table : List ℕ) (entries : List Entry) (k lit : ℕ) → AreLeveled table entries → is_true (literals entries) lit ≡ true → level_of table lit ≤ k
    → is_true (literals (up_to k entries)) lit ≡ true
true_up_to table [] k lit l t b = t
true_up_to table (e ∷ es) k lit l t b = elim (tested (eqb e.lit lit)) [
  | inl same ↦
      let at : get_or table (e.lit / 2) 0 ≡ e.level = All-head (HasLevel table) e es l in
      let on : e.lit ≡ lit = equal e.lit lit same in
      let low : nat_le e.level k ≡ true = le-leb e.level k (omega (arith, b, at, ap (λ n. get_or table (n / 2) 0) on)) in
      rw low (grind (arith, same))
  | inr other ↦
      let rest : is_true (literals (up_to k es)) lit ≡ true = true_up_to table es k lit (All-tail (HasLevel table) e es l) (grind (arith, t, other)) b in
      elim (tested (nat_le e.level k)) [ inl low ↦ rw low (grind (arith, rest)) | inr high ↦ rw high rest ]
]

pub up_to_true : (table : List ℕ) (entries : List Entry) (k lit : ℕ) → AreLeveled table entries → is_true (literals (up_to k entries)) lit ≡ true
    → (is_true (literals entries) lit ≡ true) × (level_of table lit ≤ k)
up_to_true table [] k lit l t = absurd (let both : false ≡ true = t in cc)
up_to_true table (e ∷ es) k lit l t = elim (tested (nat_le e.level k)) [
  | inl low ↦
      let h : is_true (e.lit ∷ literals (up_to k es)) lit ≡ true = rw low at t in
      elim (tested (eqb e.lit lit)) [
        | inl same ↦
            let at : get_or table (e.lit / 2) 0 ≡ e.level = All-head (HasLevel table) e es l in
            let on : e.lit ≡ lit = equal e.lit lit same in
            (grind (arith, same), omega (arith, leb-true e.level k low, at, ap (λ n. get_or table (n / 2) 0) on))
        | inr other ↦ let p = up_to_true table es k lit (All-tail (HasLevel table) e es l) (grind (arith, h, other)) in (grind (arith, p.0), p.1)
      ]
  | inr high ↦ let p = up_to_true table es k lit (All-tail (HasLevel table) e es l) (rw high at t) in (grind (arith, p.0), p.1)
]

-- no level is above the present one
pub level_within : (table : List ℕ) (entries : List Entry) (from level lit : ℕ) → AreLeveled table entries → Rises from (levels entries) level → is_true (literals entries) lit ≡ true → level_of table lit ≤ level
level_within table [] from level lit l r t = absurd (let both : false ≡ true = t in cc)
level_within table (e ∷ es) from level lit l r t = elim (tested (eqb e.lit lit)) [
  | inl same ↦
      let at : get_or table (e.lit / 2) 0 ≡ e.level = All-head (HasLevel table) e es l in
      let on : e.lit ≡ lit = equal e.lit lit same in
      omega (arith, at, ap (λ n. get_or table (n / 2) 0) on, rises_up e.level level (levels es) r.2)
  | inr other ↦ level_within table es e.level level lit (All-tail (HasLevel table) e es l) r.2 (grind (arith, t, other))
]

-- what is true at a lower level than an entry stands before it
pub true_before : (table : List ℕ) (entries : List Entry) (from level place lit : ℕ) (e : Entry) → AreLeveled table entries → Rises from (levels entries) level → is_true (literals entries) lit ≡ true
    → place < length entries → e ≡ get_or entries place e → level_of table lit < e.level → is_true (literals (take place entries)) lit ≡ true
true_before table [] from level place lit e l r t lt is b = absurd (omega arith)
true_before table (x ∷ xs) from level zero lit e l r t lt is b =
    absurd (let low : x.level ≤ level_of table lit = least table (x ∷ xs) x.level level lit l (omega arith, omega arith, r.2) t in
    let same : e.level ≡ x.level = ap (λ (y : Entry). y.level) is in omega arith)
  where
    least : (table : List ℕ) (entries : List Entry) (from level lit : ℕ) → AreLeveled table entries → Rises from (levels entries) level → is_true (literals entries) lit ≡ true → from ≤ level_of table lit
    least table [] from level lit l r t = absurd (let both : false ≡ true = t in cc)
    least table (e ∷ es) from level lit l r t = elim (tested (eqb e.lit lit)) [
      | inl same ↦
          let at : get_or table (e.lit / 2) 0 ≡ e.level = All-head (HasLevel table) e es l in
          let on : e.lit ≡ lit = equal e.lit lit same in
          omega (arith, at, ap (λ n. get_or table (n / 2) 0) on, r.0)
      | inr other ↦ omega (arith, r.0, least table es e.level level lit (All-tail (HasLevel table) e es l) r.2 (grind (arith, t, other)))
    ]
true_before table (x ∷ xs) from level (suc place) lit e l r t lt is b = elim (tested (eqb x.lit lit)) [
  | inl same ↦ grind (arith, same)
  | inr other ↦
      let rest : is_true (literals (take place xs)) lit ≡ true =
      true_before table xs x.level level place lit e (All-tail (HasLevel table) x xs l) r.2 (grind (arith, t, other)) (omega arith) is b in
      grind (arith, rest)
]

-- where none of a level is marked, a marked literal that is false is of another level
pub marked_zero : (table : List ℕ) (entries : List Entry) (marks : List ℕ) (level lit : ℕ) → AreLeveled table entries → marked_at marks level entries ≡ 0 → has marks lit ≡ true → is_true (literals entries) (negated lit) ≡ true
    → level_of table lit ≢ level
marked_zero table [] marks level lit l z m t q = let both : false ≡ true = t in cc
marked_zero table (e ∷ es) marks level lit l z m t q = elim (tested (eqb e.lit (negated lit))) [
  | inl same ↦
      let on : e.lit ≡ negated lit = equal e.lit (negated lit) same in
      let at : get_or table (e.lit / 2) 0 ≡ e.level = All-head (HasLevel table) e es l in
      let here : e.level ≡ level = sym at ∙ ap (λ n. get_or table (n / 2) 0) on ∙ level_negated table lit ∙ q in
      let yes_level : eqb e.level level ≡ true = grind (arith, here) in
      let yes_mark : has marks (negated e.lit) ≡ true = ap (has marks) (ap negated on ∙ negated-negated lit) ∙ m in
      let one : marked_at marks level (e ∷ es) ≡ suc (marked_at marks level es) = rw (yes_level, yes_mark) refl in
      omega arith
  | inr other ↦ marked_zero table es marks level lit (All-tail (HasLevel table) e es l) (fewer (eqb e.level level && has marks (negated e.lit)) e (filter (λ (x : Entry). eqb x.level level && has marks (negated x.lit)) es) z) m (grind (arith, t, other)) q
]
  where
    fewer : (b : Bool) (e : Entry) (xs : List Entry) → length (cond b (e ∷ xs) xs) ≡ 0 → length xs ≡ 0
    fewer true e xs h = absurd (omega arith)
    fewer false e xs h = h

-- a clause that was not false before the present level has a literal of it
pub some_late : (table : List ℕ) (entries : List Entry) (marks clause : List ℕ) (level : ℕ) → AreLeveled table entries → Rises 0 (levels entries) level → 0 < level → IsFalse (literals entries) clause
    → ((lit : ℕ) → has clause lit ≡ true → has marks lit ≡ true) → (IsFalse (literals (up_to (level - 1) entries)) clause → ⊥) → 0 < marked_at marks level entries
some_late table entries marks clause level l r above f m late = elim (cases_lt 0 (marked_at marks level entries)) [
  | inl some ↦ some
  | inr none ↦ absurd (late (λ lit h.
      let on : is_true (literals entries) (negated lit) ≡ true = f lit h in
      let away : level_of table lit ≢ level = marked_zero table entries marks level lit l (omega arith) (m lit h) on in
      let at_most : level_of table (negated lit) ≤ level = level_within table entries 0 level (negated lit) l r on in
      true_up_to table entries (level - 1) (negated lit) l on (omega (arith, away, at_most, level_negated table lit))))
]
