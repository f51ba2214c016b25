-- The words of watch lists and those of derivations say the same of a clause.
use Rattle.std.proofs.Common.{◌≡◌, ◌≢◌, ℕ, Bool, true, false, eqb, ◌==◌, List, [], ◌∷◌, refl, sym, ap, ◌∙◌, inl, inr, ◌⊎◌, arith}
use Rattle.std.specs.List.{list_all}
use Rattle.cnf_core.specs.Literal.{negated}
use Rattle.derivation.specs.Propagation.{not_false, effect_by, effect_of}
use Rattle.derivation.specs.declared.effect.Effect.TheVariants.{Conflicts, Forces, Fails}
use Rattle.cnf_core.specs.Trues.{is_true}
use Rattle.sat_watch.specs.Literals.{has}
use Rattle.sat_watch.specs.Propagation.{IsFalse, Forces as ForcesLit, IsQuiet}

pub tested : (b : Bool) → (b ≡ true) ⊎ (b ≡ false)
tested true = inl refl
tested false = inr refl

-- exactly the literals that are not false are left
pub kept : (trues clause : List ℕ) (lit : ℕ) → has clause lit ≡ true → is_true trues (negated lit) ≡ false → has (not_false trues clause) lit ≡ true
kept trues [] lit h n = h
kept trues (x ∷ xs) lit h n = elim (tested (eqb x lit)) [
  | inl same ↦ let e : x ≡ lit = grind (arith, same) in
      let f : is_true trues (negated x) ≡ false = ap (λ k. is_true trues (negated k)) e ∙ n in rw f (grind (arith, same))
  | inr other ↦ let rest : has (not_false trues xs) lit ≡ true = kept trues xs lit (grind (arith, h, other)) n in
      elim (tested (is_true trues (negated x))) [ inl f ↦ rw f rest | inr t ↦ rw t (grind (arith, rest)) ]
]

pub was : (trues clause : List ℕ) (lit : ℕ) → has (not_false trues clause) lit ≡ true → (has clause lit ≡ true) × (is_true trues (negated lit) ≡ false)
was trues [] lit h = absurd (grind (arith, h))
was trues (x ∷ xs) lit h = elim (tested (is_true trues (negated x))) [
  | inl f ↦ let p = was trues xs lit (rw f at h) in (grind (arith, p.0), p.1)
  | inr t ↦ let g : has (x ∷ not_false trues xs) lit ≡ true = rw t at h in
      elim (tested (eqb x lit)) [
        | inl same ↦ let e : x ≡ lit = grind (arith, same) in (grind (arith, same), ap (λ k. is_true trues (negated k)) (sym e) ∙ t)
        | inr other ↦ let p = was trues xs lit (grind (arith, g, other)) in (grind (arith, p.0), p.1)
      ]
]

pub front_has : (x : ℕ) (xs : List ℕ) → has (x ∷ xs) x ≡ true
front_has x xs = grind arith

pub rest_has : (x y : ℕ) (xs : List ℕ) → has (x ∷ xs) y ≡ true → eqb x y ≡ false → has xs y ≡ true
rest_has x y xs h n = grind (arith, h, n)

pub equal : (a b : ℕ) → eqb a b ≡ true → a ≡ b
equal a b h = grind (arith, h)

pub all_are : (lits : List ℕ) (lit other : ℕ) → list_all (λ x. x == lit) lits ≡ true → has lits other ≡ true → other ≡ lit
all_are [] lit other a h = absurd (grind (arith, h))
all_are (x ∷ xs) lit other a h = grind (arith, all_are xs lit other, a, h)

pub are_all : (lits : List ℕ) (lit : ℕ) → ((x : ℕ) → has lits x ≡ true → x ≡ lit) → list_all (λ x. x == lit) lits ≡ true
are_all [] lit h = refl
are_all (x ∷ xs) lit h = grind (arith, h x, are_all xs lit (λ y m. h y (grind (arith, m))))

-- a false clause is the conflict
pub effect_false : (trues clause : List ℕ) → IsFalse trues clause → effect_of trues clause ≡ Conflicts
effect_false trues clause f = go (not_false trues clause) (λ lit h. let p = was trues clause lit h in let both : true ≡ false = sym (f lit p.0) ∙ p.1 in cc)
  where
    go : (left : List ℕ) → ((lit : ℕ) → has left lit ≡ true → ⊥) → effect_by trues left ≡ Conflicts
    go [] h = refl
    go (x ∷ xs) h = absurd (h x (grind arith))

-- a clause that forces a literal does
pub effect_forces : (trues clause : List ℕ) (lit : ℕ) → ForcesLit trues clause lit → effect_of trues clause ≡ Forces lit
effect_forces trues clause lit f =
    go (not_false trues clause) (kept trues clause lit f.inside f.unset.1)
    (λ x h. elim (tested (eqb x lit)) [
      | inl same ↦ grind (arith, same)
      | inr other ↦ let p = was trues clause x h in absurd (let d : x ≢ lit = λ q. grind (arith, other, q) in let both : true ≡ false = sym (f.others x p.0 d) ∙ p.1 in cc)
    ])
  where
    go : (left : List ℕ) → has left lit ≡ true → ((x : ℕ) → has left x ≡ true → x ≡ lit) → effect_by trues left ≡ Forces lit
    go [] i h = absurd (grind (arith, i))
    go (x ∷ xs) i h =
        let e : x ≡ lit = h x (grind arith) in
        let a : list_all (λ y. y == x) xs ≡ true = are_all xs x (λ y m. h y (grind (arith, m)) ∙ sym e) in
        let u : is_true trues x ≡ false = ap (is_true trues) e ∙ f.unset.0 in
        rw (a, u) (ap Forces e)

-- a quiet clause does nothing
pub effect_quiet : (trues clause : List ℕ) → IsQuiet trues clause → effect_of trues clause ≡ Fails
effect_quiet trues clause q = go (not_false trues clause) refl
  where
    go : (left : List ℕ) → left ≡ not_false trues clause → effect_by trues left ≡ Fails
    go [] e = absurd (q.not_false (λ lit h. elim (tested (is_true trues (negated lit))) [
      | inl f ↦ f
      | inr n ↦ absurd (let k : has [] lit ≡ true = ap (λ xs. has xs lit) e ∙ kept trues clause lit h n in grind (arith, k))
    ]))
    go (x ∷ xs) e = elim (tested (list_all (λ y. y == x) xs)) [
      | inl all ↦ elim (tested (is_true trues x)) [
        | inl made ↦ rw (all, made) refl
        | inr unset ↦ absurd (
            let p = was trues clause x (ap (λ ys. has ys x) (sym e) ∙ front_has x xs) in
            q.not_unit x (record {
              inside = p.0;
              unset = (unset, p.1);
              others = λ other h d. elim (tested (is_true trues (negated other))) [
                | inl f ↦ f
                | inr n ↦ absurd (d (
                    let k : has (x ∷ xs) other ≡ true = ap (λ ys. has ys other) e ∙ kept trues clause other h n in
                    elim (tested (eqb x other)) [ inl same ↦ sym (equal x other same) | inr away ↦ all_are xs x other all (rest_has x other xs k away) ]))
              ];
            }))
      ]
      | inr some ↦ rw some refl
    ]
