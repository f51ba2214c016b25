-- Lists of literals and their negations.
use Rattle.std.proofs.Common.{◌≡◌, ◌≢◌, ℕ, ◌/◌, true, false, eqb, List, [], ◌∷◌, ◌++◌, map, refl, sym, ap, ◌∙◌, subst, inl, inr, arith}
use Rattle.std.specs.List.{list_any}
use Rattle.cnf_core.specs.Literal.{negated}
use Rattle.derivation.specs.Propagation.{once}
use Rattle.cnf_core.specs.Trues.{is_true}
use Rattle.sat_watch.specs.Literals.{has, EachOnce, AreApart}
use Rattle.sat_watch.proofs.LiteralLemmas.{tested, equal, unequal, negated-negated, same_half}
use Rattle.sat_watch.proofs.ThreadLemmas.{has-append}
use Rattle.sat_watch.proofs.VisitLemmas.{apart_both}

pub once_push : (xs : List ℕ) (x : ℕ) → EachOnce xs → has xs x ≡ false → EachOnce (xs ++ x ∷ [])
once_push [] x o n = (refl, tt)
once_push (y ∷ ys) x o n =
    let other : eqb y x ≡ false = grind (arith, n) in
    let d : x ≢ y = λ q. unequal y x other (sym q) in
    let back : eqb x y ≡ false = grind (arith, d) in
    (has-append ys (x ∷ []) y ∙ grind (arith, o.0, back), once_push ys x o.1 (grind (arith, n)))

-- the negations of literals have a literal exactly where these have its negation
pub negated_has : (lits : List ℕ) (lit : ℕ) → is_true (map negated lits) lit ≡ has lits (negated lit)
negated_has [] lit = refl
negated_has (x ∷ xs) lit = elim (tested (eqb (negated x) lit)) [
  | inl same ↦
      let e : x ≡ negated lit = sym (negated-negated x) ∙ ap negated (equal (negated x) lit same) in
      let here : eqb x (negated lit) ≡ true = grind (arith, e) in rw (same, here) refl
  | inr other ↦
      let d : x ≢ negated lit = λ q. unequal (negated x) lit other (ap negated q ∙ negated-negated lit) in
      let away : eqb x (negated lit) ≡ false = grind (arith, d) in rw (other, away) (negated_has xs lit)
]

-- Each literal of the list is false.
abbrev pub AreFalse : List ℕ → List ℕ → Type 0
AreFalse trues lits = (lit : ℕ) → has lits lit ≡ true → is_true trues (negated lit) ≡ true

-- literals that are false, each once, are of different variables
pub once_false : (trues lits : List ℕ) → AreApart trues → EachOnce lits → AreFalse trues lits → once lits ≡ true
once_false trues [] a o f = refl
once_false trues (x ∷ xs) a o f =
    let none : list_any (λ other. eqb (other / 2) (x / 2)) xs ≡ false = apart xs o.0 (λ lit h. f lit (grind (arith, h))) in
    rw none (once_false trues xs a o.1 (λ lit h. f lit (grind (arith, h))))
  where
    apart : (ys : List ℕ) → has ys x ≡ false → AreFalse trues ys → list_any (λ other. eqb (other / 2) (x / 2)) ys ≡ false
    apart [] n g = refl
    apart (y ∷ ys) n g = elim (tested (eqb (y / 2) (x / 2))) [
      | inl same ↦ elim (same_half y x (equal (y / 2) (x / 2) same)) [
        | inl e ↦ absurd (let q : eqb y x ≡ false = grind (arith, n) in unequal y x q e)
        | inr e ↦ absurd (
            let y_false : is_true trues (negated y) ≡ true = g y (grind arith) in
            let x_false : is_true trues (negated x) ≡ true = f x (grind arith) in
            apart_both trues (negated x) a x_false (subst (λ k. is_true trues (negated k) ≡ true) e y_false))
      ]
      | inr other ↦ rw other (apart ys (grind (arith, n)) (λ lit h. g lit (grind (arith, h))))
    ]
