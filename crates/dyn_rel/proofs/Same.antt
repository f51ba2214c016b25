-- Formulas that say of relations, one after the other, that they are the same at two indices.
use Rattle.std.proofs.Common.{◌≡◌, ℕ, ◌+◌, ◌<◌, Bool, true, ◌&&◌, List, [], ◌∷◌, ◌++◌, inl, inr, refl, sym, ◌∙◌, ap, subst, arith, get_or}
use Rattle.std.specs.Prelude.{slice_get}
use Rattle.std.specs.List.{list_all}
use Rattle.std.proofs.lemmas.Bool.{cases_eq, and_parts, and_from}
use Rattle.taco_unit.specs.declared.kind.Kind.{Kind}
use Rattle.heap_core.specs.Posed.{Posed}
use Rattle.rel_core.specs.declared.formula.Formula.{Formula}
use Rattle.rel_core.specs.declared.relation.What.{What}
use Rattle.rel_core.specs.Reading.{Reading}
use Rattle.rel_core.specs.Meaning.{holds}
use Rattle.rel_core.specs.Uses.{IsOf, is_sorted}
use Rattle.dyn_steps.specs.Agreeing.{IsAlike}
use Rattle.dyn_steps.proofs.Growing.{all_more}
use Rattle.dyn_rel.specs.Joining.{SaysOne, SaysSame}

pub record SameBelow (p : Posed) (kinds : List Kind) (w : ℕ → What) (inside : ℕ → Bool) (to from : List ℕ) (n : ℕ) (parts : List Formula) : Type 0 where
  pub sorted : list_all (is_sorted p (slice_get kinds)) parts ≡ true
  pub alike :
      (m : Reading) → IsOf p (slice_get kinds) m → list_all (λ a. holds a m) parts ≡ true
      → (x : ℕ) → x < n → inside x ≡ true → IsAlike m (record { what = w x; index = get_or from x 0 }) m (record { what = w x; index = get_or to x 0 })
  pub back :
      (m : Reading) → IsOf p (slice_get kinds) m
      → ((x : ℕ) → x < n → inside x ≡ true → IsAlike m (record { what = w x; index = get_or from x 0 }) m (record { what = w x; index = get_or to x 0 }))
      → list_all (λ a. holds a m) parts ≡ true

pub same_none : (p : Posed) (kinds : List Kind) (w : ℕ → What) (inside : ℕ → Bool) (to from : List ℕ) → SameBelow p kinds w inside to from 0 []
same_none p kinds w inside to from = record { sorted = refl; alike = λ m of all x low is. absurd (omega (arith, low)); back = λ m of each. refl }

pub same_empty : (p : Posed) (kinds : List Kind) (w : ℕ → What) (inside : ℕ → Bool) (to from : List ℕ) (xs : List Formula) → xs ≡ [] → SameBelow p kinds w inside to from 0 xs
same_empty p kinds w inside to from xs is = subst (λ ys. SameBelow p kinds w inside to from 0 ys) (sym is) (same_none p kinds w inside to from)

pub same_more :
    (p : Posed) (kinds : List Kind) (w : ℕ → What) (inside : ℕ → Bool) (to from : List ℕ) (n : ℕ) (xs ys : List Formula) (a f : Formula) (so : Bool) (v : What) (new old : ℕ)
    → so ≡ inside n → v ≡ w n → new ≡ get_or to n 0 → old ≡ get_or from n 0 → a ≡ f → ys ≡ xs ++ a ∷ []
    → SaysOne p kinds so v new old f
    → SameBelow p kinds w inside to from n xs
    → SameBelow p kinds w inside to from (n + 1) ys
same_more p kinds w inside to from n xs ys a f so v new old so_is v_is new_is old_is a_is is one before = record {
  sorted = ap (list_all (is_sorted p (slice_get kinds))) is ∙ all_more (is_sorted p (slice_get kinds)) xs a
      ∙ and_from (list_all (is_sorted p (slice_get kinds)) xs) (is_sorted p (slice_get kinds) a) before.sorted (ap (is_sorted p (slice_get kinds)) a_is ∙ one.sorted);
  alike = λ m of all x low is_in.
      let both = and_parts (list_all (λ b. holds b m) xs) (holds a m) (sym (split m) ∙ all) in
      elim (cases_eq x n) [
        | inl same ↦
            let here : IsAlike m (record { what = v; index = old }) m (record { what = v; index = new }) =
            (one.meaning m of).0 (sym (ap (λ b. holds b m) a_is) ∙ both.1) (so_is ∙ ap inside (sym same) ∙ is_in)
            in
            subst (λ z. IsAlike m (record { what = w z; index = get_or from z 0 }) m (record { what = w z; index = get_or to z 0 })) (sym same) (moved m here)
        | inr other ↦ before.alike m of both.0 x (omega (arith, low, other)) is_in
      ];
  back = λ m of each.
      split m ∙ and_from (list_all (λ b. holds b m) xs) (holds a m) (before.back m of (λ x low is_in. each x (omega (arith, low)) is_in))
      (ap (λ b. holds b m) a_is ∙ (one.meaning m of).1 (λ is_so. unmoved m (each n (omega arith) (sym so_is ∙ is_so))));
}
  where
    split : (m : Reading) → list_all (λ b. holds b m) ys ≡ (list_all (λ b. holds b m) xs && holds a m)
    split m = ap (list_all (λ b. holds b m)) is ∙ all_more (λ b. holds b m) xs a

    moved : (m : Reading) → IsAlike m (record { what = v; index = old }) m (record { what = v; index = new })
        → IsAlike m (record { what = w n; index = get_or from n 0 }) m (record { what = w n; index = get_or to n 0 })
    moved m here =
        subst (λ i. IsAlike m (record { what = w n; index = get_or from n 0 }) m (record { what = w n; index = i })) new_is
        (subst (λ i. IsAlike m (record { what = w n; index = i }) m (record { what = w n; index = new })) old_is
        (subst (λ z. IsAlike m (record { what = z; index = old }) m (record { what = z; index = new })) v_is here))

    unmoved : (m : Reading) → IsAlike m (record { what = w n; index = get_or from n 0 }) m (record { what = w n; index = get_or to n 0 })
        → IsAlike m (record { what = v; index = old }) m (record { what = v; index = new })
    unmoved m here =
        subst (λ i. IsAlike m (record { what = v; index = old }) m (record { what = v; index = i })) (sym new_is)
        (subst (λ i. IsAlike m (record { what = v; index = i }) m (record { what = v; index = get_or to n 0 })) (sym old_is)
        (subst (λ z. IsAlike m (record { what = z; index = get_or from n 0 }) m (record { what = z; index = get_or to n 0 })) (sym v_is) here))

pub same_said :
    (p : Posed) (kinds : List Kind) (w : ℕ → What) (inside : ℕ → Bool) (to from : List ℕ) (n : ℕ) (parts : List Formula) (f : Formula)
    → ((m : Reading) → holds f m ≡ list_all (λ a. holds a m) parts)
    → (list_all (is_sorted p (slice_get kinds)) parts ≡ true → is_sorted p (slice_get kinds) f ≡ true)
    → (k : ℕ)
    → n ≡ k
    → SameBelow p kinds w inside to from n parts
    → SaysSame p kinds w inside to from k f
same_said p kinds w inside to from n parts f meaning sorted k is same = subst (λ i. SaysSame p kinds w inside to from i f) is (record {
  sorted = sorted same.sorted;
  meaning = λ m of. (λ holds_here. same.alike m of (sym (meaning m) ∙ holds_here), λ each. meaning m ∙ same.back m of each);
})
