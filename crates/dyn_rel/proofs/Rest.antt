-- Variables that are zero, one after the other.
use Rattle.std.proofs.Common.{◌≡◌, ℕ, ◌+◌, ◌<◌, ◌≤◌, true, ◌&&◌, List, [], ◌∷◌, ◌++◌, length, Some, inl, inr, refl, sym, ◌∙◌, ap, subst, arith}
use Rattle.std.specs.Prelude.{slice_get}
use Rattle.std.specs.List.{list_all}
use Rattle.std.proofs.lemmas.Bool.{cases_eq, and_parts, and_from}
use Rattle.std.proofs.lemmas.Option.{slice_get_within}
use Rattle.taco_unit.specs.declared.kind.Kind.{Kind}
use Rattle.heap_core.specs.Posed.{Posed}
use Rattle.heap_core.specs.Outcomes.{zero_of}
use Rattle.heap_core.proofs.FieldLaws.{some_same}
use Rattle.rel_core.specs.declared.formula.Formula.{Formula}
use Rattle.rel_core.specs.Reading.{Reading}
use Rattle.rel_core.specs.Meaning.{holds}
use Rattle.rel_core.specs.Uses.{IsOf, is_sorted}
use Rattle.rel_core.specs.Shown.{ShowsValue}
use Rattle.dyn_steps.specs.Points.{slot}
use Rattle.dyn_steps.specs.Paths.{HasZero}
use Rattle.dyn_steps.proofs.Growing.{all_more}
use Rattle.dyn_rel.specs.Starts.{SaysRestZero}

-- the same of the variables below a number
abbrev pub AreZero : List Kind → ℕ → ℕ → Reading → Type 0
AreZero kinds from n m = (x : ℕ) (k : Kind) → from ≤ x → x < n → slice_get kinds x ≡ Some k → ShowsValue m k (slot x 0) 0 (zero_of k)

pub record ZeroBelow (p : Posed) (kinds : List Kind) (from n : ℕ) (parts : List Formula) : Type 0 where
  pub sorted : list_all (is_sorted p (slice_get kinds)) parts ≡ true
  pub zeros : (m : Reading) → IsOf p (slice_get kinds) m → list_all (λ a. holds a m) parts ≡ true → AreZero kinds from n m
  pub back : (m : Reading) → IsOf p (slice_get kinds) m → AreZero kinds from n m → list_all (λ a. holds a m) parts ≡ true

pub zero_empty : (p : Posed) (kinds : List Kind) (from n : ℕ) (parts : List Formula) → n ≡ from → parts ≡ [] → ZeroBelow p kinds from n parts
zero_empty p kinds from n parts first is = subst (λ xs. ZeroBelow p kinds from n xs) (sym is) (record {
  sorted = refl;
  zeros = λ m of all x k high low. absurd (omega (arith, high, low, first));
  back = λ m of each. refl;
})

pub zero_more :
    (p : Posed) (kinds : List Kind) (from n x : ℕ) (k : Kind) (parts ys : List Formula) (a f : Formula)
    → from ≤ n
    → slice_get kinds n ≡ Some k
    → x ≡ n → a ≡ f → ys ≡ parts ++ a ∷ []
    → (slice_get kinds x ≡ Some k → HasZero p kinds k x 0 f)
    → ZeroBelow p kinds from n parts
    → ZeroBelow p kinds from (n + 1) ys
zero_more p kinds from n x k parts ys a f past there x_is a_is is said before = record {
  sorted = ap (list_all (is_sorted p (slice_get kinds))) is ∙ all_more (is_sorted p (slice_get kinds)) parts a
      ∙ and_from (list_all (is_sorted p (slice_get kinds)) parts) (is_sorted p (slice_get kinds) a) before.sorted (ap (is_sorted p (slice_get kinds)) a_is ∙ one.sorted);
  zeros = λ m of all y j high low known.
      let both = and_parts (list_all (λ b. holds b m) parts) (holds a m) (sym (split m) ∙ all) in
      elim (cases_eq y n) [
        | inl same ↦
            let here : ShowsValue m k (slot n 0) 0 (zero_of k) = (one.meaning m of).0 (sym (ap (λ b. holds b m) a_is) ∙ both.1) in
            let kind_is : k ≡ j = some_same (sym there ∙ ap (slice_get kinds) (sym same) ∙ known) in
            subst (λ z. ShowsValue m j (slot z 0) 0 (zero_of j)) (sym same) (subst (λ i. ShowsValue m i (slot n 0) 0 (zero_of i)) kind_is here)
        | inr other ↦ before.zeros m of both.0 y j high (omega (arith, low, other)) known
      ];
  back = λ m of each.
      split m ∙ and_from (list_all (λ b. holds b m) parts) (holds a m) (before.back m of (λ y j high low known. each y j high (omega (arith, low)) known))
      (ap (λ b. holds b m) a_is ∙ (one.meaning m of).1 (each n k past (omega arith) there));
}
  where
    one : HasZero p kinds k n 0 f
    one = subst (λ z. HasZero p kinds k z 0 f) x_is (said (ap (slice_get kinds) x_is ∙ there))

    split : (m : Reading) → list_all (λ b. holds b m) ys ≡ (list_all (λ b. holds b m) parts && holds a m)
    split m = ap (list_all (λ b. holds b m)) is ∙ all_more (λ b. holds b m) parts a

pub zero_said :
    (p : Posed) (kinds : List Kind) (from n : ℕ) (parts : List Formula) (f : Formula)
    → length kinds ≤ n
    → ((m : Reading) → holds f m ≡ list_all (λ a. holds a m) parts)
    → (list_all (is_sorted p (slice_get kinds)) parts ≡ true → is_sorted p (slice_get kinds) f ≡ true)
    → ZeroBelow p kinds from n parts
    → SaysRestZero p kinds from f
zero_said p kinds from n parts f all meaning sorted below = record {
  sorted = sorted below.sorted;
  meaning = λ m of. (
    (λ is x k high known. below.zeros m of (sym (meaning m) ∙ is) x k high (let low = slice_get_within kinds x k known in omega (arith, low, all)) known),
    (λ rest. meaning m ∙ below.back m of (λ x k high low known. rest x k high known)),
  );
}
