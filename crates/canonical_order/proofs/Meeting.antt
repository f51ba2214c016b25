-- The objects are met in number order exactly where their first places rise.
use Rattle.std.proofs.Common.{◌≡◌, ◌≢◌, ℕ, ◌+◌, ◌<◌, ◌≤◌, true, false, List, [], ◌∷◌, ◌++◌, length, Some, None, refl, sym, ◌∙◌, ap, subst, inl, inr, arith, get_or, append_assoc}
use Rattle.std.proofs.lemmas.Bool.{cases_lt, cases_eq, false≢true, eq-eqb, lt-ltb, le-ltb, ne_eqb}
use Rattle.std.proofs.lemmas.List.{length-append}
use Rattle.std.proofs.lemmas.List.Sums.{fails_before_first, passes_at_first}
use Rattle.heap_core.specs.declared.value.Value.{Value}
use Rattle.heap_core.specs.declared.value.Value.TheVariants.{Null, Obj, Num, Flag}
use Rattle.heap_core.specs.Outcomes.{is_object}
use Rattle.canonical_order.specs.Canonical.{first_place}
use Rattle.canonical_order.specs.Meeting.{met, met_all}
use Rattle.canonical_order.proofs.Rising.{rises_over}

-- what stands behind a first part
behind : (us ws : List Value) (w : Value) → get_or (us ++ w ∷ ws) (length us) Null ≡ w
behind [] ws w = refl
behind (u ∷ us) ws w = behind us ws w

-- an object that stands behind the first part has its first place there or before
at_most : (us ws : List Value) (o : ℕ) → first_place (us ++ Obj o ∷ ws) o ≤ length us
at_most us ws o =
    elim (cases_lt (length us) (first_place (us ++ Obj o ∷ ws) o)) [
      | inl later ↦
          let fails : is_object o (get_or (us ++ Obj o ∷ ws) (length us) Null) ≡ false = fails_before_first (is_object o) (us ++ Obj o ∷ ws) (length us) Null later in
          absurd (false≢true (sym fails ∙ ap (is_object o) (behind us ws (Obj o)) ∙ eq-eqb o o refl))
      | inr here ↦ here
    ]

-- an object whose first place is not before another value has it behind that value
further : (us ws : List Value) (w : Value) (o : ℕ) → is_object o w ≡ false → length us ≤ first_place (us ++ w ∷ ws) o → length us + 1 ≤ first_place (us ++ w ∷ ws) o
further us ws w o not_it above =
    elim (cases_eq (first_place (us ++ w ∷ ws) o) (length us)) [
      | inl same ↦
          let inside : first_place (us ++ w ∷ ws) o < length (us ++ w ∷ ws) = omega (arith, same, length-append us (w ∷ ws)) in
          let passes : is_object o (get_or (us ++ w ∷ ws) (first_place (us ++ w ∷ ws) o) Null) ≡ true = passes_at_first (is_object o) (us ++ w ∷ ws) Null inside in
          absurd (false≢true (sym not_it ∙ ap (is_object o) (sym (behind us ws w)) ∙ ap (λ i. is_object o (get_or (us ++ w ∷ ws) i Null)) (sym same) ∙ passes))
      | inr apart ↦ omega (arith, above, apart)
    ]

-- the first part of the places was gone through, and of the objects below n those below k were met there, in
-- number order
pub record IsMet (n : ℕ) (vs : List Value) (i k : ℕ) : Type 0 where
  pub within : k ≤ n
  pub below : (o : ℕ) → o < k → first_place vs o < i
  pub above : (o : ℕ) → k ≤ o → o < n → i ≤ first_place vs o
  pub rising : (o : ℕ) → o + 1 < k → first_place vs o < first_place vs (o + 1)

-- over a value that is no object below n above those met
over : (n : ℕ) (us ws : List Value) (w : Value) (k : ℕ) → ((o : ℕ) → k ≤ o → o < n → is_object o w ≡ false) → IsMet n (us ++ w ∷ ws) (length us) k → IsMet n (us ++ w ∷ ws) (length us + 1) k
over n us ws w k none m = record {
  within = m.within;
  below = λ o lt. omega (arith, m.below o lt);
  above = λ o le lt. further us ws w o (none o le lt) (m.above o le lt);
  rising = m.rising;
}

-- over the next object
next : (n : ℕ) (us ws : List Value) (k : ℕ) → k < n → IsMet n (us ++ Obj k ∷ ws) (length us) k → IsMet n (us ++ Obj k ∷ ws) (length us + 1) (k + 1)
next n us ws k small m = record {
  within = omega arith;
  below = λ o lt. elim (cases_lt o k) [
    | inl old ↦ omega (arith, m.below o old)
    | inr new ↦
        let same : o ≡ k = omega (arith, lt, new) in
        omega (arith, at_most us ws k, ap (first_place (us ++ Obj k ∷ ws)) same)
  ];
  above = λ o le lt. further us ws (Obj k) o (ne_eqb o k (λ same. omega (arith, le, same))) (m.above o (omega (arith, le)) lt);
  rising = λ o lt. elim (cases_lt (o + 1) k) [
    | inl old ↦ m.rising o old
    | inr new ↦
        let same : o + 1 ≡ k = omega (arith, lt, new) in
        omega (arith, m.below o (omega (arith, same)), m.above k (omega arith) small, ap (first_place (us ++ Obj k ∷ ws)) same)
  ];
}

-- the same, where the first part takes the value to it
longer : (n : ℕ) (vs us ws : List Value) (w : Value) (k : ℕ) → us ++ w ∷ ws ≡ vs → IsMet n (us ++ w ∷ ws) (length us + 1) k → IsMet n vs (length (us ++ w ∷ [])) k
longer n vs us ws w k split m =
    let long : length us + 1 ≡ length (us ++ w ∷ []) = omega (arith, length-append us (w ∷ [])) in
    subst (λ i. IsMet n vs i k) long (subst (λ z. IsMet n z (length us + 1) k) split m)

parts : (us ws vs : List Value) (w : Value) → us ++ w ∷ ws ≡ vs → (us ++ w ∷ []) ++ ws ≡ vs
parts us ws vs w split = append_assoc us (w ∷ []) ws ∙ split

step_over : (n : ℕ) (vs us ws : List Value) (w : Value) (k : ℕ) → us ++ w ∷ ws ≡ vs → ((o : ℕ) → k ≤ o → o < n → is_object o w ≡ false) → IsMet n vs (length us) k → IsMet n vs (length (us ++ w ∷ [])) k
step_over n vs us ws w k split none m =
    longer n vs us ws w k split (over n us ws w k none (subst (λ z. IsMet n z (length us) k) (sym split) m))

step_next : (n : ℕ) (vs us ws : List Value) (k : ℕ) → us ++ Obj k ∷ ws ≡ vs → k < n → IsMet n vs (length us) k → IsMet n vs (length (us ++ Obj k ∷ [])) (k + 1)
step_next n vs us ws k split small m =
    longer n vs us ws (Obj k) (k + 1) split (next n us ws k small (subst (λ z. IsMet n z (length us) k) (sym split) m))

-- ## what meeting an object gives

met_old : (n k o : ℕ) → o < k → met n (Some k) (Obj o) ≡ Some k
met_old n k o old = rw (lt-ltb o k old) refl

met_beyond : (n k o : ℕ) → k ≤ o → n ≤ o → met n (Some k) (Obj o) ≡ Some k
met_beyond n k o le beyond = rw (le-ltb o k le, le-ltb o n beyond) refl

met_next : (n k : ℕ) → k < n → met n (Some k) (Obj k) ≡ Some (k + 1)
met_next n k small = rw (le-ltb k k (omega arith), lt-ltb k n small, eq-eqb k k refl) refl

met_early : (n k o : ℕ) → k < o → o < n → met n (Some k) (Obj o) ≡ None
met_early n k o early small = rw (le-ltb o k (omega arith), lt-ltb o n small, ne_eqb o k (λ same. omega (arith, early, same))) refl

none_met : (n : ℕ) (ws : List Value) → met_all n None ws ≡ None
none_met n [] = refl
none_met n (w ∷ ws) = none_met n ws

-- where an object stands to those met
data Stands (n k o : ℕ) : Type 0 where
  Old : o < k → Stands n k o
  Beyond : k ≤ o → n ≤ o → Stands n k o
  Next : o ≡ k → k < n → Stands n k o
  Early : k < o → o < n → Stands n k o

stands : (n k o : ℕ) → Stands n k o
stands n k o =
    elim (cases_lt o k) [
      | inl old ↦ Old old
      | inr le ↦
          elim (cases_lt o n) [
            | inl small ↦ elim (cases_eq o k) [ inl same ↦ Next same (omega (arith, small, same)) | inr apart ↦ Early (omega (arith, le, apart)) small ]
            | inr beyond ↦ Beyond le beyond
          ]
    ]

no_other : (k o q : ℕ) → q ≢ o → is_object q (Obj o) ≡ false
no_other k o q apart = ne_eqb q o apart

-- ## met in order, the first places rise

pub met_rises : (n : ℕ) (vs us ws : List Value) (k : ℕ) → us ++ ws ≡ vs → IsMet n vs (length us) k → met_all n (Some k) ws ≡ Some n → (o : ℕ) → o + 1 < n → first_place vs o < first_place vs (o + 1)
met_rises n vs us [] k split m is o lt =
    let same : k ≡ n = cc in
    m.rising o (omega (arith, same, lt))
met_rises n vs us (Obj q ∷ ws) k split m is o lt =
    elim (stands n k q) [
      | Old old ↦
          met_rises n vs (us ++ Obj q ∷ []) ws k (parts us ws vs (Obj q) split) (step_over n vs us ws (Obj q) k split (λ p le small. no_other k q p (λ same. omega (arith, old, le, same))) m) (ap (λ x. met_all n x ws) (sym (met_old n k q old)) ∙ is) o lt
      | Beyond le beyond ↦
          met_rises n vs (us ++ Obj q ∷ []) ws k (parts us ws vs (Obj q) split) (step_over n vs us ws (Obj q) k split (λ p le' small. no_other k q p (λ same. omega (arith, beyond, small, same))) m) (ap (λ x. met_all n x ws) (sym (met_beyond n k q le beyond)) ∙ is) o lt
      | Next same small ↦
          let here : us ++ Obj k ∷ ws ≡ vs = ap (λ x. us ++ Obj x ∷ ws) (sym same) ∙ split in
          met_rises n vs (us ++ Obj k ∷ []) ws (k + 1) (parts us ws vs (Obj k) here) (step_next n vs us ws k here small m) (ap (λ x. met_all n x ws) (sym (met_next n k small)) ∙ ap (λ x. met_all n (met n (Some k) (Obj x)) ws) (sym same) ∙ is) o lt
      | Early early small ↦
          let none : met_all n None ws ≡ Some n = ap (λ x. met_all n x ws) (sym (met_early n k q early small)) ∙ is in
          let never : None ≡ Some n = sym (none_met n ws) ∙ none in
          absurd (cc)
    ]
met_rises n vs us (Null ∷ ws) k split m is o lt =
    met_rises n vs (us ++ Null ∷ []) ws k (parts us ws vs Null split) (step_over n vs us ws Null k split (λ p le small. refl) m) is o lt
met_rises n vs us (Num z ∷ ws) k split m is o lt =
    met_rises n vs (us ++ Num z ∷ []) ws k (parts us ws vs (Num z) split) (step_over n vs us ws (Num z) k split (λ p le small. refl) m) is o lt
met_rises n vs us (Flag b ∷ ws) k split m is o lt =
    met_rises n vs (us ++ Flag b ∷ []) ws k (parts us ws vs (Flag b) split) (step_over n vs us ws (Flag b) k split (λ p le small. refl) m) is o lt

-- ## where the first places rise, all are met in order

pub rises_met : (n : ℕ) (vs us ws : List Value) (k : ℕ) → us ++ ws ≡ vs → IsMet n vs (length us) k → ((o : ℕ) → o + 1 < n → first_place vs o < first_place vs (o + 1)) → ((o : ℕ) → o < n → first_place vs o < length vs) → met_all n (Some k) ws ≡ Some n
rises_met n vs us [] k split m rises there =
    elim (cases_lt k n) [
      | inl less ↦
          let long : length us ≡ length vs = omega (arith, ap length split, length-append us []) in
          absurd (omega (arith, m.above k (omega arith) less, there k less, long))
      | inr most ↦ ap Some (omega (arith, most, m.within))
    ]
rises_met n vs us (Obj q ∷ ws) k split m rises there =
    elim (stands n k q) [
      | Old old ↦
          ap (λ x. met_all n x ws) (met_old n k q old) ∙ rises_met n vs (us ++ Obj q ∷ []) ws k (parts us ws vs (Obj q) split) (step_over n vs us ws (Obj q) k split (λ p le small. no_other k q p (λ same. omega (arith, old, le, same))) m) rises there
      | Beyond le beyond ↦
          ap (λ x. met_all n x ws) (met_beyond n k q le beyond) ∙ rises_met n vs (us ++ Obj q ∷ []) ws k (parts us ws vs (Obj q) split) (step_over n vs us ws (Obj q) k split (λ p le' small. no_other k q p (λ same. omega (arith, beyond, small, same))) m) rises there
      | Next same small ↦
          let here : us ++ Obj k ∷ ws ≡ vs = ap (λ x. us ++ Obj x ∷ ws) (sym same) ∙ split in
          ap (λ x. met_all n (met n (Some k) (Obj x)) ws) same ∙ ap (λ x. met_all n x ws) (met_next n k small) ∙ rises_met n vs (us ++ Obj k ∷ []) ws (k + 1) (parts us ws vs (Obj k) here) (step_next n vs us ws k here small m) rises there
      | Early early small ↦
          let here : first_place vs q ≤ length us = subst (λ z. first_place z q ≤ length us) split (at_most us ws q) in
          absurd (omega (arith, rises_over (first_place vs) n rises k q early small, here, m.above k (omega arith) (omega (arith, early, small))))
    ]
rises_met n vs us (Null ∷ ws) k split m rises there =
    rises_met n vs (us ++ Null ∷ []) ws k (parts us ws vs Null split) (step_over n vs us ws Null k split (λ p le small. refl) m) rises there
rises_met n vs us (Num z ∷ ws) k split m rises there =
    rises_met n vs (us ++ Num z ∷ []) ws k (parts us ws vs (Num z) split) (step_over n vs us ws (Num z) k split (λ p le small. refl) m) rises there
rises_met n vs us (Flag b ∷ ws) k split m rises there =
    rises_met n vs (us ++ Flag b ∷ []) ws k (parts us ws vs (Flag b) split) (step_over n vs us ws (Flag b) k split (λ p le small. refl) m) rises there
