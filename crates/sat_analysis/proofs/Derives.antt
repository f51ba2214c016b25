-- Hints are gathered backwards: from the conflict over the reasons to the clause that is learnt.
use Rattle.std.proofs.Common.{◌≡◌, ◌≢◌, ℕ, true, false, ◌||◌, List, [], ◌∷◌, ◌++◌, refl, sym, ap, ◌∙◌, inl, inr, arith}
use Rattle.std.proofs.lemmas.Bool.{or_left, or_right, or_cases, false_from_ne_true}
use Rattle.cnf_core.specs.Literal.{negated}
use Rattle.derivation.specs.Propagation.{ends, effect_of, hinted, is_hint}
use Rattle.derivation.specs.declared.effect.Effect.TheVariants.{Conflicts, Forces}
use Rattle.cnf_core.specs.Trues.{is_true}
use Rattle.sat_watch.specs.Literals.{has}
use Rattle.sat_watch.specs.Propagation.{IsFalse, Forces as ForcesLit}
use Rattle.sat_watch.proofs.LiteralLemmas.{equal, negated-negated, is_true-append}
use Rattle.sat_analysis.specs.Reasons.{IsNumberOf, Derives}
use Rattle.sat_analysis.proofs.Bridge.{effect_false, effect_forces}

-- the step of a conflict, and of a reason
pub ends_there : (known : List (List ℕ)) (number : ℕ) (trues : List ℕ) → is_hint known number ≡ true → effect_of trues (hinted known number) ≡ Conflicts → ends known (number ∷ []) trues ≡ true
ends_there known number trues h e = rw (h, e) refl

pub ends_after : (known : List (List ℕ)) (number lit : ℕ) (hints trues : List ℕ) → is_hint known number ≡ true → effect_of trues (hinted known number) ≡ Forces lit
    → ends known hints (trues ++ lit ∷ []) ≡ true → ends known (number ∷ hints) trues ≡ true
ends_after known number lit hints trues h e f = rw (h, e) f

-- the conflict, whose literals are all marked
pub derives_first : (known : List (List ℕ)) (clause : List ℕ) (number : ℕ) (marks trues : List ℕ) → IsNumberOf known clause number
    → ((lit : ℕ) → has clause lit ≡ true → has marks lit ≡ true) → IsFalse trues clause → Derives known marks (number ∷ []) trues
derives_first known clause number marks trues n m f part w p =
    ends_there known number part n.hint
    (effect_false part (hinted known number) (λ lit h. let inside : has clause lit ≡ true = sym (n.same lit) ∙ h in p lit (m lit inside) (f lit inside)))

-- a reason that forces the last literal, whose other literals are all marked now
pub derives_step : (known : List (List ℕ)) (clause : List ℕ) (number lit : ℕ) (hints marks marks' front : List ℕ) → IsNumberOf known clause number → ForcesLit front clause lit
    → ((x : ℕ) → has marks x ≡ true → has marks' x ≡ true) → ((x : ℕ) → has clause x ≡ true → x ≢ lit → has marks' x ≡ true)
    → Derives known marks hints (front ++ lit ∷ []) → Derives known marks' (number ∷ hints) front
derives_step known clause number lit hints marks marks' front n f more all d part w p =
    let fewer : (x : ℕ) → is_true front x ≡ false → is_true part x ≡ false = λ x off. false_from_ne_true (is_true part x) (λ on. let both : true ≡ false = sym (w x on) ∙ off in cc) in
    let forces : ForcesLit part (hinted known number) lit = record {
      inside = n.same lit ∙ f.inside;
      unset = (fewer lit f.unset.0, fewer (negated lit) f.unset.1);
      others = λ other h away. let inside : has clause other ≡ true = sym (n.same other) ∙ h in p other (all other inside away) (f.others other inside away);
    } in
    ends_after known number lit hints part n.hint (effect_forces part (hinted known number) lit forces)
    (d (part ++ lit ∷ [])
    (λ x h. let h' : (is_true part x || is_true (lit ∷ []) x) ≡ true = sym (is_true-append part (lit ∷ []) x) ∙ h in
    is_true-append front (lit ∷ []) x ∙ elim (or_cases (is_true part x) (is_true (lit ∷ []) x) h') [ inl a ↦ or_left (is_true front x) _ (w x a) | inr b ↦ or_right (is_true front x) _ b ])
    (λ x marked h. let h' : (is_true front (negated x) || is_true (lit ∷ []) (negated x)) ≡ true = sym (is_true-append front (lit ∷ []) (negated x)) ∙ h in
    is_true-append part (lit ∷ []) (negated x)
    ∙ elim (or_cases (is_true front (negated x)) (is_true (lit ∷ []) (negated x)) h') [ inl a ↦ or_left (is_true part (negated x)) _ (p x (more x marked) a) | inr b ↦ or_right (is_true part (negated x)) _ b ]))

-- the last literal does not matter
pub derives_skip : (known : List (List ℕ)) (lit : ℕ) (hints marks front : List ℕ) → has marks (negated lit) ≡ false → Derives known marks hints (front ++ lit ∷ []) → Derives known marks hints front
derives_skip known lit hints marks front n d part w p =
    d part (λ x h. is_true-append front (lit ∷ []) x ∙ or_left (is_true front x) _ (w x h))
    (λ x marked h. let h' : (is_true front (negated x) || is_true (lit ∷ []) (negated x)) ≡ true = sym (is_true-append front (lit ∷ []) (negated x)) ∙ h in
    elim (or_cases (is_true front (negated x)) (is_true (lit ∷ []) (negated x)) h') [
      | inl a ↦ p x marked a
      | inr b ↦ absurd (
          let e : lit ≡ negated x = equal lit (negated x) (grind (arith, b)) in
          let off : has marks x ≡ false = ap (has marks) (sym (negated-negated x) ∙ ap negated (sym e)) ∙ n in
          let both : true ≡ false = sym marked ∙ off in cc)
    ])
