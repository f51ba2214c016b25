-- New inputs behind others.
use Rattle.std.proofs.Common.{◌≡◌, ℕ, ◌+◌, ◌-◌, ◌<◌, ◌≤◌, Bool, true, false, List, ◌++◌, length, get_or, sym, subst, ap, ◌∙◌, arith, inl, inr, length-append}
use Rattle.std.proofs.lemmas.Bool.{cases_lt}
use Rattle.std.proofs.lemmas.List.{get_or_append_left, get_or-append_right}
use Rattle.std.proofs.lemmas.List.Elements.{All-append}
use Rattle.std.proofs.lemmas.Option.{slice_get_within}
use Rattle.gate_core.specs.declared.circuit.Node.{Node}
use Rattle.gate_core.specs.declared.circuit.Node.TheVariants.{Input}
use Rattle.gate_core.specs.Circuit.{value, IsOf}
use Rattle.gate_core.proofs.Values.{keeps_twice, all_more, value_decided}
use Rattle.rel_gates.specs.Naming.{ShowsAll, IsOwn, AreInputs}
use Rattle.rel_gates.proofs.Fresh.{own_kept}

pub inputs_both : (old middle new : List Node) (n k : ℕ) (free : ℕ → Bool) (xs ys : List ℕ) → AreInputs old middle n free xs → AreInputs middle new k (λ j. free (n + j)) ys
    → AreInputs old new (n + k) free (xs ++ ys)
inputs_both old middle new n k free xs ys first second = record {
  keeps = keeps_twice old middle new first.keeps second.keeps;
  of = All-append (IsOf new) xs ys (all_more middle new xs second.keeps first.of) second.of;
  wide = length-append xs ys ∙ omega (arith, first.wide, second.wide);
  constant = λ j within none.
      elim (cases_lt j n) [
        | inl below ↦ left j below ∙ first.constant j below none
        | inr past ↦ right j past ∙ second.constant (j - n) (omega (arith, within, past)) (again j past false none)
      ];
  own = λ j within its.
      elim (cases_lt j n) [
        | inl below ↦ subst (IsOwn old new) (sym (left j below)) (own_kept old middle new (get_or xs j 0) second.keeps (first.own j below its))
        | inr past ↦ subst (IsOwn old new) (sym (right j past)) (own_later (get_or ys (j - n) 0) (second.own (j - n) (omega (arith, within, past)) (again j past true its)))
      ];
  apart = apart;
  shown = shown;
}
  where
    left : (j : ℕ) → j < n → get_or (xs ++ ys) j 0 ≡ get_or xs j 0
    left j below = get_or_append_left xs ys 0 j (omega (arith, below, first.wide))

    right : (j : ℕ) → n ≤ j → get_or (xs ++ ys) j 0 ≡ get_or ys (j - n) 0
    right j past = get_or-append_right xs ys n j 0 first.wide past

    again : (j : ℕ) → n ≤ j → (b : Bool) → free j ≡ b → free (n + (j - n)) ≡ b
    again j past b is = (let same : n + (j - n) ≡ j = omega (arith, past) in ap free same ∙ is)

    longer : length old ≤ length middle
    longer = omega (arith, ap length first.keeps.behind, length-append old first.keeps.more)

    own_later : (gate : ℕ) → IsOwn middle new gate → IsOwn old new gate
    own_later gate own = record { place = own.place; is = own.is; input = own.input; fresh = omega (arith, longer, own.fresh) }

    apart : (i j : ℕ) → i < j → j < n + k → free i ≡ true → free j ≡ true → get_or (xs ++ ys) i 0 < get_or (xs ++ ys) j 0
    apart i j less within its other =
        elim (cases_lt j n) [
          | inl below ↦ (let both = first.apart i j less below its other in omega (arith, both, left i (omega (arith, less, below)), left j below))
          | inr past ↦ elim (cases_lt i n) [
            | inl under ↦
                let one = first.own i under its in
                let two = second.own (j - n) (omega (arith, within, past)) (again j past true other) in
                let inside : one.place < length middle = slice_get_within middle one.place Input one.input in
                omega (arith, left i under, right j past, one.is, two.is, inside, two.fresh)
            | inr behind ↦
                let both = second.apart (i - n) (j - n) (omega (arith, less, behind)) (omega (arith, within, past)) (again i behind true its) (again j past true other) in
                omega (arith, both, right i behind, right j past)
          ]
        ]

    shown : (before wanted : ℕ → Bool) → ((j : ℕ) → j < n + k → free j ≡ false → wanted j ≡ false) → ShowsAll old new before wanted (n + k) (xs ++ ys)
    shown before wanted meets =
        let one = first.shown before wanted (λ j below. meets j (omega (arith, below))) in
        let two = second.shown one.inputs (λ j. wanted (n + j)) (λ j below. meets (n + j) (omega (arith, below))) in
        record {
          inputs = two.inputs;
          same = λ place inside. two.same place (omega (arith, inside, longer)) ∙ one.same place inside;
          values = λ j within.
              elim (cases_lt j n) [
                | inl below ↦
                    let is_of : IsOf middle (get_or xs j 0) = first.of j 0 (omega (arith, below, first.wide)) in
                    ap (value two.inputs new) (left j below)
                    ∙ second.keeps.values two.inputs (get_or xs j 0) is_of
                    ∙ value_decided middle (get_or xs j 0) two.inputs one.inputs (λ place at stands. two.same place (omega (arith, is_of, at)))
                    ∙ one.values j below
                | inr past ↦
                    let same : n + (j - n) ≡ j = omega (arith, past) in
                    ap (value two.inputs new) (right j past) ∙ two.values (j - n) (omega (arith, within, past)) ∙ ap wanted same
              ];
        }
