-- One tuple more.
use Rattle.std.proofs.Common.{◌≡◌, ℕ, ◌+◌, false, [], ◌∷◌, ◌++◌, refl, sym, subst, ◌∙◌, arith, inl, inr}
use Rattle.std.specs.Prelude.{◌==◌}
use Rattle.std.proofs.lemmas.Bool.{cases_Bool, eq-eqb, ne_eqb, false≢true}
use Rattle.tuple_sets.specs.Words.{has}
use Rattle.rel_gates.specs.Naming.{AreInputs}
use Rattle.rel_gates.proofs.Fresh.{no_inputs, input_more, none_more}
use Rattle.rel_gates.proofs.inputs.tuple_inputs.Goals as goal

pub loop-place-init : goal.loop-place-init
loop-place-init c =
    let old = c.args.gates.now in
    let free = λ (j : ℕ). has c.args.upper.now (c.args.first + j) == 1 in
    subst (λ gs. AreInputs old old 0 free gs) (sym c.in_ok-list.ensures.items) (no_inputs old old free refl)

pub loop-place-preserved : goal.loop-place-preserved
loop-place-preserved c =
    let old = c.args.gates.now in
    let middle = c.loop-place.gates in
    let new = c.input_where.new.gates in
    let free = λ (j : ℕ). has c.args.upper.now (c.args.first + j) == 1 in
    let place = c.loop-place.place in
    let gate = c.in_ok-gate.gate in
    let list = c.loop-place.list.items in
    let made : AreInputs old new (place + 1) free (list ++ gate ∷ []) =
    elim (cases_Bool c.has-present.result) [
      | inl there ↦
          let is = c.in_ok-gate.ensures.there there in
          input_more old middle new place free list gate c.loop-place.invariant (eq-eqb (has c.args.upper.now (c.args.first + place)) 1 (c.has-present.ensures.0 there)) is.0 is.1
      | inr absent ↦
          let is = c.in_ok-gate.ensures.none absent in
          let constant = c.in_ok-gate.ensures.constant absent in
          let lacking : free place ≡ false = ne_eqb (has c.args.upper.now (c.args.first + place)) 1 (λ same. absurd (false≢true (sym absent ∙ c.has-present.ensures.1 same))) in
          none_more old new place free list gate (subst (λ ns. AreInputs old ns place free list) (sym is.1) c.loop-place.invariant) lacking is.0 constant.of constant.value_is
    ] in
    subst (λ gs. AreInputs old new (place + 1) free gs) (sym c.in_ok-push.ensures.items) made

pub returns-clause-inputs : goal.returns-clause-inputs
returns-clause-inputs c =
    let all : c.loop-place.place ≡ c.args.count = omega arith in
    subst (λ n. AreInputs c.args.gates.now c.loop-place.gates n (λ (j : ℕ). has c.args.upper.now (c.args.first + j) == 1) c.loop-place.list.items) all c.loop-place.invariant
