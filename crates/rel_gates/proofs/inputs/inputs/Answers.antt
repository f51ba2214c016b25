-- One input more.
use Rattle.std.proofs.Common.{◌≡◌, ℕ, ◌+◌, true, refl, sym, subst, arith}
use Rattle.rel_gates.specs.Naming.{AreInputs}
use Rattle.rel_gates.proofs.Fresh.{no_inputs, input_more}
use Rattle.rel_gates.proofs.inputs.inputs.Goals as goal

pub loop-place-init : goal.loop-place-init
loop-place-init c =
    let old = c.args.gates.now in
    subst (λ gs. AreInputs old old 0 (λ (j : ℕ). true) gs) (sym c.in_ok-list.ensures.items) (no_inputs old old (λ (j : ℕ). true) refl)

pub loop-place-preserved : goal.loop-place-preserved
loop-place-preserved c =
    let old = c.args.gates.now in
    let middle = c.loop-place.gates in
    let new = c.input.new.self in
    let count = c.loop-place._place in
    subst (λ gs. AreInputs old new (count + 1) (λ (j : ℕ). true) gs) (sym c.in_ok-push.ensures.items)
    (input_more old middle new count (λ (j : ℕ). true) c.loop-place.list.items c.in_ok-gate.gate c.loop-place.invariant refl c.in_ok-gate.ensures.gate c.in_ok-gate.ensures.ok)

pub returns-clause-inputs : goal.returns-clause-inputs
returns-clause-inputs c =
    let all : c.loop-place._place ≡ c.args.count = omega arith in
    subst (λ n. AreInputs c.args.gates.now c.loop-place.gates n (λ (j : ℕ). true) c.loop-place.list.items) all c.loop-place.invariant
