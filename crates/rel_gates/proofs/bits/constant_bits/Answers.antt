-- One place more.
use Rattle.std.proofs.Common.{◌≡◌, ℕ, suc, ◌+◌, Bool, refl, sym, subst, ap, ◌∙◌, arith}
use Rattle.gate_core.proofs.Values.{keeps_same}
use Rattle.gate_sets.specs.Lists.{AreTruths}
use Rattle.gate_sets.proofs.Places.{truths_more}
use Rattle.rel_gates.specs.Constants.{digit}
use Rattle.rel_gates.proofs.bits.constant_bits.Goals as goal

pub loop-place-preserved : goal.loop-place-preserved
loop-place-preserved c =
    let nodes = c.args.gates.now in
    let place = c.loop-place._place in
    let rest = c.loop-place.rest in
    let truth = λ (inputs : ℕ → Bool) (i : ℕ). digit c.args.number i in
    let here : place + 0 ≡ place = omega arith in
    record {
      bits = subst (λ gs. AreTruths nodes (place + 1) truth gs) (sym c.in_ok-push.ensures.items)
          (truths_more nodes nodes place truth c.loop-place.list.items c.constant.result c.loop-place.invariant.bits (keeps_same nodes nodes refl)
          (record { of = c.constant.ensures.of; value_is = λ inputs. c.constant.ensures.value inputs ∙ c.loop-place.invariant.rest 0 ∙ ap (digit c.args.number) here }));
      rest = λ i. (let next : place + suc i ≡ place + 1 + i = omega arith in c.loop-place.invariant.rest (suc i) ∙ ap (digit c.args.number) next);
    }
