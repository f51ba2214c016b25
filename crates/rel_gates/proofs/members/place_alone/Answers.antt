-- One place more.
use Rattle.std.proofs.Common.{◌≡◌, ℕ, ◌+◌, Bool, refl, sym, subst, arith}
use Rattle.std.specs.Prelude.{◌==◌}
use Rattle.gate_core.proofs.Values.{keeps_same}
use Rattle.gate_sets.specs.Lists.{AreTruths}
use Rattle.gate_sets.proofs.Places.{truths_more}
use Rattle.rel_gates.proofs.members.place_alone.Goals as goal

pub loop-number-preserved : goal.loop-number-preserved
loop-number-preserved c =
    let nodes = c.args.gates.now in
    let number = c.loop-number.number in
    let truth = λ (inputs : ℕ → Bool) (i : ℕ). i == c.args.place in
    subst (λ gs. AreTruths nodes (number + 1) truth gs) (sym c.in_ok-push.ensures.items)
    (truths_more nodes nodes number truth c.loop-number.list.items c.constant.result c.loop-number.invariant (keeps_same nodes nodes refl)
    (record { of = c.constant.ensures.of; value_is = c.constant.ensures.value }))

pub returns : goal.returns
returns c =
    let all : c.loop-number.number ≡ c.args.objects + 1 = (let same : c.from-number-end.result ≡ c.args.objects = c.from-number-end.ensures in omega (arith, same)) in
    subst (λ n. AreTruths c.args.gates.now n (λ (inputs : ℕ → Bool) (i : ℕ). i == c.args.place) c.loop-number.list.items) all c.loop-number.invariant
