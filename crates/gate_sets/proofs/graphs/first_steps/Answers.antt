-- One row more.
use Rattle.std.proofs.Common.{ℕ, ◌+◌, ◌<◌, Bool, ◌||◌, ◌++◌, length, refl, sym, subst, ap, ◌∙◌, arith}
use Rattle.std.specs.Prelude.{◌==◌}
use Rattle.gate_sets.specs.Lists.{in_row, AreRows}
use Rattle.gate_core.proofs.Values.{keeps_same}
use Rattle.gate_sets.proofs.Places.{rows_more}
use Rattle.gate_sets.proofs.Rowwise.{first_row_of}
use Rattle.gate_sets.proofs.graphs.first_steps.Goals as goal

pub loop-place-preserved : goal.loop-place-preserved
loop-place-preserved c =
    let nodes = c.args.gates.now in
    let graph = c.args.graph.now in
    let count = c.args.count in
    let place = c.loop-place.place in
    let row = c.row-list.result.now in
    let next = c.in_ok-next.next.items in
    let below : place < count = omega arith in
    subst (λ gs. AreRows nodes (place + 1) count (λ (inputs : ℕ → Bool) (p o : ℕ). o == p || in_row count nodes graph inputs p o) gs)
    (sym (c.in_ok-extend_from_slice.ensures.items ∙ ap (λ gs. c.loop-place.all.items ++ gs) c.deref.ensures.value))
    (rows_more nodes nodes place count (λ (inputs : ℕ
    → Bool) (p o : ℕ). o == p || in_row count nodes graph inputs p o) c.loop-place.all.items next c.loop-place.invariant (keeps_same nodes nodes refl)
    (first_row_of nodes graph row next count (length row) place c.requires.graph c.requires.square below c.row-list.ensures.wide c.row-list.ensures.gates c.in_ok-next.ensures))
