-- One row more.
use Rattle.std.proofs.Common.{ℕ, ◌+◌, ◌<◌, Bool, ◌++◌, sym, subst, ap, ◌∙◌, arith}
use Rattle.gate_core.proofs.Values.{keeps_twice}
use Rattle.gate_sets.specs.Lists.{in_row, AreRows}
use Rattle.gate_sets.specs.Shapes.{any_row}
use Rattle.gate_sets.proofs.Places.{rows_more}
use Rattle.gate_sets.proofs.Rowwise.{squared_row}
use Rattle.gate_sets.proofs.graphs.squared.Goals as goal

pub loop-place-preserved : goal.loop-place-preserved
loop-place-preserved c =
    let old = c.args.gates.now in
    let middle = c.loop-place.gates in
    let new = c.joined.new.gates in
    let graph = c.args.graph.now in
    let count = c.args.count in
    let place = c.loop-place.place in
    let row = c.row-chosen.result.now in
    let next = c.in_ok-next.next.items in
    let inv = c.loop-place.invariant in
    let below : place < count = omega arith in
    let made = squared_row old middle new graph row next count place inv.keeps c.requires.graph c.requires.square below c.row-chosen.ensures.wide
    c.row-chosen.ensures.gates c.in_ok-next.ensures.joined in
    record {
      keeps = keeps_twice old middle new inv.keeps c.in_ok-next.ensures.keeps;
      so_far = subst (λ gs. AreRows new (place + 1) count (λ (inputs : ℕ → Bool) (p o : ℕ). any_row count (in_row count old graph inputs p) (in_row count old graph inputs) o) gs)
          (sym (c.in_ok-extend_from_slice.ensures.items ∙ ap (λ gs. c.loop-place.all.items ++ gs) c.deref.ensures.value))
          (rows_more middle new place count (λ (inputs : ℕ
          → Bool) (p o : ℕ). any_row count (in_row count old graph inputs p) (in_row count old graph inputs) o) c.loop-place.all.items next inv.so_far
          c.in_ok-next.ensures.keeps made);
    }
