-- One row more.
use Rattle.std.proofs.Common.{◌≡◌, ℕ, ◌+◌, ◌<◌, Bool, ◌||◌, ◌++◌, length, sym, subst, ap, ◌∙◌, arith}
use Rattle.gate_core.proofs.Values.{keeps_twice}
use Rattle.gate_sets.specs.Lists.{at, in_row, AreTruths, AreRows}
use Rattle.gate_sets.proofs.Places.{rows_more}
use Rattle.gate_sets.proofs.Rowwise.{IsRow, led_row}
use Rattle.gate_sets.proofs.graphs.led.Goals as goal

pub loop-place-preserved : goal.loop-place-preserved
loop-place-preserved c =
    let old = c.args.gates.now in
    let middle = c.loop-place.gates in
    let new = c.either_place.new.gates in
    let graph = c.args.graph.now in
    let relation = c.args.relation.now in
    let count = c.args.objects in
    let place = c.loop-place.place in
    let row = c.row-before.result.now in
    let references = c.row-references.result.now in
    let next = c.in_ok-next.next.items in
    let inv = c.loop-place.invariant in
    let same : c.from-count.result ≡ count = c.from-count.ensures in
    let below : place < count = omega arith in
    let is : IsRow graph count place row = subst (λ n. IsRow graph n place row) same c.row-before.ensures.gates in
    let are : IsRow relation (count + 1) place references = subst (λ n. IsRow relation (n + 1) place references) same c.row-references.ensures.gates in
    let made = led_row old middle new graph relation row references next count (length row) place inv.keeps c.requires.graph c.requires.relation c.requires.square c.requires.long below
    (c.row-before.ensures.wide ∙ same) is are
    (subst (λ gs. AreTruths new (length row) (λ inputs i. at middle row inputs i || at middle gs inputs i) next) c.split_at.ensures.back c.in_ok-next.ensures.places) in
    record {
      keeps = keeps_twice old middle new inv.keeps c.in_ok-next.ensures.keeps;
      so_far = subst (λ gs. AreRows new (place + 1) count (λ (inputs : ℕ → Bool) (p o : ℕ). in_row count old graph inputs p o || in_row (count + 1) old relation inputs p (o + 1)) gs)
          (sym (c.in_ok-extend_from_slice.ensures.items ∙ ap (λ gs. c.loop-place.all.items ++ gs) c.deref.ensures.value))
          (rows_more middle new place count (λ (inputs : ℕ
          → Bool) (p o : ℕ). in_row count old graph inputs p o || in_row (count + 1) old relation inputs p (o + 1)) c.loop-place.all.items next inv.so_far
          c.in_ok-next.ensures.keeps made);
    }
