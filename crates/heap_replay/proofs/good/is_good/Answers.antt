use Rattle.std.proofs.Common.{◌+◌, ◌-◌, ℕ, Bool, length, ap, sym, ◌∙◌, arith}
use Rattle.std.specs.Prelude.{◌&&◌}
use Rattle.std.specs.List.{list_all, range_with_len}
use Rattle.heap_core.specs.Judge.{is_good_at}
use Rattle.heap_replay.proofs.Judging.{range_begins}
use Rattle.heap_replay.proofs.good.is_good.Goals as goal

pub loop-object-preserved : goal.loop-object-preserved
loop-object-preserved c =
    let at : ℕ → Bool = is_good_at c.args.problem.now c.args.heap.now in
    let o = c.loop-object.object in
    let n = length c.args.heap.now in
    let rest : Bool = list_all at (range_with_len (o + 1) (n - (o + 1))) in
    ap (λ b. b && rest) (sym c.if-not-branch.false ∙ c.in_ok-is_good_at.ensures)
    ∙ ap (list_all at) (sym (range_begins o n (omega (arith, c.loop-object-test.true, c.count_of-object-end.ensures))))
    ∙ c.loop-object.invariant
