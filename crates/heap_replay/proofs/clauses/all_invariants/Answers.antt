use Rattle.std.proofs.Common.{◌≡◌, ◌++◌, ◌+◌, ◌-◌, ℕ, List, length, flat_map, ap, sym, ◌∙◌, append_assoc, arith}
use Rattle.std.specs.List.{range_with_len}
use Rattle.heap_core.specs.declared.value.Seen.{Seen}
use Rattle.heap_core.specs.Judge.{invariants_at}
use Rattle.heap_replay.proofs.Judging.{range_begins}
use Rattle.heap_replay.proofs.clauses.all_invariants.Goals as goal

pub loop-object-preserved : goal.loop-object-preserved
loop-object-preserved c =
    let at : ℕ → List Seen = invariants_at c.args.problem.now c.args.heap.now in
    let o = c.loop-object.object in
    let n = length c.args.heap.now in
    let more : List Seen = flat_map at (range_with_len (o + 1) (n - (o + 1))) in
    let added : c.append.new.self ≡ c.loop-object.values ++ at o = c.in_ok-append.ensures ∙ ap (λ l. c.loop-object.values ++ l) c.in_ok-invariants_at.ensures in
    ap (λ l. l ++ more) added
    ∙ append_assoc c.loop-object.values (at o) more
    ∙ ap (λ l. c.loop-object.values ++ flat_map at l) (sym (range_begins o n (omega (arith, c.loop-object-test.true, c.count_of-object-end.ensures))))
    ∙ c.loop-object.invariant
