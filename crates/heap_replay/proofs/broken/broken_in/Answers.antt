use Rattle.std.proofs.Common.{◌+◌, ◌-◌, ℕ, List, length, flat_map, ap, sym, ◌∙◌, arith}
use Rattle.std.specs.List.{range_with_len}
use Rattle.heap_core.specs.declared.judged.Part.{Part}
use Rattle.heap_core.specs.Judge.{broken_at}
use Rattle.heap_replay.specs.Firsts.{first}
use Rattle.heap_replay.proofs.Judging.{first_behind, first_in_front, range_begins}
use Rattle.heap_replay.proofs.broken.broken_in.Goals as goal

pub returns-in-Some : goal.returns-in-Some
returns-in-Some c =
    let at : ℕ → List Part = broken_at c.args.problem.now c.args.heap.now in
    let o = c.loop-object.object in
    let n = length c.args.heap.now in
    let more : List Part = flat_map at (range_with_len (o + 1) (n - (o + 1))) in
    sym (first_in_front (at o) more c.in-Some.part (sym c.in_ok-part.ensures ∙ c.in-Some.is))
    ∙ ap (λ l. first (flat_map at l)) (sym (range_begins o n (omega (arith, c.loop-object-test.true, c.count_of-object-end.ensures))))
    ∙ c.loop-object.invariant

pub loop-object-preserved : goal.loop-object-preserved
loop-object-preserved c =
    let at : ℕ → List Part = broken_at c.args.problem.now c.args.heap.now in
    let o = c.loop-object.object in
    let n = length c.args.heap.now in
    let more : List Part = flat_map at (range_with_len (o + 1) (n - (o + 1))) in
    sym (first_behind (at o) more (sym c.in_ok-part.ensures ∙ c.in_default.is))
    ∙ ap (λ l. first (flat_map at l)) (sym (range_begins o n (omega (arith, c.loop-object-test.true, c.count_of-object-end.ensures))))
    ∙ c.loop-object.invariant
