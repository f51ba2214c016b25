use Rattle.std.proofs.Common.{◌≡◌, ◌≤◌, List, length, sym, ◌∙◌, subst}
use Rattle.heap_core.specs.declared.value.Seen.{Seen}
use Rattle.heap_core.specs.Judge.{gives_of}
use Rattle.heap_replay.proofs.Judging.{gives_few}
use Rattle.heap_replay.proofs.broken.judged_end.Goals as goal

pub first_broken-requires-clause-clauses : goal.first_broken-requires-clause-clauses
first_broken-requires-clause-clauses c =
    let few = gives_few c.args.problem.now c.args.start.now c.args.returned c.args.heap.now c.well_posed.ensures.unit in
    let is : c.as_slice-2.result.now ≡ gives_of c.args.problem.now c.args.start.now c.args.returned c.args.heap.now = c.as_slice-2.ensures ∙ c.in_ok-gives.ensures in
    subst (λ (vs : List Seen). length vs ≤ 255) (sym is) few
