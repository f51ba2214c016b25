use Rattle.std.proofs.Common.{sym, ◌∙◌}
use Rattle.heap_replay.proofs.Judging.{first_ensures_part, first_object_part, first_result_part}
use Rattle.heap_replay.proofs.broken.first_broken.Goals as goal

pub returns-in-Some : goal.returns-in-Some
returns-in-Some c = sym (first_ensures_part c.args.problem.now c.args.gives.now c.args.returned c.args.heap.now c.in-Some.number (sym c.in-Some.ensures))

pub returns-then-lacks_result : goal.returns-then-lacks_result
returns-then-lacks_result c =
    sym (first_result_part c.args.problem.now c.args.gives.now c.args.returned c.args.heap.now (sym c.in_default.ensures) (sym c.lacks_result.ensures ∙ c.if-lacks_result.true))

pub returns : goal.returns
returns c =
    c.in_ok-part.ensures
    ∙ sym (first_object_part c.args.problem.now c.args.gives.now c.args.returned c.args.heap.now (sym c.in_default.ensures) (sym c.lacks_result.ensures ∙ c.if-lacks_result.false))
