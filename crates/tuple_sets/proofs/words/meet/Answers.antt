use Rattle.std.proofs.Common.{◌≡◌, ap, ◌∙◌, length, get_or, bit_and, arith}
use Rattle.tuple_sets.proofs.Sets.{is_meet}
use Rattle.tuple_sets.proofs.words.meet.Goals as goal

pub returns : goal.returns
returns c =
    let same : c.as_slice-other.result.now ≡ c.args.other.now = c.as_slice-other.ensures in
    is_meet c.args.set.now c.args.other.now c.loop-at.set c.loop-at.at c.requires (c.loop-at.invariant.long ∙ ap length same) (omega (arith, ap length same)) (λ k h. c.loop-at.invariant.done k h ∙ ap (λ l. bit_and (get_or c.args.set.now k 0) (get_or l k 0)) same)
