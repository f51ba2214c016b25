use Rattle.std.proofs.Common.{length, take, drop, ap, ◌∙◌}
use Rattle.taco_io.proofs.Moving.{front_moved}
use Rattle.taco_io.proofs.mem_slot.MemSlot.give.Goals as goal

pub returns-clause-moved : goal.returns-clause-moved
returns-clause-moved c =
    let at = c.args.self.now.at in
    let count = c.min-count.result in
    let after = c.copy_from_slice.ensures.after in
    let whole = c.split_at.ensures.back ∙ ap (drop at) c.deref.ensures.value in
    front_moved c.args.self.now.content.items c.copy_from_slice.new.self c.args.buffer.now at count (after ∙ c.split_at-2.ensures.front ∙ ap (take count) whole)
    (ap length after ∙ c.split_at-2.ensures.front_len)
