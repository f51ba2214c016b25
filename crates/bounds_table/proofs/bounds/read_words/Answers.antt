use Rattle.std.proofs.Common.{◌∙◌, ap, sym, ◌++◌, ◌∷◌, []}
use Rattle.std.specs.Mem.Slots.{slots_items}
use Rattle.bounds_table.proofs.Laying.{take_next}
use Rattle.bounds_table.proofs.bounds.read_words.Goals as goal

pub loop-at-preserved : goal.loop-at-preserved
loop-at-preserved c =
    c.in_ok-push.ensures.ok
    ∙ ap (λ l. l ++ c.word.result ∷ []) c.loop-at.invariant
    ∙ sym (take_next (slots_items c.args.closed.now.words) c.args.from c.loop-at.at c.word.result c.word.ensures)
