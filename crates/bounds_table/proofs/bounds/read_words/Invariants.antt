use Rattle.std.proofs.Common.{◌≡◌, take, drop}
use Rattle.std.specs.Mem.Slots.{slots_items}
use Rattle.bounds_table.proofs.bounds.read_words.Given as goal

abbrev pub invariant-loop-at : goal.invariant-loop-at
invariant-loop-at l = l.words ≡ take l.at (drop l.from (slots_items l.closed.words))
