use Rattle.std.proofs.Common.{◌≡◌, map}
use Rattle.std.specs.List.{range_with_len}
use Rattle.tuple_sets.specs.Words.{first_bits}
use Rattle.tuple_sets.proofs.words.all_below.Given as goal

abbrev pub invariant-loop-at : goal.invariant-loop-at
invariant-loop-at l = l.set ≡ map (first_bits l.count) (range_with_len 0 l.at)
