use Rattle.std.proofs.Common.{◌≡◌, ◌++◌, replicate}
use Rattle.tuple_sets.specs.Words.{all_below}
use Rattle.bounds_table.proofs.bounds.opening_words.Given as goal

abbrev pub invariant-loop : goal.invariant-loop
invariant-loop l = l.cells ≡ all_below l.tuples ++ replicate l.counter 0
