use Rattle.std.proofs.Common.{◌≡◌, replicate}
use Rattle.tuple_sets.proofs.words.none_of.Given as goal

abbrev pub invariant-loop : goal.invariant-loop
invariant-loop l = l.set ≡ replicate l.counter 0
