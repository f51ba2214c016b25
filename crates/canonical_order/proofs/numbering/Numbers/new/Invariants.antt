use Rattle.canonical_order.proofs.NumbersLemmas.{AreFilled}
use Rattle.canonical_order.proofs.numbering.Numbers.new.Given as goal

abbrev pub invariant-loop-place : goal.invariant-loop-place
invariant-loop-place l = AreFilled l.table.items l.order l.place
