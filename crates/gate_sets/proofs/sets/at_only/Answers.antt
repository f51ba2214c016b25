-- The join of the only object with the rows.
use Rattle.std.proofs.Common.{length, subst}
use Rattle.gate_sets.specs.Lists.{at, in_row, AreTruths}
use Rattle.gate_sets.specs.Shapes.{any_row}
use Rattle.gate_sets.proofs.Rowwise.{found_at_only}
use Rattle.gate_sets.proofs.sets.at_only.Goals as goal

pub returns-clause-found : goal.returns-clause-found
returns-clause-found c =
    found_at_only c.args.gates.now c.only.new.gates c.joined.new.gates c.args.set.now c.args.rows.now c.in_ok-chosen.chosen.items c.in_ok-places.places.items c.args.objects c.args.width
    c.in_ok-chosen.ensures.keeps c.requires.rows c.requires.long c.in_ok-chosen.ensures.only
    (subst (λ gs. AreTruths c.joined.new.gates c.args.width (λ inputs i. any_row (length gs) (at c.only.new.gates gs inputs) (in_row c.args.width c.only.new.gates
    c.args.rows.now inputs) i) c.in_ok-places.places.items)
    c.deref.ensures.value c.in_ok-places.ensures.joined)
