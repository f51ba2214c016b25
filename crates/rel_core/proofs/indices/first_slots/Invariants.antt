use Rattle.std.proofs.Common.{◌≡◌}
use Rattle.std.specs.Prelude.{map}
use Rattle.rel_core.specs.Reading.{numbers_below}
use Rattle.rel_core.proofs.indices.first_slots.Given as goal

abbrev pub invariant-loop-variable : goal.invariant-loop-variable
invariant-loop-variable l = l.slots ≡ map (λ x. (x, 0)) (numbers_below l.variable)
