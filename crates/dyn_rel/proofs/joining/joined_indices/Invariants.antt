use Rattle.std.proofs.Common.{◌≡◌, map, get_or}
use Rattle.rel_core.specs.Reading.{numbers_below}
use Rattle.dyn_steps.specs.Joining.{joined}
use Rattle.dyn_rel.proofs.joining.joined_indices.Given as goal

abbrev pub invariant-loop-place : goal.invariant-loop-place
invariant-loop-place l = l.all ≡ map (λ x. joined (get_or l.olds x 0) (get_or l.firsts x 0) (get_or l.seconds x 0)) (numbers_below l.place)
