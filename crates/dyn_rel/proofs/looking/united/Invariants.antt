use Rattle.std.proofs.Common.{◌≡◌, false, ◌||◌, map, get_or}
use Rattle.rel_core.specs.Reading.{numbers_below}
use Rattle.dyn_rel.proofs.looking.united.Given as goal

abbrev pub invariant-loop-place : goal.invariant-loop-place
invariant-loop-place l = l.both ≡ map (λ x. get_or l.first x false || get_or l.second x false) (numbers_below l.place)
