use Rattle.std.proofs.Common.{◌≡◌, drop}
use Rattle.rel_core.specs.Reading.{first_number}
use Rattle.rel_core.proofs.holds.triples.first_number.Given as goal

abbrev pub invariant-loop-triple : goal.invariant-loop-triple
invariant-loop-triple l = first_number l.relation l.place (drop l.triple-index l.pairs) ≡ first_number l.relation l.place l.pairs
