use Rattle.std.proofs.Common.{◌≡◌, drop}
use Rattle.rel_core.specs.Reading.{first_flag}
use Rattle.rel_core.proofs.holds.triples.first_flag.Given as goal

abbrev pub invariant-loop-triple : goal.invariant-loop-triple
invariant-loop-triple l = first_flag l.relation l.place (drop l.triple-index l.pairs) ≡ first_flag l.relation l.place l.pairs
