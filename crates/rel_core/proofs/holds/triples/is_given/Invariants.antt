use Rattle.std.proofs.Common.{◌≡◌, ◌&&◌, drop}
use Rattle.std.specs.List.{list_any}
use Rattle.heap_core.specs.Outcomes.{is_value}
use Rattle.rel_core.specs.Reading.{is_at}
use Rattle.rel_core.proofs.holds.triples.is_given.Given as goal

abbrev pub invariant-loop-triple : goal.invariant-loop-triple
invariant-loop-triple l =
    list_any (λ t. is_at l.relation l.place t && is_value t.2 l.value) (drop l.triple-index l.pairs) ≡ list_any (λ t. is_at l.relation l.place t && is_value t.2 l.value) l.pairs
