use Rattle.std.proofs.Common.{sym, ap, ◌∙◌}
use Rattle.std.specs.Prelude.{nat_lt}
use Rattle.std.proofs.lemmas.Bool.{ltb-true, and_parts}
use Rattle.rel_core.specs.Meaning.{joined}
use Rattle.rel_core.specs.Uses.{AsSet, is_spread}
use Rattle.canon_rel.specs.Places.{refs_at, is_within, is_sorted_place}
use Rattle.canon_rel.proofs.Pieces.{joined_one}
use Rattle.canon_rel.proofs.places.Place.set.Goals as goal

pub returns-in_ok-set-in-Field-clause-meaning : goal.returns-in_ok-set-in-Field-clause-meaning
returns-in_ok-set-in-Field-clause-meaning c = λ m within.
    let r = c.in-Field.relation in
    let o = c.in-Field.object in
    let inside = ltb-true o m.objects (sym (ap (is_within m.objects) c.in-Field.is) ∙ within) in
    c.in_ok-set-in-Field.ensures.meaning m ∙ ap (λ s. joined m s r) (c.in_ok-one-in-Field.ensures.meaning m) ∙ joined_one m r o inside ∙ sym (ap (refs_at m) c.in-Field.is)

pub returns-in_ok-set-in-Field-clause-sorted : goal.returns-in_ok-set-in-Field-clause-sorted
returns-in_ok-set-in-Field-clause-sorted c = λ p kinds sorted.
    let parts = and_parts (nat_lt c.in-Field.object p.scope.objects) (is_spread p kinds AsSet c.in-Field.relation) (sym (ap (is_sorted_place p kinds) c.in-Field.is) ∙ sorted) in
    c.in_ok-set-in-Field.ensures.sorted p kinds (c.in_ok-one-in-Field.ensures.sorted p kinds parts.0) parts.1
