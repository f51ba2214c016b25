-- Place by place.
use Rattle.gate_sets.proofs.Standing.{chosen_places}
use Rattle.gate_sets.proofs.choices.chosen.Goals as goal

pub returns-clause-chosen : goal.returns-clause-chosen
returns-clause-chosen c =
    chosen_places c.args.gates.now c.select.new.gates c.args.condition c.args.a.now c.args.b.now c.in_ok-places.places.items c.requires.wide c.in_ok-places.ensures.selected
