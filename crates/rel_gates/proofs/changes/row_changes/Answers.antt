-- Place by place.
use Rattle.std.proofs.Common.{ℕ, Bool, length, get_or, ap, ◌∙◌, arith}
use Rattle.std.specs.Prelude.{if◌then◌else◌}
use Rattle.gate_core.specs.Circuit.{value}
use Rattle.gate_sets.specs.Lists.{at}
use Rattle.gate_sets.specs.Shapes.{are_same}
use Rattle.gate_sets.proofs.Standing.{truth_alike}
use Rattle.rel_gates.proofs.RowSteps.{same_by}
use Rattle.rel_gates.proofs.changes.row_changes.Goals as goal

pub returns-clause-truth : goal.returns-clause-truth
returns-clause-truth c =
    let old = c.args.gates.now in
    let third = c.chosen.new.gates in
    let row = c.args.new.now in
    let width = length c.args.given.now in
    let there = c.in_ok-there.there.items in
    let seen = c.deref.result.now in
    let choice = λ (inputs : ℕ → Bool) (i : ℕ). if value inputs old c.args.inside then at old c.args.given.now inputs i else at old c.args.old.now inputs i in
    truth_alike c.same_places.new.gates (λ (inputs : ℕ → Bool). are_same (length row) (at third row inputs) (at third seen inputs)) (λ (inputs : ℕ → Bool). are_same width
    (at old row inputs) (choice inputs))
    c.in_ok-gate.gate c.in_ok-gate.ensures.same (λ inputs.
    ap (λ gs. are_same (length row) (at third row inputs) (at third gs inputs)) c.deref.ensures.value
    ∙ ap (λ n. are_same n (at third row inputs) (at third there inputs)) c.requires.wide
    ∙ same_by width (at third row inputs) (at third there inputs) (at old row inputs) (choice inputs)
    (λ i under. c.in_ok-there.ensures.keeps.values inputs (get_or row i 0) (c.requires.new i 0 (omega (arith, under, c.requires.wide))))
    (λ i under. c.in_ok-there.ensures.chosen.values inputs i under))
