-- One object more.
use Rattle.std.proofs.Common.{ℕ, ◌<◌, Bool, length, refl, arith}
use Rattle.gate_core.specs.Circuit.{value}
use Rattle.gate_core.proofs.Values.{keeps_twice}
use Rattle.gate_sets.proofs.Places.{every_more}
use Rattle.rel_gates.specs.Changes.{row_changes as changes}
use Rattle.rel_gates.proofs.RowSteps.{row_changed}
use Rattle.rel_gates.proofs.changes.rows_changed.Goals as goal

pub loop-place-preserved : goal.loop-place-preserved
loop-place-preserved c =
    let old = c.args.gates.now in
    let middle = c.loop-place.gates in
    let third = c.row_changes.new.gates in
    let new = c.both.new.gates in
    let members = c.args.members.now in
    let place = c.loop-place.place in
    let width = length c.args.given.now in
    let inv = c.loop-place.invariant in
    let below : place < length members = omega arith in
    record {
      keeps = keeps_twice old third new (keeps_twice old middle third inv.keeps c.in_ok-here.ensures.keeps) c.in_ok-every.ensures.keeps;
      every = every_more middle third new (λ (inputs : ℕ → Bool) (o : ℕ). changes width (value inputs old) members c.args.new.now c.args.given.now c.args.old.now o) place c.loop-place.every
          c.in_ok-here.here c.in_ok-every.every inv.every c.in_ok-here.ensures.keeps
          (row_changed old middle third width (length members)
          place members c.args.new.now c.args.given.now c.args.old.now c.row-row_new.result.now c.row-row_old.result.now c.index-members-place.result
          c.in_ok-here.here inv.keeps c.requires.members c.requires.new c.requires.given c.requires.old refl below c.requires.long c.requires.alike refl c.row-row_new.ensures.gates
          c.row-row_old.ensures.gates c.index-members-place.is c.in_ok-here.ensures.truth)
          c.in_ok-every.ensures.truth;
    }
