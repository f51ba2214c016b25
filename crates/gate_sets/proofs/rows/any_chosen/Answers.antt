-- One row more.
use Rattle.std.proofs.Common.{ℕ, ◌+◌, ◌*◌, ◌<◌, Bool, ◌&&◌, length, sym, subst, arith}
use Rattle.gate_core.proofs.Values.{keeps_twice}
use Rattle.gate_sets.specs.Lists.{at, in_row}
use Rattle.gate_sets.proofs.Standing.{both_read, in_rows}
use Rattle.gate_sets.proofs.Places.{any_more}
use Rattle.gate_sets.proofs.rows.any_chosen.Goals as goal

pub loop-number-preserved : goal.loop-number-preserved
loop-number-preserved c =
    let old = c.args.gates.now in
    let middle = c.loop-number.gates in
    let third = c.both.new.gates in
    let new = c.either.new.gates in
    let chosen = c.args.chosen.now in
    let rows = c.args.rows.now in
    let n = c.loop-number.number in
    let width = c.args.width in
    let place = c.args.place in
    let inv = c.loop-number.invariant in
    let in_chosen : n < length chosen = omega arith in
    let in_list : n * width + place < length rows = subst (λ m. n * width + place < m) (sym c.requires.long) (in_rows n (length chosen) place width in_chosen c.requires.place) in
    record {
      keeps = keeps_twice old third new (keeps_twice old middle third inv.keeps c.in_ok-here.ensures.keeps) c.in_ok-found.ensures.keeps;
      found = any_more middle third new (λ (inputs : ℕ
          → Bool) (o : ℕ). at old chosen inputs o && in_row width old rows inputs o place) n c.loop-number.found c.in_ok-here.here c.in_ok-found.found
          inv.found c.in_ok-here.ensures.keeps
          (both_read (λ s t. s && t) old middle third chosen rows n (n * width + place) c.index-chosen-number.result c.index-rows-start.result c.in_ok-here.here inv.keeps
          c.requires.chosen c.requires.rows
          in_chosen in_list c.index-chosen-number.is c.index-rows-start.is c.in_ok-here.ensures.truth)
          c.in_ok-found.ensures.truth;
    }
