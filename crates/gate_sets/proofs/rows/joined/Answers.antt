-- One place more.
use Rattle.std.proofs.Common.{ℕ, ◌+◌, ◌<◌, Bool, length, sym, subst, arith}
use Rattle.gate_core.proofs.Values.{keeps_twice}
use Rattle.gate_sets.specs.Lists.{at, in_row, AreTruths}
use Rattle.gate_sets.specs.Shapes.{any_row}
use Rattle.gate_sets.proofs.Standing.{truth_alike, any_row_alike, at_keeps, rows_keep}
use Rattle.gate_sets.proofs.Places.{truths_more}
use Rattle.gate_sets.proofs.rows.joined.Goals as goal

pub loop-place-preserved : goal.loop-place-preserved
loop-place-preserved c =
    let old = c.args.gates.now in
    let middle = c.loop-place.gates in
    let new = c.any_chosen.new.gates in
    let chosen = c.args.chosen.now in
    let rows = c.args.rows.now in
    let width = c.args.width in
    let place = c.loop-place.place in
    let inv = c.loop-place.invariant in
    let inside : place < width = omega arith in
    record {
      keeps = keeps_twice old middle new inv.keeps c.in_ok-gate.ensures.keeps;
      so_far = subst (λ gs. AreTruths new (place + 1) (λ (inputs : ℕ
          → Bool) (i : ℕ). any_row (length chosen) (at old chosen inputs) (in_row width old rows inputs) i) gs) (sym c.in_ok-push.ensures.items)
          (truths_more middle new place (λ (inputs : ℕ
          → Bool) (i : ℕ). any_row (length chosen) (at old chosen inputs) (in_row width old rows inputs) i) c.loop-place.joined.items c.in_ok-gate.gate inv.so_far
          c.in_ok-gate.ensures.keeps
          (truth_alike new (λ inputs. any_row (length chosen) (at middle chosen inputs) (in_row width middle rows inputs) place) (λ inputs. any_row (length chosen) (at
          old chosen inputs) (in_row width old rows inputs) place)
          c.in_ok-gate.gate c.in_ok-gate.ensures.truth
          (λ inputs. any_row_alike (length chosen) (at middle chosen inputs) (at old chosen inputs) (in_row width middle rows inputs) (in_row width old rows inputs) place
          (λ o below. at_keeps old middle chosen inputs o inv.keeps c.requires.chosen below)
          (λ o below. rows_keep old middle rows inputs (length chosen) width o place inv.keeps c.requires.rows c.requires.long below inside))));
    }
