-- The cell at the place is read there, and is another conjunction.
use Rattle.std.proofs.Common.{◌≡◌, length, refl, arith}
use Rattle.std.specs.Prelude.{Some, slice_get}
use Rattle.std.proofs.lemmas.Option.{slice_get_read}
use Rattle.std.proofs.lemmas.Bool.{false≢true}
use Rattle.gate_core.proofs.Search.{goes_on}
use Rattle.gate_core.proofs.arena.standing.Goals as goal

pub loop-place-smaller : goal.loop-place-smaller
loop-place-smaller c =
    let cell = c.index-cells-place.result in
    let at : slice_get c.args.cells.now c.loop-place.place ≡ Some cell =
    slice_get_read c.args.cells.now (length c.args.cells.now) c.loop-place.place cell refl c.loop-place.invariant.within c.index-cells-place.is in
    (goes_on c.args.cells.now c.args.heads.now c.args.first c.args.second c.loop-place.place cell c.requires c.loop-place.invariant (omega arith) at (λ same. false≢true (c.if-joins.ensures.1 same))).1

pub loop-place-preserved : goal.loop-place-preserved
loop-place-preserved c =
    let cell = c.index-cells-place.result in
    let at : slice_get c.args.cells.now c.loop-place.place ≡ Some cell =
    slice_get_read c.args.cells.now (length c.args.cells.now) c.loop-place.place cell refl c.loop-place.invariant.within c.index-cells-place.is in
    (goes_on c.args.cells.now c.args.heads.now c.args.first c.args.second c.loop-place.place cell c.requires c.loop-place.invariant (omega arith) at (λ same. false≢true (c.if-joins.ensures.1 same))).0
