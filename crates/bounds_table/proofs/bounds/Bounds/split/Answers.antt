use Rattle.std.proofs.Common.{◌≡◌, ap, sym}
use Rattle.std.specs.Prelude.{Some}
use Rattle.heap_core.specs.Posed.{Posed}
use Rattle.bounds_table.specs.Rule.{TableOf, PassOf}
use Rattle.bounds_table.proofs.Ties.{tied_problem, tied_table}
use Rattle.bounds_table.proofs.Allowed.{split_allowed}
use Rattle.bounds_table.proofs.bounds.Bounds.split.Goals as goal

pub split_seat-seat-requires : goal.split_seat-seat-requires
split_seat-seat-requires c =
    let p = c.self.inside.table.shared.key in
    let t : TableOf = record { table = c.self.inside.table.shared.table_id; problem = p } in
    let q : PassOf = record { table = c.pass.inside.seat.table_id; problem = c.pass.inside.seat.me.0.problem; known = c.pass.inside.seat.me.0.known } in
    let problem : q.problem ≡ Some p = tied_problem t c.args.self.now q c.args.pass.now c.self.view_is c.pass.view_is c.requires in
    let same : q.table ≡ t.table = tied_table t c.args.self.now q c.args.pass.now c.self.view_is c.pass.view_is c.requires in
    let key : c.args.self.now.problem ≡ p = ap {A = TableOf} {B = Posed} (λ x. x.problem) (sym c.self.view_is) in
    let laid = c.self.invariant in
    (same, laid.some, split_allowed p c.pass.inside.seat.id c.pass.inside.seat.me.0 problem)
