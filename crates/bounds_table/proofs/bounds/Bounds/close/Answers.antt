use Rattle.std.proofs.Common.{◌≡◌, ap, sym, subst}
use Rattle.std.specs.Prelude.{Some}
use Rattle.std.specs.Mem.Slots.{slots_items}
use Rattle.tuple_sets.specs.Words.{IsWithin}
use Rattle.bounds_table.specs.declared.known.Known.{Known}
use Rattle.bounds_table.specs.declared.rule.View.{View}
use Rattle.bounds_table.specs.Rule.{TableOf, PassOf}
use Rattle.bounds_table.proofs.Ties.{tied_problem}
use Rattle.bounds_table.proofs.Laying.{left_cleared, left_kept_too}
use Rattle.bounds_table.proofs.bounds.Bounds.close.Goals as goal

pub returns-clause-cleared : goal.returns-clause-cleared
returns-clause-cleared c =
    let p = c.self.inside.table.shared.key in
    let t : TableOf = record { table = c.self.inside.table.shared.table_id; problem = p } in
    let v : View = c.pass.inside.seat.me.0 in
    let q : PassOf = record { table = c.pass.inside.seat.table_id; problem = v.problem; known = v.known } in
    let problem : q.problem ≡ Some p = tied_problem t c.args.self q c.args.pass c.self.view_is c.pass.view_is c.requires in
    let ws = slots_items c.close_with-closed.result.words in
    let last = c.close_with-closed.ensures.values.2 in
    let known : q.known ≡ c.args.pass.known = ap {A = PassOf} {B = Known} (λ x. x.known) c.pass.view_is in
    subst (λ (k : Known). IsWithin c.in_ok-left.field-0 k.seen) known
    (subst (λ l. IsWithin l q.known.seen) (sym c.in_ok-left.ensures) (left_cleared p c.self.inside.words ws last.0.words last.0.views c.pass.inside.seat.id v c.self.invariant.words last.2 last.1.0 last.1.1 problem))

pub returns-clause-kept : goal.returns-clause-kept
returns-clause-kept c =
    let p = c.self.inside.table.shared.key in
    let t : TableOf = record { table = c.self.inside.table.shared.table_id; problem = p } in
    let v : View = c.pass.inside.seat.me.0 in
    let q : PassOf = record { table = c.pass.inside.seat.table_id; problem = v.problem; known = v.known } in
    let problem : q.problem ≡ Some p = tied_problem t c.args.self q c.args.pass c.self.view_is c.pass.view_is c.requires in
    let ws = slots_items c.close_with-closed.result.words in
    let last = c.close_with-closed.ensures.values.2 in
    let known : q.known ≡ c.args.pass.known = ap {A = PassOf} {B = Known} (λ x. x.known) c.pass.view_is in
    subst (λ (k : Known). IsWithin k.kept c.in_ok-kept.field-0) known
    (subst (λ l. IsWithin q.known.kept l) (sym c.in_ok-kept.ensures) (left_kept_too p c.self.inside.words ws last.0.words last.0.views c.pass.inside.seat.id v c.self.invariant.words last.2 last.1.0 last.1.1 problem))
