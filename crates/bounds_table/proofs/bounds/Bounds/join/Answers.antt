use Rattle.std.proofs.Common.{◌≡◌, ap, sym, subst, ◌∙◌}
use Rattle.std.specs.Prelude.{Some, IfSome}
use Rattle.heap_core.specs.Posed.{Posed}
use Rattle.atomic_table.specs.Table.{Me}
use Rattle.bounds_table.specs.declared.rule.View.{View}
use Rattle.bounds_table.specs.declared.known.Known.{Known}
use Rattle.bounds_table.specs.Rule.{TableOf, PassOf}
use Rattle.bounds_table.specs.Plays.{IsRight}
use Rattle.bounds_table.proofs.Ties.{tied_problem, tied_table}
use Rattle.bounds_table.specs.Rule.{both_views}
use Rattle.bounds_table.specs.Core.{joined}
use Rattle.bounds_table.specs.State.{IsLater}
use Rattle.bounds_table.proofs.Telling.{says}
use Rattle.bounds_table.proofs.Allowed.{of_problem, join_allowed}
use Rattle.bounds_table.proofs.Together.{joined_right, joined_later, joined_later_other}
use Rattle.bounds_table.proofs.bounds.Bounds.join.Goals as goal

pub join_seat-requires : goal.join_seat-requires
join_seat-requires c =
    let p = c.self.inside.table.shared.key in
    let t : TableOf = record { table = c.self.inside.table.shared.table_id; problem = p } in
    let q : PassOf = record { table = c.pass.inside.seat.table_id; problem = c.pass.inside.seat.me.0.problem; known = c.pass.inside.seat.me.0.known } in
    let problem : q.problem ≡ Some p = tied_problem t c.args.self.now q c.args.pass.now c.self.view_is c.pass.view_is c.requires.of in
    let key : c.args.self.now.problem ≡ p = ap {A = TableOf} {B = Posed} (λ x. x.problem) (sym c.self.view_is) in
    let laid = c.self.invariant in
    let words = laid.words in
    let same : q.table ≡ t.table = tied_table t c.args.self.now q c.args.pass.now c.self.view_is c.pass.view_is c.requires.of in
    let room = laid.room in
    let r : PassOf = record { table = c.other.inside.seat.table_id; problem = c.other.inside.seat.me.0.problem; known = c.other.inside.seat.me.0.known } in
    let problem' : r.problem ≡ Some p = tied_problem t c.args.self.now r c.args.other c.self.view_is c.other.view_is c.requires.other_of in
    let same' : r.table ≡ t.table = tied_table t c.args.self.now r c.args.other c.self.view_is c.other.view_is c.requires.other_of in
    (same, same', c.other.invariant.0, laid.some, join_allowed p c.pass.inside.seat.id c.pass.inside.seat.me.0 c.other.inside.seat.id c.other.inside.seat.me.0 problem problem')

pub invariant_of-pass : goal.invariant_of-pass
invariant_of-pass c =
    let p = c.self.inside.table.shared.key in
    let t : TableOf = record { table = c.self.inside.table.shared.table_id; problem = p } in
    let q : PassOf = record { table = c.pass.inside.seat.table_id; problem = c.pass.inside.seat.me.0.problem; known = c.pass.inside.seat.me.0.known } in
    let problem : q.problem ≡ Some p = tied_problem t c.args.self.now q c.args.pass.now c.self.view_is c.pass.view_is c.requires.of in
    let key : c.args.self.now.problem ≡ p = ap {A = TableOf} {B = Posed} (λ x. x.problem) (sym c.self.view_is) in
    let laid = c.self.invariant in
    let words = laid.words in
    let right : IsRight p q.known = says (λ x. IsRight x q.known) q.problem p problem c.pass.invariant.1 in
    let r : PassOf = record { table = c.other.inside.seat.table_id; problem = c.other.inside.seat.me.0.problem; known = c.other.inside.seat.me.0.known } in
    let problem' : r.problem ≡ Some p = tied_problem t c.args.self.now r c.args.other c.self.view_is c.other.view_is c.requires.other_of in
    let right' : IsRight p r.known = says (λ x. IsRight x r.known) r.problem p problem' c.other.invariant.1 in
    let now : c.join_seat.new.seat.me ≡ (both_views c.pass.inside.seat.me.0 c.other.inside.seat.me.0, c.pass.inside.seat.me.1) = c.join_seat.ensures.2 in (
      ap (λ m. m.1) now ∙ c.pass.invariant.0,
      subst (λ (m : Me (Unit {0}) View). IfSome m.0.problem (λ o. IsRight o m.0.known)) (sym now) (of_problem (λ o. IsRight o (joined q.known r.known)) q.problem p problem (joined_right p q.known r.known right right')),
    )

pub returns-clause-later : goal.returns-clause-later
returns-clause-later c =
    let p = c.self.inside.table.shared.key in
    let t : TableOf = record { table = c.self.inside.table.shared.table_id; problem = p } in
    let q : PassOf = record { table = c.pass.inside.seat.table_id; problem = c.pass.inside.seat.me.0.problem; known = c.pass.inside.seat.me.0.known } in
    let problem : q.problem ≡ Some p = tied_problem t c.args.self.now q c.args.pass.now c.self.view_is c.pass.view_is c.requires.of in
    let key : c.args.self.now.problem ≡ p = ap {A = TableOf} {B = Posed} (λ x. x.problem) (sym c.self.view_is) in
    let laid = c.self.invariant in
    let words = laid.words in
    let right : IsRight p q.known = says (λ x. IsRight x q.known) q.problem p problem c.pass.invariant.1 in
    let r : PassOf = record { table = c.other.inside.seat.table_id; problem = c.other.inside.seat.me.0.problem; known = c.other.inside.seat.me.0.known } in
    let problem' : r.problem ≡ Some p = tied_problem t c.args.self.now r c.args.other c.self.view_is c.other.view_is c.requires.other_of in
    let right' : IsRight p r.known = says (λ x. IsRight x r.known) r.problem p problem' c.other.invariant.1 in
    let now : c.join_seat.new.seat.me ≡ (both_views c.pass.inside.seat.me.0 c.other.inside.seat.me.0, c.pass.inside.seat.me.1) = c.join_seat.ensures.2 in
    subst (λ (k : Known). IsLater k c.join_seat.new.seat.me.0.known) (ap {A = PassOf} {B = Known} (λ x. x.known) c.pass.view_is)
    (subst (λ (m : Me (Unit {0}) View). IsLater q.known m.0.known) (sym now) (joined_later p q.known r.known right.words right'.words))

pub returns-clause-other_later : goal.returns-clause-other_later
returns-clause-other_later c =
    let p = c.self.inside.table.shared.key in
    let t : TableOf = record { table = c.self.inside.table.shared.table_id; problem = p } in
    let q : PassOf = record { table = c.pass.inside.seat.table_id; problem = c.pass.inside.seat.me.0.problem; known = c.pass.inside.seat.me.0.known } in
    let problem : q.problem ≡ Some p = tied_problem t c.args.self.now q c.args.pass.now c.self.view_is c.pass.view_is c.requires.of in
    let key : c.args.self.now.problem ≡ p = ap {A = TableOf} {B = Posed} (λ x. x.problem) (sym c.self.view_is) in
    let laid = c.self.invariant in
    let words = laid.words in
    let right : IsRight p q.known = says (λ x. IsRight x q.known) q.problem p problem c.pass.invariant.1 in
    let r : PassOf = record { table = c.other.inside.seat.table_id; problem = c.other.inside.seat.me.0.problem; known = c.other.inside.seat.me.0.known } in
    let problem' : r.problem ≡ Some p = tied_problem t c.args.self.now r c.args.other c.self.view_is c.other.view_is c.requires.other_of in
    let right' : IsRight p r.known = says (λ x. IsRight x r.known) r.problem p problem' c.other.invariant.1 in
    let now : c.join_seat.new.seat.me ≡ (both_views c.pass.inside.seat.me.0 c.other.inside.seat.me.0, c.pass.inside.seat.me.1) = c.join_seat.ensures.2 in
    subst (λ (k : Known). IsLater k c.join_seat.new.seat.me.0.known) (ap {A = PassOf} {B = Known} (λ x. x.known) c.other.view_is)
    (subst (λ (m : Me (Unit {0}) View). IsLater r.known m.0.known) (sym now) (joined_later_other p q.known r.known right.words right'.words))
