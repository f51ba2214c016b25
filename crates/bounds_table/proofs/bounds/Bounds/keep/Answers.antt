use Rattle.std.proofs.Common.{◌≡◌, ◌+◌, ◌-◌, ◌<◌, set, bit_or, refl, ap, sym, subst, arith}
use Rattle.std.specs.Prelude.{Some}
use Rattle.heap_core.specs.Posed.{Posed}
use Rattle.tuple_sets.specs.Numbered.{word_count}
use Rattle.bounds_table.specs.declared.known.Known.{Known}
use Rattle.bounds_table.specs.Core.{ArePossible}
use Rattle.bounds_table.specs.Rule.{TableOf, PassOf}
use Rattle.bounds_table.specs.Plays.{IsRight, Tells}
use Rattle.bounds_table.proofs.Ties.{tied_problem, tied_table}
use Rattle.bounds_table.proofs.Telling.{says, kept_now}
use Rattle.bounds_table.proofs.Asking.{keep_asked}
use Rattle.bounds_table.proofs.bounds.Bounds.keep.Goals as goal

pub overflow_add-at : goal.overflow_add-at
overflow_add-at c = let few = c.self.invariant.few in omega arith

pub fetch_or-requires : goal.fetch_or-requires
fetch_or-requires c =
    let p = c.self.inside.table.shared.key in
    let t : TableOf = record { table = c.self.inside.table.shared.table_id; problem = p } in
    let q : PassOf = record { table = c.pass.inside.seat.table_id; problem = c.pass.inside.seat.me.0.problem; known = c.pass.inside.seat.me.0.known } in
    let problem : q.problem ≡ Some p = tied_problem t c.args.self.now q c.args.pass.now c.self.view_is c.pass.view_is c.requires.of in
    let key : c.args.self.now.problem ≡ p = ap {A = TableOf} {B = Posed} (λ x. x.problem) (sym c.self.view_is) in
    let laid = c.self.invariant in
    let words = laid.words in
    let same : q.table ≡ t.table = tied_table t c.args.self.now q c.args.pass.now c.self.view_is c.pass.view_is c.requires.of in
    let room = laid.room in
    let within : c.args.word < word_count p = subst (λ (x : Posed). c.args.word < word_count x) key c.requires.word in
    let are : ArePossible p c.args.word c.args.bits = subst (λ (x : Posed). ArePossible x c.args.word c.args.bits) key c.requires.possible in
    (same, omega arith, keep_asked p c.self.inside.table.shared.table_id.slots c.pass.inside.seat.id c.pass.inside.seat.me problem c.self.inside.words c.args.word c.args.bits words within are)

pub returns-clause-kept : goal.returns-clause-kept
returns-clause-kept c =
    let p = c.self.inside.table.shared.key in
    let t : TableOf = record { table = c.self.inside.table.shared.table_id; problem = p } in
    let q : PassOf = record { table = c.pass.inside.seat.table_id; problem = c.pass.inside.seat.me.0.problem; known = c.pass.inside.seat.me.0.known } in
    let problem : q.problem ≡ Some p = tied_problem t c.args.self.now q c.args.pass.now c.self.view_is c.pass.view_is c.requires.of in
    let key : c.args.self.now.problem ≡ p = ap {A = TableOf} {B = Posed} (λ x. x.problem) (sym c.self.view_is) in
    let laid = c.self.invariant in
    let words = laid.words in
    let right : IsRight p q.known = says (λ x. IsRight x q.known) q.problem p problem c.pass.invariant.1 in
    let within : c.args.word < word_count p = subst (λ (x : Posed). c.args.word < word_count x) key c.requires.word in
    let new : Known = c.fetch_or.new.seat.me.0.known in
    let now : (new ≡ record q.known { kept = set q.known.kept (c.self.inside.words + c.args.word - word_count p) (bit_or c.fetch_or.result c.args.bits) }) × Tells p q.known new =
    says (λ o. (new ≡ record q.known { kept = set q.known.kept (c.self.inside.words + c.args.word - word_count o) (bit_or c.fetch_or.result c.args.bits) }) × Tells o q.known new) q.problem p problem c.fetch_or.ensures.2.2
    in
    kept_now p q.known new c.self.inside.words c.args.word (bit_or c.fetch_or.result c.args.bits) right.words words within now.0 c.fetch_or.result c.args.bits refl
