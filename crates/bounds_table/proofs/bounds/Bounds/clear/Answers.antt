use Rattle.std.proofs.Common.{◌≡◌, ℕ, ◌/◌, ◌<◌, set, bit_and, ap, sym, subst, ◌∙◌, arith}
use Rattle.std.specs.Prelude.{Some}
use Rattle.std.specs.Int.{bit_not, w64}
use Rattle.heap_core.specs.Posed.{Posed}
use Rattle.tuple_sets.specs.Words.{has}
use Rattle.tuple_sets.specs.Numbered.{word_count, IsRefuted}
use Rattle.bounds_table.specs.declared.known.Known.{Known}
use Rattle.bounds_table.specs.Core.{tuple_count}
use Rattle.bounds_table.specs.Rule.{TableOf, PassOf}
use Rattle.bounds_table.specs.Plays.{Tells}
use Rattle.bounds_table.proofs.Ties.{tied_problem, tied_table}
use Rattle.tuple_sets.proofs.Sets.{cleared_here}
use Rattle.bounds_table.proofs.Telling.{says}
use Rattle.bounds_table.proofs.Asking.{clear_asked}
use Rattle.bounds_table.proofs.bounds.Bounds.clear.Goals as goal

pub fetch_and-requires : goal.fetch_and-requires
fetch_and-requires c =
    let p = c.self.inside.table.shared.key in
    let t : TableOf = record { table = c.self.inside.table.shared.table_id; problem = p } in
    let q : PassOf = record { table = c.pass.inside.seat.table_id; problem = c.pass.inside.seat.me.0.problem; known = c.pass.inside.seat.me.0.known } in
    let problem : q.problem ≡ Some p = tied_problem t c.args.self.now q c.args.pass.now c.self.view_is c.pass.view_is c.requires.of in
    let key : c.args.self.now.problem ≡ p = ap {A = TableOf} {B = Posed} (λ x. x.problem) (sym c.self.view_is) in
    let laid = c.self.invariant in
    let words = laid.words in
    let same : q.table ≡ t.table = tied_table t c.args.self.now q c.args.pass.now c.self.view_is c.pass.view_is c.requires.of in
    let room = laid.room in
    let small : c.args.tuple < tuple_count p = subst (λ (x : Posed). c.args.tuple < tuple_count x) key c.requires.tuple in
    let known : c.args.pass.now.known ≡ q.known = ap {A = PassOf} {B = Known} (λ x. x.known) (sym c.pass.view_is) in
    let refuted : IsRefuted p q.known.seen c.args.tuple = subst (λ (k : Known). IsRefuted p k.seen c.args.tuple) known (subst (λ (x : Posed). IsRefuted x c.args.pass.now.known.seen c.args.tuple) key c.requires.refuted) in
    let within : c.args.tuple / 64 < word_count p = omega arith in
    (same, omega arith, clear_asked p c.self.inside.table.shared.table_id.slots c.pass.inside.seat.id c.pass.inside.seat.me problem c.args.tuple c.mask_of.result c.mask_of.ensures small refuted)

pub returns-clause-cleared : goal.returns-clause-cleared
returns-clause-cleared c =
    let p = c.self.inside.table.shared.key in
    let t : TableOf = record { table = c.self.inside.table.shared.table_id; problem = p } in
    let q : PassOf = record { table = c.pass.inside.seat.table_id; problem = c.pass.inside.seat.me.0.problem; known = c.pass.inside.seat.me.0.known } in
    let problem : q.problem ≡ Some p = tied_problem t c.args.self.now q c.args.pass.now c.self.view_is c.pass.view_is c.requires.of in
    let key : c.args.self.now.problem ≡ p = ap {A = TableOf} {B = Posed} (λ x. x.problem) (sym c.self.view_is) in
    let laid = c.self.invariant in
    let words = laid.words in
    let new : Known = c.fetch_and.new.seat.me.0.known in
    let x : ℕ = bit_and c.fetch_and.result (bit_not w64 c.mask_of.result) in
    let now : (new ≡ record q.known { seen = set q.known.seen (c.args.tuple / 64) x }) × Tells p q.known new =
    says (λ o. (new ≡ record q.known { seen = set q.known.seen (c.args.tuple / 64) x }) × Tells o q.known new) q.problem p problem c.fetch_and.ensures.2.2
    in
    ap {A = Known} {B = ℕ} (λ k. has k.seen c.args.tuple) now.0
    ∙ ap (λ m. has (set q.known.seen (c.args.tuple / 64) (bit_and c.fetch_and.result (bit_not w64 m))) c.args.tuple) c.mask_of.ensures
    ∙ cleared_here q.known.seen c.args.tuple c.fetch_and.result
