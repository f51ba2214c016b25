use Rattle.std.proofs.Common.{◌≡◌, ℕ, ◌+◌, ◌-◌, ◌*◌, ◌/◌, ◌%◌, ◌<◌, bit_and, eqb, ap, sym, subst, ◌∙◌, arith, Bool}
use Rattle.std.specs.Prelude.{Some, IsTrue, ◌↔◌}
use Rattle.heap_core.specs.Posed.{Posed}
use Rattle.tuple_sets.specs.Words.{has, one_bit}
use Rattle.tuple_sets.specs.Numbered.{word_count}
use Rattle.bounds_table.specs.declared.known.Known.{Known}
use Rattle.bounds_table.specs.State.{pair}
use Rattle.bounds_table.specs.Core.{tuple_count}
use Rattle.bounds_table.specs.Rule.{TableOf, PassOf, IsGained}
use Rattle.bounds_table.specs.Plays.{IsRight, Tells, told, IsNews}
use Rattle.bounds_table.proofs.Ties.{tied_problem, tied_table}
use Rattle.bounds_table.proofs.Telling.{says, claim_gained, claim_seen}
use Rattle.bounds_table.proofs.Runs.{pair_bit, pair_within}
use Rattle.bounds_table.proofs.Asking.{claim_asked, claim_place, claim_within}
use Rattle.bounds_table.proofs.bounds.Bounds.claim.Goals as goal

pub fetch_or-found-requires : goal.fetch_or-found-requires
fetch_or-found-requires c =
    let p = c.self.inside.table.shared.key in
    let t : TableOf = record { table = c.self.inside.table.shared.table_id; problem = p } in
    let q : PassOf = record { table = c.pass.inside.seat.table_id; problem = c.pass.inside.seat.me.0.problem; known = c.pass.inside.seat.me.0.known } in
    let problem : q.problem ≡ Some p = tied_problem t c.args.self.now q c.args.pass.now c.self.view_is c.pass.view_is c.requires.of in
    let key : c.args.self.now.problem ≡ p = ap {A = TableOf} {B = Posed} (λ x. x.problem) (sym c.self.view_is) in
    let laid = c.self.invariant in
    let words = laid.words in
    let same : q.table ≡ t.table = tied_table t c.args.self.now q c.args.pass.now c.self.view_is c.pass.view_is c.requires.of in
    let room = laid.room in
    let small : c.args.tuple < tuple_count p = subst (λ (x : Posed). c.args.tuple < tuple_count x) key c.requires.tuple in
    let within = claim_within p c.self.inside.tuples c.self.inside.words c.args.round c.args.tuple c.word_of-at.result t.table laid c.requires.round small c.word_of-at.ensures in
    (same, omega arith, claim_asked p c.self.inside.table.shared.table_id.slots c.pass.inside.seat.id c.pass.inside.seat.me problem c.self.inside.words c.args.round c.args.tuple c.word_of-at.result c.mask_of-mask.result words c.requires.round small c.word_of-at.ensures c.mask_of-mask.ensures)

pub returns-clause-gained : goal.returns-clause-gained
returns-clause-gained c =
    let p = c.self.inside.table.shared.key in
    let t : TableOf = record { table = c.self.inside.table.shared.table_id; problem = p } in
    let q : PassOf = record { table = c.pass.inside.seat.table_id; problem = c.pass.inside.seat.me.0.problem; known = c.pass.inside.seat.me.0.known } in
    let problem : q.problem ≡ Some p = tied_problem t c.args.self.now q c.args.pass.now c.self.view_is c.pass.view_is c.requires.of in
    let key : c.args.self.now.problem ≡ p = ap {A = TableOf} {B = Posed} (λ x. x.problem) (sym c.self.view_is) in
    let laid = c.self.invariant in
    let words = laid.words in
    let right : IsRight p q.known = says (λ x. IsRight x q.known) q.problem p problem c.pass.invariant.1 in
    let small : c.args.tuple < tuple_count p = subst (λ (x : Posed). c.args.tuple < tuple_count x) key c.requires.tuple in
    let pair' : ℕ = pair p c.args.round c.args.tuple in
    let at_is : c.word_of-at.result ≡ pair' / 64 = claim_place p c.self.inside.tuples c.self.inside.words c.args.round c.args.tuple c.word_of-at.result t.table laid c.requires.round small c.word_of-at.ensures in
    let mask_is : c.mask_of-mask.result ≡ one_bit (pair' % 64) = c.mask_of-mask.ensures ∙ ap one_bit (sym (pair_bit p c.args.round c.args.tuple)) in
    let within = pair_within p c.args.round c.args.tuple c.requires.round small in
    let new : Known = c.fetch_or-found.new.seat.me.0.known in
    let free : Bool = eqb (bit_and c.fetch_or-found.result c.mask_of-mask.result) 0 in
    let now : (new ≡ told free (2 * c.self.inside.words + c.word_of-at.result - 2 * word_count p) c.mask_of-mask.result q.known) × Tells p q.known new =
    says (λ o. (new ≡ told free (2 * c.self.inside.words + c.word_of-at.result - 2 * word_count o) c.mask_of-mask.result q.known) × Tells o q.known new) q.problem p problem c.fetch_or-found.ensures.2.0.2
    in
    let news : IsNews free (2 * c.self.inside.words + c.word_of-at.result - 2 * word_count p) c.mask_of-mask.result q.known =
    says (λ o. IsNews free (2 * c.self.inside.words + c.word_of-at.result - 2 * word_count o) c.mask_of-mask.result q.known) q.problem p problem c.fetch_or-found.ensures.2.1
    in
    let known : q.known ≡ c.args.pass.now.known = ap {A = PassOf} {B = Known} (λ x. x.known) c.pass.view_is in
    subst (λ (x : Posed). IsTrue free ↔ IsGained (pair x c.args.round c.args.tuple) c.args.pass.now.known new) (sym key) (subst (λ (k : Known). IsTrue free ↔ IsGained pair' k new) known (claim_gained p q.known new c.self.inside.words c.word_of-at.result c.mask_of-mask.result pair' free words at_is mask_is right.words within now.0 news))

pub returns-clause-seen : goal.returns-clause-seen
returns-clause-seen c =
    let p = c.self.inside.table.shared.key in
    let t : TableOf = record { table = c.self.inside.table.shared.table_id; problem = p } in
    let q : PassOf = record { table = c.pass.inside.seat.table_id; problem = c.pass.inside.seat.me.0.problem; known = c.pass.inside.seat.me.0.known } in
    let problem : q.problem ≡ Some p = tied_problem t c.args.self.now q c.args.pass.now c.self.view_is c.pass.view_is c.requires.of in
    let key : c.args.self.now.problem ≡ p = ap {A = TableOf} {B = Posed} (λ x. x.problem) (sym c.self.view_is) in
    let laid = c.self.invariant in
    let words = laid.words in
    let right : IsRight p q.known = says (λ x. IsRight x q.known) q.problem p problem c.pass.invariant.1 in
    let small : c.args.tuple < tuple_count p = subst (λ (x : Posed). c.args.tuple < tuple_count x) key c.requires.tuple in
    let pair' : ℕ = pair p c.args.round c.args.tuple in
    let at_is : c.word_of-at.result ≡ pair' / 64 = claim_place p c.self.inside.tuples c.self.inside.words c.args.round c.args.tuple c.word_of-at.result t.table laid c.requires.round small c.word_of-at.ensures in
    let mask_is : c.mask_of-mask.result ≡ one_bit (pair' % 64) = c.mask_of-mask.ensures ∙ ap one_bit (sym (pair_bit p c.args.round c.args.tuple)) in
    let within = pair_within p c.args.round c.args.tuple c.requires.round small in
    let new : Known = c.fetch_or-found.new.seat.me.0.known in
    let free : Bool = eqb (bit_and c.fetch_or-found.result c.mask_of-mask.result) 0 in
    let now : (new ≡ told free (2 * c.self.inside.words + c.word_of-at.result - 2 * word_count p) c.mask_of-mask.result q.known) × Tells p q.known new =
    says (λ o. (new ≡ told free (2 * c.self.inside.words + c.word_of-at.result - 2 * word_count o) c.mask_of-mask.result q.known) × Tells o q.known new) q.problem p problem c.fetch_or-found.ensures.2.0.2
    in
    subst (λ (x : Posed). has new.claimed (pair x c.args.round c.args.tuple) ≡ 1) (sym key) (claim_seen p q.known new c.self.inside.words c.word_of-at.result c.mask_of-mask.result pair' free words at_is mask_is right.words within now.0)
