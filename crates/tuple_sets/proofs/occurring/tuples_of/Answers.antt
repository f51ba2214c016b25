use Rattle.std.proofs.Common.{sym, subst}
use Rattle.tuple_sets.specs.Passing.{IsSetBefore}
use Rattle.canonical_order.specs.Tuples.{tuples}
use Rattle.tuple_sets.proofs.Passing.{none_passed, all_passed}
use Rattle.tuple_sets.proofs.occurring.tuples_of.Goals as goal

pub pass_roots-requires : goal.pass_roots-requires
pass_roots-requires c =
    let p = c.args.problem.now in
    subst (λ set. IsSetBefore p c.args.start.now 0 (tuples p) set) (sym c.in_ok-set.ensures) (none_passed p c.args.start.now c.word_count.result c.word_count.ensures.value c.word_count.ensures.few)

pub returns : goal.returns
returns c = all_passed c.args.problem.now c.args.start.now c.pass_fields.new.self.next c.pass_fields.new.self.set c.pass_fields.ensures
