-- One relation more.
use Rattle.std.proofs.Common.{[], refl, sym, subst, arith}
use Rattle.gate_core.proofs.Values.{keeps_same, keeps_twice}
use Rattle.rel_gates.specs.Rows.{NamesTuples}
use Rattle.rel_gates.proofs.TupleNaming.{total_all, absent, no_tuples, one_tuple_more}
use Rattle.rel_gates.proofs.tuples.name_tuples.Goals as goal

pub loop-place-init : goal.loop-place-init
loop-place-init c =
    let nodes = c.args.gates.now in
    record {
      keeps = keeps_same nodes nodes refl;
      first = subst (λ es. NamesTuples nodes nodes c.args.upper.now c.args.uses.now 0 es c.new-all.result.items) (sym c.new-relations.ensures)
          (subst (λ gs. NamesTuples nodes nodes c.args.upper.now c.args.uses.now 0 [] gs) (sym c.new-all.ensures.items) (no_tuples nodes c.args.upper.now c.args.uses.now));
    }

pub name_tuple-requires-clause-new : goal.name_tuple-requires-clause-new
name_tuple-requires-clause-new c =
    absent c.args.upper.now c.args.gates.now c.loop-place.gates c.args.uses.now c.loop-place.place c.loop-place.relations c.loop-place.all.items c.use_at-item.result
    c.loop-place.invariant.first c.requires.apart c.use_at-item.ensures

pub name_tuple-requires-clause-few : goal.name_tuple-requires-clause-few
name_tuple-requires-clause-few c =
    omega (arith, c.requires.few, c.loop-place.invariant.first.inputs.wide, total_all c.args.uses.now c.loop-place.place c.use_at-item.result c.use_at-item.ensures)

pub name_tuple-requires-clause-words : goal.name_tuple-requires-clause-words
name_tuple-requires-clause-words c = λ t below.
    c.requires.words t (omega (arith, below, c.loop-place.invariant.first.inputs.wide, total_all c.args.uses.now c.loop-place.place c.use_at-item.result c.use_at-item.ensures))

pub loop-place-preserved : goal.loop-place-preserved
loop-place-preserved c =
    let inv = c.loop-place.invariant in
    record {
      keeps = keeps_twice c.args.gates.now c.loop-place.gates c.name_tuple.new.gates inv.keeps c.in_ok-name_tuple.ensures.keeps;
      first = one_tuple_more c.args.gates.now c.loop-place.gates c.name_tuple.new.gates c.args.upper.now c.args.uses.now c.loop-place.place c.loop-place.relations
          c.name_tuple.new.relations c.loop-place.all.items c.name_tuple.new.all.items c.use_at-item.result inv.first c.use_at-item.ensures c.in_ok-name_tuple.ensures.named;
    }
