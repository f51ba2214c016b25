-- One use more.
use Rattle.gate_core.proofs.Values.{keeps_twice}
use Rattle.rel_gates.proofs.AllNamed.{one_more}
use Rattle.rel_gates.proofs.naming.name_all.Goals as goal

pub loop-place-preserved : goal.loop-place-preserved
loop-place-preserved c =
    let inv = c.loop-place.invariant in
    record {
      keeps = keeps_twice c.args.gates.now c.loop-place.gates c.name.new.gates inv.keeps c.in_ok-name.ensures.keeps;
      first = one_more c.args.gates.now c.loop-place.gates c.name.new.gates c.args.relations.now c.loop-place.relations c.name.new.relations c.args.uses.now
          c.loop-place.place c.use_at-item.result
          inv.first c.use_at-item.ensures c.in_ok-name.ensures.named;
    }
