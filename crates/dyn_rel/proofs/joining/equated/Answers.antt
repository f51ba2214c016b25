use Rattle.std.specs.Prelude.{slice_get}
use Rattle.dyn_rel.proofs.Joints.{same_index}
use Rattle.dyn_rel.proofs.joining.equated.Goals as goal

pub returns-in_ok-always : goal.returns-in_ok-always
returns-in_ok-always c = λ p known.
    same_index p c.args.kinds.now c.args.what c.args.new c.args.old _ c.if-new-old.true c.in_ok-always.ensures.meaning (c.in_ok-always.ensures.sorted p (slice_get c.args.kinds.now))
