use Rattle.std.specs.Prelude.{slice_get}
use Rattle.dyn_rel.proofs.Joints.{one_said, none_said}
use Rattle.dyn_rel.proofs.joining.equated_if.Goals as goal

pub returns-in_ok-same : goal.returns-in_ok-same
returns-in_ok-same c = λ p known. one_said p c.args.kinds.now c.args.so c.args.what c.args.new c.args.old _ c.if-so.true (c.in_ok-same.ensures p known)

pub returns-in_ok-always : goal.returns-in_ok-always
returns-in_ok-always c = λ p known.
    none_said p c.args.kinds.now c.args.so c.args.what c.args.new c.args.old _ c.if-so.false c.in_ok-always.ensures.meaning
    (c.in_ok-always.ensures.sorted p (slice_get c.args.kinds.now))
