use Rattle.std.proofs.Common.{ap}
use Rattle.rel_core.specs.Uses.{AsClass, AsFlag, is_spread}
use Rattle.canon_rel.proofs.values.is_one_object.Goals as goal

pub returns-clause-sorted : goal.returns-clause-sorted
returns-clause-sorted c = λ p kinds sorted.
    c.in_ok-alone.ensures.sorted p kinds
    (c.in_ok-object.ensures.sorted p kinds
    (c.in_ok-live.ensures.sorted p kinds (c.in_ok-set.ensures.sorted p kinds sorted) (ap (is_spread p kinds AsFlag) c.live.ensures))
    (c.in_ok-class.ensures.sorted p kinds (c.in_ok-set-2.ensures.sorted p kinds sorted) (ap (is_spread p kinds AsClass) c.class.ensures)))
    (c.in_ok-no_null.ensures.sorted p kinds (c.in_ok-null.ensures.sorted p kinds sorted))
