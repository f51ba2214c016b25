use Rattle.std.proofs.Common.{sym, subst, [], ◌∷◌}
use Rattle.canonical_order.specs.Canonical.{HoldsEachOnce}
use Rattle.canonical_order.proofs.InOrder.{range_each_once}
use Rattle.canonical_order.proofs.tests.a_start_of_one_object_is_renumbered.Goals as goal

pub renumber-requires-clause-each_once : goal.renumber-requires-clause-each_once
renumber-requires-clause-each_once c d =
    subst (λ n. HoldsEachOnce (0 ∷ []) n) (sym d.in_ok-start.ensures) (range_each_once 1)
