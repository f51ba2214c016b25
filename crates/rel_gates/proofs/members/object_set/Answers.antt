-- The object's place alone.
use Rattle.std.proofs.Common.{◌+◌, subst}
use Rattle.std.specs.Prelude.{◌==◌}
use Rattle.gate_sets.specs.Lists.{AreTruths}
use Rattle.heap_core.specs.Posed.{Posed}
use Rattle.rel_gates.proofs.OfSets.{object_members}
use Rattle.rel_gates.proofs.members.object_set.Goals as goal

pub returns : goal.returns
returns c =
    object_members c.args.problem.now c.args.relations.now c.args.gates.now c.args.object c.in_ok-places.places.items
    (subst (λ n. AreTruths c.args.gates.now (c.args.problem.now.scope.objects + 1) (λ inputs i. i == n + 1) c.in_ok-places.places.items) c.from-place.ensures
    (subst (λ (q : Posed). AreTruths c.args.gates.now (q.scope.objects + 1) (λ inputs i. i == c.from-place.result + 1) c.in_ok-places.places.items) c.problem.view_is c.in_ok-places.ensures))
