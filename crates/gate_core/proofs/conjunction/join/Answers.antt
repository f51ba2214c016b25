-- The gate is simplified, or the edge to the node that holds the pair in order.
use Rattle.gate_core.specs.Chains.{nodes_of}
use Rattle.gate_core.proofs.Conjunctions.{joins_known, joins_node}
use Rattle.gate_core.proofs.conjunction.join.Goals as goal

pub returns-in-Some-clause-joined : goal.returns-in-Some-clause-joined
returns-in-Some-clause-joined c =
    joins_known (nodes_of c.args.cells.now.items) c.args.a c.args.b c.in-Some.known c.requires.arena.circuit c.requires.left c.requires.right c.in-Some.ensures

pub returns-clause-joined : goal.returns-clause-joined
returns-clause-joined c =
    joins_node (nodes_of c.args.cells.now.items) (nodes_of c.conjoin.new.cells.items) c.args.a c.args.b
    c.in_order-first.result.0 c.in_order-first.result.1 c.in_ok-place.place c.of_node.result
    c.in_ok-place.ensures.arena.circuit c.requires.left c.requires.right c.in_default.ensures
    c.in_order-first.ensures.first c.in_order-first.ensures.second c.in_ok-place.ensures.stands.0 c.in_ok-place.ensures.ok c.of_node.ensures
