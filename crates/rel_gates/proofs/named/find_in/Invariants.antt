use Rattle.std.proofs.Common.{◌≡◌, drop, map}
use Rattle.rel_gates.specs.Shown.{gates_of}
use Rattle.rel_gates.proofs.named.find_in.Given as goal

abbrev pub invariant-loop-entry : goal.invariant-loop-entry
invariant-loop-entry l =
    gates_of (map (λ e. (e.relation, e.gates.items)) (drop l.entry-index l.entries)) l.relation
    ≡ gates_of (map (λ e. (e.relation, e.gates.items)) l.entries) l.relation
