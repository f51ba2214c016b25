use Rattle.std.proofs.Common.{◌-◌, ℕ, map, drop, length}
use Rattle.dyn_steps.specs.Looked.{Vars}
use Rattle.dyn_rel.specs.Looking.{looked_in_turn, looked_from, IsList, AreBehind}
use Rattle.dyn_rel.proofs.looking.sets_behind.Given as goal

abbrev pub invariant-loop-done : goal.invariant-loop-done
invariant-loop-done l =
    (n : ℕ) (vars : Vars) → IsList n vars l.set
    → IsList n (looked_in_turn (map looked_from (drop (length l.parts - l.done) l.parts)) vars) l.looked × AreBehind n vars (drop (length l.parts - l.done) l.parts) l.sets
