use Rattle.std.proofs.Common.{◌-◌, ℕ, map, take, drop, length}
use Rattle.dyn_steps.specs.Looked.{Vars}
use Rattle.dyn_rel.specs.Looking.{looked_in_turn, looked_by_any, looked_from, IsList}
use Rattle.dyn_rel.proofs.looking.+looking.Given as goal

abbrev pub invariant-before_all-loop-done : goal.invariant-before_all-loop-done
invariant-before_all-loop-done l =
    (n : ℕ) (vars : Vars) → IsList n vars l.initial.looked → IsList n (looked_in_turn (map looked_from (drop (length l.parts - l.done) l.parts)) vars) l.looked

abbrev pub invariant-before_any-loop-branch : goal.invariant-before_any-loop-branch
invariant-before_any-loop-branch l =
    (n : ℕ) (vars : Vars) → IsList n vars l.set → IsList n (looked_by_any (map looked_from (take l.branch-index l.branches)) vars) l.all
