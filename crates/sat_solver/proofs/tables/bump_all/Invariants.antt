use Rattle.std.proofs.Common.{◌≡◌, take}
use Rattle.derivation.proofs.Rising.{vars_of}
use Rattle.sat_solver.proofs.tables.bump_all.Given as goal

abbrev pub invariant-loop-lit : goal.invariant-loop-lit
invariant-loop-lit l = l.vars.items ≡ vars_of (take l.lit-index l.lits)
