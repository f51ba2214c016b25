use Rattle.std.proofs.Common.{◌≡◌, ◌≢◌, ℕ, true, take}
use Rattle.cnf_core.specs.Literal.{negated}
use Rattle.cnf_core.specs.Trues.{is_true}
use Rattle.sat_watch.specs.Literals.{has}
use Rattle.sat_watch.specs.Trail.{literals}
use Rattle.sat_watch.proofs.watches.propagate.replacement.Given as goal

abbrev pub invariant-loop-lit : goal.invariant-loop-lit
invariant-loop-lit l = (lit : ℕ) → has (take l.lit-index l.lits) lit ≡ true → lit ≢ l.other → is_true (literals l.trail.entries) (negated lit) ≡ true
