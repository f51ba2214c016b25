use Rattle.std.proofs.Common.{◌≡◌, map, take, drop}
use Rattle.cnf_core.specs.Literal.{negated}
use Rattle.derivation.specs.Propagation.{once}
use Rattle.derivation.proofs.Once.{apart}
use Rattle.derivation.proofs.checker.deny.Given as goal

-- the literals before are false, and no variable of them is among the others
abbrev pub invariant-loop-lit : goal.invariant-loop-lit
invariant-loop-lit l =
    (once l.clause ≡ apart l.trues (drop l.lit-index l.clause)) × (l.trues ≡ map negated (take l.lit-index l.clause))
