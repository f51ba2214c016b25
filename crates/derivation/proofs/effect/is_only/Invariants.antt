use Rattle.std.proofs.Common.{◌≡◌, ◌==◌, drop}
use Rattle.std.specs.List.{list_all}
use Rattle.derivation.specs.Propagation.{not_false}
use Rattle.derivation.proofs.effect.is_only.Given as goal

-- each literal before is false or the given one
abbrev pub invariant-loop-other : goal.invariant-loop-other
invariant-loop-other l =
    list_all (λ other. other == l.lit) (not_false l.trues l.lits) ≡ list_all (λ other. other == l.lit) (not_false l.trues (drop l.other-index l.lits))
