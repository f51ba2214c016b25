use Rattle.std.proofs.Common.{◌≡◌, take, map}
use Rattle.canonical_order.specs.Canonical.{renamed}
use Rattle.canonical_order.proofs.numbering.all_renamed.Given as goal

abbrev pub invariant-loop-value : goal.invariant-loop-value
invariant-loop-value l = l.all ≡ map (renamed l.numbers) (take l.value-index l.values)
