use Rattle.std.proofs.Common.{◌≡◌, true, Some, slice_get}
use Rattle.std.specs.Option.{option_map_or}
use Rattle.heap_core.specs.Start.{method_of}
use Rattle.rel_core.specs.Uses.{GivesStart}
use Rattle.canon_rel.specs.Shape.{argument_fits}
use Rattle.canon_rel.proofs.Gathered.{AllParts}
use Rattle.canon_rel.proofs.shape.arguments_fit.Given as goal

abbrev pub invariant-loop-variable : goal.invariant-loop-variable
invariant-loop-variable l =
    AllParts (λ m. Unit {0}) (λ p kinds. (method_of p ≡ Some l.method) × GivesStart p kinds)
    (λ m x. option_map_or (argument_fits l.at m x) (slice_get l.method.params x) true) l.variable l.parts
