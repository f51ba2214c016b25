use Rattle.std.proofs.Common.{◌≡◌, ◌<◌, true, IsTrue, nat_lt, slice_get}
use Rattle.std.specs.Option.{option_map_or}
use Rattle.canon_rel.specs.Shape.{field_fits}
use Rattle.canon_rel.proofs.Gathered.{AllParts}
use Rattle.canon_rel.proofs.shape.fields_fit.Given as goal

abbrev pub invariant-loop-field : goal.invariant-loop-field
invariant-loop-field l =
    AllParts (λ m. l.object < m.objects) (λ p kinds. (p ≡ l.problem) × IsTrue (nat_lt l.object p.scope.objects))
    (λ m f. option_map_or (field_fits l.at m l.object f) (slice_get l.problem.unit.fields f) true) l.field l.parts
