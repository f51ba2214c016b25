-- The relations of the fields along which a `\reach` goes. (This project's own.)
use Rattle.std.specs.Prelude.{ℕ, Bool, false, List, map, filter, slice_get}
use Rattle.std.specs.Option.{option_map_or}
use Rattle.taco_unit.specs.declared.unit.FieldDef.{FieldDef}
use Rattle.taco_unit.specs.Kinds.{is_class_kind}
use Rattle.rel_core.specs.declared.indices.Indices.{Indices}
use Rattle.rel_core.specs.declared.relation.RelVar.{RelVar}
use Rattle.rel_core.specs.Shown.{field_relation}

-- the unit has the field, and it is of class kind
abbrev pub is_link : List FieldDef → ℕ → Bool
is_link declared f = option_map_or (λ d. is_class_kind d.kind) (slice_get declared f) false

-- the relations of those of the fields that are of class kind
abbrev pub links_of : List FieldDef → Indices → List ℕ → List RelVar
links_of declared at fields = map (field_relation at) (filter (is_link declared) fields)
