-- The kinds of the unit, by the kinds that the text gives.
use Rattle.taco_unit.specs.declared.kind.Kind.{Kind}
use Rattle.taco_unit.specs.declared.kind.Kind.TheVariants as kind
use Rattle.taco_unit.specs.declared.unit.ParamDef.{ParamDef}
use Rattle.std.specs.Prelude.{Bool}
use Rattle.declared_names.specs.declared.sort.Sort.{Sort}
use Rattle.declared_names.specs.declared.sort.Sort.TheVariants.{Loose, Null, Int, Flag, Object}
use Rattle.declared_names.specs.declared.world.ParamKnown.{ParamKnown}
use Rattle.declared_names.specs.declared.world.ResultKnown.{ResultKnown}
use Rattle.typed_forms.specs.Calls.{byte}

abbrev pub kind_of : Sort → Kind
kind_of Loose = kind.Int
kind_of Null = kind.Int
kind_of Int = kind.Int
kind_of Flag = kind.Flag
kind_of (Object c) = kind.Ref (byte c)

abbrev pub param_def : ParamKnown → ParamDef
param_def p = record { name = p.name; kind = kind_of p.sort; nullable = p.nullable }

abbrev pub result_def : ResultKnown → Kind × Bool
result_def r = (kind_of r.sort, r.nullable)
