use Rattle.std.proofs.Common.{◌≡◌, true, take}
use Rattle.std.specs.Prelude.{nat_lt, is_some, slice_get}
use Rattle.std.specs.List.{list_all}
use Rattle.heap_core.specs.Posed.{Posed}
use Rattle.rel_core.specs.Reading.{Reading}
use Rattle.rel_core.specs.Meaning.{holds}
use Rattle.rel_core.specs.Uses.{Kinds, AsSet, is_variable, is_sorted}
use Rattle.dyn_steps.specs.Meanings.{field_grown}
use Rattle.dyn_steps.proofs.making.fields_grown.Given as goal

abbrev pub invariant-loop-field : goal.invariant-loop-field
invariant-loop-field l =
    ((m : Reading) → list_all (λ a. holds a m) l.parts ≡ list_all (field_grown m l.declared l.from.at l.from.next l.variable) (take l.field-index l.fields))
    × ((p : Posed) (kinds : Kinds) → p.unit.fields ≡ l.declared → list_all (λ f. is_some (slice_get l.declared f)) l.fields ≡ true → nat_lt 0 p.scope.objects ≡ true
    → is_variable p kinds AsSet l.variable ≡ true
    → list_all (is_sorted p kinds) l.parts ≡ true)
