use Rattle.std.proofs.Common.{◌≡◌, ◌++◌, drop}
use Rattle.std.specs.Prelude.{map}
use Rattle.declared_names.specs.Lookups.{field_slot}
use Rattle.typed_forms.specs.Clauses.{link_number}
use Rattle.typed_forms.proofs.predicates.reach.Given as goal

-- what is left still has its numbers
abbrev pub invariant-loop-field : goal.invariant-loop-field
invariant-loop-field l = l.numbers ++ map (λ f. link_number (field_slot l.world l.owner f.text)) (drop l.field-index l.fields) ≡ map (λ f. link_number (field_slot l.world l.owner f.text)) l.fields
