use Rattle.std.proofs.Common.{◌≡◌, ◌≤◌, ◌<◌, ◌+◌, ◌∷◌, length, drop, ap, sym, ◌∙◌, arith}
use Rattle.std.proofs.lemmas.List.{drop_all, drop_more}
use Rattle.declared_names.specs.Faults.{soonest, earlier}
use Rattle.declared_names.specs.Lookups.{field_slot}
use Rattle.typed_forms.specs.Clauses.{link_faults, links_faults}
use Rattle.declared_names.proofs.Told.{next_fault, last_fault, none-earlier}
use Rattle.typed_forms.proofs.predicates.links_fault.Goals as goal

pub loop-field-init : goal.loop-field-init
loop-field-init c = none-earlier _

pub loop-field-preserved : goal.loop-field-preserved
loop-field-preserved c =
    let within : c.loop-field.field-index < length c.args.fields.now = omega arith in
    let left : drop c.loop-field.field-index c.args.fields.now ≡ c.field-item.result ∷ drop (c.loop-field.field-index + 1) c.args.fields.now =
    drop_more c.args.fields.now c.loop-field.field-index c.field-item.result within ∙ ap (λ f. f ∷ drop (c.loop-field.field-index + 1) c.args.fields.now) (sym c.field-item.is) in
    let slot = c.field_slot-slot.ensures ∙ ap (field_slot c.args.world.now c.args.owner) c.bytes.ensures in
    let link = c.link_fault.ensures ∙ ap (λ s. soonest (link_faults c.args.owner c.field-item.result s)) slot in
    ap (λ r. earlier r (soonest (links_faults c.args.world.now c.args.owner (drop (c.loop-field.field-index + 1) c.args.fields.now)))) c.earlier-found.ensures
    ∙ next_fault c.loop-field.found c.link_fault.result _ (links_faults c.args.world.now c.args.owner (drop (c.loop-field.field-index + 1) c.args.fields.now)) link
    ∙ ap (λ fs. earlier c.loop-field.found (soonest (links_faults c.args.world.now c.args.owner fs))) (sym left)
    ∙ c.loop-field.invariant

pub returns : goal.returns
returns c =
    let past : length c.args.fields.now ≤ c.loop-field.field-index = omega arith in
    sym (ap (λ fs. earlier c.loop-field.found (soonest (links_faults c.args.world.now c.args.owner fs))) (drop_all c.loop-field.field-index c.args.fields.now past) ∙ last_fault c.loop-field.found)
    ∙ c.loop-field.invariant
