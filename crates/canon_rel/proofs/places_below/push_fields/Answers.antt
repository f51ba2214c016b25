use Rattle.std.proofs.Common.{◌∷◌, ◌++◌, [], sym, ap, ◌∙◌, append_assoc, append-nil, arith}
use Rattle.std.specs.Prelude.{map, filter, if◌then◌else◌}
use Rattle.std.specs.List.{range_with_len}
use Rattle.canonical_order.specs.Tuples.{is_link}
use Rattle.rel_core.specs.Shown.{field_relation}
use Rattle.canon_rel.specs.declared.places.Place.TheVariants as place
use Rattle.canon_rel.proofs.Gathered.{kept_more}
use Rattle.canon_rel.proofs.places_below.push_fields.Goals as goal

pub loop-field-init : goal.loop-field-init
loop-field-init c = sym (append-nil c.args.places.now)

pub loop-field-preserved : goal.loop-field-preserved
loop-field-preserved c =
    let at = c.args.at.now in
    let o = c.args.object in
    let u = c.args.problem.now.unit in
    let f = c.loop-field.field in
    let kept = map (λ f. place.Field (field_relation at f) o) (filter (is_link u) (range_with_len 0 f)) in
    let next = if is_link u f then place.Field (field_relation at f) o ∷ [] else [] in
    c.in_ok-push_field.ensures ∙ ap (λ ps. ps ++ next) c.loop-field.invariant ∙ append_assoc c.args.places.now kept next
    ∙ ap (λ ps. c.args.places.now ++ ps) (sym (kept_more (λ f. place.Field (field_relation at f) o) (is_link u) f))

pub returns : goal.returns
returns c =
    let at = c.args.at.now in
    let o = c.args.object in
    let u = c.args.problem.now.unit in
    c.loop-field.invariant
    ∙ ap (λ n. c.args.places.now ++ map (λ f. place.Field (field_relation at f) o) (filter (is_link u) (range_with_len 0 n)))
    (omega (arith, c.loop-field-test.false, c.loop-field.auto.field-end, c.field_count-count.ensures.value))
