use Rattle.std.proofs.Common.{true, refl, sym, ap, ◌∙◌, ◌∷◌, ◌++◌, [], arith}
use Rattle.std.specs.Prelude.{slice_get}
use Rattle.std.specs.List.{list_all, range_with_len}
use Rattle.std.specs.Option.{option_map_or}
use Rattle.heap_core.specs.Posed.{Posed}
use Rattle.canon_rel.specs.Shape.{field_fits}
use Rattle.canon_rel.proofs.Gathered.{no_parts, more_parts}
use Rattle.canon_rel.proofs.shape.fields_fit.Goals as goal

pub loop-field-init : goal.loop-field-init
loop-field-init c = no_parts c.new-parts.result c.new-parts.ensures

pub loop-field-preserved : goal.loop-field-preserved
loop-field-preserved c =
    more_parts c.loop-field.field c.loop-field.parts c.push.new.self c.in_ok-part.part c.loop-field.invariant
    (c.in_ok-push.ensures.ok ∙ ap (λ f. c.loop-field.parts ++ f ∷ []) c.into_inner.ensures)
    (λ m inside. c.in_ok-part.ensures.meaning m inside ∙ sym (ap (λ d. option_map_or (field_fits c.args.at.now m c.args.object c.loop-field.field) d true) c.field_of.ensures))
    (λ p kinds so. c.in_ok-part.ensures.sorted p kinds so.1 (ap (λ (p : Posed). slice_get p.unit.fields c.loop-field.field) so.0 ∙ c.field_of.ensures))

pub returns-clause-meaning : goal.returns-clause-meaning
returns-clause-meaning c = λ m inside.
    c.in_ok-all.ensures.meaning m ∙ c.loop-field.invariant.meaning m inside
    ∙ ap (λ n. list_all (λ f. option_map_or (field_fits c.args.at.now m c.args.object f) (slice_get c.args.problem.now.unit.fields f) true) (range_with_len 0 n))
    (omega (arith, c.loop-field-test.false, c.loop-field.auto.field-end, c.field_count-count.ensures.value))

pub returns-clause-sorted : goal.returns-clause-sorted
returns-clause-sorted c = λ kinds inside. c.in_ok-all.ensures.sorted c.args.problem.now kinds (c.loop-field.invariant.sorted c.args.problem.now kinds (refl, inside))
