use Rattle.std.proofs.Common.{◌<◌, refl, sym, ap, subst, not, ◌||◌, ◌∙◌, ◌∷◌, ◌++◌, [], append-nil, arith}
use Rattle.std.specs.List.{list_all, range_with_len}
use Rattle.std.proofs.lemmas.Bool.{lt-ltb}
use Rattle.heap_core.specs.Posed.{Posed}
use Rattle.rel_core.specs.Shown.{live_relation}
use Rattle.rel_core.specs.Uses.{GivesStart}
use Rattle.canon_rel.specs.Order.{follows}
use Rattle.canon_rel.specs.Places.{is_within, is_sorted_place, root_places, field_places, places_below}
use Rattle.canon_rel.proofs.Gathered.{no_parts, more_parts, places_more}
use Rattle.canon_rel.proofs.KindsKnown.{places_sorted, places_within}
use Rattle.canon_rel.proofs.order.is_in_order.Goals as goal

pub loop-object-init : goal.loop-object-init
loop-object-init c = record { places_are = c.in_ok-places.ensures ∙ sym (append-nil (root_places c.args.problem.now c.args.at.now)); parts_are = no_parts c.new-parts.result c.new-parts.ensures }

pub loop-object-preserved : goal.loop-object-preserved
loop-object-preserved c =
    let p = c.args.problem.now in
    let at = c.args.at.now in
    let o = c.loop-object.object in
    let are = c.loop-object.invariant.places_are in
    let few = c.object_count-count.ensures in
    record {
      places_are = c.in_ok-push_fields.ensures ∙ ap (λ ps. ps ++ field_places p at o) are ∙ sym (places_more p at o);
      parts_are =
          more_parts o c.loop-object.parts c.push.new.self c.in_ok-part.part c.loop-object.invariant.parts_are
          (c.in_ok-push.ensures.ok ∙ ap (λ f. c.loop-object.parts ++ f ∷ []) c.into_inner.ensures)
          (λ m same.
          c.in_ok-part.ensures.meaning m (ap (list_all (is_within m.objects)) (c.as_slice.ensures ∙ are) ∙ places_within p at o m.objects (omega (arith, c.loop-object-test.true, few, same)))
          (omega (arith, c.loop-object-test.true, few, same))
          ∙ ap (λ ps. not (m.flag (live_relation at) o) || follows m ps o) (c.as_slice.ensures ∙ are))
          (λ q kinds so.
          let inside : o < q.scope.objects = omega (arith, c.loop-object-test.true, few, ap (λ (p : Posed). p.scope.objects) so.0) in
          c.in_ok-part.ensures.sorted q kinds
          (ap (list_all (is_sorted_place q kinds)) (c.as_slice.ensures ∙ are ∙ ap (λ p. places_below p at o) (sym so.0))
          ∙ places_sorted q kinds at o (subst (λ p. GivesStart p kinds) (sym so.0) so.1) (omega (arith, inside))) (lt-ltb o q.scope.objects inside));
    }

pub returns-clause-meaning : goal.returns-clause-meaning
returns-clause-meaning c = λ m same.
    let p = c.args.problem.now in
    let at = c.args.at.now in
    c.in_ok-all.ensures.meaning m ∙ c.loop-object.invariant.parts_are.meaning m same
    ∙ ap (λ n. list_all (λ j. not (m.flag (live_relation at) j) || follows m (places_below p at j) j) (range_with_len 0 n))
    (omega (arith, c.loop-object-test.false, c.loop-object.auto.object-end, c.object_count-count.ensures))

pub returns-clause-sorted : goal.returns-clause-sorted
returns-clause-sorted c = λ kinds gives. c.in_ok-all.ensures.sorted c.args.problem.now kinds (c.loop-object.invariant.parts_are.sorted c.args.problem.now kinds (refl, gives))
