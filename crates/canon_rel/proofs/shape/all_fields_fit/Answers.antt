use Rattle.std.proofs.Common.{◌≡◌, true, refl, sym, subst, ap, ◌∙◌, ◌∷◌, ◌++◌, [], arith}
use Rattle.std.specs.List.{list_all, range_with_len}
use Rattle.std.proofs.lemmas.Bool.{lt-ltb}
use Rattle.rel_core.specs.Uses.{is_sorted}
use Rattle.canon_rel.specs.Shape.{fields_fit}
use Rattle.canon_rel.proofs.Gathered.{no_parts, more_parts}
use Rattle.canon_rel.proofs.shape.all_fields_fit.Goals as goal

pub loop-object-init : goal.loop-object-init
loop-object-init c = no_parts c.new-parts.result c.new-parts.ensures

pub loop-object-preserved : goal.loop-object-preserved
loop-object-preserved c =
    more_parts c.loop-object.object c.loop-object.parts c.push.new.self c.in_ok-part.part c.loop-object.invariant
    (c.in_ok-push.ensures.ok ∙ ap (λ f. c.loop-object.parts ++ f ∷ []) c.into_inner.ensures)
    (λ m same. c.in_ok-part.ensures.meaning m (omega (arith, c.loop-object-test.true, c.object_count-count.ensures, same)))
    (λ p kinds same.
    subst (λ p. is_sorted p kinds c.in_ok-part.part ≡ true) (sym same)
    (c.in_ok-part.ensures.sorted kinds (lt-ltb c.loop-object.object c.args.problem.now.scope.objects (omega (arith, c.loop-object-test.true, c.object_count-count.ensures)))))

pub returns-clause-meaning : goal.returns-clause-meaning
returns-clause-meaning c = λ m same.
    c.in_ok-all.ensures.meaning m ∙ c.loop-object.invariant.meaning m same
    ∙ ap (λ n. list_all (fields_fit c.args.problem.now c.args.at.now m) (range_with_len 0 n)) (omega (arith, c.loop-object-test.false, c.loop-object.auto.object-end, c.object_count-count.ensures))

pub returns-clause-sorted : goal.returns-clause-sorted
returns-clause-sorted c = λ kinds. c.in_ok-all.ensures.sorted c.args.problem.now kinds (c.loop-object.invariant.sorted c.args.problem.now kinds refl)
