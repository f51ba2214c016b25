use Rattle.std.proofs.Common.{◌≡◌, true, ap, ◌∙◌, ◌∷◌, ◌++◌, [], ◌≤◌, length, arith}
use Rattle.std.specs.List.{list_all}
use Rattle.std.specs.Prelude.{nat_lt}
use Rattle.std.proofs.lemmas.Bool.{lt-ltb}
use Rattle.heap_core.specs.Posed.{Posed}
use Rattle.rel_core.specs.Reading.{numbers_below}
use Rattle.rel_core.specs.Meaning.{holds}
use Rattle.rel_core.specs.Uses.{is_sorted}
use Rattle.clause_terms.proofs.Quantified.{all_with}
use Rattle.jml_rel.specs.Asked.{object_passes}
use Rattle.jml_rel.proofs.Gathering.{number_more}
use Rattle.jml_rel.proofs.Objects.{of_those_there}
use Rattle.jml_rel.proofs.heaps.of_heap.Goals as goal

pub loop-object-preserved : goal.loop-object-preserved
loop-object-preserved c =
    let pushed : c.push.new.self ≡ c.loop-object.parts ++ c.in_ok-part.part ∷ [] = c.in_ok-push.ensures.ok ∙ ap (λ f. c.loop-object.parts ++ f ∷ []) c.into_inner.ensures in
    let below : nat_lt c.loop-object.object c.args.problem.now.scope.objects ≡ true = lt-ltb c.loop-object.object c.args.problem.now.scope.objects
    (omega (arith, ap (λ (p : Posed). p.scope.objects) c.problem.view_is, c.loop-object-test.true)) in
    record {
      told = λ m heap shown. number_more (λ a. holds a m) (object_passes c.args.asked c.args.problem.now heap) c.loop-object.parts c.push.new.self c.in_ok-part.part c.loop-object.object pushed
          (c.in_ok-part.ensures.meaning m heap shown (ap (nat_lt c.loop-object.object) shown.objects ∙ below)) (c.loop-object.invariant.told m heap shown);
      sorted = λ kinds. all_with (is_sorted c.args.problem.now kinds) c.loop-object.parts c.push.new.self c.in_ok-part.part pushed (c.loop-object.invariant.sorted kinds)
          (c.in_ok-part.ensures.sorted kinds below);
    }

pub returns-clause-meaning : goal.returns-clause-meaning
returns-clause-meaning c m heap shown =
    let few : length heap ≤ m.objects = shown.shown.few in
    let ends : c.loop-object.object ≡ m.objects = omega (arith, ap (λ (p : Posed). p.scope.objects) c.problem.view_is, shown.objects, c.loop-object-test.false, c.loop-object.auto.object-end) in
    c.in_ok-all.ensures.meaning m ∙ c.loop-object.invariant.told m heap shown
    ∙ ap (λ n. list_all (object_passes c.args.asked c.args.problem.now heap) (numbers_below n)) ends
    ∙ of_those_there c.args.asked c.args.problem.now heap m.objects few

pub returns-clause-sorted : goal.returns-clause-sorted
returns-clause-sorted c kinds = c.in_ok-all.ensures.sorted c.args.problem.now kinds (c.loop-object.invariant.sorted kinds)
