use Rattle.std.proofs.Common.{◌≡◌, true, not, ◌||◌, ap, ◌∙◌, ◌∷◌, ◌++◌, [], arith}
use Rattle.std.specs.Prelude.{slice_get}
use Rattle.std.specs.Option.{option_map_or}
use Rattle.std.specs.List.{list_all}
use Rattle.heap_core.specs.Heap.{is_of}
use Rattle.rel_core.specs.Reading.{numbers_below}
use Rattle.rel_core.specs.Meaning.{holds}
use Rattle.rel_core.specs.Uses.{is_sorted}
use Rattle.clause_terms.proofs.Quantified.{all_with}
use Rattle.jml_rel.specs.Asked.{class_passes}
use Rattle.jml_rel.proofs.Gathering.{number_more}
use Rattle.jml_rel.proofs.Objects.{of_own_class}
use Rattle.jml_rel.proofs.heaps.of_object.Goals as goal

pub loop-class-preserved : goal.loop-class-preserved
loop-class-preserved c =
    let pushed : c.push.new.self ≡ c.loop-class.parts ++ c.in_ok-part.part ∷ [] = c.in_ok-push.ensures.ok ∙ ap (λ f. c.loop-class.parts ++ f ∷ []) c.into_inner.ensures in
    record {
      told = λ m heap shown below. number_more (λ a. holds a m)
          (λ k. not (is_of heap k c.args.object) || option_map_or (class_passes c.args.asked c.args.problem.now heap c.args.object) (slice_get c.args.problem.now.unit.classes k) true)
          c.loop-class.parts c.push.new.self c.in_ok-part.part c.loop-class.class pushed (c.in_ok-part.ensures.meaning m heap shown below) (c.loop-class.invariant.told m heap shown below);
      sorted = λ kinds below. all_with (is_sorted c.args.problem.now kinds) c.loop-class.parts c.push.new.self c.in_ok-part.part pushed (c.loop-class.invariant.sorted kinds below)
          (c.in_ok-part.ensures.sorted kinds below);
    }

pub returns-clause-meaning : goal.returns-clause-meaning
returns-clause-meaning c m heap shown below = c.in_ok-all.ensures.meaning m ∙ c.loop-class.invariant.told m heap shown below
    ∙ ap (λ n. list_all (λ k. not (is_of heap k c.args.object) || option_map_or (class_passes c.args.asked c.args.problem.now heap c.args.object) (slice_get c.args.problem.now.unit.classes k) true)
    (numbers_below n)) (omega (arith, c.loop-class-test.false, c.loop-class.auto.class-end, c.class_count-classes.ensures))
    ∙ of_own_class c.args.asked c.args.problem.now heap c.args.object

pub returns-clause-sorted : goal.returns-clause-sorted
returns-clause-sorted c kinds below = c.in_ok-all.ensures.sorted c.args.problem.now kinds (c.loop-class.invariant.sorted kinds below)
