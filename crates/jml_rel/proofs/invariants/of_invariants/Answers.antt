use Rattle.std.proofs.Common.{◌≡◌, Bool, ap, ◌∙◌, ◌∷◌, ◌++◌, [], arith}
use Rattle.taco_unit.specs.declared.unit.Clause.{Clause}
use Rattle.heap_core.specs.Heap.{Heap}
use Rattle.heap_core.specs.Eval.{eval}
use Rattle.heap_core.specs.Judge.{invariant_env}
use Rattle.rel_core.specs.Meaning.{holds}
use Rattle.rel_core.specs.Uses.{is_sorted}
use Rattle.clause_terms.proofs.Quantified.{all_with}
use Rattle.jml_rel.specs.Asked.{is_answered}
use Rattle.jml_rel.proofs.Gathering.{part_more, parts_whole}
use Rattle.jml_rel.proofs.invariants.of_invariants.Goals as goal

pub loop-clause-preserved : goal.loop-clause-preserved
loop-clause-preserved c =
    let pushed : c.push.new.self ≡ c.loop-clause.parts ++ c.in_ok-part.part ∷ [] = c.in_ok-push.ensures.ok ∙ ap (λ f. c.loop-clause.parts ++ f ∷ []) c.into_inner.ensures in
    let answered : Heap → Clause → Bool = λ heap d. is_answered c.args.asked (eval d.expr (invariant_env c.args.problem.now heap c.args.object)) in
    record {
      told = λ m heap shown there. part_more (λ a. holds a m) (answered heap) c.loop-clause.parts c.push.new.self c.in_ok-part.part c.args.clauses.now c.loop-clause.clause-index
          c.clause-item.result c.loop-clause-test.true pushed (c.in_ok-part.ensures.meaning c.args.at.now m heap c.in_ok-alone.ensures shown there ∙ ap (answered heap) c.clause-item.is)
          (c.loop-clause.invariant.told m heap shown there);
      sorted = λ kinds below. all_with (is_sorted c.args.problem.now kinds) c.loop-clause.parts c.push.new.self c.in_ok-part.part pushed (c.loop-clause.invariant.sorted kinds below)
          (c.in_ok-part.ensures.sorted c.args.at.now kinds c.in_ok-alone.ensures below);
    }

pub returns-clause-meaning : goal.returns-clause-meaning
returns-clause-meaning c m heap shown there = c.in_ok-all.ensures.meaning m
    ∙ parts_whole (λ a. holds a m) (λ d. is_answered c.args.asked (eval d.expr (invariant_env c.args.problem.now heap c.args.object))) c.loop-clause.parts c.args.clauses.now
    c.loop-clause.clause-index (omega (arith, c.loop-clause-test.false)) (c.loop-clause.invariant.told m heap shown there)

pub returns-clause-sorted : goal.returns-clause-sorted
returns-clause-sorted c kinds below = c.in_ok-all.ensures.sorted c.args.problem.now kinds (c.loop-clause.invariant.sorted kinds below)
