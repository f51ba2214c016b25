use Rattle.std.proofs.Common.{◌≡◌, not, sym, ap, ◌∙◌, ◌∷◌, ◌++◌, [], arith}
use Rattle.heap_core.specs.Judge.{is_missing}
use Rattle.rel_core.specs.Meaning.{holds}
use Rattle.rel_core.specs.Uses.{is_sorted}
use Rattle.clause_terms.proofs.Quantified.{all_with}
use Rattle.jml_rel.proofs.Gathering.{not_any, part_more, parts_whole}
use Rattle.jml_rel.proofs.fields.of_fields.Goals as goal

pub loop-field-preserved : goal.loop-field-preserved
loop-field-preserved c =
    let pushed : c.push.new.self ≡ c.loop-field.parts ++ c.in_ok-part.part ∷ [] = c.in_ok-push.ensures.ok ∙ ap (λ f. c.loop-field.parts ++ f ∷ []) c.into_inner.ensures in
    record {
      told = λ m heap shown below. part_more (λ a. holds a m) (λ f. not (is_missing c.args.problem.now heap c.args.object f)) c.loop-field.parts c.push.new.self c.in_ok-part.part
          c.args.fields.now c.loop-field.field-index 0 c.loop-field-test.true pushed (c.in_ok-part.ensures.meaning m heap shown below) (c.loop-field.invariant.told m heap shown below);
      sorted = λ kinds below. all_with (is_sorted c.args.problem.now kinds) c.loop-field.parts c.push.new.self c.in_ok-part.part pushed (c.loop-field.invariant.sorted kinds below)
          (c.in_ok-part.ensures.sorted kinds below);
    }

pub returns-clause-meaning : goal.returns-clause-meaning
returns-clause-meaning c m heap shown below = c.in_ok-all.ensures.meaning m
    ∙ parts_whole (λ a. holds a m) (λ f. not (is_missing c.args.problem.now heap c.args.object f)) c.loop-field.parts c.args.fields.now c.loop-field.field-index
    (omega (arith, c.loop-field-test.false)) (c.loop-field.invariant.told m heap shown below)
    ∙ sym (not_any (is_missing c.args.problem.now heap c.args.object) c.args.fields.now)

pub returns-clause-sorted : goal.returns-clause-sorted
returns-clause-sorted c kinds below = c.in_ok-all.ensures.sorted c.args.problem.now kinds (c.loop-field.invariant.sorted kinds below)
