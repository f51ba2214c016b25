use Rattle.std.proofs.Common.{◌++◌, [], ◌∷◌, ap, ◌∙◌}
use Rattle.rel_core.specs.Meaning.{holds}
use Rattle.rel_core.specs.Uses.{is_sorted}
use Rattle.clause_terms.proofs.Quantified.{gathered_more, all_with}
use Rattle.clause_terms.proofs.instances.Instances.add.Goals as goal

pub returns-clause-told : goal.returns-clause-told
returns-clause-told c m domain instance n at judged before = gathered_more m domain instance n (holds c.args.guard m) c.args.truth at judged c.args.all c.args.self.now _ c.in_ok-fine.fine
    c.in_ok-inside.inside c.in_ok-value.value (c.in_ok-push.ensures.ok ∙ ap (λ f. c.args.self.now.fine ++ f ∷ []) c.into_inner.ensures)
    (c.in_ok-push-2.ensures.ok ∙ ap (λ f. c.args.self.now.inside ++ f ∷ []) c.into_inner-2.ensures)
    (c.in_ok-push-3.ensures.ok ∙ ap (λ f. c.args.self.now.values ++ f ∷ []) c.into_inner-3.ensures) (c.in_ok-fine.ensures.meaning m) (c.in_ok-inside.ensures.meaning m)
    (c.in_ok-value.ensures.meaning m) before

pub returns-clause-sorted : goal.returns-clause-sorted
returns-clause-sorted c p kinds guard truth before = record {
  fine = all_with (is_sorted p kinds) c.args.self.now.fine c.push.new.self c.in_ok-fine.fine
      (c.in_ok-push.ensures.ok ∙ ap (λ f. c.args.self.now.fine ++ f ∷ []) c.into_inner.ensures) before.fine (c.in_ok-fine.ensures.sorted p kinds guard truth.fine);
  inside = all_with (is_sorted p kinds) c.args.self.now.inside c.push-2.new.self c.in_ok-inside.inside
      (c.in_ok-push-2.ensures.ok ∙ ap (λ f. c.args.self.now.inside ++ f ∷ []) c.into_inner-2.ensures) before.inside (c.in_ok-inside.ensures.sorted p kinds guard truth.inside);
  values = all_with (is_sorted p kinds) c.args.self.now.values c.push-3.new.self c.in_ok-value.value
      (c.in_ok-push-3.ensures.ok ∙ ap (λ f. c.args.self.now.values ++ f ∷ []) c.into_inner-3.ensures) before.values (c.in_ok-value.ensures.sorted p kinds guard truth.value);
}
