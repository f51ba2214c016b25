use Rattle.std.proofs.Common.{refl, sym, ◌∙◌, subst, Some, None}
use Rattle.clause_terms.specs.Terms.{Tells}
use Rattle.jml_rel.proofs.Forms.{bound_below, bound_is}
use Rattle.jml_rel.proofs.walk.bound.Goals as goal

pub returns-in_ok-term-in-Some-clause-told : goal.returns-in_ok-term-in-Some-clause-told
returns-in_ok-term-in-Some-clause-told c env m shown = subst (λ s. Tells s c.in_ok-term-in-Some.term m)
    (sym (bound_is env.bound c.args.place.bound.now c.args.number (Some c.in-Some.object) shown.bound (sym c.object_at.ensures ∙ c.in-Some.is)))
    (c.in_ok-term-in-Some.ensures.told m (bound_below c.args.place.problem.now.scope.objects m.objects c.args.number c.in-Some.object c.args.place.bound.now
    (shown.numbers ∙ shown.objects) shown.below (sym c.object_at.ensures ∙ c.in-Some.is)))

pub returns-in_ok-term-in-Some-clause-sorted : goal.returns-in_ok-term-in-Some-clause-sorted
returns-in_ok-term-in-Some-clause-sorted c kinds sorts = c.in_ok-term-in-Some.ensures.sorted c.args.place.problem.now kinds
    (bound_below c.args.place.problem.now.scope.objects c.args.place.problem.now.scope.objects c.args.number c.in-Some.object c.args.place.bound.now refl sorts.below
    (sym c.object_at.ensures ∙ c.in-Some.is))

pub returns-in_ok-term-in-None-clause-told : goal.returns-in_ok-term-in-None-clause-told
returns-in_ok-term-in-None-clause-told c env m shown = subst (λ s. Tells s c.in_ok-term-in-None.term m)
    (sym (bound_is env.bound c.args.place.bound.now c.args.number None shown.bound (sym c.object_at.ensures ∙ c.in-None.is))) (c.in_ok-term-in-None.ensures.told m)

pub returns-in_ok-term-in-None-clause-sorted : goal.returns-in_ok-term-in-None-clause-sorted
returns-in_ok-term-in-None-clause-sorted c kinds sorts = c.in_ok-term-in-None.ensures.sorted c.args.place.problem.now kinds
