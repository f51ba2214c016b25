use Rattle.std.proofs.Common.{not, sym, ap, ◌∙◌, subst}
use Rattle.heap_core.specs.declared.value.Value.TheVariants.{Flag}
use Rattle.heap_core.specs.Outcomes.{is_value, operated, with_value, opposite}
use Rattle.clause_terms.specs.Terms.{Tells}
use Rattle.clause_terms.proofs.Mixed.{reference_same, references_out}
use Rattle.clause_terms.proofs.operators.on_sets.Goals as goal

pub returns-in_ok-term-in-Eq-clause-told : goal.returns-in_ok-term-in-Eq-clause-told
returns-in_ok-term-in-Eq-clause-told c m v u one two = subst (λ op. Tells (operated op m.ints v u) c.in_ok-term-in-Eq.term m) (sym c.in-Eq.is)
    (subst (λ r. Tells r c.in_ok-term-in-Eq.term m) (sym (reference_same m c.args.x c.args.y v u one two))
    (c.in_ok-term-in-Eq.ensures.told m (Flag (is_value v u)) (ap Flag (sym (c.in_ok-same-in-Eq.ensures.meaning m v u one two)))))

pub returns-in_ok-term-in-Eq-clause-sorted : goal.returns-in_ok-term-in-Eq-clause-sorted
returns-in_ok-term-in-Eq-clause-sorted c p kinds x y = c.in_ok-term-in-Eq.ensures.sorted p kinds (c.in_ok-same-in-Eq.ensures.sorted p kinds x y)

pub returns-in_ok-term-in-Ne-clause-told : goal.returns-in_ok-term-in-Ne-clause-told
returns-in_ok-term-in-Ne-clause-told c m v u one two = subst (λ op. Tells (operated op m.ints v u) c.in_ok-term-in-Ne.term m) (sym c.in-Ne.is)
    (subst (λ r. Tells r c.in_ok-term-in-Ne.term m) (sym (ap (λ s. with_value s opposite) (reference_same m c.args.x c.args.y v u one two)))
    (c.in_ok-term-in-Ne.ensures.told m (Flag (not (is_value v u))) (ap Flag (sym (c.in_ok-other-in-Ne.ensures.meaning m ∙ ap not (c.in_ok-same-in-Ne.ensures.meaning m v u one two))))))

pub returns-in_ok-term-in-Ne-clause-sorted : goal.returns-in_ok-term-in-Ne-clause-sorted
returns-in_ok-term-in-Ne-clause-sorted c p kinds x y = c.in_ok-term-in-Ne.ensures.sorted p kinds (c.in_ok-other-in-Ne.ensures.sorted p kinds (c.in_ok-same-in-Ne.ensures.sorted p kinds x y))

pub returns-in_ok-term-in_default-clause-told : goal.returns-in_ok-term-in_default-clause-told
returns-in_ok-term-in_default-clause-told c m v u one two = references_out c.args.op m c.args.x _ v u c.in_default.not-Eq c.in_default.not-Ne one (c.in_ok-term-in_default.ensures.told m)

pub returns-in_ok-term-in_default-clause-sorted : goal.returns-in_ok-term-in_default-clause-sorted
returns-in_ok-term-in_default-clause-sorted c p kinds x y = c.in_ok-term-in_default.ensures.sorted p kinds
