use Rattle.std.proofs.Common.{not, sym, ap, ◌∙◌, subst}
use Rattle.taco_unit.specs.declared.expr.Op.TheVariants as o
use Rattle.heap_core.specs.declared.value.Value.TheVariants.{Flag}
use Rattle.heap_core.specs.Outcomes.{same_flag, operated}
use Rattle.rel_core.specs.Meaning.{holds}
use Rattle.clause_terms.specs.Terms.{Tells}
use Rattle.clause_terms.proofs.Mixed.{truths_out}
use Rattle.clause_terms.proofs.operators.on_truths.Goals as goal

pub returns-in_ok-term-in-Eq-clause-told : goal.returns-in_ok-term-in-Eq-clause-told
returns-in_ok-term-in-Eq-clause-told c m v u one two = subst (λ op. Tells (operated op m.ints v u) c.in_ok-term-in-Eq.term m) (sym c.in-Eq.is)
    (subst (λ a. Tells (operated o.Eq m.ints a u) c.in_ok-term-in-Eq.term m) (sym one)
    (subst (λ b. Tells (operated o.Eq m.ints (Flag (holds c.args.x m)) b) c.in_ok-term-in-Eq.term m) (sym two)
    (c.in_ok-term-in-Eq.ensures.told m (Flag (same_flag (holds c.args.x m) (holds c.args.y m))) (ap Flag (sym (c.in_ok-same-in-Eq.ensures.meaning m))))))

pub returns-in_ok-term-in-Eq-clause-sorted : goal.returns-in_ok-term-in-Eq-clause-sorted
returns-in_ok-term-in-Eq-clause-sorted c p kinds x y = c.in_ok-term-in-Eq.ensures.sorted p kinds (c.in_ok-same-in-Eq.ensures.sorted p kinds x y)

pub returns-in_ok-term-in-Iff-clause-told : goal.returns-in_ok-term-in-Iff-clause-told
returns-in_ok-term-in-Iff-clause-told c m v u one two = subst (λ op. Tells (operated op m.ints v u) c.in_ok-term-in-Iff.term m) (sym c.in-Iff.is)
    (subst (λ a. Tells (operated o.Iff m.ints a u) c.in_ok-term-in-Iff.term m) (sym one)
    (subst (λ b. Tells (operated o.Iff m.ints (Flag (holds c.args.x m)) b) c.in_ok-term-in-Iff.term m) (sym two)
    (c.in_ok-term-in-Iff.ensures.told m (Flag (same_flag (holds c.args.x m) (holds c.args.y m))) (ap Flag (sym (c.in_ok-same-in-Iff.ensures.meaning m))))))

pub returns-in_ok-term-in-Iff-clause-sorted : goal.returns-in_ok-term-in-Iff-clause-sorted
returns-in_ok-term-in-Iff-clause-sorted c p kinds x y = c.in_ok-term-in-Iff.ensures.sorted p kinds (c.in_ok-same-in-Iff.ensures.sorted p kinds x y)

pub returns-in_ok-term-in-Ne-clause-told : goal.returns-in_ok-term-in-Ne-clause-told
returns-in_ok-term-in-Ne-clause-told c m v u one two = subst (λ op. Tells (operated op m.ints v u) c.in_ok-term-in-Ne.term m) (sym c.in-Ne.is)
    (subst (λ a. Tells (operated o.Ne m.ints a u) c.in_ok-term-in-Ne.term m) (sym one)
    (subst (λ b. Tells (operated o.Ne m.ints (Flag (holds c.args.x m)) b) c.in_ok-term-in-Ne.term m) (sym two)
    (c.in_ok-term-in-Ne.ensures.told m (Flag (not (same_flag (holds c.args.x m) (holds c.args.y m))))
    (ap Flag (sym (c.in_ok-other-in-Ne.ensures.meaning m ∙ ap not (c.in_ok-same-in-Ne.ensures.meaning m)))))))

pub returns-in_ok-term-in-Ne-clause-sorted : goal.returns-in_ok-term-in-Ne-clause-sorted
returns-in_ok-term-in-Ne-clause-sorted c p kinds x y = c.in_ok-term-in-Ne.ensures.sorted p kinds (c.in_ok-other-in-Ne.ensures.sorted p kinds (c.in_ok-same-in-Ne.ensures.sorted p kinds x y))

pub returns-in_ok-term-in_default-clause-told : goal.returns-in_ok-term-in_default-clause-told
returns-in_ok-term-in_default-clause-told c m v u one two = subst (λ a. Tells (operated c.args.op m.ints a u) c.in_ok-term-in_default.term m) (sym one)
    (subst (λ b. Tells (operated c.args.op m.ints (Flag (holds c.args.x m)) b) c.in_ok-term-in_default.term m) (sym two)
    (truths_out c.args.op m _ (holds c.args.x m) (holds c.args.y m) c.in_default.not-Eq c.in_default.not-Ne c.in_default.not-Iff (c.in_ok-term-in_default.ensures.told m)))

pub returns-in_ok-term-in_default-clause-sorted : goal.returns-in_ok-term-in_default-clause-sorted
returns-in_ok-term-in_default-clause-sorted c p kinds x y = c.in_ok-term-in_default.ensures.sorted p kinds
