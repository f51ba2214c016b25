use Rattle.std.proofs.Common.{refl, sym, subst}
use Rattle.taco_unit.specs.declared.expr.Op.TheVariants as o
use Rattle.heap_core.specs.Outcomes.{operated}
use Rattle.clause_terms.specs.Terms.{Tells}
use Rattle.clause_terms.proofs.NumberTerms.{turned, told_equivalent}
use Rattle.clause_terms.proofs.numbers.on_numbers.Goals as goal

pub returns-in_ok-term-in-Add-clause-told : goal.returns-in_ok-term-in-Add-clause-told
returns-in_ok-term-in-Add-clause-told c m v u a b = subst (λ op. Tells (operated op m.ints v u) c.in_ok-term-in-Add.term m) (sym c.in-Add.is) (c.in_ok-term-in-Add.ensures.told m v u a b)

pub returns-in_ok-term-in-Add-clause-sorted : goal.returns-in_ok-term-in-Add-clause-sorted
returns-in_ok-term-in-Add-clause-sorted c p kinds x y = c.in_ok-term-in-Add.ensures.sorted p kinds x y

pub returns-in_ok-term-in-Sub-clause-told : goal.returns-in_ok-term-in-Sub-clause-told
returns-in_ok-term-in-Sub-clause-told c m v u a b = subst (λ op. Tells (operated op m.ints v u) c.in_ok-term-in-Sub.term m) (sym c.in-Sub.is) (c.in_ok-term-in-Sub.ensures.told m v u a b)

pub returns-in_ok-term-in-Sub-clause-sorted : goal.returns-in_ok-term-in-Sub-clause-sorted
returns-in_ok-term-in-Sub-clause-sorted c p kinds x y = c.in_ok-term-in-Sub.ensures.sorted p kinds x y

pub returns-in_ok-term-in-Mul-clause-told : goal.returns-in_ok-term-in-Mul-clause-told
returns-in_ok-term-in-Mul-clause-told c m v u a b = subst (λ op. Tells (operated op m.ints v u) c.in_ok-term-in-Mul.term m) (sym c.in-Mul.is) (c.in_ok-term-in-Mul.ensures.told m v u a b)

pub returns-in_ok-term-in-Mul-clause-sorted : goal.returns-in_ok-term-in-Mul-clause-sorted
returns-in_ok-term-in-Mul-clause-sorted c p kinds x y = c.in_ok-term-in-Mul.ensures.sorted p kinds x y

pub returns-in_ok-term-in-Eq-clause-told : goal.returns-in_ok-term-in-Eq-clause-told
returns-in_ok-term-in-Eq-clause-told c m v u a b = subst (λ op. Tells (operated op m.ints v u) c.in_ok-term-in-Eq.term m) (sym c.in-Eq.is) (c.in_ok-term-in-Eq.ensures.told m v u a b)

pub returns-in_ok-term-in-Eq-clause-sorted : goal.returns-in_ok-term-in-Eq-clause-sorted
returns-in_ok-term-in-Eq-clause-sorted c p kinds x y = c.in_ok-term-in-Eq.ensures.sorted p kinds x y

pub returns-in_ok-term-in-Ne-clause-told : goal.returns-in_ok-term-in-Ne-clause-told
returns-in_ok-term-in-Ne-clause-told c m v u a b = subst (λ op. Tells (operated op m.ints v u) c.in_ok-term-in-Ne.term m) (sym c.in-Ne.is) (c.in_ok-term-in-Ne.ensures.told m v u a b)

pub returns-in_ok-term-in-Ne-clause-sorted : goal.returns-in_ok-term-in-Ne-clause-sorted
returns-in_ok-term-in-Ne-clause-sorted c p kinds x y = c.in_ok-term-in-Ne.ensures.sorted p kinds x y

pub returns-in_ok-term-in-Lt-clause-told : goal.returns-in_ok-term-in-Lt-clause-told
returns-in_ok-term-in-Lt-clause-told c m v u a b = subst (λ op. Tells (operated op m.ints v u) c.in_ok-term-in-Lt.term m) (sym c.in-Lt.is) (c.in_ok-term-in-Lt.ensures.told m v u a b)

pub returns-in_ok-term-in-Lt-clause-sorted : goal.returns-in_ok-term-in-Lt-clause-sorted
returns-in_ok-term-in-Lt-clause-sorted c p kinds x y = c.in_ok-term-in-Lt.ensures.sorted p kinds x y

pub returns-in_ok-term-in-Le-clause-told : goal.returns-in_ok-term-in-Le-clause-told
returns-in_ok-term-in-Le-clause-told c m v u a b = subst (λ op. Tells (operated op m.ints v u) c.in_ok-term-in-Le.term m) (sym c.in-Le.is)
    (turned m o.Le o.Ge c.args.x c.args.y _ v u (λ z w. refl) a b (c.in_ok-term-in-Le.ensures.told m u v b a))

pub returns-in_ok-term-in-Le-clause-sorted : goal.returns-in_ok-term-in-Le-clause-sorted
returns-in_ok-term-in-Le-clause-sorted c p kinds x y = c.in_ok-term-in-Le.ensures.sorted p kinds y x

pub returns-in_ok-term-in-Gt-clause-told : goal.returns-in_ok-term-in-Gt-clause-told
returns-in_ok-term-in-Gt-clause-told c m v u a b = subst (λ op. Tells (operated op m.ints v u) c.in_ok-term-in-Gt.term m) (sym c.in-Gt.is)
    (turned m o.Gt o.Lt c.args.x c.args.y _ v u (λ z w. refl) a b (c.in_ok-term-in-Gt.ensures.told m u v b a))

pub returns-in_ok-term-in-Gt-clause-sorted : goal.returns-in_ok-term-in-Gt-clause-sorted
returns-in_ok-term-in-Gt-clause-sorted c p kinds x y = c.in_ok-term-in-Gt.ensures.sorted p kinds y x

pub returns-in_ok-term-in-Ge-clause-told : goal.returns-in_ok-term-in-Ge-clause-told
returns-in_ok-term-in-Ge-clause-told c m v u a b = subst (λ op. Tells (operated op m.ints v u) c.in_ok-term-in-Ge.term m) (sym c.in-Ge.is) (c.in_ok-term-in-Ge.ensures.told m v u a b)

pub returns-in_ok-term-in-Ge-clause-sorted : goal.returns-in_ok-term-in-Ge-clause-sorted
returns-in_ok-term-in-Ge-clause-sorted c p kinds x y = c.in_ok-term-in-Ge.ensures.sorted p kinds x y

pub returns-in_ok-term-in-And-clause-told : goal.returns-in_ok-term-in-And-clause-told
returns-in_ok-term-in-And-clause-told c m v u a b = subst (λ op. Tells (operated op m.ints v u) c.in_ok-term-in-And.term m) (sym c.in-And.is) (c.in_ok-term-in-And.ensures.told m)

pub returns-in_ok-term-in-And-clause-sorted : goal.returns-in_ok-term-in-And-clause-sorted
returns-in_ok-term-in-And-clause-sorted c p kinds x y = c.in_ok-term-in-And.ensures.sorted p kinds

pub returns-in_ok-term-in-Or-clause-told : goal.returns-in_ok-term-in-Or-clause-told
returns-in_ok-term-in-Or-clause-told c m v u a b = subst (λ op. Tells (operated op m.ints v u) c.in_ok-term-in-Or.term m) (sym c.in-Or.is) (c.in_ok-term-in-Or.ensures.told m)

pub returns-in_ok-term-in-Or-clause-sorted : goal.returns-in_ok-term-in-Or-clause-sorted
returns-in_ok-term-in-Or-clause-sorted c p kinds x y = c.in_ok-term-in-Or.ensures.sorted p kinds

pub returns-in_ok-term-in-Implies-clause-told : goal.returns-in_ok-term-in-Implies-clause-told
returns-in_ok-term-in-Implies-clause-told c m v u a b = subst (λ op. Tells (operated op m.ints v u) c.in_ok-term-in-Implies.term m) (sym c.in-Implies.is) (c.in_ok-term-in-Implies.ensures.told m)

pub returns-in_ok-term-in-Implies-clause-sorted : goal.returns-in_ok-term-in-Implies-clause-sorted
returns-in_ok-term-in-Implies-clause-sorted c p kinds x y = c.in_ok-term-in-Implies.ensures.sorted p kinds

pub returns-in_ok-term-in-Iff-clause-told : goal.returns-in_ok-term-in-Iff-clause-told
returns-in_ok-term-in-Iff-clause-told c m v u a b = subst (λ op. Tells (operated op m.ints v u) c.in_ok-term-in-Iff.term m) (sym c.in-Iff.is)
    (told_equivalent m c.args.x _ v u a (c.in_ok-term-in-Iff.ensures.told m))

pub returns-in_ok-term-in-Iff-clause-sorted : goal.returns-in_ok-term-in-Iff-clause-sorted
returns-in_ok-term-in-Iff-clause-sorted c p kinds x y = c.in_ok-term-in-Iff.ensures.sorted p kinds
