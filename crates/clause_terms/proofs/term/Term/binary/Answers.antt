use Rattle.std.proofs.Common.{refl, sym, subst}
use Rattle.taco_unit.specs.declared.expr.Op.TheVariants as o
use Rattle.heap_core.specs.Eval.{binary}
use Rattle.clause_terms.specs.Terms.{Tells}
use Rattle.clause_terms.proofs.Settled.{strict_is, flags_settle}
use Rattle.clause_terms.proofs.term.Term.binary.Goals as goal

pub returns-in_ok-both-in-And-clause-told : goal.returns-in_ok-both-in-And-clause-told
returns-in_ok-both-in-And-clause-told c m x y one two = subst (λ op. Tells (binary op m.ints x y) c.term.result m) (sym c.in-And.is)
    (subst (λ s. Tells s c.term.result m) (flags_settle.lazy_settled o.And m.ints x y refl)
    (c.term.ensures.told m (binary o.And m.ints x y) (c.in_ok-both-in-And.ensures.told m x y (c.in_ok-first-in-And.ensures.told m x one) (c.in_ok-second-in-And.ensures.told m y two))))

pub returns-in_ok-both-in-And-clause-sorted : goal.returns-in_ok-both-in-And-clause-sorted
returns-in_ok-both-in-And-clause-sorted c p kinds left right = c.term.ensures.sorted p kinds
    (c.in_ok-both-in-And.ensures.sorted p kinds (c.in_ok-first-in-And.ensures.sorted p kinds left) (c.in_ok-second-in-And.ensures.sorted p kinds right))

pub returns-in_ok-either-in-Or-clause-told : goal.returns-in_ok-either-in-Or-clause-told
returns-in_ok-either-in-Or-clause-told c m x y one two = subst (λ op. Tells (binary op m.ints x y) c.term-in-Or.result m) (sym c.in-Or.is)
    (subst (λ s. Tells s c.term-in-Or.result m) (flags_settle.lazy_settled o.Or m.ints x y refl)
    (c.term-in-Or.ensures.told m (binary o.Or m.ints x y) (c.in_ok-either-in-Or.ensures.told m x y (c.in_ok-first-in-Or.ensures.told m x one) (c.in_ok-second-in-Or.ensures.told m y two))))

pub returns-in_ok-either-in-Or-clause-sorted : goal.returns-in_ok-either-in-Or-clause-sorted
returns-in_ok-either-in-Or-clause-sorted c p kinds left right = c.term-in-Or.ensures.sorted p kinds
    (c.in_ok-either-in-Or.ensures.sorted p kinds (c.in_ok-first-in-Or.ensures.sorted p kinds left) (c.in_ok-second-in-Or.ensures.sorted p kinds right))

pub returns-in_ok-implied-in-Implies-clause-told : goal.returns-in_ok-implied-in-Implies-clause-told
returns-in_ok-implied-in-Implies-clause-told c m x y one two = subst (λ op. Tells (binary op m.ints x y) c.term-in-Implies.result m) (sym c.in-Implies.is)
    (subst (λ s. Tells s c.term-in-Implies.result m) (flags_settle.lazy_settled o.Implies m.ints x y refl)
    (c.term-in-Implies.ensures.told m (binary o.Implies m.ints x y) (c.in_ok-implied-in-Implies.ensures.told m x y (c.in_ok-first-in-Implies.ensures.told m x one)
    (c.in_ok-second-in-Implies.ensures.told m y two))))

pub returns-in_ok-implied-in-Implies-clause-sorted : goal.returns-in_ok-implied-in-Implies-clause-sorted
returns-in_ok-implied-in-Implies-clause-sorted c p kinds left right = c.term-in-Implies.ensures.sorted p kinds
    (c.in_ok-implied-in-Implies.ensures.sorted p kinds (c.in_ok-first-in-Implies.ensures.sorted p kinds left) (c.in_ok-second-in-Implies.ensures.sorted p kinds right))

pub returns-in_ok-term-in_default-clause-told : goal.returns-in_ok-term-in_default-clause-told
returns-in_ok-term-in_default-clause-told c m x y one two = subst (λ s. Tells s c.in_ok-term-in_default.term m)
    (sym (strict_is c.args.op m.ints x y c.in_default.not-And c.in_default.not-Or c.in_default.not-Implies)) (c.in_ok-term-in_default.ensures.told m x y one two)

pub returns-in_ok-term-in_default-clause-sorted : goal.returns-in_ok-term-in_default-clause-sorted
returns-in_ok-term-in_default-clause-sorted c p kinds left right = c.in_ok-term-in_default.ensures.sorted p kinds left right
