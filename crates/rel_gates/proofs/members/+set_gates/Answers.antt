-- The gates of a set, from those of the set within.
use Rattle.std.proofs.Common.{sym, subst}
use Rattle.rel_gates.specs.Meant.{AreSet}
use Rattle.rel_gates.proofs.members.+set_gates.Goals as goal

pub returns-in_ok-places-in-Join-clause-set : goal.returns-in_ok-places-in-Join-clause-set
returns-in_ok-places-in-Join-clause-set t c =
    rw c.in-Join.is
    (c.in_ok-places-in-Join.ensures.joined c.in-Join.inner
    (subst (λ gs. AreSet c.args.problem.now c.args.relations.now c.set_gates.new.gates c.in-Join.inner gs) (sym c.deref.ensures.value) (rw c.get.ensures at
    c.in_ok-members-in-Join.ensures.set)))

pub returns-in_ok-places-in-Reach-clause-set : goal.returns-in_ok-places-in-Reach-clause-set
returns-in_ok-places-in-Reach-clause-set t c =
    rw c.in-Reach.is
    (rw c.as_slice.ensures at (c.in_ok-places-in-Reach.ensures.reached c.in-Reach.inner
    (subst (λ gs. AreSet c.args.problem.now c.args.relations.now c.set_gates-in-Reach.new.gates c.in-Reach.inner gs) (sym c.deref-in-Reach.ensures.value) (rw
    c.get-in-Reach.ensures at c.in_ok-members-in-Reach.ensures.set))))
