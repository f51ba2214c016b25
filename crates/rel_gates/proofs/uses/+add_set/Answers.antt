-- The uses of a set are those of the set within, and then its own.
use Rattle.std.proofs.Common.{◌++◌, map, sym, ap, ◌∙◌, append_assoc}
use Rattle.rel_core.specs.Uses.{AsSet}
use Rattle.rel_gates.specs.Naming.{wanted_each, set_uses}
use Rattle.rel_gates.proofs.UseForms.{uses_reach}
use Rattle.rel_gates.proofs.Fitting.{join_fits, reach_fits}
use Rattle.rel_gates.proofs.uses.+add_set.Goals as goal

pub returns-in_ok-add_each-in-Join-clause-fits : goal.returns-in_ok-add_each-in-Join-clause-fits
returns-in_ok-add_each-in-Join-clause-fits t c =
    rw c.in-Join.is (join_fits c.args.problem.now c.in-Join.inner c.in-Join.relation (rw c.get.ensures at c.in_ok-add_set-in-Join.ensures.fits))

pub returns-in_ok-add_each-in-Reach-clause-added : goal.returns-in_ok-add_each-in-Reach-clause-added
returns-in_ok-add_each-in-Reach-clause-added t c =
    let p = c.args.problem.now in
    let old = c.args.list.now.items in
    let own = map (wanted_each p AsSet) c.in-Reach.relations in
    rw c.in-Reach.is
    ((rw c.as_slice.ensures at c.in_ok-add_each-in-Reach.ensures.added)
    ∙ ap (λ xs. xs ++ own) (rw c.get-in-Reach.ensures at c.in_ok-add_set-in-Reach.ensures.added)
    ∙ append_assoc old (set_uses p c.in-Reach.inner) own ∙ ap (λ xs. old ++ xs) (sym (uses_reach p c.in-Reach.inner c.in-Reach.relations)))

pub returns-in_ok-add_each-in-Reach-clause-fits : goal.returns-in_ok-add_each-in-Reach-clause-fits
returns-in_ok-add_each-in-Reach-clause-fits t c =
    rw c.in-Reach.is (reach_fits c.args.problem.now c.in-Reach.inner c.in-Reach.relations (rw c.get-in-Reach.ensures at c.in_ok-add_set-in-Reach.ensures.fits))
