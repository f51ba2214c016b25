use Rattle.dyn_steps.proofs.Made.{make_built}
use Rattle.dyn_steps.proofs.making.make_of.Goals as goal

pub returns : goal.returns
returns c =
    make_built c.args.basis.problem.now c.args.basis.kinds.now c.args.from _ _ _ _ c.args.target c.args.class c.args.fields.now c.well_posed.ensures.unit c.well_posed.ensures.scope
    c.with_new-at.ensures c.in_ok-behind.ensures c.in_ok-next.ensures c.in_ok-formula.ensures.meaning c.in_ok-formula.ensures.sorted
