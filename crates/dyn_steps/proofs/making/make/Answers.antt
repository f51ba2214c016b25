use Rattle.std.proofs.Common.{ap, sym, ◌∙◌}
use Rattle.std.specs.Option.{option_copied}
use Rattle.dyn_steps.proofs.Made.{make_missing}
use Rattle.dyn_steps.proofs.making.make.Goals as goal

pub returns-in_ok-part-in-None : goal.returns-in_ok-part-in-None
returns-in_ok-part-in-None c =
    make_missing c.args.basis.problem.now c.args.basis.kinds.now c.args.from _ c.args.target c.args.class (sym c.class_of.ensures ∙ ap option_copied c.in-None.is) c.in_ok-part-in-None.ensures

pub returns-in_ok-part-in-Some : goal.returns-in_ok-part-in-Some
returns-in_ok-part-in-Some c =
    c.in_ok-part-in-Some.ensures c.in-Some.declared.now (sym c.class_of.ensures ∙ ap option_copied c.in-Some.is) (sym c.as_slice.ensures)
