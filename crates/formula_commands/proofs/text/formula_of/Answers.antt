use Rattle.formula_commands.proofs.Formulas.{not_formula}
use Rattle.formula_commands.proofs.text.formula_of.Goals as goal

pub returns-in_err-read_cnf : goal.returns-in_err-read_cnf
returns-in_err-read_cnf c =
    let blame = c.in_err-read_cnf.ensures in
    not_formula c.args.text.now c.in_err-read_cnf.field-0.0 c.from_residual.result c.from_residual.ensures.1 c.requires blame.fault blame.again
