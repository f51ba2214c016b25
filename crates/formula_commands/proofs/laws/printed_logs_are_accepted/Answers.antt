use Rattle.formula_commands.proofs.Accepted.{accepted}
use Rattle.formula_commands.proofs.laws.printed_logs_are_accepted.Goals as goal

pub returns : goal.returns
returns c = λ bytes text evidence printed told cnf log hold ends output says. accepted bytes text evidence printed told cnf log hold ends output says
