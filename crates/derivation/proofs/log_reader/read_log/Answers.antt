use Rattle.derivation.proofs.LogAgain.{read_again}
use Rattle.derivation.proofs.log_reader.read_log.Goals as goal

pub returns-clause-again : goal.returns-clause-again
returns-clause-again c =
    λ steps is. read_again c.args.vars c.args.text.now c.lines_of.result steps c.requires.few c.lines_of.ensures.read c.lines_of.ensures.fault is
