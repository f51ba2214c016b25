use Rattle.std.proofs.Common.{length}
use Rattle.derivation.specs.Runs.{words_of}
use Rattle.derivation.proofs.CnfAgain.{cnf_again}
use Rattle.derivation.proofs.cnf_reader.read_cnf.Goals as goal

pub returns-clause-again : goal.returns-clause-again
returns-clause-again c =
    λ v is. cnf_again (words_of c.args.text.now) (length c.args.text.now) c.formula_of.result v c.formula_of.ensures.read c.formula_of.ensures.fault is
