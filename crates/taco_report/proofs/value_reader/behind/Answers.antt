use Rattle.taco_report.proofs.Cuts.{stripped}
use Rattle.taco_report.proofs.value_reader.behind.Goals as goal

pub returns : goal.returns
returns c = stripped c.args.text.now c.args.literal.now c.strip_prefix.result c.strip_prefix.ensures.cases
