use Rattle.code_reader.proofs.Places.{call_on_is}
use Rattle.code_reader.proofs.trees.call_on.Goals as goal

pub returns : goal.returns
returns c = call_on_is c.args.target c.in_ok-target.target c.args.name c.args.arguments c.in_ok-target.ensures.ok
