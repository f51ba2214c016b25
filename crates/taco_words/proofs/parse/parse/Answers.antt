use Rattle.std.proofs.Common.{ap}
use Rattle.std.proofs.lemmas.Bool.{and_parts}
use Rattle.clap.specs.Faults.{is_free_app}
use Rattle.clap.specs.Simple.{built, is_simple}
use Rattle.clap.specs.Walk.{is_empty}
use Rattle.clap.specs.Words.{app_of}
use Rattle.taco_words.proofs.parse.parse.Goals as goal

pub returns-in-Ok : goal.returns-in-Ok
returns-in-Ok c =
    let a = app_of c.args.command in
    let simple = and_parts (is_simple a) (is_free_app (built a)) c.requires in
    (ap is_empty (c.in-Ok.ensures.kinds c.requires), (c.in-Ok.ensures.matches simple.0).0)
