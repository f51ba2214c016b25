use Rattle.std.proofs.Common.{Option, subst}
use Rattle.taco_io.specs.Shelf.{Shelf}
use Rattle.taco_run.specs.Replies.{IsDone}
use Rattle.taco_run.proofs.Done.{same_served}
use Rattle.taco_run.proofs.call.answer.Goals as goal
use Rattle.taco_words.specs.declared.request.Request.{Request}

pub returns-in_default : goal.returns-in_default
returns-in_default g c =
    let old : Shelf = g.F.Files.shelf c.args.files.now in
    let new : Shelf = g.F.Files.shelf c.plain_answer.new.files in
    subst (λ (asked : Option Request). IsDone asked c.plain_answer.result old new) (same_served c.args.request.now c.in_default.not-Check) c.plain_answer.ensures
