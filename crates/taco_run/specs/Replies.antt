-- What a request came to before its output was written.
use Rattle.std.specs.Prelude.{◌≡◌, Option, is_some}
use Rattle.command_files.specs.Answers.{IsAnswered}
use Rattle.taco_io.specs.Shelf.{Shelf}
use Rattle.taco_run.specs.declared.call.Reply.{Reply}
use Rattle.taco_run.specs.Requests.{files_of, Second, Says, carries}
use Rattle.taco_words.specs.declared.request.Request.{Request}

pub record IsDone (asked : Option Request) (reply : Reply) (old new : Shelf) : Type 0 where
  pub answered : IsAnswered (files_of asked) (Second asked) (Says asked reply.proof) old new reply.outcome.status reply.outcome.output.items
  pub evidence : is_some reply.proof ≡ carries asked reply.outcome.status
