-- How the program ends.
use Rattle.std.specs.Prelude.{◌≡◌, ℕ, Option}
use Rattle.taco_io.specs.Shelf.{Shelf}
use Rattle.taco_io.specs.Taken.{Taken}
use Rattle.taco_report.specs.Statuses.{code_of}
use Rattle.taco_run.specs.declared.answer.Answer.{Answer}
use Rattle.taco_run.specs.Headline.{Runs}
use Rattle.taco_run.specs.Served.{served}
use Rattle.taco_words.specs.declared.request.Request.{Request}

-- with the code of an answer that the headline allows
pub record Ends (asked : Option Request) (old new : Shelf) (before after : Taken) (code : ℕ) : Type 0 where
  pub answer : Answer
  pub runs : Runs (served asked) answer old new before after
  pub code_is : code ≡ code_of answer.status
