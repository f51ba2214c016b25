use Rattle.std.proofs.Common.{◌≡◌, ℕ, List, None, map, string_bytes, ap, ◌∙◌, subst}
use Rattle.taco_io.specs.Shelf.{Shelf}
use Rattle.taco_io.specs.Taken.{Taken}
use Rattle.taco_report.specs.declared.status.Status.TheVariants as status
use Rattle.taco_run.specs.Headline.{Runs}
use Rattle.taco_run.specs.Served.{served}
use Rattle.taco_run.proofs.Done.{wanting_runs}
use Rattle.taco_words.specs.Asked.{asked}
use Rattle.taco.proofs.serve.Goals as goal

pub returns-in-Ok : goal.returns-in-Ok
returns-in-Ok g c =
    let old : Shelf = g.F.Files.shelf c.args.files.now in
    let new : Shelf = g.F.Files.shelf c.run.new.files in
    let before : Taken = g.K.Sink.taken c.args.sink.now in
    let after : Taken = g.K.Sink.taken c.run.new.sink in
    record {
      answer = c.run.result;
      runs = subst (λ (words : List (List ℕ)). Runs (served (asked words)) c.run.result old new before after) (ap (map (λ w. w.now)) c.as_slice.ensures.value ∙ c.in-Ok.ensures) c.run.ensures;
      code_is = c.code.ensures;
    }

pub returns-in-Err : goal.returns-in-Err
returns-in-Err g c =
    record {
      answer = record { status = status.NoMemory; proof = None };
      runs = wanting_runs (served (asked (map string_bytes c.args.words.now))) (g.F.Files.shelf c.args.files.now) (g.K.Sink.taken c.args.sink.now);
      code_is = c.code-in-Err.ensures;
    }
