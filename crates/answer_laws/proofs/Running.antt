-- Two calls for one request over the same contents end with one status.
use Rattle.std.proofs.Common.{◌≡◌, ◌≢◌, ℕ, List, Option, sym, subst, inl, inr}
use mathlib.Core.Path.{fun_ext}
use Rattle.command_files.specs.Answers.{Tells}
use Rattle.taco_io.specs.Shelf.{Shelf}
use Rattle.taco_io.specs.Taken.{Taken}
use Rattle.taco_report.specs.declared.status.Status.{Status}
use Rattle.taco_report.specs.declared.status.Status.TheVariants as status
use Rattle.taco_run.specs.declared.answer.Answer.{Answer}
use Rattle.taco_run.specs.Headline.{IsWritten, Runs}
use Rattle.taco_run.specs.Requests.{files_of, Second, Says}
use Rattle.taco_words.specs.declared.request.Request.{Request}
use Rattle.answer_laws.specs.OneStatus.{AreOne, IsAnswer, IsHeard, IsTold}
use Rattle.answer_laws.proofs.Answering.{one_status}

as_meant : (meant ends : Status) (output : List ℕ) (before after : Taken) → ends ≢ status.WriteFault → IsWritten meant output before after ends → meant ≡ ends
as_meant meant ends output before after whole (inl x) = sym x.0
as_meant meant ends output before after whole (inr x) = absurd (whole x.0)

answered : (asked : Option Request) (answer : Answer) (old new : Shelf) (before after : Taken) (x : Runs asked answer old new before after) → IsHeard answer.status
    → IsAnswer asked old.content answer.status x.output
answered asked answer old new before after x heard =
    record {
      proof = answer.proof;
      tells =
          subst (λ (e : Status). Tells (files_of asked) (Second asked) (Says asked answer.proof) old.content e x.output) (as_meant x.meant answer.status x.output before after heard.no_cut x.written)
          x.answered.tells;
      no_want = heard.no_want;
      no_fault = heard.no_fault;
    }

pub one_run : (asked : Option Request) (answer answer' : Answer) (old new old' new' : Shelf) (before after before' after' : Taken) → IsTold asked old.content → ((name : List ℕ)
    → old.content name ≡ old'.content name)
    → (x : Runs asked answer old new before after) → (y : Runs asked answer' old' new' before' after') → IsHeard answer.status → IsHeard answer'.status
    → AreOne asked answer.status answer'.status x.output y.output
one_run asked answer answer' old new old' new' before after before' after' told same x y heard heard' =
    let contents : old'.content ≡ old.content = sym (fun_ext same) in
    one_status asked old.content answer.status answer'.status x.output y.output told (answered asked answer old new before after x heard)
    (subst (λ (c : List ℕ → Option (List ℕ)). IsAnswer asked c answer'.status y.output) contents (answered asked answer' old' new' before' after' y heard'))
