-- One request has one status, whatever finds it.
--
-- It speaks of a request, or of words that are none, and of contents that tell every file of it. An answer is what the
-- table of the request allows; want of memory and a read that fails are no answers.
use Rattle.std.specs.Prelude.{◌≡◌, ◌≢◌, ℕ, ◌<◌, List, All, Option, Some, IfSome, IsSome}
use Rattle.command_files.specs.Answers.{Tells}
use Rattle.evidence.specs.declared.Evidence.{Evidence}
use Rattle.taco_report.specs.declared.status.Status.{Status}
use Rattle.taco_report.specs.declared.status.Status.TheVariants as status
use Rattle.taco_report.specs.Statuses.{IsRefusal}
use Rattle.taco_io.specs.Shelf.{Shelf}
use Rattle.taco_io.specs.Taken.{Taken}
use Rattle.taco_run.specs.declared.answer.Answer.{Answer}
use Rattle.taco_run.specs.Headline.{Runs}
use Rattle.taco_run.specs.Requests.{files_of, Second, Says}
use Rattle.taco_words.specs.declared.request.Request.{Request}
use Rattle.taco_words.specs.declared.request.Request.TheVariants as request
use Rattle.taco_words.specs.Limits.{IsWithin}

-- the numbers of the request are in their ranges, and the contents tell every file of it
pub record IsTold (asked : Option Request) (told : List ℕ → Option (List ℕ)) : Type 0 where
  pub within : IfSome asked IsWithin
  pub files : All (λ f. IsSome (told f.name)) (files_of asked)

-- an answer to the request
pub record IsAnswer (asked : Option Request) (told : List ℕ → Option (List ℕ)) (ends : Status) (output : List ℕ) : Type 0 where
  pub proof : Option Evidence
  pub tells : Tells (files_of asked) (Second asked) (Says asked proof) told ends output
  pub no_want : ends ≢ status.NoMemory
  pub no_fault : ends ≢ status.ReadFault

-- a search that may give up: `sat` with a budget above 0
abbrev pub MayGiveUp : Option Request → Type 0
MayGiveUp (Some (request.Sat cnf budget)) = 0 < budget
MayGiveUp _ = ⊥

-- the status of the search that went on: one that gave up would have been done
abbrev pub gone_on : Status → Status
gone_on status.Unknown = status.Done
gone_on ends = ends

-- The statuses are the same, but where a search may give up one may be Done and the other Unknown. A refusal has one
-- output.
pub record AreOne (asked : Option Request) (ends ends' : Status) (output output' : List ℕ) : Type 0 where
  pub status_is : (MayGiveUp asked → ⊥) → ends ≡ ends'
  pub search_is : gone_on ends ≡ gone_on ends'
  pub refusal_is : IsRefusal ends → output ≡ output'

-- the law
abbrev pub OneStatus : Option Request → (told : List ℕ → Option (List ℕ)) → Type 0
OneStatus asked told =
    (ends ends' : Status) (output output' : List ℕ) → IsTold asked told → IsAnswer asked told ends output → IsAnswer asked told ends' output' → AreOne asked ends ends' output output'

-- a call that was heard to its end: nothing was wanting, and no read and no push failed
pub record IsHeard (ends : Status) : Type 0 where
  pub no_want : ends ≢ status.NoMemory
  pub no_fault : ends ≢ status.ReadFault
  pub no_cut : ends ≢ status.WriteFault

-- so for two calls over the same contents
abbrev pub OneRun : Option Request → Type 0
OneRun asked = (answer answer' : Answer) (old new old' new' : Shelf) (before after before' after' : Taken) → IsTold asked old.content → ((name : List ℕ) → old.content name ≡ old'.content name)
    → (x : Runs asked answer old new before after) → (y : Runs asked answer' old' new' before' after') → IsHeard answer.status → IsHeard answer'.status
    → AreOne asked answer.status answer'.status x.output y.output
