-- From what reading gives to what the public calls answer.
use Rattle.std.proofs.Common.{List, Bor}
use Rattle.std.specs.Prelude.{◌≡◌, MatchResult, Result, Ok, Err}
use Rattle.java_lex.specs.declared.token.Token.{Token}
use Rattle.reading_core.specs.declared.stop.Stop.{Stop}
use Rattle.reading_core.specs.declared.stop.Stop.TheVariants as stop
use Rattle.reading_core.specs.Read.{Read, Got}
use Rattle.reading_core.specs.Gives.{Gives}
use Rattle.java_reading.specs.Gives.{Blames}

-- the same, for what is read and for the fault
pub gives_blames : {T A : Type 0} (seen : T → A) (result : Result (T × Bor (List Token)) Stop) (r : Read A) → Gives seen result r → MatchResult result (λ x. r ≡ Got (seen x.0) x.1.now) (λ why. Blames why r)
gives_blames seen (Ok x) r gives = gives
gives_blames seen (Err stop.Memory) r gives = tt {0}
gives_blames seen (Err (stop.Wrong rest)) r gives = gives
gives_blames seen (Err (stop.Deep rest)) r gives = gives
