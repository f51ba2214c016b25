-- A loop that gathers parts which come any number of times.
use Rattle.std.proofs.Common.{◌≡◌, true, false, Bool, List, [], ◌∷◌, ◌++◌, sym, ◌∙◌, ap, refl, append_assoc, append-nil}
use Rattle.std.specs.Prelude.{Err}
use Rattle.java_lex.specs.declared.token.Token.{Token}
use Rattle.reading_core.specs.declared.stop.Stop.{Stop}
use Rattle.reading_core.specs.declared.stop.Stop.TheVariants as stop
use Rattle.reading_core.specs.Read.{Read, Got, Bad, Deep, ◌>>=◌ as ◌⟫◌}
use Rattle.reading_core.specs.Gives.{Gives}
use Rattle.reading_core.specs.Loops.{repeat}
use Rattle.reading_core.proofs.ReadLaws.{Short, repeat_step, repeat_end}
use Rattle.reading_core.proofs.Runs.{when_true}

-- what stops a part stops what begins with it
pub gives_bind : {S T A B : Type 0} (seen : S → A) (seen' : T → B) (r : Read A) (f : A → List Token → Read B) (why : Stop) → Gives seen (Err why) r → Gives seen' (Err why) (r ⟫ f)
gives_bind seen seen' r f stop.Memory gives = tt {0}
gives_bind seen seen' r f (stop.Wrong rest) gives = ap (λ r. r ⟫ f) gives
gives_bind seen seen' r f (stop.Deep rest) gives = ap (λ r. r ⟫ f) gives

-- make: what the parts are together
module _ {A B : Type 0} (make : List A → B) (begins : List Token → Bool) (item : List Token → Read A) where
  -- the parts so far, and those that come
  abbrev pub gathered : List A → List Token → Read B
  gathered so_far ts = repeat begins item ts ⟫ (λ more rest. Got (make (so_far ++ more)) rest)

  -- one part, and those that come
  abbrev one_more : List A → A → List Token → Read B
  one_more so_far a rest = repeat begins item rest ⟫ (λ more rest'. Got (make (so_far ++ a ∷ more)) rest')

  inner : (so_far : List A) (a : A) (r : Read (List A)) → (r ⟫ (λ more rest. Got (a ∷ more) rest)) ⟫ (λ more rest. Got (make (so_far ++ more)) rest) ≡ r ⟫ (λ more rest. Got (make (so_far ++ a ∷ more)) rest)
  inner so_far a (Got more rest) = refl
  inner so_far a (Bad rest) = refl
  inner so_far a (Deep rest) = refl

  again : (so_far : List A) (r : Read A) → (r ⟫ (λ a rest. repeat begins item rest ⟫ (λ more rest'. Got (a ∷ more) rest'))) ⟫ (λ more rest. Got (make (so_far ++ more)) rest) ≡ r ⟫ one_more so_far
  again so_far (Got a rest) = inner so_far a (repeat begins item rest)
  again so_far (Bad rest) = refl
  again so_far (Deep rest) = refl

  regroup : (so_far : List A) (a : A) (r : Read (List A)) → r ⟫ (λ more rest. Got (make (so_far ++ a ∷ more)) rest) ≡ r ⟫ (λ more rest. Got (make ((so_far ++ a ∷ []) ++ more)) rest)
  regroup so_far a (Got more rest) = ap (λ (as_ : List A). Got (make as_) rest) (sym (append_assoc so_far (a ∷ []) more))
  regroup so_far a (Bad rest) = refl
  regroup so_far a (Deep rest) = refl

  pub gathered_turn : Short begins item → (so_far : List A) (ts : List Token) → begins ts ≡ true → gathered so_far ts ≡ item ts ⟫ one_more so_far
  gathered_turn short so_far ts is =
      ap (λ (r : Read (List A)). r ⟫ (λ more rest. Got (make (so_far ++ more)) rest)) (repeat_step begins item short ts ∙ when_true (begins ts) _ _ is) ∙ again so_far (item ts)

  -- one part more
  pub gathered_more : Short begins item → (so_far : List A) (ts rest : List Token) (a : A) → begins ts ≡ true → item ts ≡ Got a rest → gathered so_far ts ≡ gathered (so_far ++ a ∷ []) rest
  gathered_more short so_far ts rest a is got = gathered_turn short so_far ts is ∙ ap (λ (r : Read A). r ⟫ one_more so_far) got ∙ regroup so_far a (repeat begins item rest)

  -- what stops a part stops them all
  pub gathered_stops : {S T : Type 0} (seen : S → A) (seen' : T → B) → Short begins item → (so_far : List A) (ts : List Token) (why : Stop) → begins ts ≡ true → Gives seen (Err why) (item ts) → Gives seen' (Err why) (gathered so_far ts)
  gathered_stops seen seen' short so_far ts stop.Memory is gives = tt {0}
  gathered_stops seen seen' short so_far ts (stop.Wrong at) is gives = gathered_turn short so_far ts is ∙ ap (λ (r : Read A). r ⟫ one_more so_far) gives
  gathered_stops seen seen' short so_far ts (stop.Deep at) is gives = gathered_turn short so_far ts is ∙ ap (λ (r : Read A). r ⟫ one_more so_far) gives

  -- no part more
  pub gathered_end : (so_far : List A) (ts : List Token) → begins ts ≡ false → gathered so_far ts ≡ Got (make so_far) ts
  gathered_end so_far ts not =
      ap (λ (r : Read (List A)). r ⟫ (λ more rest. Got (make (so_far ++ more)) rest)) (repeat_end begins item ts not) ∙ ap (λ (as_ : List A). Got (make as_) ts) (append-nil so_far)
