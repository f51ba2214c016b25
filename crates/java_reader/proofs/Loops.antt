-- A loop that reads parts as long as one begins.
use Rattle.std.proofs.Common.{◌≡◌, ℕ, zero, suc, ◌<◌, Bool, true, false, List, [], ◌∷◌, ◌++◌, length, map, Option, refl, sym, ap, ◌∙◌, subst, arith, Bor, append_assoc, append-nil}
use Rattle.std.specs.Prelude.{Result, Err}
use Rattle.java_lex.specs.declared.token.Token.{Token}
use Rattle.reading_core.specs.declared.stop.Stop.{Stop}
use Rattle.reading_core.specs.declared.stop.Stop.TheVariants.{Memory, Wrong, Deep as DeepStop}
use Rattle.reading_core.specs.Read.{Read, Got, Bad, Deep}
use Rattle.java_reading.specs.Readers.{Reader, head, give, and_then, repeat_by, repeat}
use Rattle.reading_core.specs.Gives.{Gives}
use Rattle.java_reading.specs.Gives.{Blames}

-- The parts so far, and the tokens that are left, lead to the same as the whole list.
pub record SoFar {A : Type 0} (begins : Option Token → Bool) (item : Reader A) (whole : Read (List A)) (parts : List A) (rest : List Token) : Type 0 where
  pub turns : ℕ
  pub few : length rest < turns
  pub is : whole ≡ give (λ more. parts ++ more) (repeat_by begins item turns rest)

give_same : {B : Type 0} (o : Read B) → o ≡ give (λ b. b) o
give_same (Got b rest) = refl
give_same (Bad rest) = refl
give_same (Deep rest) = refl

module _ {A : Type 0} where
  give_listed : (a : A) (o : Read (List A)) → give (λ (x : A × List A). x.0 ∷ x.1) (give (λ (more : List A). (a, more)) o) ≡ give (λ more. a ∷ more) o
  give_listed a (Got more rest) = refl
  give_listed a (Bad rest) = refl
  give_listed a (Deep rest) = refl

  give_both : (parts : List A) (a : A) (o : Read (List A)) → give (λ more. parts ++ more) (give (λ (x : A × List A). x.0 ∷ x.1) (give (λ (more : List A). (a, more)) o)) ≡ give (λ more. (parts ++ a ∷ []) ++ more) o
  give_both parts a (Got more rest) = ap (λ v. Got v rest) (sym (append_assoc parts (a ∷ []) more))
  give_both parts a (Bad rest) = refl
  give_both parts a (Deep rest) = refl

module _ {A : Type 0} (begins : Option Token → Bool) (item : Reader A) where
  pub so_far_start : (parts : List A) (ts : List Token) → parts ≡ [] → SoFar begins item (repeat begins item ts) parts ts
  unfolding repeat
  so_far_start parts ts none = record {
    turns = suc (length ts);
    few = omega arith;
    is = give_same (repeat_by begins item (suc (length ts)) ts) ∙ ap (λ (p : List A). give (λ more. p ++ more) (repeat_by begins item (suc (length ts)) ts)) (sym none);
  }

  -- behind a first part
  pub so_far_listed : (o : Read A) (first : A) (behind : List Token) (parts : List A) → o ≡ Got first behind → parts ≡ first ∷ [] → SoFar begins item (give (λ x. x.0 ∷ x.1) (and_then o (λ a. repeat begins item))) parts behind
  unfolding repeat
  so_far_listed o first behind parts got one = record {
    turns = suc (length behind);
    few = omega arith;
    is =
        ap (λ o. give (λ (x : A × List A). x.0 ∷ x.1) (and_then o (λ a rest. repeat_by begins item (suc (length rest)) rest))) got
        ∙ give_listed first (repeat_by begins item (suc (length behind)) behind)
        ∙ ap (λ (p : List A). give (λ more. p ++ more) (repeat_by begins item (suc (length behind)) behind)) (sym one);
  }

  turned : (n : ℕ) (rest : List Token) → begins (head rest) ≡ true → repeat_by begins item (suc n) rest ≡ give (λ (x : A × List A). x.0 ∷ x.1) (and_then (item rest) (λ a more. repeat_by begins item n more))
  turned n rest is = rw (is, repeat_by) refl

  ended : (n : ℕ) (rest : List Token) → begins (head rest) ≡ false → repeat_by begins item (suc n) rest ≡ Got [] rest
  ended n rest is = rw (is, repeat_by) refl

  module _ (whole : Read (List A)) (parts : List A) (rest : List Token) where
    more_by : (n : ℕ) → length rest < n → whole ≡ give (λ more. parts ++ more) (repeat_by begins item n rest) → (behind : List Token) (a : A) (longer : List A)
        → begins (head rest) ≡ true → item rest ≡ Got a behind → length behind < length rest → longer ≡ parts ++ a ∷ [] → SoFar begins item whole longer behind
    more_by zero few is behind a longer at got less same = absurd (omega arith)
    more_by (suc n) few is behind a longer at got less same = record {
      turns = n;
      few = omega arith;
      is =
          is
          ∙ ap (give (λ more. parts ++ more)) (turned n rest at ∙ ap (λ o. give (λ (x : A × List A). x.0 ∷ x.1) (and_then o (λ a more. repeat_by begins item n more))) got)
          ∙ give_both parts a (repeat_by begins item n behind)
          ∙ ap (λ (p : List A). give (λ more. p ++ more) (repeat_by begins item n behind)) (sym same);
    }

    end_by : (n : ℕ) → length rest < n → whole ≡ give (λ more. parts ++ more) (repeat_by begins item n rest) → begins (head rest) ≡ false → whole ≡ Got parts rest
    end_by zero few is ends = absurd (omega arith)
    end_by (suc n) few is ends = is ∙ ap (give (λ more. parts ++ more)) (ended n rest ends) ∙ ap (λ v. Got v rest) (append-nil parts)

    blames_by : (n : ℕ) → length rest < n → whole ≡ give (λ more. parts ++ more) (repeat_by begins item n rest) → begins (head rest) ≡ true → (stop : Stop) → Blames stop (item rest) → Blames stop whole
    blames_by n few is at Memory blames = tt {0}
    blames_by zero few is at (Wrong stop) blames = absurd (omega arith)
    blames_by (suc n) few is at (Wrong stop) blames =
        is ∙ ap (give (λ more. parts ++ more)) (turned n rest at ∙ ap (λ o. give (λ (x : A × List A). x.0 ∷ x.1) (and_then o (λ a more. repeat_by begins item n more))) blames)
    blames_by zero few is at (DeepStop stop) blames = absurd (omega arith)
    blames_by (suc n) few is at (DeepStop stop) blames =
        is ∙ ap (give (λ more. parts ++ more)) (turned n rest at ∙ ap (λ o. give (λ (x : A × List A). x.0 ∷ x.1) (and_then o (λ a more. repeat_by begins item n more))) blames)

module _ {A : Type 0} {begins : Option Token → Bool} {item : Reader A} {whole : Read (List A)} {parts : List A} {rest : List Token} where
  pub so_far_more : SoFar begins item whole parts rest → (behind : List Token) (a : A) (longer : List A) → begins (head rest) ≡ true → item rest ≡ Got a behind → length behind < length rest
      → longer ≡ parts ++ a ∷ [] → SoFar begins item whole longer behind
  so_far_more so_far behind a longer at got less same = more_by begins item whole parts rest so_far.turns so_far.few so_far.is behind a longer at got less same

  pub so_far_end : SoFar begins item whole parts rest → begins (head rest) ≡ false → whole ≡ Got parts rest
  so_far_end so_far ends = end_by begins item whole parts rest so_far.turns so_far.few so_far.is ends

  pub so_far_blames : SoFar begins item whole parts rest → begins (head rest) ≡ true → (stop : Stop) → Blames stop (item rest) → Blames stop whole
  so_far_blames so_far at stop blames = blames_by begins item whole parts rest so_far.turns so_far.few so_far.is at stop blames

-- one part more, as the tree sees it
module _ {U A : Type 0} (seen : U → A) where
  map_more : (parts : List U) (x : U) → map seen (parts ++ x ∷ []) ≡ map seen parts ++ seen x ∷ []
  map_more [] x = refl
  map_more (p ∷ parts) x = ap (λ v. seen p ∷ v) (map_more parts x)

  pub seen_more : (parts longer : List U) (x : U) → longer ≡ parts ++ x ∷ [] → map seen longer ≡ map seen parts ++ seen x ∷ []
  seen_more parts longer x same = ap (map seen) same ∙ map_more parts x

-- what blames the part blames the whole
module _ {A V U : Type 0} (seen : V → List A) (part : U → A) where
  gives_blames : (stop : Stop) (o : Read A) → Gives part (Err stop) o → Blames stop o
  gives_blames Memory o gives = tt {0}
  gives_blames (Wrong at) o gives = gives
  gives_blames (DeepStop at) o gives = gives

  blames_gives : (stop : Stop) (o : Read (List A)) → Blames stop o → Gives seen (Err stop) o
  blames_gives Memory o blames = tt {0}
  blames_gives (Wrong at) o blames = blames
  blames_gives (DeepStop at) o blames = blames

  pub so_far_stops : {begins : Option Token → Bool} {item : Reader A} {whole : Read (List A)} {parts : List A} {rest : List Token} (r : Result (V × Bor (List Token)) Stop) (stop : Stop) → r ≡ Err stop
      → SoFar begins item whole parts rest → begins (head rest) ≡ true → Gives part (Err stop) (item rest) → Gives seen r whole
  so_far_stops {item = item} {whole = whole} {rest = rest} r stop is so_far at gives = subst (λ (r : Result (V × Bor (List Token)) Stop). Gives seen r whole) (sym is) (blames_gives stop whole (so_far_blames so_far at stop (gives_blames stop (item rest) gives)))
