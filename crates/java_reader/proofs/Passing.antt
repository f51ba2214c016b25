-- A loop that reads parts as long as one begins, and keeps none of them.
use Rattle.std.proofs.Common.{◌≡◌, ℕ, zero, suc, ◌<◌, Bool, true, false, List, [], ◌∷◌, length, Option, refl, sym, ap, ◌∙◌, subst, arith, Bor}
use Rattle.std.specs.Prelude.{Result, Ok, Err, MatchResult}
use Rattle.java_lex.specs.declared.token.Token.{Token}
use Rattle.reading_core.specs.declared.stop.Stop.{Stop}
use Rattle.reading_core.specs.declared.stop.Stop.TheVariants.{Memory, Wrong, Deep as DeepStop}
use Rattle.reading_core.specs.Read.{Read, Got, Bad, Deep, ◌>>=◌ as ◌⟫◌}
use Rattle.java_reading.specs.Readers.{Reader, head, give, and_then, with_first, second, repeat_by, repeat}
use Rattle.java_tree.specs.declared.names.Ident.{Ident}
use Rattle.java_reading.specs.declared.marks.Fixed.TheVariants.{Dot}
use Rattle.java_reading.specs.Tokens.{fixed, name_in}
use Rattle.java_reading.specs.Gives.{Blames}
use Rattle.java_reader.specs.Headers.{passed, Passes, dot_name_passed, name_passed}

-- The tokens that are left lead to the same as the whole.
pub record Passing {A : Type 0} (begins : Option Token → Bool) (item : Reader A) (whole : Read (Unit {0})) (rest : List Token) : Type 0 where
  pub turns : ℕ
  pub few : length rest < turns
  pub is : whole ≡ passed (repeat_by begins item turns rest)

blames_same : (o other : Read (Unit {0})) (stop : Stop) → o ≡ other → Blames stop other → Blames stop o
blames_same o other Memory same blames = tt {0}
blames_same o other (Wrong at) same blames = same ∙ blames
blames_same o other (DeepStop at) same blames = same ∙ blames

passed_pair : {A B : Type 0} (b : B) (o : Read A) → passed (with_first b o) ≡ passed o
passed_pair b (Got a rest) = refl
passed_pair b (Bad rest) = refl
passed_pair b (Deep rest) = refl

module _ {A : Type 0} where
  passed_first : (a : A) (o : Read (List A)) → passed (give (λ (x : A × List A). x.0 ∷ x.1) (with_first a o)) ≡ passed o
  passed_first a (Got more rest) = refl
  passed_first a (Bad rest) = refl
  passed_first a (Deep rest) = refl

module _ {A : Type 0} (begins : Option Token → Bool) (item : Reader A) where
  pub passing_start : (ts : List Token) → Passing begins item (passed (repeat begins item ts)) ts
  unfolding repeat
  passing_start ts = record { turns = suc (length ts); few = omega arith; is = refl }

  -- behind another part
  pub passing_behind : {B : Type 0} (o : Read B) (behind : List Token) → passed o ≡ Got tt behind → Passing begins item (passed (and_then o (λ b. repeat begins item))) behind
  unfolding repeat
  passing_behind (Got b rest) behind got = record {
    turns = suc (length behind);
    few = omega arith;
    is = passed_pair b (repeat_by begins item (suc (length rest)) rest) ∙ (let same : rest ≡ behind = cc in ap (λ ts. passed (repeat_by begins item (suc (length ts)) ts)) same);
  }
  passing_behind (Bad rest) behind got = absurd (cc)
  passing_behind (Deep rest) behind got = absurd (cc)

  turned : (n : ℕ) (rest : List Token) → begins (head rest) ≡ true → repeat_by begins item (suc n) rest ≡ give (λ (x : A × List A). x.0 ∷ x.1) (and_then (item rest) (λ a more. repeat_by begins item n more))
  turned n rest is = rw (is, repeat_by) refl

  ended : (n : ℕ) (rest : List Token) → begins (head rest) ≡ false → repeat_by begins item (suc n) rest ≡ Got [] rest
  ended n rest is = rw (is, repeat_by) refl

  item_passed : (n : ℕ) (o : Read A) (behind : List Token) → passed o ≡ Got tt behind → passed (give (λ (x : A × List A). x.0 ∷ x.1) (and_then o (λ a more. repeat_by begins item n more))) ≡ passed (repeat_by begins item n behind)
  item_passed n (Got a rest) behind got = passed_first a (repeat_by begins item n rest) ∙ (let same : rest ≡ behind = cc in ap (λ ts. passed (repeat_by begins item n ts)) same)
  item_passed n (Bad rest) behind got = absurd (cc)
  item_passed n (Deep rest) behind got = absurd (cc)

  item_blames : (n : ℕ) (o : Read A) (stop : Stop) → Blames stop (passed o) → Blames stop (passed (give (λ (x : A × List A). x.0 ∷ x.1) (and_then o (λ a more. repeat_by begins item n more))))
  item_blames n o Memory blames = tt {0}
  item_blames n (Got a rest) (Wrong at) blames = absurd (cc)
  item_blames n (Bad rest) (Wrong at) blames = blames
  item_blames n (Deep rest) (Wrong at) blames = absurd (cc)
  item_blames n (Got a rest) (DeepStop at) blames = absurd (cc)
  item_blames n (Bad rest) (DeepStop at) blames = absurd (cc)
  item_blames n (Deep rest) (DeepStop at) blames = blames

  module _ (whole : Read (Unit {0})) (rest : List Token) where
    more_by : (n : ℕ) → length rest < n → whole ≡ passed (repeat_by begins item n rest) → (behind : List Token) → begins (head rest) ≡ true → passed (item rest) ≡ Got tt behind → length behind < length rest → Passing begins item whole behind
    more_by zero few is behind at got less = absurd (omega arith)
    more_by (suc n) few is behind at got less = record { turns = n; few = omega arith; is = is ∙ ap passed (turned n rest at) ∙ item_passed n (item rest) behind got }

    end_by : (n : ℕ) → length rest < n → whole ≡ passed (repeat_by begins item n rest) → begins (head rest) ≡ false → whole ≡ Got tt rest
    end_by zero few is ends = absurd (omega arith)
    end_by (suc n) few is ends = is ∙ ap passed (ended n rest ends)

    blames_by : (n : ℕ) → length rest < n → whole ≡ passed (repeat_by begins item n rest) → begins (head rest) ≡ true → (stop : Stop) → Blames stop (passed (item rest)) → Blames stop whole
    blames_by zero few is at stop blames = absurd (omega arith)
    blames_by (suc n) few is at stop blames =
        blames_same whole (passed (give (λ (x : A × List A). x.0 ∷ x.1) (and_then (item rest) (λ a more. repeat_by begins item n more)))) stop (is ∙ ap passed (turned n rest at)) (item_blames n (item rest) stop blames)

module _ {A : Type 0} {begins : Option Token → Bool} {item : Reader A} {whole : Read (Unit {0})} {rest : List Token} where
  pub passing_more : Passing begins item whole rest → (behind : List Token) → begins (head rest) ≡ true → passed (item rest) ≡ Got tt behind → length behind < length rest → Passing begins item whole behind
  passing_more passing behind at got less = more_by begins item whole rest passing.turns passing.few passing.is behind at got less

  pub passing_end : Passing begins item whole rest → begins (head rest) ≡ false → whole ≡ Got tt rest
  passing_end passing ends = end_by begins item whole rest passing.turns passing.few passing.is ends

  pub passing_blames : Passing begins item whole rest → begins (head rest) ≡ true → (stop : Stop) → Blames stop (passed (item rest)) → Blames stop whole
  passing_blames passing at stop blames = blames_by begins item whole rest passing.turns passing.few passing.is at stop blames

  pub passing_stops : (r : Result (Bor (List Token)) Stop) (stop : Stop) → r ≡ Err stop → Passing begins item whole rest → begins (head rest) ≡ true → Passes (Err stop) (passed (item rest)) → Passes r whole
  passing_stops r stop is passing at blames = subst (λ (r : Result (Bor (List Token)) Stop). Passes r whole) (sym is) (passing_blames passing at stop blames)

-- ONE PART AND THEN ANOTHER

pub pass_as : (r : Result (Bor (List Token)) Stop) (o other : Read (Unit {0})) → o ≡ other → Passes r other → Passes r o
pass_as r o other same passes = subst (λ (o : Read (Unit {0})). Passes r o) (sym same) passes

pub matched : (r : Result (Bor (List Token)) Stop) (o : Read (Unit {0})) → MatchResult r (λ rest. o ≡ Got tt rest.now) (λ stop. Blames stop o) → Passes r o
matched (Ok rest) o is = is
matched (Err stop) o is = is

pub passed_same : (o : Read (Unit {0})) → passed o ≡ o
passed_same (Got u rest) = refl
passed_same (Bad rest) = refl
passed_same (Deep rest) = refl

pub then_passed : {A B : Type 0} (o : Read A) (next : Reader B) (rest : List Token) → passed o ≡ Got tt rest → o ⟫ (λ a. next) ≡ next rest
then_passed (Got a rest') next rest is = let same : rest' ≡ rest = cc in ap next same
then_passed (Bad rest') next rest is = absurd (cc)
then_passed (Deep rest') next rest is = absurd (cc)

pub first_blames : {A B : Type 0} (o : Read A) (next : A → Reader B) (stop : Stop) → Blames stop (passed o) → Blames stop (o ⟫ next)
first_blames o next Memory blames = tt {0}
first_blames (Got a rest) next (Wrong at) blames = absurd (cc)
first_blames (Bad rest) next (Wrong at) blames = let same : rest ≡ at.now = cc in ap (λ ts. Bad ts) same
first_blames (Deep rest) next (Wrong at) blames = absurd (cc)
first_blames (Got a rest) next (DeepStop at) blames = absurd (cc)
first_blames (Bad rest) next (DeepStop at) blames = absurd (cc)
first_blames (Deep rest) next (DeepStop at) blames = let same : rest ≡ at.now = cc in ap (λ ts. Deep ts) same

pub first_stops : {A : Type 0} (o : Read A) (next : A → Reader (Unit {0})) (r : Result (Bor (List Token)) Stop) (stop : Stop) → r ≡ Err stop → Passes (Err stop) (passed o) → Passes r (o ⟫ next)
first_stops o next r stop is blames = subst (λ (r : Result (Bor (List Token)) Stop). Passes r (o ⟫ next)) (sym is) (first_blames o next stop blames)

pair_blames : {A B : Type 0} (o : Read A) (next : A → Reader B) (stop : Stop) → Blames stop (passed o) → Blames stop (passed (and_then o next))
pair_blames o next Memory blames = tt {0}
pair_blames (Got a rest) next (Wrong at) blames = absurd (cc)
pair_blames (Bad rest) next (Wrong at) blames = blames
pair_blames (Deep rest) next (Wrong at) blames = absurd (cc)
pair_blames (Got a rest) next (DeepStop at) blames = absurd (cc)
pair_blames (Bad rest) next (DeepStop at) blames = absurd (cc)
pair_blames (Deep rest) next (DeepStop at) blames = blames

pub first_passed_stops : {A B : Type 0} (o : Read A) (next : A → Reader B) (r : Result (Bor (List Token)) Stop) (stop : Stop) → r ≡ Err stop → Passes (Err stop) (passed o) → Passes r (passed (and_then o next))
first_passed_stops o next r stop is blames = subst (λ (r : Result (Bor (List Token)) Stop). Passes r (passed (and_then o next))) (sym is) (pair_blames o next stop blames)

second_passed : (o : Read Ident) → passed (second (with_first (tt {0}) o)) ≡ passed o
second_passed (Got i rest) = refl
second_passed (Bad rest) = refl
second_passed (Deep rest) = refl

pub dot_is : (ts rest : List Token) → fixed false Dot ts ≡ Got tt rest → dot_name_passed ts ≡ name_passed rest
dot_is ts rest is = ap (λ (o : Read (Unit {0})). passed (second (and_then o (λ u. name_in false)))) is ∙ second_passed (name_in false rest)
