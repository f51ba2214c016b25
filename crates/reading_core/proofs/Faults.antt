-- Where a machine stops is the first token at fault.
use Rattle.std.proofs.Common.{◌≡◌, ℕ, ◌<◌, ◌≤◌, suc, Bool, true, false, nat_le, List, [], ◌∷◌, ◌++◌, length, refl, sym, ◌∙◌, arith, ◌⊎◌, inl, inr}
use Rattle.std.proofs.lemmas.Bool.{le-leb, leb-true}
use Rattle.java_lex.specs.declared.token.Token.{Token}
use Rattle.java_tree.specs.Reading.{Limited, Parses, within, any_level, within_before, Begins, BeginsWithin, FirstFault, FirstWrong, FirstDeep}
use Rattle.java_tree.proofs.Fronts.{Grows, parses_more}
use Rattle.reading_core.specs.Machine.{Test, Act, Next, Fine, BadAt, DeepAt, run}
use Rattle.reading_core.specs.Exact.{Decided, up_to_64, Reads}
use Rattle.reading_core.specs.Endings.{Endings}
use Rattle.reading_core.proofs.Runs.{tested, when_true, when_false, front_fine, bad_wider, Stops, Plain, bad_stops, deep_stops, deep_over}
use Rattle.reading_core.proofs.Ends.{complete}

-- levels up to 64, and all that the last tokens open
abbrev before : ℕ → Test
before last k us = elim (nat_le k 64) [ true ↦ true | false ↦ nat_le (suc (length us)) last ]

-- every level
abbrev every : Test
every k us = true

plain : Plain up_to_64
plain k us vs = refl

to_before : (last k : ℕ) (us : List Token) → before last k us ≡ true → within_before last k us
to_before last k us is = by (tested (nat_le k 64))
  where
    by : (nat_le k 64 ≡ true) ⊎ (nat_le k 64 ≡ false) → within_before last k us
    by (inl low) = inl (leb-true k 64 low)
    by (inr not) = inr (let le : suc (length us) ≤ last = leb-true (suc (length us)) last (sym (when_false (nat_le k 64) _ _ not) ∙ is) in omega arith)

from_before : (last k : ℕ) (us : List Token) → within_before last k us → before last k us ≡ true
from_before last k us (inl low) = when_true (nat_le k 64) _ _ (le-leb k 64 low)
from_before last k us (inr less) =
    elim (tested (nat_le k 64)) [
      | inl low ↦ when_true (nat_le k 64) _ _ low
      | inr not ↦ when_false (nat_le k 64) _ _ not ∙ le-leb (suc (length us)) last (omega arith)
    ]

before_low : (last k : ℕ) (us vs : List Token) → up_to_64 k us ≡ true → before last k vs ≡ true
before_low last k us vs is = when_true (nat_le k 64) _ _ is

before_last : (last k : ℕ) (us : List Token) → length us < last → before last k us ≡ true
before_last last k us less = from_before last k us (inr less)

low_of : (last k : ℕ) (us : List Token) → last ≤ length us → before last k us ≡ true → nat_le k 64 ≡ true
low_of last k us le is =
    elim (tested (nat_le k 64)) [
      | inl low ↦ low
      | inr not ↦ let less : suc (length us) ≤ last = leb-true (suc (length us)) last (sym (when_false (nat_le k 64) _ _ not) ∙ is) in absurd (omega arith)
    ]

module _ {W : Type 0} (react : W → Token → Act W) (ready : W → Bool) (start : W) (p : Limited) (E : Endings react ready) (grows : Grows p) (reads : Reads react ready start p) where
  begins_within : (front : List Token) (c : Bool) → run react ready up_to_64 front (start ∷ []) ≡ Fine c → BeginsWithin p front
  begins_within front c fine =
      let end = complete react ready E up_to_64 front (start ∷ []) c refl fine in
      let last = length end.more in
      record {
        more = end.more;
        parses = parses_more p grows (Decided (before last)) (within_before last) (λ k us is. to_before last k us is) (front ++ end.more)
            (reads.sound (before last) (front ++ end.more) (end.fine (before last) (λ k us vs is. before_low last k us vs is) (λ k us less. before_last last k us less)));
      }

  begins : (front : List Token) (c : Bool) → run react ready every front (start ∷ []) ≡ Fine c → Begins p front
  begins front c fine =
      let end = complete react ready E every front (start ∷ []) c refl fine in
      record {
        more = end.more;
        parses = parses_more p grows (Decided every) any_level (λ k us is. tt {0}) (front ++ end.more) (reads.sound every (front ++ end.more) (end.fine every (λ k us vs is. refl) (λ k us less. refl)));
      }

  -- what begins such a phrase within the levels is fine
  fine_within : (front : List Token) → BeginsWithin p front → (c : Bool) × (run react ready up_to_64 front (start ∷ []) ≡ Fine c)
  fine_within front b =
      let last = length b.more in
      front_fine react ready (before last) up_to_64 front b.more true (λ k us is. low_of last k (us ++ b.more) (longer us b.more) is) (start ∷ [])
      (reads.complete (before last) (front ++ b.more) (parses_more p grows (within_before last) (Decided (before last)) (λ k us is. from_before last k us is) (front ++ b.more) b.parses))
    where
      longer : (us vs : List Token) → length vs ≤ length (us ++ vs)
      longer [] vs = omega arith
      longer (u ∷ us) vs = let ih : length vs ≤ length (us ++ vs) = longer us vs in omega arith

  fine_every : (front : List Token) → Begins p front → (c : Bool) × (run react ready every front (start ∷ []) ≡ Fine c)
  fine_every front b =
      front_fine react ready every every front b.more true (λ k us is. refl) (start ∷ [])
      (reads.complete every (front ++ b.more) (parses_more p grows any_level (Decided every) (λ k us is. refl) (front ++ b.more) b.parses))

  -- a stop is the first fault, whatever it is told as
  fault : (out : List Token → Next) → ((us : List Token) (c : Bool) → out us ≡ Fine c → ⊥) → (ts rest : List Token) → Stops react ready up_to_64 (start ∷ []) out ts rest → FirstFault p ts rest
  fault out other ts rest stops = record {
    front = stops.front;
    at = stops.at;
    behind = stops.behind;
    here = stops.here;
    parts = stops.parts;
    before = begins_within stops.front stops.before.0 stops.before.1;
    with_it = λ b. let fine = fine_within (stops.front ++ stops.at ∷ []) b in other (stops.at ∷ []) fine.0 (sym stops.with_it ∙ fine.1);
  }

  -- at a token with which nothing begins
  pub first_wrong : (ts rest : List Token) → run react ready up_to_64 ts (start ∷ []) ≡ BadAt rest → FirstWrong p ts rest
  unfolding fault
  first_wrong ts rest bad =
      let stops = bad_stops react ready up_to_64 plain ts rest (start ∷ []) bad in
      record {
        fault = fault BadAt (λ us c is. cc) ts rest stops;
        wrong = λ b.
            let fine = fine_every (stops.front ++ stops.at ∷ []) b in
            let wide = bad_wider react ready up_to_64 every (stops.front ++ stops.at ∷ []) (stops.at ∷ []) (λ k us is. refl) (start ∷ []) stops.with_it in
            let no : BadAt (stops.at ∷ []) ≡ Fine fine.0 = sym wide ∙ fine.1 in
            cc;
      }

  -- at a token that opens a level too many
  pub first_deep : (ts rest : List Token) → run react ready up_to_64 ts (start ∷ []) ≡ DeepAt rest → FirstDeep p ts rest
  unfolding fault
  first_deep ts rest deep =
      let stops = deep_stops react ready up_to_64 plain ts rest (start ∷ []) deep in
      let over = deep_over react ready up_to_64 every (λ k us. refl) stops.front stops.at (start ∷ []) stops.with_it in
      record { fault = fault DeepAt (λ us c is. cc) ts rest stops; deeper = begins (stops.front ++ stops.at ∷ []) over.0 over.1 }

  -- all tokens are such a phrase
  pub whole : (ts : List Token) → run react ready up_to_64 ts (start ∷ []) ≡ Fine true → Parses (p within) ts
  whole ts fine = parses_more p grows (Decided up_to_64) within (λ k us is. leb-true k 64 is) ts (reads.sound up_to_64 ts fine)
