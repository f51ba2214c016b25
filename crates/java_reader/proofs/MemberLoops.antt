-- A loop that reads members, and keeps the parts that they stand for.
use Rattle.std.proofs.Common.{◌≡◌, ◌<◌, Bool, true, false, List, [], ◌∷◌, ◌++◌, length, Option, refl, sym, ap, ◌∙◌, subst, Bor, append-nil}
use Rattle.std.specs.Prelude.{Result, Err}
use Rattle.std.specs.List.{flat_map}
use Rattle.std.proofs.lemmas.Grind.{flat_map-append}
use Rattle.java_lex.specs.declared.token.Token.{Token}
use Rattle.java_tree.specs.Members.{Written, parts_of}
use Rattle.java_tree.specs.Trees.{Part}
use Rattle.reading_core.specs.declared.stop.Stop.{Stop}
use Rattle.reading_core.specs.declared.stop.Stop.TheVariants.{Memory, Wrong, Deep as DeepStop}
use Rattle.reading_core.specs.Read.{Read, Got}
use Rattle.java_reading.specs.Readers.{Reader, head, give, repeat}
use Rattle.reading_core.specs.Gives.{Gives}
use Rattle.java_reading.specs.Gives.{Blames}
use Rattle.java_reader.proofs.Loops.{SoFar, so_far_start, so_far_more, so_far_end, so_far_blames}

-- The parts of the members so far, and the tokens that are left, lead to the same as the whole list.
pub record PartsSoFar (begins : Option Token → Bool) (item : Reader Written) (whole : Read (List Written)) (parts : List Part) (rest : List Token) : Type 0 where
  pub members : List Written
  pub so_far : SoFar begins item whole members rest
  pub are : parts ≡ flat_map parts_of members

given_blames : (whole : Read (List Written)) (stop : Stop) → Blames stop whole → Blames stop (give (flat_map parts_of) whole)
given_blames whole Memory blames = tt {0}
given_blames whole (Wrong at) blames = ap (give (flat_map parts_of)) blames
given_blames whole (DeepStop at) blames = ap (give (flat_map parts_of)) blames

pub parts_start : (begins : Option Token → Bool) (item : Reader Written) (parts : List Part) (ts : List Token) → parts ≡ [] → PartsSoFar begins item (repeat begins item ts) parts ts
parts_start begins item parts ts none = record { members = []; so_far = so_far_start begins item [] ts refl; are = none }

module _ {begins : Option Token → Bool} {item : Reader Written} {whole : Read (List Written)} {parts : List Part} {rest : List Token} where
  pub parts_more : PartsSoFar begins item whole parts rest → (behind : List Token) (w : Written) (longer : List Part) → begins (head rest) ≡ true → item rest ≡ Got w behind → length behind < length rest
      → longer ≡ parts ++ parts_of w → PartsSoFar begins item whole longer behind
  parts_more so_far behind w longer at got less same = record {
    members = so_far.members ++ w ∷ [];
    so_far = so_far_more so_far.so_far behind w (so_far.members ++ w ∷ []) at got less refl;
    are = same ∙ ap (λ p. p ++ parts_of w) so_far.are ∙ ap (λ p. flat_map parts_of so_far.members ++ p) (sym (append-nil (parts_of w))) ∙ sym (flat_map-append parts_of so_far.members (w ∷ []));
  }

  pub parts_end : PartsSoFar begins item whole parts rest → begins (head rest) ≡ false → give (flat_map parts_of) whole ≡ Got parts rest
  parts_end so_far ends = ap (give (flat_map parts_of)) (so_far_end so_far.so_far ends) ∙ ap (λ p. Got p rest) (sym so_far.are)

  pub parts_blame : PartsSoFar begins item whole parts rest → begins (head rest) ≡ true → (stop : Stop) → Blames stop (item rest) → Blames stop (give (flat_map parts_of) whole)
  parts_blame so_far at stop blames = given_blames whole stop (so_far_blames so_far.so_far at stop blames)

-- what blames the member blames the whole
module _ {V U : Type 0} (seen : V → List Part) (part : U → Written) where
  gives_blames : (stop : Stop) (o : Read Written) → Gives part (Err stop) o → Blames stop o
  gives_blames Memory o gives = tt {0}
  gives_blames (Wrong at) o gives = gives
  gives_blames (DeepStop at) o gives = gives

  blames_gives : (stop : Stop) (o : Read (List Part)) → Blames stop o → Gives seen (Err stop) o
  blames_gives Memory o blames = tt {0}
  blames_gives (Wrong at) o blames = blames
  blames_gives (DeepStop at) o blames = blames

  pub parts_stop : {begins : Option Token → Bool} {item : Reader Written} {whole : Read (List Written)} {parts : List Part} {rest : List Token} (r : Result (V × Bor (List Token)) Stop) (stop : Stop) → r ≡ Err stop
      → PartsSoFar begins item whole parts rest → begins (head rest) ≡ true → Gives part (Err stop) (item rest) → Gives seen r (give (flat_map parts_of) whole)
  parts_stop {item = item} {whole = whole} {rest = rest} r stop is so_far at gives =
      subst (λ (r : Result (V × Bor (List Token)) Stop). Gives seen r (give (flat_map parts_of) whole)) (sym is) (blames_gives stop (give (flat_map parts_of) whole) (parts_blame so_far at stop (gives_blames stop (item rest) gives)))
