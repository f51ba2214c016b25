-- A choice between two lists of gates.
use Rattle.std.proofs.Common.{◌≡◌, ℕ, ◌+◌, ◌<◌, Bool, true, false, List, [], ◌∷◌, ◌++◌, length, take, get_or, refl, sym, ap, ◌∙◌, arith, length-append}
use Rattle.std.specs.Prelude.{if◌then◌else◌}
use Rattle.std.proofs.lemmas.List.{take_more, take_all, map-append}
use Rattle.std.proofs.lemmas.List.Elements.{All-append, All-cons}
use Rattle.gate_core.specs.declared.circuit.Node.{Node}
use Rattle.gate_core.specs.Circuit.{value, IsOf, Keeps}
use Rattle.gate_core.proofs.Values.{keeps_same, keeps_twice, all_more}
use Rattle.gate_arith.specs.Operations.{bits, IsTruth, IsSelected}
use Rattle.gate_arith.specs.Choice.{IsChoice}
use Rattle.gate_arith.proofs.Ripple.{bits_keep}

same_choice : {X : Type 0} {x : X} (b : Bool) → x ≡ (if b then x else x)
same_choice true = refl
same_choice false = refl

pub chosen_none : (old : List Node) (condition : ℕ) (a b : List ℕ) → IsChoice old old condition a b 0 []
chosen_none old condition a b = record {
  keeps = keeps_same old old refl;
  of = λ k d h. absurd (omega arith);
  wide = refl;
  bits_are = λ inputs. same_choice (value inputs old condition);
}

-- a place is chosen as the lists are
push_choice : (b : Bool) (xs ys : List Bool) (x y : Bool) → (if b then xs else ys) ++ (if b then x else y) ∷ [] ≡ (if b then xs ++ x ∷ [] else ys ++ y ∷ [])
push_choice true xs ys x y = refl
push_choice false xs ys x y = refl

pub bits-take : (inputs : ℕ → Bool) (nodes : List Node) (gates : List ℕ) (i x : ℕ) → i < length gates → x ≡ get_or gates i x
    → bits inputs nodes (take (i + 1) gates) ≡ bits inputs nodes (take i gates) ++ value inputs nodes x ∷ []
bits-take inputs nodes gates i x within at =
    ap (bits inputs nodes) (take_more gates i x within ∙ ap (λ g. take i gates ++ g ∷ []) (sym at)) ∙ map-append (value inputs nodes) (take i gates) (x ∷ [])

pub chosen_more : (old middle new : List Node) (condition : ℕ) (a b : List ℕ) (i x y next : ℕ) (chosen : List ℕ) → IsChoice old middle condition a b i chosen
    → i < length a → i < length b → x ≡ get_or a i x → y ≡ get_or b i y → IsOf old x → IsOf old y → IsOf old condition
    → IsTruth new (λ inputs. if value inputs middle condition then value inputs middle x else value inputs middle y) next → Keeps middle new
    → IsChoice old new condition a b (i + 1) (chosen ++ next ∷ [])
chosen_more old middle new condition a b i x y next chosen part in_a in_b at_x at_y of_x of_y of_condition truth grows = record {
  keeps = keeps_twice old middle new part.keeps grows;
  of = All-append (IsOf new) chosen (next ∷ []) (all_more middle new chosen grows part.of) (All-cons (IsOf new) next [] truth.of (λ k d h. absurd (omega arith)));
  wide = length-append chosen (next ∷ []) ∙ (let w = part.wide in omega arith);
  bits_are = λ inputs.
      map-append (value inputs new) chosen (next ∷ [])
      ∙ ap (λ bs. bs ++ value inputs new next ∷ []) (bits_keep inputs middle new chosen grows part.of ∙ part.bits_are inputs)
      ∙ ap (λ v. (if value inputs old condition then bits inputs old (take i a) else bits inputs old (take i b)) ++ v ∷ [])
      (truth.value_is inputs
      ∙ ap (λ v. if v then value inputs middle x else value inputs middle y) (part.keeps.values inputs condition of_condition)
      ∙ ap (λ v. if value inputs old condition then v else value inputs middle y) (part.keeps.values inputs x of_x)
      ∙ ap (λ v. if value inputs old condition then value inputs old x else v) (part.keeps.values inputs y of_y))
      ∙ push_choice (value inputs old condition) (bits inputs old (take i a)) (bits inputs old (take i b)) (value inputs old x) (value inputs old y)
      ∙ ap (λ bs. if value inputs old condition then bs else bits inputs old (take i b) ++ value inputs old y ∷ []) (sym (bits-take inputs old a i x in_a at_x))
      ∙ ap (λ bs. if value inputs old condition then bits inputs old (take (i + 1) a) else bs) (sym (bits-take inputs old b i y in_b at_y));
}

-- all places are chosen
pub selected : (old new : List Node) (condition : ℕ) (a b chosen : List ℕ) → length b ≡ length a → IsChoice old new condition a b (length a) chosen → IsSelected old new condition a b chosen
selected old new condition a b chosen wide part = record {
  of = part.of;
  wide = part.wide;
  bits_are = λ inputs.
      part.bits_are inputs
      ∙ ap (λ gs. if value inputs old condition then bits inputs old gs else bits inputs old (take (length a) b)) (take_all (length a) a (omega arith))
      ∙ ap (λ gs. if value inputs old condition then bits inputs old a else bits inputs old gs) (take_all (length a) b (omega arith));
}
