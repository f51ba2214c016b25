-- A conjunction or disjunction of a list of gates, from those of its two parts.
use Rattle.std.proofs.Common.{◌≡◌, ℕ, Bool, ◌&&◌, ◌||◌, List, [], ◌∷◌, ◌++◌, take, drop, get_or, refl, sym, ap, ◌∙◌, All}
use Rattle.std.specs.List.{list_all, list_any}
use Rattle.std.proofs.lemmas.List.{take-append-drop}
use Rattle.std.proofs.lemmas.List.Elements.{All-drop, All-head, All-tail}
use Rattle.std.proofs.lemmas.List.Folds.{list_all-append, list_any-append}
use Rattle.gate_core.specs.declared.circuit.Node.{Node}
use Rattle.gate_core.specs.Circuit.{value, IsOf, Keeps}
use Rattle.gate_arith.specs.Operations.{IsTruth}

-- a test of each element, whose answers are joined by an operation
pub record Joins (test : (ℕ → Bool) → List ℕ → Bool) (join : Bool → Bool → Bool) : Type 0 where
  pub none : (p q : ℕ → Bool) → test p [] ≡ test q []
  pub cons : (p : ℕ → Bool) (x : ℕ) (xs : List ℕ) → test p (x ∷ xs) ≡ join (p x) (test p xs)
  pub append : (p : ℕ → Bool) (xs ys : List ℕ) → test p (xs ++ ys) ≡ join (test p xs) (test p ys)

pub all_joins : Joins (λ p xs. list_all p xs) (λ a b. a && b)
all_joins = record { none = λ p q. refl; cons = λ p x xs. refl; append = λ p xs ys. list_all-append p xs ys }

pub any_joins : Joins (λ p xs. list_any p xs) (λ a b. a || b)
any_joins = record { none = λ p q. refl; cons = λ p x xs. refl; append = λ p xs ys. list_any-append p xs ys }

-- it depends on the values of the elements alone
same_test : (test : (ℕ → Bool) → List ℕ → Bool) (join : Bool → Bool → Bool) → Joins test join → (p q : ℕ → Bool) (xs : List ℕ) → All (λ x. p x ≡ q x) xs → test p xs ≡ test q xs
same_test test join joins p q [] same = joins.none p q
same_test test join joins p q (x ∷ xs) same =
    joins.cons p x xs ∙ ap (λ b. join b (test p xs)) (All-head (λ x. p x ≡ q x) x xs same)
    ∙ ap (join (q x)) (same_test test join joins p q xs (All-tail (λ x. p x ≡ q x) x xs same)) ∙ sym (joins.cons q x xs)

-- the gate of the whole list, from the gates of its first elements and of the others
pub joined : (test : (ℕ → Bool) → List ℕ → Bool) (join : Bool → Bool → Bool) (old first second new : List Node) (gates : List ℕ) (n a b gate : ℕ) → Joins test join → All (IsOf old) gates
    → IsTruth first (λ inputs. test (value inputs old) (take n gates)) a → Keeps old first
    → IsTruth second (λ inputs. test (value inputs first) (drop n gates)) b → Keeps first second
    → IsTruth new (λ inputs. join (value inputs second a) (value inputs second b)) gate → IsTruth new (λ inputs. test (value inputs old) gates) gate
joined test join old first second new gates n a b gate joins of left kept right grows truth = record {
  of = truth.of;
  value_is = λ inputs.
      truth.value_is inputs
      ∙ ap (λ v. join v (value inputs second b)) (grows.values inputs a left.of ∙ left.value_is inputs)
      ∙ ap (join (test (value inputs old) (take n gates))) (right.value_is inputs
      ∙ same_test test join joins (value inputs first) (value inputs old) (drop n gates)
      (λ k d within. kept.values inputs (get_or (drop n gates) k d) (All-drop (IsOf old) n gates of k d within)))
      ∙ sym (joins.append (value inputs old) (take n gates) (drop n gates))
      ∙ ap (test (value inputs old)) (take-append-drop n gates);
}
