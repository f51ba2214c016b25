-- Connectives of two formulas, and of constants.
use Rattle.std.proofs.Common.{◌≡◌, Bool, true, false, not, ◌&&◌, ◌||◌, List, [], ◌∷◌, refl, sym, ap, ◌∙◌}
use Rattle.std.specs.List.{list_all, list_any}
use Rattle.std.proofs.lemmas.Bool.{and_from}
use Rattle.heap_core.specs.Posed.{Posed}
use Rattle.rel_core.specs.declared.formula.Formula.{Formula}
use Rattle.rel_core.specs.declared.formula.Formula.TheVariants.{Const, Not, And, Or}
use Rattle.rel_core.specs.Reading.{Reading}
use Rattle.rel_core.specs.Meaning.{holds}
use Rattle.rel_core.specs.Uses.{Kinds, is_sorted}
use Rattle.rel_core.proofs.Forms.{holds_const, holds_not, holds_and, holds_or, sorted_not, sorted_and, sorted_or}

and_true : (b : Bool) → (b && true) ≡ b
and_true true = refl
and_true false = refl

or_false : (b : Bool) → (b || false) ≡ b
or_false true = refl
or_false false = refl

not_not : (b : Bool) → not (not b) ≡ b
not_not true = refl
not_not false = refl

pub holds_pair : (a b : Formula) (m : Reading) → holds (And (a ∷ b ∷ [])) m ≡ (holds a m && holds b m)
holds_pair a b m = holds_and (a ∷ b ∷ []) m ∙ ap (λ x. holds a m && x) (and_true (holds b m))

pub holds_either : (a b : Formula) (m : Reading) → holds (Or (a ∷ b ∷ [])) m ≡ (holds a m || holds b m)
holds_either a b m = holds_or (a ∷ b ∷ []) m ∙ ap (λ x. holds a m || x) (or_false (holds b m))

pub sorted_pair : (p : Posed) (kinds : Kinds) (a b : Formula) → is_sorted p kinds a ≡ true → is_sorted p kinds b ≡ true → is_sorted p kinds (And (a ∷ b ∷ [])) ≡ true
sorted_pair p kinds a b left right = sorted_and p kinds (a ∷ b ∷ []) ∙ and_from (is_sorted p kinds a) (is_sorted p kinds b && true) left (and_from (is_sorted p kinds b) true right refl)

pub sorted_either : (p : Posed) (kinds : Kinds) (a b : Formula) → is_sorted p kinds a ≡ true → is_sorted p kinds b ≡ true → is_sorted p kinds (Or (a ∷ b ∷ [])) ≡ true
sorted_either p kinds a b left right = sorted_or p kinds (a ∷ b ∷ []) ∙ and_from (is_sorted p kinds a) (is_sorted p kinds b && true) left (and_from (is_sorted p kinds b) true right refl)

-- ## beside constants

pub opposite_of_constant : (b : Bool) (m : Reading) → not b ≡ not (holds (Const b) m)
opposite_of_constant b m = sym (ap not (holds_const b m))

pub opposite_of_opposite : (a : Formula) (m : Reading) → holds a m ≡ not (holds (Not a) m)
opposite_of_opposite a m = sym (ap not (holds_not a m) ∙ not_not (holds a m))

pub sorted_inside : (p : Posed) (kinds : Kinds) (a : Formula) → is_sorted p kinds (Not a) ≡ true → is_sorted p kinds a ≡ true
sorted_inside p kinds a is = sym (sorted_not p kinds a) ∙ is

-- ## of many parts

pub sorted_conjunction : (p : Posed) (kinds : Kinds) (parts : List Formula) → list_all (is_sorted p kinds) parts ≡ true → is_sorted p kinds (And parts) ≡ true
sorted_conjunction p kinds parts all = sorted_and p kinds parts ∙ all

pub sorted_disjunction : (p : Posed) (kinds : Kinds) (parts : List Formula) → list_all (is_sorted p kinds) parts ≡ true → is_sorted p kinds (Or parts) ≡ true
sorted_disjunction p kinds parts all = sorted_or p kinds parts ∙ all

none_any : (h : Formula → Bool) (xs : List Formula) → list_all (λ a. not (h a)) xs ≡ not (list_any h xs)
none_any h [] = refl
none_any h (x ∷ xs) = ap (λ b. not (h x) && b) (none_any h xs) ∙ both_not (h x) (list_any h xs)
  where
    both_not : (a b : Bool) → (not a && not b) ≡ not (a || b)
    both_not true b = refl
    both_not false b = refl

-- what is said of all opposites is said of some
pub any_same : (h : Formula → Bool) (xs ys : List Formula) → list_all (λ a. not (h a)) xs ≡ list_all (λ a. not (h a)) ys → list_any h xs ≡ list_any h ys
any_same h xs ys same = sym (not_not (list_any h xs)) ∙ ap not (sym (none_any h xs) ∙ same ∙ none_any h ys) ∙ not_not (list_any h ys)

pub any_there : (h : Formula → Bool) (xs : List Formula) → list_all (λ a. not (h a)) xs ≡ false → list_any h xs ≡ true
any_there h xs none = sym (not_not (list_any h xs)) ∙ ap not (sym (none_any h xs) ∙ none)

pub all_of_one : (h : Formula → Bool) (x : Formula) → list_all h (x ∷ []) ≡ h x
all_of_one h x = and_true (h x)

pub any_of_one : (h : Formula → Bool) (x : Formula) → list_any h (x ∷ []) ≡ h x
any_of_one h x = or_false (h x)
