-- What a list contains: one item, an option as a list, lists joined end to end.
use Rattle.std.proofs.Common.{◌≡◌, ◌↔◌, ◌⊎◌, zero, suc, List, [], ◌∷◌, Option, Some, None, refl, sym, ap, subst, inl, inr, arith}
use Rattle.std.specs.Prelude.{Contains, flat_map}
use Rattle.std.specs.Option.{option_to_list}
use Rattle.std.proofs.lemmas.List.Elements.{Contains-append_left, Contains-append_right, Contains-append_cases}

pub contains_none : {A : Type 0} {y : A} → Contains [] y → ⊥
contains_none c = let low = c.1 in absurd (omega arith)

pub contains_first : {A : Type 0} (x : A) (xs : List A) → Contains (x ∷ xs) x
contains_first x xs = (0, omega arith, refl)

pub contains_later : {A : Type 0} (x : A) (xs : List A) (y : A) → Contains xs y → Contains (x ∷ xs) y
contains_later x xs y c = let low = c.1 in (suc c.0, omega arith, c.2)

pub contains_cases : {A : Type 0} (x : A) (xs : List A) (y : A) → Contains (x ∷ xs) y → (x ≡ y) ⊎ Contains xs y
contains_cases x xs y (zero, low, is) = inl is
contains_cases x xs y (suc k, low, is) = inr (k, omega arith, is)

pub contains_one : {A : Type 0} (x y : A) → Contains (x ∷ []) y ↔ (x ≡ y)
contains_one x y = (λ c. elim (contains_cases x [] y c) [ inl is ↦ is | inr later ↦ absurd (contains_none later) ], λ is. (0, omega arith, is))

pub contains_option : {A : Type 0} (o : Option A) (y : A) → Contains (option_to_list o) y ↔ (o ≡ Some y)
contains_option None y = (λ c. absurd (contains_none c), λ is. absurd (cc))
contains_option (Some x) y = (λ c. ap Some ((contains_one x y).0 c), λ is. (contains_one x y).1 (cc))

-- an item that one of the lists contains to which some item of `xs` leads
pub record IsAmong {A B : Type 0} (f : A → List B) (xs : List A) (y : B) : Type 0 where
  pub from : A
  pub there : Contains xs from
  pub to : Contains (f from) y

pub contains_flat : {A B : Type 0} (f : A → List B) (xs : List A) (y : B) → Contains (flat_map f xs) y → IsAmong f xs y
contains_flat f [] y c = absurd (contains_none c)
contains_flat f (x ∷ xs) y c = elim (Contains-append_cases (f x) (flat_map f xs) y c) [
  | inl here ↦ record { from = x; there = contains_first x xs; to = here }
  | inr later ↦
      let r = contains_flat f xs y later in
      record { from = r.from; there = contains_later x xs r.from r.there; to = r.to }
]

pub flat_contains : {A B : Type 0} (f : A → List B) (xs : List A) (x : A) (y : B) → Contains xs x → Contains (f x) y → Contains (flat_map f xs) y
flat_contains f [] x y there to = absurd (contains_none there)
flat_contains f (z ∷ xs) x y there to = elim (contains_cases z xs x there) [
  | inl is ↦ Contains-append_left (f z) (flat_map f xs) y (subst (λ w. Contains (f w) y) (sym is) to)
  | inr later ↦ Contains-append_right (f z) (flat_map f xs) y (flat_contains f xs x y later to)
]
