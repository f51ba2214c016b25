-- Lists that go together, place by place; first places.
use Rattle.std.proofs.Common.{◌≡◌, ◌≤◌, ◌<◌, ◌+◌, ℕ, zero, suc, Bool, true, false, List, [], ◌∷◌, ◌++◌, Option, None, Some, length, cond, refl, ap, sym, ◌∙◌, subst, arith, inl, inr, get_or, lt-ltb, eq-eqb}
use Rattle.std.specs.Prelude.{slice_get, position, AllPairs, bytes_eq, ◌==◌, nat_lt, ◌⊎◌}
use Rattle.std.specs.List.{position_or_len}
use Rattle.std.proofs.lemmas.Option.{slice_get_within, slice_get-get_or, get_or_from_slice_get}
use Rattle.std.proofs.lemmas.Bool.{eqb-true, ltb-false}
use Rattle.std.proofs.lemmas.Bool.Decides.{Decides-ltb}
use Rattle.std.proofs.lemmas.List.Sums.{fails_before_first}
use Rattle.std.proofs.lemmas.Slice.Eq.{bytes_eq-Decides}
use Rattle.std.proofs.lemmas.List.{length-append}
use Rattle.declared_names.specs.Lookups.{is_key, place_in}
use Rattle.taco_unit.proofs.Lists.{append_last}
use Rattle.typed_statements.proofs.Agrees.{kept}
use Rattle.typed_statements.proofs.CallKinds.{both_of}
use Rattle.typed_core.specs.Members.{is_first}

-- at each place of the first stands one of the second that goes with it
pub record Each {A B : Type 0} (R : ℕ → A → B → Type 0) (xs : List A) (ys : List B) : Type 0 where
  pub same : length xs ≡ length ys
  pub at : (i : ℕ) (x : A) → slice_get xs i ≡ Some x → (y : B) × (slice_get ys i ≡ Some y) × R i x y

pub each_none : {A B : Type 0} (R : ℕ → A → B → Type 0) → Each R [] []
each_none R = record { same = refl; at = λ i x is. absurd (cc) }

-- of a list with one more at its end, with the place
pub grown_at : {A : Type 0} (xs : List A) (y : A) (i : ℕ) (x : A) → slice_get (xs ++ y ∷ []) i ≡ Some x → (slice_get xs i ≡ Some x) ⊎ ((i ≡ length xs) × (x ≡ y))
grown_at [] y zero x is = let same : x ≡ y = cc in inr (refl, same)
grown_at [] y (suc i) x is = absurd (cc)
grown_at (z ∷ xs) y zero x is = inl is
grown_at (z ∷ xs) y (suc i) x is = further (grown_at xs y i x is)
  where
    further : (slice_get xs i ≡ Some x) ⊎ ((i ≡ length xs) × (x ≡ y)) → (slice_get xs i ≡ Some x) ⊎ ((suc i ≡ suc (length xs)) × (x ≡ y))
    further (inl h) = inl h
    further (inr h) = inr (ap suc h.0, h.1)

each_at : {A B : Type 0} (R : ℕ → A → B → Type 0) (xs : List A) (ys : List B) (x : A) (y : B) → Each R xs ys → R (length xs) x y → (i : ℕ) (z : A) → (slice_get xs i ≡ Some z) ⊎ ((i ≡ length xs) × (z ≡ x))
    → (v : B) × (slice_get (ys ++ y ∷ []) i ≡ Some v) × R i z v
each_at R xs ys x y h new i z (inl before) = let found = h.at i z before in (found.0, kept ys (y ∷ []) i found.0 found.1, found.2)
each_at {A} {B} R xs ys x y h new i z (inr last) =
    let P : ℕ → Type 0 = λ n. R n z y in
    let Q : A → Type 0 = λ a. R (length xs) a y in
    (y, ap (slice_get (ys ++ y ∷ [])) (last.0 ∙ h.same) ∙ append_last ys y, subst P (sym last.0) (subst Q (sym last.1) new))

pub each_push : {A B : Type 0} (R : ℕ → A → B → Type 0) (xs : List A) (ys : List B) (x : A) (y : B) → Each R xs ys → R (length xs) x y → Each R (xs ++ x ∷ []) (ys ++ y ∷ [])
each_push R xs ys x y h new =
    record {
      same = length-append xs (x ∷ []) ∙ ap (λ n. n + 1) h.same ∙ sym (length-append ys (y ∷ []));
      at = λ i z is. each_at R xs ys x y h new i z (grown_at xs x i z is);
    }

past_end : {A : Type 0} (zs : List A) (j : ℕ) → slice_get zs j ≡ None → j < length zs → ⊥
past_end [] j none within = omega arith
past_end (z ∷ zs) zero none within = absurd (cc)
past_end (z ∷ zs) (suc j) none within = past_end zs j none (omega arith)

back_by : {A B : Type 0} (R : ℕ → A → B → Type 0) (xs : List A) (ys : List B) → Each R xs ys → (i : ℕ) (y : B) → slice_get ys i ≡ Some y → (o : Option A) → slice_get xs i ≡ o → i < length xs → (x : A) × (slice_get xs i ≡ Some x) × R i x y
back_by {A} {B} R xs ys h i y is (Some x) found within =
    let other = h.at i x found in
    let same : other.0 ≡ y = cc in
    let P : B → Type 0 = λ v. R i x v in
    (x, found, subst P same other.2)
back_by R xs ys h i y is None found within = absurd (past_end xs i found within)

-- the one of the first list that goes with one of the second
pub each_back : {A B : Type 0} (R : ℕ → A → B → Type 0) (xs : List A) (ys : List B) → Each R xs ys → (i : ℕ) (y : B) → slice_get ys i ≡ Some y → (x : A) × (slice_get xs i ≡ Some x) × R i x y
each_back R xs ys h i y is =
    let within : i < length xs = let P : ℕ → Type 0 = λ n. i < n in subst P (sym h.same) (slice_get_within ys i y is) in
    back_by R xs ys h i y is (slice_get xs i) refl within

-- each place against each later one
pub apart_from : {A : Type 0} (R : A → A → Type 0) (xs : List A) → ((i j : ℕ) (x y : A) → i < j → slice_get xs i ≡ Some x → slice_get xs j ≡ Some y → R x y) → AllPairs R xs
apart_from R xs h i j d before within =
    let first : i < length xs = omega arith in
    h i j (get_or xs i d) (get_or xs j d) before (slice_get-get_or xs i d first) (slice_get-get_or xs j d within)

-- FIRST PLACES

found_by : {A : Type 0} (p : A → Bool) (xs : List A) (i : ℕ) (x : A) → slice_get xs i ≡ Some x → p x ≡ true → position_or_len p xs ≤ i
found_by p xs i x is passes = by_order (nat_lt i (position_or_len p xs)) refl
  where
    by_order : (b : Bool) → nat_lt i (position_or_len p xs) ≡ b → position_or_len p xs ≤ i
    by_order false other = ltb-false i (position_or_len p xs) other
    by_order true less =
        let fails : p (get_or xs i x) ≡ false = fails_before_first p xs i x ((Decides-ltb i (position_or_len p xs)).0 less) in
        let same : p (get_or xs i x) ≡ true = ap p (get_or_from_slice_get xs i x x is) ∙ passes in
        absurd (cc)

-- what passes somewhere has a first place
pub not_nowhere : {A : Type 0} (p : A → Bool) (xs : List A) (i : ℕ) (x : A) → slice_get xs i ≡ Some x → p x ≡ true → position p xs ≡ None → ⊥
not_nowhere p xs i x is passes none =
    let within : i < length xs = slice_get_within xs i x is in
    let early : position_or_len p xs ≤ i = found_by p xs i x is passes in
    let before : position_or_len p xs < length xs = omega arith in
    let there : position p xs ≡ Some (position_or_len p xs) = ap (λ b. cond b (Some (position_or_len p xs)) None) (lt-ltb (position_or_len p xs) (length xs) before) in
    absurd (cc)

bytes_same : (xs : List ℕ) → bytes_eq xs xs ≡ true
bytes_same xs = (bytes_eq-Decides xs xs).1 refl

pub is_own_key : (owner : ℕ) (name : List ℕ) → is_key owner name (owner, name) ≡ true
is_own_key owner name = both_of (owner == owner) (bytes_eq name name) (eq-eqb owner owner refl) (bytes_same name)

-- a name that is declared here and means no earlier one means this
pub is_here : (names : List (ℕ × List ℕ)) (owner : ℕ) (name : List ℕ) (n : ℕ) → slice_get names n ≡ Some (owner, name) → is_first (place_in names owner name) n ≡ true → place_in names owner name ≡ Some n
is_here names owner name n there first = by_place (place_in names owner name) refl first
  where
    by_place : (o : Option ℕ) → place_in names owner name ≡ o → is_first o n ≡ true → place_in names owner name ≡ Some n
    by_place None is test = absurd (not_nowhere (is_key owner name) names n (owner, name) there (is_own_key owner name) is)
    by_place (Some i) is test = is ∙ ap Some (eqb-true i n test)
