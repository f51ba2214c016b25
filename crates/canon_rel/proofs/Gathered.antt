-- Parts that are gathered in a loop, and what they say together.
use Rattle.std.proofs.Common.{◌≡◌, ℕ, ◌+◌, ◌<◌, Bool, true, false, ◌&&◌, ◌||◌, List, [], ◌∷◌, ◌++◌, length, refl, sym, ap, ◌∙◌, arith, get_or, take, append-nil, append_assoc, inl, inr}
use Rattle.std.specs.Prelude.{if◌then◌else◌, not, nat_lt, map, filter, flat_map, slice_get, Some, IsTrue}
use Rattle.std.specs.List.{list_all, list_any, range_with_len}
use Rattle.std.proofs.lemmas.Bool.{and_from, cases_Bool}
use Rattle.std.proofs.lemmas.Option.{slice_get-get_or}
use Rattle.std.proofs.lemmas.List.{take_more, map-append}
use Rattle.std.proofs.lemmas.List.Concat.{flat_map-cons, flat_map-append}
use Rattle.std.proofs.lemmas.List.Elements.{filter-append}
use Rattle.std.proofs.lemmas.List.Folds.{list_all-append, list_any-append}
use Rattle.heap_core.specs.Posed.{Posed}
use Rattle.heap_core.proofs.Lists.{all_at}
use Rattle.rel_core.specs.declared.formula.Formula.{Formula}
use Rattle.rel_core.specs.declared.indices.Indices.{Indices}
use Rattle.rel_core.specs.Reading.{Reading}
use Rattle.rel_core.specs.Meaning.{holds}
use Rattle.rel_core.specs.Uses.{Kinds, GivesStart, is_sorted}
use Rattle.rel_core.specs.Shown.{live_relation}
use Rattle.canon_rel.specs.declared.places.Place.{Place}
use Rattle.canon_rel.specs.Order.{has_at, follows}
use Rattle.canon_rel.specs.Places.{is_within, is_sorted_place, root_places, field_places, places_below}
use Rattle.canon_rel.proofs.FirstOf.{range_cut}

and_true : (b : Bool) → (b && true) ≡ b
and_true true = refl
and_true false = refl

or_false : (b : Bool) → (b || false) ≡ b
or_false true = refl
or_false false = refl

pub range_last : (n : ℕ) → range_with_len 0 (n + 1) ≡ range_with_len 0 n ++ n ∷ []
range_last n = let same : 0 + n ≡ n = omega arith in range_cut 0 n 1 ∙ ap (λ k. range_with_len 0 n ++ k ∷ []) same

pub all_pushed : {A : Type 0} (t : A → Bool) (xs : List A) (x : A) → list_all t (xs ++ x ∷ []) ≡ (list_all t xs && t x)
all_pushed t xs x = list_all-append t xs (x ∷ []) ∙ ap (λ b. list_all t xs && b) (and_true (t x))

pub some_pushed : {A : Type 0} (t : A → Bool) (xs : List A) (x : A) → list_any t (xs ++ x ∷ []) ≡ (list_any t xs || t x)
some_pushed t xs x = list_any-append t xs (x ∷ []) ∙ ap (λ b. list_any t xs || b) (or_false (t x))

-- ## all of some numbers

-- the parts say of the numbers below n what is asked of each, under readings that are within; and they are sorted where
-- the kinds are given
pub record AllParts (within : Reading → Type 0) (given : Posed → Kinds → Type 0) (test : Reading → ℕ → Bool) (n : ℕ) (parts : List Formula) : Type 0 where
  pub meaning : (m : Reading) → within m → list_all (λ a. holds a m) parts ≡ list_all (test m) (range_with_len 0 n)
  pub sorted : (p : Posed) (kinds : Kinds) → given p kinds → list_all (is_sorted p kinds) parts ≡ true

module _ {within : Reading → Type 0} {given : Posed → Kinds → Type 0} {test : Reading → ℕ → Bool} where
  pub no_parts : (parts : List Formula) → parts ≡ [] → AllParts within given test 0 parts
  no_parts parts is = record { meaning = λ m inside. ap (list_all (λ a. holds a m)) is; sorted = λ p kinds known. ap (list_all (is_sorted p kinds)) is }

  pub more_parts : (n : ℕ) (parts all : List Formula) (f : Formula) → AllParts within given test n parts → all ≡ parts ++ f ∷ [] → ((m : Reading) → within m → holds f m ≡ test m n)
      → ((p : Posed) (kinds : Kinds) → given p kinds → is_sorted p kinds f ≡ true) → AllParts within given test (n + 1) all
  more_parts n parts all f before is meaning sorted = record {
    meaning = λ m inside.
        ap (list_all (λ a. holds a m)) is ∙ all_pushed (λ a. holds a m) parts f ∙ ap (λ b. b && holds f m) (before.meaning m inside)
        ∙ ap (λ b. list_all (test m) (range_with_len 0 n) && b) (meaning m inside) ∙ sym (ap (list_all (test m)) (range_last n) ∙ all_pushed (test m) (range_with_len 0 n) n);
    sorted = λ p kinds known.
        ap (list_all (is_sorted p kinds)) is ∙ all_pushed (is_sorted p kinds) parts f
        ∙ and_from (list_all (is_sorted p kinds) parts) (is_sorted p kinds f) (before.sorted p kinds known) (sorted p kinds known);
  }

-- ## some of some items

pub record SomeParts {A : Type 0} (within : Reading → Type 0) (given : Posed → Kinds → Type 0) (test : Reading → A → Bool) (items : List A) (parts : List Formula) : Type 0 where
  pub meaning : (m : Reading) → within m → list_any (λ a. holds a m) parts ≡ list_any (test m) items
  pub sorted : (p : Posed) (kinds : Kinds) → given p kinds → list_all (is_sorted p kinds) parts ≡ true

module _ {A : Type 0} {within : Reading → Type 0} {given : Posed → Kinds → Type 0} {test : Reading → A → Bool} where
  pub none_of_parts : (parts : List Formula) → parts ≡ [] → SomeParts within given test [] parts
  none_of_parts parts is = record { meaning = λ m inside. ap (list_any (λ a. holds a m)) is; sorted = λ p kinds known. ap (list_all (is_sorted p kinds)) is }

  pub one_of_parts : (items longer : List A) (parts all : List Formula) (x : A) (f : Formula) → SomeParts within given test items parts → longer ≡ items ++ x ∷ [] → all ≡ parts ++ f ∷ []
      → ((m : Reading) → within m → holds f m ≡ test m x) → ((p : Posed) (kinds : Kinds) → given p kinds → is_sorted p kinds f ≡ true) → SomeParts within given test longer all
  one_of_parts items longer parts all x f before more is meaning sorted = record {
    meaning = λ m inside.
        ap (list_any (λ a. holds a m)) is ∙ some_pushed (λ a. holds a m) parts f ∙ ap (λ b. b || holds f m) (before.meaning m inside)
        ∙ ap (λ b. list_any (test m) items || b) (meaning m inside) ∙ sym (ap (list_any (test m)) more ∙ some_pushed (test m) items x);
    sorted = λ p kinds known.
        ap (list_all (is_sorted p kinds)) is ∙ all_pushed (is_sorted p kinds) parts f
        ∙ and_from (list_all (is_sorted p kinds) parts) (is_sorted p kinds f) (before.sorted p kinds known) (sorted p kinds known);
  }

-- ## lists of places

pub kept_more : {A : Type 0} (f : ℕ → A) (t : ℕ → Bool) (n : ℕ) → map f (filter t (range_with_len 0 (n + 1))) ≡ map f (filter t (range_with_len 0 n)) ++ (if t n then f n ∷ [] else [])
kept_more f t n = ap (λ ns. map f (filter t ns)) (range_last n) ∙ ap (map f) (filter-append t (range_with_len 0 n) (n ∷ [])) ∙ map-append f (filter t (range_with_len 0 n)) (filter t (n ∷ []))
    ∙ ap (λ ys. map f (filter t (range_with_len 0 n)) ++ ys) last
  where
    last : map f (filter t (n ∷ [])) ≡ (if t n then f n ∷ [] else [])
    last = elim (cases_Bool (t n)) [
      | inl here ↦ rw here refl
      | inr not_here ↦ rw not_here refl
    ]

pub places_more : (p : Posed) (at : Indices) (n : ℕ) → places_below p at (n + 1) ≡ places_below p at n ++ field_places p at n
places_more p at n =
    ap (λ ns. root_places p at ++ flat_map (field_places p at) ns) (range_last n)
    ∙ ap (λ ps. root_places p at ++ ps) (flat_map-append (field_places p at) (range_with_len 0 n) (n ∷ [])
    ∙ ap (λ ps. flat_map (field_places p at) (range_with_len 0 n) ++ ps) (flat_map-cons (field_places p at) n [] ∙ append-nil (field_places p at n)))
    ∙ sym (append_assoc (root_places p at) (flat_map (field_places p at) (range_with_len 0 n)) (field_places p at n))

-- ## loops

-- places of which some have an object
abbrev pub HeldParts : List Place → ℕ → ℕ → List Formula → Type 0
HeldParts places o i parts =
    SomeParts (λ m. IsTrue (list_all (is_within m.objects) places) × (o < m.objects)) (λ p kinds. IsTrue (list_all (is_sorted_place p kinds) places) × IsTrue (nat_lt o p.scope.objects))
    (λ m. has_at m o) (take i places) parts

pub held_more : (places : List Place) (o i : ℕ) (d : Place) (parts all : List Formula) (f : Formula) → HeldParts places o i parts → i < length places → all ≡ parts ++ f ∷ []
    → ((m : Reading) → IsTrue (is_within m.objects (get_or places i d)) → o < m.objects → holds f m ≡ has_at m o (get_or places i d))
    → ((p : Posed) (kinds : Kinds) → IsTrue (is_sorted_place p kinds (get_or places i d)) → IsTrue (nat_lt o p.scope.objects) → IsTrue (is_sorted p kinds f))
    → HeldParts places o (i + 1) all
held_more places o i d parts all f before inside is meaning sorted =
    let there : slice_get places i ≡ Some (get_or places i d) = slice_get-get_or places i d inside in
    one_of_parts (take i places) (take (i + 1) places) parts all (get_or places i d) f before (take_more places i d inside) is
    (λ m so. meaning m (all_at (is_within m.objects) places i (get_or places i d) so.0 there) so.1)
    (λ p kinds so. sorted p kinds (all_at (is_sorted_place p kinds) places i (get_or places i d) so.0 there) so.1)

-- the objects below a number follow each other, and these are the places below it
pub record OrderSoFar (p : Posed) (at : Indices) (places : List Place) (n : ℕ) (parts : List Formula) : Type 0 where
  pub places_are : places ≡ places_below p at n
  pub parts_are : AllParts (λ m. m.objects ≡ p.scope.objects) (λ q kinds. (q ≡ p) × GivesStart p kinds) (λ m j. not (m.flag (live_relation at) j) || follows m (places_below p at j) j) n parts
