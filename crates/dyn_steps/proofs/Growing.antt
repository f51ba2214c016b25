-- Lists of formulas that are built one by one, and the fields of a new object.
use Rattle.std.proofs.Common.{◌≡◌, ℕ, zero, suc, ◌+◌, ◌-◌, ◌<◌, Bool, true, false, not, ◌&&◌, List, [], ◌∷◌, ◌++◌, length, take, Option, Some, None, refl, sym, ◌∙◌, ap, arith, get_or}
use Rattle.std.specs.Prelude.{slice_get, is_some, option_map}
use Rattle.std.specs.List.{list_all, range_with_len}
use Rattle.std.specs.Option.{option_map_or}
use Rattle.std.proofs.lemmas.Bool.{and_from, false≢true}
use Rattle.std.proofs.lemmas.Option.{slice_get-get_or}
use Rattle.std.proofs.lemmas.List.{take_more}
use Rattle.heap_core.proofs.Lists.{all_at}
use Rattle.taco_unit.specs.declared.kind.Kind.{Kind}
use Rattle.taco_unit.specs.declared.kind.Kind.TheVariants as kind
use Rattle.taco_unit.specs.declared.unit.FieldDef.{FieldDef}
use Rattle.heap_core.specs.Posed.{Posed}
use Rattle.rel_core.specs.declared.relation.RelVar.{RelVar}
use Rattle.rel_core.specs.declared.relation.What.TheVariants as what
use Rattle.rel_core.specs.Reading.{Reading, numbers_below}
use Rattle.rel_core.specs.Uses.{Kinds, use_of_kind, is_spread}
use Rattle.dyn_steps.specs.Meanings.{there, is_placed, is_first, field_kind, changes}
use Rattle.dyn_steps.proofs.Acts.{field_used}
use Rattle.dyn_steps.proofs.Tested.{copy_changes}

-- ## one more

and_true : (b : Bool) → (b && true) ≡ b
and_true true = refl
and_true false = refl

pub all_more : {A : Type 0} (t : A → Bool) (xs : List A) (x : A) → list_all t (xs ++ x ∷ []) ≡ (list_all t xs && t x)
all_more t [] x = and_true (t x)
all_more t (y ∷ xs) x = ap (λ b. t y && b) (all_more t xs x) ∙ sym (and_assoc (t y) (list_all t xs) (t x))
  where
    and_assoc : (a b d : Bool) → ((a && b) && d) ≡ (a && (b && d))
    and_assoc true b d = refl
    and_assoc false b d = refl

range_more : (a n : ℕ) → range_with_len a (n + 1) ≡ range_with_len a n ++ (a + n) ∷ []
range_more a zero = let e : a ≡ a + 0 = omega arith in ap (λ x. x ∷ []) e
range_more a (suc n) =
    let longer : suc n + 1 ≡ suc (n + 1) = omega arith in
    let last : a + 1 + n ≡ a + suc n = omega arith in
    ap (range_with_len a) longer ∙ ap (λ xs. a ∷ xs) (range_more (a + 1) n) ∙ ap (λ x. a ∷ (range_with_len (a + 1) n ++ x ∷ [])) last

numbers_more : (n : ℕ) → numbers_below (n + 1) ≡ numbers_below n ++ n ∷ []
numbers_more n = let e : 0 + n ≡ n = omega arith in range_more 0 n ∙ ap (λ x. range_with_len 0 n ++ x ∷ []) e

-- a list that is tested as the numbers below n are, and one more as n is
pub numbers_gathered : {A : Type 0} (t : A → Bool) (F : ℕ → Bool) (xs ys : List A) (x : A) (n : ℕ) → ys ≡ xs ++ x ∷ [] → list_all t xs ≡ list_all F (numbers_below n) → t x ≡ F n
    → list_all t ys ≡ list_all F (numbers_below (n + 1))
numbers_gathered t F xs ys x n is before one =
    ap (list_all t) is ∙ all_more t xs x ∙ ap (λ b. b && t x) before ∙ ap (λ b. list_all F (numbers_below n) && b) one
    ∙ sym (ap (list_all F) (numbers_more n) ∙ all_more F (numbers_below n) n)

pub all_gathered : {A : Type 0} (t : A → Bool) (xs ys : List A) (x : A) → ys ≡ xs ++ x ∷ [] → list_all t xs ≡ true → t x ≡ true → list_all t ys ≡ true
all_gathered t xs ys x is before one = ap (list_all t) is ∙ all_more t xs x ∙ and_from (list_all t xs) (t x) before one

-- the same of a list that is gone through
pub list_gathered : {A : Type 0} (t : A → Bool) (F : ℕ → Bool) (xs ys : List A) (x : A) (fs : List ℕ) (i : ℕ) → ys ≡ xs ++ x ∷ [] → i < length fs → list_all t xs ≡ list_all F (take i fs)
    → t x ≡ F (get_or fs i 0) → list_all t ys ≡ list_all F (take (i + 1) fs)
list_gathered t F xs ys x fs i is low before one =
    ap (list_all t) is ∙ all_more t xs x ∙ ap (λ b. b && t x) before ∙ ap (λ b. list_all F (take i fs) && b) one
    ∙ sym (ap (list_all F) (take_more fs i 0 low) ∙ all_more F (take i fs) (get_or fs i 0))

pub all_item : (F : ℕ → Bool) (fs : List ℕ) (i : ℕ) → list_all F fs ≡ true → i < length fs → F (get_or fs i 0) ≡ true
all_item F fs i all low = all_at F fs i (get_or fs i 0) all (slice_get-get_or fs i 0 low)

-- ## the room, and the place of a new object

pub room_of : (m : Reading) (r q : RelVar) (k n : ℕ) → r ≡ q → k ≡ n → not (there m r (k - 1)) ≡ not (there m q (n - 1))
room_of m r q k n is same = ap (λ z. not (there m z (k - 1))) is ∙ ap (λ i. not (there m q (i - 1))) same

pub placed_of : (m : Reading) (v r q : RelVar) (k n : ℕ) → r ≡ q → k ≡ n → list_all (is_placed m v r) (numbers_below k) ≡ list_all (is_placed m v q) (numbers_below n)
placed_of m v r q k n is same = ap (λ z. list_all (is_placed m v z) (numbers_below k)) is ∙ ap (λ i. list_all (is_placed m v q) (numbers_below i)) same

-- ## fields

pub first_of : (m : Reading) (k j : Kind) (r q : RelVar) → k ≡ j → r ≡ q → is_first m k r ≡ is_first m j q
first_of m k j r q kind_is is = ap (λ z. is_first m z r) kind_is ∙ ap (λ z. is_first m j z) is

field_known : (fields : List FieldDef) (f : ℕ) → is_some (slice_get fields f) ≡ true → (e : FieldDef) × (slice_get fields f ≡ Some e)
field_known fields f known = at (slice_get fields f) refl known
  where
    at : (e : Option FieldDef) → slice_get fields f ≡ e → is_some e ≡ true → (e : FieldDef) × (slice_get fields f ≡ Some e)
    at (Some e) is known = (e, is)
    at None is known = absurd (false≢true known)

pub field_spread :
    (p : Posed) (kinds : Kinds) (fields : List FieldDef) (f i : ℕ) (k : Kind) (r : RelVar)
    → k ≡ field_kind fields f → r ≡ record { what = what.Field f; index = i } → p.unit.fields ≡ fields → is_some (slice_get fields f) ≡ true
    → is_spread p kinds (use_of_kind k) r ≡ true
field_spread p kinds fields f i k r kind_is is same known =
    let e = field_known fields f known in
    ap (λ z. is_spread p kinds (use_of_kind z) r) (kind_is ∙ ap (λ o. option_map_or (λ (e : FieldDef). e.kind) o kind.Int) e.1)
    ∙ ap (λ z. is_spread p kinds (use_of_kind e.0.kind) z) is
    ∙ field_used p kinds f i e.0 (ap (λ fs. slice_get fs f) same ∙ e.1)

pub field_changes : (p : Posed) (kinds : Kinds) (fields : List FieldDef) (f n old : ℕ) → p.unit.fields ≡ fields → is_some (slice_get fields f) ≡ true → changes p kinds (what.Field f) n old ≡ true
field_changes p kinds fields f n old same known =
    let e = field_known fields f known in
    copy_changes p kinds (what.Field f) 0 0 refl (ap (λ o. is_some (option_map (λ (e : FieldDef). use_of_kind e.kind) o)) (ap (λ fs. slice_get fs f) same ∙ e.1))
