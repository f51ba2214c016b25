-- The kinds of expressions, and those of the unit.
use Rattle.std.proofs.Common.{◌≡◌, ℕ, Bool, true, false, refl, ap, eq-eqb, []}
use Rattle.std.specs.Prelude.{◌&&◌, ◌==◌}
use Rattle.std.proofs.lemmas.Bool.{eqb-true}
use Rattle.taco_unit.specs.declared.kind.Kind.TheVariants as kind
use Rattle.taco_unit.specs.Kinds.{Around, Sort as UnitSort, Faulty as NoKind, NullOnly, Of, suits, alike, where_, sort_of}
use Rattle.declared_names.specs.declared.fault.Cause.TheVariants.{Kinds}
use Rattle.declared_names.specs.declared.sort.Sort.{Sort}
use Rattle.declared_names.specs.declared.sort.Sort.TheVariants.{Loose, Null, Int, Flag, Object}
use Rattle.typed_forms.specs.declared.typed.Typed.{Typed}
use Rattle.declared_names.specs.Sorts.{fits}
use Rattle.typed_forms.specs.Operators.{wanted, wants}
use Rattle.typed_forms.specs.Calls.{byte}
use Rattle.typed_statements.specs.Kinds.{kind_of}
use Rattle.typed_statements.proofs.Stand.{passes}

-- what an expression of this kind is in the unit
abbrev pub as_sort : Sort → UnitSort
as_sort Loose = NoKind
as_sort Null = NullOnly
as_sort Int = Of kind.Int
as_sort Flag = Of kind.Flag
as_sort (Object c) = Of (kind.Ref (byte c))

abbrev pub is_known : Sort → Bool
is_known Loose = false
is_known Null = true
is_known Int = true
is_known Flag = true
is_known (Object c) = true

-- the kind of something that is declared
abbrev pub is_kind : Sort → Bool
is_kind Loose = false
is_kind Null = false
is_kind Int = true
is_kind Flag = true
is_kind (Object c) = true

pub same_byte : (a b : ℕ) → (a == b) ≡ true → (byte a == byte b) ≡ true
same_byte a b is = eq-eqb (byte a) (byte b) (ap byte (eqb-true a b is))

pub kind_known : (s : Sort) → is_kind s ≡ true → is_known s ≡ true
kind_known Loose is = is
kind_known Null is = refl
kind_known Int is = refl
kind_known Flag is = refl
kind_known (Object c) is = refl

pub kind_sort : (s : Sort) → is_kind s ≡ true → as_sort s ≡ Of (kind_of s)
kind_sort Loose is = absurd (cc)
kind_sort Null is = absurd (cc)
kind_sort Int is = refl
kind_sort Flag is = refl
kind_sort (Object c) is = refl

pub fits_suits : (want given : Sort) → is_kind want ≡ true → is_known given ≡ true → fits want given ≡ true → suits (kind_of want) (as_sort given) ≡ true
fits_suits Loose g a b c = absurd (cc)
fits_suits Null g a b c = absurd (cc)
fits_suits Int Loose a b c = absurd (cc)
fits_suits Int Null a b c = absurd (cc)
fits_suits Int Int a b c = refl
fits_suits Int Flag a b c = absurd (cc)
fits_suits Int (Object d) a b c = absurd (cc)
fits_suits Flag Loose a b c = absurd (cc)
fits_suits Flag Null a b c = absurd (cc)
fits_suits Flag Int a b c = absurd (cc)
fits_suits Flag Flag a b c = refl
fits_suits Flag (Object d) a b c = absurd (cc)
fits_suits (Object o) Loose a b c = absurd (cc)
fits_suits (Object o) Null a b c = refl
fits_suits (Object o) Int a b c = absurd (cc)
fits_suits (Object o) Flag a b c = absurd (cc)
fits_suits (Object o) (Object d) a b c = same_byte o d c

pub fits_alike : (x y : Sort) → is_known x ≡ true → is_known y ≡ true → fits x y ≡ true → alike (as_sort x) (as_sort y) ≡ true
fits_alike Loose y a b c = absurd (cc)
fits_alike Null Loose a b c = absurd (cc)
fits_alike Null Null a b c = refl
fits_alike Null Int a b c = absurd (cc)
fits_alike Null Flag a b c = absurd (cc)
fits_alike Null (Object d) a b c = refl
fits_alike Int y a b c = fits_suits Int y refl b c
fits_alike Flag y a b c = fits_suits Flag y refl b c
fits_alike (Object o) y a b c = fits_suits (Object o) y refl b c

-- an expression has its kind
pub record HasSort (k : Around) (t : Typed) : Type 0 where
  pub sort : sort_of t.expr k ≡ as_sort t.sort
  pub known : is_known t.sort ≡ true

-- what was wanted suits
pub wanted_suits : (want : Sort) (x : Typed) (k : Around) → is_kind want ≡ true → HasSort k x → wants want x ≡ [] → suits (kind_of want) (sort_of x.expr k) ≡ true
wanted_suits want x k is h none = rw h.sort (fits_suits want x.sort is h.known (passes (fits want x.sort) x.at Kinds none))

pub compared_alike : (x y : Typed) (k : Around) → HasSort k x → HasSort k y → wanted x.sort y.at y.sort ≡ [] → alike (sort_of x.expr k) (sort_of y.expr k) ≡ true
compared_alike x y k h i none = rw (h.sort, i.sort) (fits_alike x.sort y.sort h.known i.known (passes (fits x.sort y.sort) y.at Kinds none))

-- both tests pass
pub both_pass : (a b : Bool) (s : UnitSort) → a ≡ true → b ≡ true → where_ (a && b) s ≡ s
both_pass true true s x y = refl
both_pass true false s x y = absurd (cc)
both_pass false b s x y = absurd (cc)

pub one_passes : (a : Bool) (s : UnitSort) → a ≡ true → where_ a s ≡ s
one_passes true s x = refl
one_passes false s x = absurd (cc)
