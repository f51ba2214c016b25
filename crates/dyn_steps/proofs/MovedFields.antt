-- The fields that a class lists, and points at which all of them have another index.
use Rattle.std.proofs.Common.{◌≡◌, ℕ, zero, suc, ◌<◌, Bool, true, false, ◌||◌, List, [], ◌∷◌, length, Option, Some, None, inl, inr, refl, sym, ◌∙◌, ap, arith, get_or}
use Rattle.std.specs.Prelude.{◌==◌, slice_get, slice_set, position, is_some, option_and_then}
use Rattle.std.specs.List.{list_all, list_any, range_with_len}
use Rattle.std.specs.Option.{option_map_or}
use Rattle.std.proofs.lemmas.Bool.{cases_eq, eq-eqb, ne_eqb, eqb-true, and_parts, or_left, or_right, false≢true}
use Rattle.std.proofs.lemmas.Option.{slice_get-get_or}
use Rattle.std.proofs.lemmas.List.{length-set, get_or-set_same, get_or-set_other}
use Rattle.std.proofs.lemmas.List.Quantifiers.{position-Some}
use Rattle.taco_unit.specs.declared.unit.ClassDef.{ClassDef}
use Rattle.taco_unit.specs.declared.unit.FieldDef.{FieldDef}
use Rattle.taco_unit.specs.Parts.{Parts}
use Rattle.taco_unit.specs.Well.{IsWell}
use Rattle.heap_core.specs.Heap.{declares}
use Rattle.heap_core.proofs.Lists.{all_filtered, place_found}
use Rattle.heap_core.proofs.GivenFields.{declares_own}
use Rattle.rel_core.specs.declared.relation.What.TheVariants as what
use Rattle.dyn_core.proofs.Fitting.{there_passes}
use Rattle.dyn_steps.specs.declared.point.Point.{Point}
use Rattle.dyn_steps.specs.Points.{index_of, field_moved, fields_moved}
use Rattle.dyn_steps.proofs.Numbers.{both_ways}

-- the field is one of these
abbrev pub is_listed : List ℕ → ℕ → Bool
is_listed fs f = list_any (λ g. g == f) fs

pub listed_at : (fs : List ℕ) (i f : ℕ) → slice_get fs i ≡ Some f → is_listed fs f ≡ true
listed_at [] i f there = absurd (cc)
listed_at (g ∷ fs) zero f there = or_left (g == f) (is_listed fs f) (eq-eqb g f (some_one there))
  where
    some_one : {x y : ℕ} → Some x ≡ Some y → x ≡ y
    some_one is = cc
listed_at (g ∷ fs) (suc i) f there = or_right (g == f) (is_listed fs f) (listed_at fs i f there)

-- what passes of all of them
pub all_listed : (t : ℕ → Bool) (fs : List ℕ) (f : ℕ) → list_all t fs ≡ true → is_listed fs f ≡ true → t f ≡ true
all_listed t [] f all listed = absurd (false≢true listed)
all_listed t (g ∷ fs) f all listed =
    let both = and_parts (t g) (list_all t fs) all in
    elim (cases_eq g f) [
      | inl same ↦ ap t (sym same) ∙ both.0
      | inr other ↦ all_listed t fs f both.1 (sym (ap (λ b. b || is_listed fs f) (ne_eqb g f other)) ∙ listed)
    ]

pub listed_placed : (fs : List ℕ) (f : ℕ) → is_listed fs f ≡ is_some (position (λ g. g == f) fs)
listed_placed fs f = both_ways (is_listed fs f) (is_some (position (λ g. g == f) fs)) (λ is. ap is_some (place_found (λ g. g == f) fs is).1) (at (position (λ g. g == f) fs) refl)
  where
    at : (i : Option ℕ) → position (λ g. g == f) fs ≡ i → is_some i ≡ true → is_listed fs f ≡ true
    at (Some i) found is =
        let here = position-Some (λ g. g == f) fs i 0 found in
        listed_at fs i f (slice_get-get_or fs i 0 here.0 ∙ ap Some (eqb-true (get_or fs i 0) f here.1))
    at None found is = absurd (false≢true is)

module _ (u : Parts) (well : IsWell u) (c : ℕ) (d : ClassDef) (class : slice_get u.classes c ≡ Some d) where
  -- a class declares the fields that it lists
  pub listed_declared : (f : ℕ) → is_listed d.fields f ≡ declares u.classes c f
  listed_declared f = listed_placed d.fields f ∙ sym (ap (λ o. is_some (option_and_then (λ (d : ClassDef). position (λ g. g == f) d.fields) o)) class)

  -- they are those that name it
  pub listed_own : (f : ℕ) (e : FieldDef) → slice_get u.fields f ≡ Some e → is_listed d.fields f ≡ (e.class == c)
  listed_own f e there = listed_declared f ∙ declares_own u well f e there c

  -- and the unit has them
  pub listed_there : (f : ℕ) → is_listed d.fields f ≡ true → (e : FieldDef) × (slice_get u.fields f ≡ Some e)
  listed_there f listed =
      let own = all_listed is_own d.fields f (ap (list_all is_own) (well.classes c d class).lists_fields ∙ all_filtered is_own (range_with_len 0 (length u.fields))) listed in
      let found = there_passes (λ (e : FieldDef). e.class == c) (slice_get u.fields f) own in
      (found.0, found.1)
    where
      is_own : ℕ → Bool
      is_own f = option_map_or (λ d. d.class == c) (slice_get u.fields f) false

-- ## points

pub fields_length : (fs : List ℕ) (at : Point) (n : ℕ) → length (fields_moved at fs n).fields ≡ length at.fields
fields_length [] at n = refl
fields_length (f ∷ fs) at n = fields_length fs (field_moved at f n) n ∙ length-set at.fields f n

pub fields_vars : (fs : List ℕ) (at : Point) (n : ℕ) → (fields_moved at fs n).vars ≡ at.vars
fields_vars [] at n = refl
fields_vars (f ∷ fs) at n = fields_vars fs (field_moved at f n) n

pub fields_kept : (fs : List ℕ) (at : Point) (f n : ℕ) → is_listed fs f ≡ false → index_of (fields_moved at fs n) (what.Field f) ≡ index_of at (what.Field f)
fields_kept [] at f n other = refl
fields_kept (g ∷ fs) at f n other = elim (cases_eq g f) [
  | inl same ↦ absurd (false≢true (sym other ∙ or_left (g == f) (is_listed fs f) (eq-eqb g f same)))
  | inr apart ↦
      fields_kept fs (field_moved at g n) f n (sym (ap (λ b. b || is_listed fs f) (ne_eqb g f apart)) ∙ other)
      ∙ get_or-set_other at.fields g f n 0 (λ same. apart (sym same))
]

pub fields_new : (fs : List ℕ) (at : Point) (f n : ℕ) → f < length at.fields → is_listed fs f ≡ true → index_of (fields_moved at fs n) (what.Field f) ≡ n
fields_new [] at f n within listed = absurd (false≢true listed)
fields_new (g ∷ fs) at f n within listed =
    go (is_listed fs f) refl (λ more. fields_new fs (field_moved at g n) f n (let same = length-set at.fields g n in omega (arith, within, same)) more)
  where
    go : (b : Bool) → is_listed fs f ≡ b → (is_listed fs f ≡ true → index_of (fields_moved (field_moved at g n) fs n) (what.Field f) ≡ n)
        → index_of (fields_moved (field_moved at g n) fs n) (what.Field f) ≡ n
    go true more rest = rest more
    go false more rest = elim (cases_eq g f) [
      | inl same ↦ fields_kept fs (field_moved at g n) f n more ∙ ap (λ k. get_or (slice_set at.fields k n) f 0) same ∙ get_or-set_same at.fields f n 0 within
      | inr apart ↦ absurd (false≢true (sym more ∙ sym (ap (λ b. b || is_listed fs f) (ne_eqb g f apart)) ∙ listed))
    ]
