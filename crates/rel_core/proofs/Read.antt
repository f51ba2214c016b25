-- A heap that is shown is read: its objects, and what fields give.
use Rattle.std.proofs.Common.{◌≡◌, ℕ, Bool, true, false, not, [], length, Option, Some, None, inl, inr, refl, sym, ap, ◌∙◌}
use Rattle.std.specs.Prelude.{◌==◌, nat_lt, pos, slice_get, is_some}
use Rattle.std.specs.Ordering.{int_eq}
use Rattle.std.specs.Option.{option_map_or}
use Rattle.std.proofs.lemmas.Bool.{lt-ltb, ltb-true, false≢true, cases_eq, eq-eqb, ne_eqb, false_from_ne_true}
use Rattle.std.proofs.lemmas.Bool.Decides.{Decides-int_eq}
use Rattle.std.proofs.lemmas.Option.{slice_get_within, none-some, slice_get-get_or}
use Rattle.taco_unit.specs.declared.unit.FieldDef.{FieldDef}
use Rattle.taco_unit.specs.Parts.{Parts}
use Rattle.taco_unit.specs.Well.{IsWell}
use Rattle.heap_core.specs.declared.value.Object.{Object}
use Rattle.heap_core.specs.declared.value.Seen.TheVariants.{Out}
use Rattle.heap_core.specs.Outcomes.{is_bad, value_in}
use Rattle.heap_core.specs.Heap.{Heap, is_of, cell_of, place_of, cell}
use Rattle.heap_core.proofs.GivenFields.{declares_own}
use Rattle.rel_core.specs.declared.indices.Indices.{Indices}
use Rattle.rel_core.specs.Reading.{Reading}
use Rattle.rel_core.specs.Shown.{ShowsHeap, live_relation, natural}
use Rattle.rel_core.specs.Laws.{is_of_shown, HeapIsRead, HeapsAreRead}

flipped : (a b : ℕ) → (a == b) ≡ (b == a)
flipped a b = elim (cases_eq a b) [
  | inl same ↦ eq-eqb a b same ∙ sym (eq-eqb b a (sym same))
  | inr other ↦ ne_eqb a b other ∙ sym (ne_eqb b a (λ same. other (sym same)))
]

-- numbers that are not below 0 are the same as natural numbers and as whole ones
pub same_naturals : (a b : ℕ) → int_eq (pos a) (pos b) ≡ (a == b)
same_naturals a b = elim (cases_eq a b) [
  | inl same ↦ (Decides-int_eq (pos a) (pos b)).1 (ap pos same) ∙ sym (eq-eqb a b same)
  | inr other ↦ false_from_ne_true (int_eq (pos a) (pos b)) (λ is. other (ap natural ((Decides-int_eq (pos a) (pos b)).0 is))) ∙ sym (ne_eqb a b other)
]

-- which objects are there
live_of : (m : Reading) (at : Indices) (heap : Heap) (o : ℕ) → ((o : ℕ) → m.flag (live_relation at) o ≡ nat_lt o (length heap))
    → (x : Option Object) → slice_get heap o ≡ x
    → m.flag (live_relation at) o ≡ option_map_or (λ x. true) x false
live_of m at heap o live (Some x) there = live o ∙ lt-ltb o (length heap) (slice_get_within heap o x there)
live_of m at heap o live None there = live o ∙ past (nat_lt o (length heap)) refl
  where
    past : (b : Bool) → nat_lt o (length heap) ≡ b → nat_lt o (length heap) ≡ false
    past false is = is
    past true is = absurd (none-some _ (sym there ∙ slice_get-get_or heap o (record { class = 0; cells = [] }) (ltb-true o (length heap) is)))

-- a value that may be missing is never Bad
never_bad : (v : Option _) → is_bad (value_in v) ≡ false
never_bad (Some v) = refl
never_bad None = refl

module _ (u : Parts) (m : Reading) (at : Indices) (heap : Heap) (well : IsWell u) (shown : ShowsHeap u m at heap) where
  of_class : (c o : ℕ) (x : Option Object) → slice_get heap o ≡ x → option_map_or (λ x. x.class == c) x false ≡ is_of_shown m at c o
  of_class c o (Some x) there =
      rw (live_of m at heap o shown.live (Some x) there, shown.classes o x there) (sym (same_naturals x.class c))
  of_class c o None there = rw (live_of m at heap o shown.live None there) refl

  objects_read : (c o : ℕ) → is_of heap c o ≡ is_of_shown m at c o
  objects_read c o = of_class c o (slice_get heap o) refl

  missing : (f o : ℕ) (x : Option Object) → slice_get heap o ≡ x → is_bad (cell_of u.classes f x) ≡ not (m.flag (live_relation at) o)
  missing f o (Some x) there = never_bad (cell u.classes f x) ∙ sym (ap not (live_of m at heap o shown.live (Some x) there))
  missing f o None there = sym (ap not (live_of m at heap o shown.live None there))

  -- an object of another class does not declare the field
  undeclared : (f : ℕ) (d : FieldDef) (x : Object) → slice_get u.fields f ≡ Some d → (x.class == d.class) ≡ false
      → (i : Option ℕ) → place_of u.classes x.class f ≡ i → cell u.classes f x ≡ None
  undeclared f d x there other None place = rw place refl
  undeclared f d x there other (Some i) place =
      absurd (false≢true (sym other ∙ flipped x.class d.class ∙ sym (declares_own u well f d there x.class) ∙ ap is_some place))

  other : (f : ℕ) (d : FieldDef) (o : ℕ) (x : Option Object) → slice_get u.fields f ≡ Some d → slice_get heap o ≡ x
      → m.flag (live_relation at) o ≡ true → is_of_shown m at d.class o ≡ false → cell_of u.classes f x ≡ Out
  other f d o (Some x) is there live not_of = ap value_in (undeclared f d x is (of_class d.class o (Some x) there ∙ not_of) (place_of u.classes x.class f) refl)
  other f d o None is there live not_of = absurd (false≢true (sym (live_of m at heap o shown.live None there) ∙ live))

  heap_read : HeapIsRead u m at heap
  heap_read = record {
    objects = objects_read;
    fields = λ f d is. record {
      at_null = refl;
      missing = λ o. missing f o (slice_get heap o) refl;
      given = λ o of. shown.cells f d o is (objects_read d.class o ∙ of);
      other_class = λ o live not_of. other f d o (slice_get heap o) is refl live not_of;
    };
  }

pub heaps_are_read : HeapsAreRead
heaps_are_read u m at heap well shown = heap_read u m at heap well shown
