-- Fields that a unit lacks, in a heap that is shown.
use Rattle.std.proofs.Common.{◌≡◌, ℕ, Bool, true, false, not, [], length, Option, Some, None, refl, sym, ap, ◌∙◌}
use Rattle.std.specs.Prelude.{◌==◌, nat_lt, slice_get, position, option_and_then, get_or, filter}
use Rattle.std.specs.List.{range_with_len}
use Rattle.std.specs.Option.{option_map_or}
use Rattle.std.proofs.lemmas.Bool.{lt-ltb, ltb-true, eqb-true, false≢true}
use Rattle.std.proofs.lemmas.Option.{slice_get_within, none-some, slice_get-get_or}
use Rattle.std.proofs.lemmas.List.Quantifiers.{position-Some}
use Rattle.taco_unit.specs.declared.unit.ClassDef.{ClassDef}
use Rattle.taco_unit.specs.declared.unit.FieldDef.{FieldDef}
use Rattle.taco_unit.specs.Parts.{Parts}
use Rattle.taco_unit.specs.Well.{IsWell}
use Rattle.heap_core.specs.declared.value.Object.{Object}
use Rattle.heap_core.specs.declared.value.Value.{Value}
use Rattle.heap_core.specs.Outcomes.{is_bad, value_in}
use Rattle.heap_core.specs.Heap.{Heap, place_of, cell, cell_of}
use Rattle.heap_core.proofs.Lists.{all_at, all_filtered}
use Rattle.rel_core.specs.declared.indices.Indices.{Indices}
use Rattle.rel_core.specs.Reading.{Reading}
use Rattle.rel_core.specs.Shown.{live_relation}
use Rattle.clause_terms.specs.Terms.{gives_value}
use Rattle.clause_terms.specs.Fields.{OtherFieldsAreLacking}

module _ (u : Parts) (well : IsWell u) (f : ℕ) (lacks : slice_get u.fields f ≡ None) where
  -- no class lists it
  unlisted : (c : ℕ) (d : ClassDef) → slice_get u.classes c ≡ Some d → (i : Option ℕ) → position (λ g. g == f) d.fields ≡ i → i ≡ None
  unlisted c d there None is = refl
  unlisted c d there (Some i) is =
      let found = position-Some (λ g. g == f) d.fields i 0 is in
      let listed : slice_get d.fields i ≡ Some f = slice_get-get_or d.fields i 0 found.0 ∙ ap Some (eqb-true (get_or d.fields i 0) f found.1) in
      let own : option_map_or (λ e. e.class == c) (slice_get u.fields f) false ≡ true =
      all_at (λ g. option_map_or (λ e. e.class == c) (slice_get u.fields g) false)
      (filter (λ g. option_map_or (λ e. e.class == c) (slice_get u.fields g) false) (range_with_len 0 (length u.fields))) i f
      (all_filtered (λ g. option_map_or (λ e. e.class == c) (slice_get u.fields g) false) (range_with_len 0 (length u.fields)))
      (ap (λ fs. slice_get fs i) (sym (well.classes c d there).lists_fields) ∙ listed)
      in
      absurd (false≢true (sym (ap (λ e. option_map_or (λ (e : FieldDef). e.class == c) e false) lacks) ∙ own))

  unplaced : (c : ℕ) → place_of u.classes c f ≡ None
  unplaced c = go (slice_get u.classes c) refl
    where
      go : (d : Option ClassDef) → slice_get u.classes c ≡ d → option_and_then (λ d. position (λ g. g == f) d.fields) d ≡ None
      go None there = refl
      go (Some d) there = unlisted c d there (position (λ g. g == f) d.fields) refl

  no_cell : (x : Object) → cell u.classes f x ≡ None
  no_cell x = ap (option_and_then (λ i. slice_get x.cells i)) (unplaced x.class)

  never : (x : Option Object) → gives_value (cell_of u.classes f x) ≡ false
  never None = refl
  never (Some x) = ap (λ v. gives_value (value_in v)) (no_cell x)

never_bad : (v : Option Value) → is_bad (value_in v) ≡ false
never_bad (Some v) = refl
never_bad None = refl

absent : (u : Parts) (m : Reading) (at : Indices) (heap : Heap) (f o : ℕ) → m.flag (live_relation at) o ≡ nat_lt o (length heap) → (x : Option Object) → slice_get heap o ≡ x → is_bad
    (cell_of u.classes f x) ≡ not (m.flag (live_relation at) o)
absent u m at heap f o live (Some x) there = never_bad (cell u.classes f x) ∙ sym (ap not (live ∙ lt-ltb o (length heap) (slice_get_within heap o x there)))
absent u m at heap f o live None there = sym (ap not (live ∙ past (nat_lt o (length heap)) refl))
  where
    past : (b : Bool) → nat_lt o (length heap) ≡ b → nat_lt o (length heap) ≡ false
    past false is = is
    past true is = absurd (none-some _ (sym there ∙ slice_get-get_or heap o (record { class = 0; cells = [] }) (ltb-true o (length heap) is)))

pub other_fields_are_lacking : OtherFieldsAreLacking
other_fields_are_lacking u m at heap f well shown lacks = record {
  missing = λ o. absent u m at heap f o (shown.live o) (slice_get heap o) refl;
  lacking = λ o. never u well f lacks (slice_get heap o);
}
