-- Relations of fields lead where the fields do.
use Rattle.std.proofs.Common.{◌≡◌, ℕ, Bool, true, false, not, ◌||◌, List, [], ◌∷◌, Option, Some, None, inl, inr, refl, sym, ap, ◌∙◌}
use Rattle.std.specs.Prelude.{◌==◌, slice_get}
use Rattle.std.specs.List.{list_any, list_all}
use Rattle.std.specs.Option.{option_map_or}
use Rattle.std.proofs.lemmas.Bool.{false≢true, and_from, cases_eq, eq-eqb, ne_eqb}
use Rattle.taco_unit.specs.declared.kind.Kind.{Kind}
use Rattle.taco_unit.specs.declared.kind.Kind.TheVariants as kind
use Rattle.taco_unit.specs.declared.unit.FieldDef.{FieldDef}
use Rattle.taco_unit.specs.Kinds.{is_class_kind}
use Rattle.taco_unit.specs.Parts.{Parts}
use Rattle.taco_unit.specs.Well.{IsWell}
use Rattle.heap_core.specs.declared.value.Value.{Value}
use Rattle.heap_core.specs.declared.value.Value.TheVariants.{Null, Obj, Num, Flag}
use Rattle.heap_core.specs.declared.value.Seen.{Seen}
use Rattle.heap_core.specs.declared.value.Seen.TheVariants.{Is, Bad, Out}
use Rattle.heap_core.specs.Outcomes.{gives, gives_object, is_bad}
use Rattle.heap_core.specs.Heap.{Heap, field}
use Rattle.heap_core.specs.Posed.{Posed}
use Rattle.rel_core.specs.declared.indices.Indices.{Indices}
use Rattle.rel_core.specs.declared.relation.RelVar.{RelVar}
use Rattle.rel_core.specs.Reading.{Reading}
use Rattle.rel_core.specs.Meaning.{leads}
use Rattle.rel_core.specs.Uses.{Kinds, AsSet, is_spread, same_use, use_of_kind}
use Rattle.rel_core.specs.Shown.{ShowsHeap, ShowsValue, field_relation, live_relation}
use Rattle.rel_core.specs.Laws.{FieldIsShown, is_of_shown}
use Rattle.rel_core.proofs.Read.{heaps_are_read}
use Rattle.clause_terms.specs.Terms.{gives_value}
use Rattle.clause_terms.proofs.Lacking.{other_fields_are_lacking}
use Rattle.jml_rel.specs.Links.{is_link, links_of}

flipped : (a b : ℕ) → (a == b) ≡ (b == a)
flipped a b = elim (cases_eq a b) [
  | inl same ↦ eq-eqb a b same ∙ sym (eq-eqb b a (sym same))
  | inr other ↦ ne_eqb a b other ∙ sym (ne_eqb b a (λ same. other (sym same)))
]

gives_is : (o : ℕ) (s : Seen) → gives (Obj o) s ≡ gives_object o s
gives_is o Bad = refl
gives_is o Out = refl
gives_is o (Is Null) = refl
gives_is o (Is (Obj q)) = flipped q o
gives_is o (Is (Num z)) = refl
gives_is o (Is (Flag b)) = refl

no_value : (o : ℕ) (s : Seen) → gives_value s ≡ false → gives_object o s ≡ false
no_value o Bad none = refl
no_value o Out none = refl
no_value o (Is v) none = absurd (false≢true (sym none))

is_none : (o : ℕ) (s : Seen) → is_bad s ≡ true → gives_object o s ≡ false
is_none o Bad bad = refl
is_none o Out bad = refl
is_none o (Is v) bad = absurd (false≢true bad)

-- a value of another kind is no object
no_object : (m : Reading) (k : Kind) (r : RelVar) (p o : ℕ) (v : Value) → is_class_kind k ≡ false → ShowsValue m k r p v → gives_object o (Is v) ≡ false
no_object m kind.Int r p o v other shown = ap (λ w. gives_object o (Is w)) shown
no_object m kind.Flag r p o v other shown = ap (λ w. gives_object o (Is w)) shown
no_object m (kind.Ref c) r p o v other shown = absurd (false≢true (sym other))

module _ (u : Parts) (m : Reading) (at : Indices) (heap : Heap) (well : IsWell u) (shown : ShowsHeap u m at heap) (p o : ℕ) where
  one_link : (f : ℕ) (d : Option FieldDef) → slice_get u.fields f ≡ d → option_map_or (λ d. is_class_kind d.kind) d false ≡ true
      → m.refs (field_relation at f) p (Obj o) ≡ gives_object o (field u.classes heap f (Obj p))
  one_link f None there is = absurd (false≢true is)
  one_link f (Some d) there is = shown.links f d p (Obj o) there is ∙ gives_is o (field u.classes heap f (Obj p))

  other_kind : (f : ℕ) (d : FieldDef) → FieldIsShown u m at heap f d → is_class_kind d.kind ≡ false → (live of : Bool) → m.flag (live_relation at) p ≡ live → is_of_shown m at d.class p ≡ of
      → gives_object o (field u.classes heap f (Obj p)) ≡ false
  other_kind f d read other live true there is =
      let c = read.given p is in
      ap (gives_object o) c.is ∙ no_object m d.kind (field_relation at f) p o c.value other c.shown
  other_kind f d read other true false there is = ap (gives_object o) (read.other_class p there is)
  other_kind f d read other false false there is = is_none o (field u.classes heap f (Obj p)) (read.missing p ∙ ap not there)

  no_link : (f : ℕ) (d : Option FieldDef) → slice_get u.fields f ≡ d → option_map_or (λ d. is_class_kind d.kind) d false ≡ false
      → gives_object o (field u.classes heap f (Obj p)) ≡ false
  no_link f None there is = no_value o (field u.classes heap f (Obj p)) ((other_fields_are_lacking u m at heap f well shown there).lacking p)
  no_link f (Some d) there is =
      other_kind f d ((heaps_are_read u m at heap well shown).fields f d there) is (m.flag (live_relation at) p) (is_of_shown m at d.class p) refl refl

  pub links_lead : (fs : List ℕ) → leads m (links_of u.fields at fs) p o ≡ list_any (λ f. gives_object o (field u.classes heap f (Obj p))) fs
  links_lead [] = refl
  links_lead (f ∷ fs) = by (is_link u.fields f) refl (links_lead fs)
    where
      by : (b : Bool) → is_link u.fields f ≡ b → leads m (links_of u.fields at fs) p o ≡ list_any (λ f. gives_object o (field u.classes heap f (Obj p))) fs
          → leads m (links_of u.fields at (f ∷ fs)) p o ≡ list_any (λ f. gives_object o (field u.classes heap f (Obj p))) (f ∷ fs)
      by true is rest = rw is (ap (λ b. b || leads m (links_of u.fields at fs) p o) (one_link f (slice_get u.fields f) refl is) ∙ ap (λ b. gives_object o (field u.classes heap f (Obj p)) || b) rest)
      by false is rest = rw is (rest ∙ ap (λ b. b || list_any (λ f. gives_object o (field u.classes heap f (Obj p))) fs) (sym (no_link f (slice_get u.fields f) refl is)))

-- each of these relations is used by its kind
link_spread : (p : Posed) (kinds : Kinds) (at : Indices) (f : ℕ) (d : Option FieldDef) → slice_get p.unit.fields f ≡ d → option_map_or (λ d. is_class_kind d.kind) d false ≡ true
    → is_spread p kinds AsSet (field_relation at f) ≡ true
link_spread p kinds at f None there is = absurd (false≢true is)
link_spread p kinds at f (Some d) there is = rw there (of_kind d.kind is)
  where
    of_kind : (k : Kind) → is_class_kind k ≡ true → same_use AsSet (use_of_kind k) ≡ true
    of_kind kind.Int is = absurd (false≢true is)
    of_kind kind.Flag is = absurd (false≢true is)
    of_kind (kind.Ref c) is = refl

pub links_sorted : (p : Posed) (kinds : Kinds) (at : Indices) (fs : List ℕ) → list_all (is_spread p kinds AsSet) (links_of p.unit.fields at fs) ≡ true
links_sorted p kinds at [] = refl
links_sorted p kinds at (f ∷ fs) = by (is_link p.unit.fields f) refl (links_sorted p kinds at fs)
  where
    by : (b : Bool) → is_link p.unit.fields f ≡ b → list_all (is_spread p kinds AsSet) (links_of p.unit.fields at fs) ≡ true
        → list_all (is_spread p kinds AsSet) (links_of p.unit.fields at (f ∷ fs)) ≡ true
    by true is rest = rw is (and_from (is_spread p kinds AsSet (field_relation at f)) (list_all (is_spread p kinds AsSet) (links_of p.unit.fields at fs))
        (link_spread p kinds at f (slice_get p.unit.fields f) refl is) rest)
    by false is rest = rw is rest
