-- What is asked of the objects of a heap, of those below K and of those that are there.
use Rattle.std.proofs.Common.{◌≡◌, ℕ, ◌≤◌, ◌<◌, Bool, true, false, not, ◌&&◌, ◌||◌, List, [], length, Option, Some, None, refl, sym, ap, ◌∙◌, arith}
use Rattle.std.specs.Prelude.{◌==◌, nat_lt, slice_get, IsTrue}
use Rattle.std.specs.Option.{option_map_or}
use Rattle.std.specs.List.{list_any, list_all}
use Rattle.std.proofs.lemmas.Bool.{false≢true, and_parts}
use Rattle.std.proofs.lemmas.Option.{slice_get_past, slice_get_within}
use Rattle.std.proofs.lemmas.List.Folds.{list_all-map}
use Rattle.taco_unit.specs.declared.kind.Kind.{Kind}
use Rattle.taco_unit.specs.declared.kind.Kind.TheVariants as kind
use Rattle.taco_unit.specs.declared.unit.Clause.{Clause}
use Rattle.taco_unit.specs.declared.unit.ClassDef.{ClassDef}
use Rattle.taco_unit.specs.declared.unit.FieldDef.{FieldDef}
use Rattle.taco_unit.specs.Kinds.{is_class_kind}
use Rattle.heap_core.specs.declared.value.Value.TheVariants.{Null, Obj, Num, Flag}
use Rattle.heap_core.specs.declared.value.Object.{Object}
use Rattle.heap_core.specs.declared.value.Seen.{Seen}
use Rattle.heap_core.specs.declared.value.Seen.TheVariants.{Is, Bad, Out}
use Rattle.heap_core.specs.Outcomes.{gives, gives_null, is_null, is_object, is_out, is_true}
use Rattle.heap_core.specs.Posed.{Posed}
use Rattle.heap_core.specs.Heap.{Heap, field, is_of}
use Rattle.heap_core.specs.Eval.{eval}
use Rattle.heap_core.specs.Judge.{all_invariants, invariant_env, invariants_at, is_good, is_good_at, is_missing, must_be_there, numbers_of, values_of}
use Rattle.rel_core.specs.declared.indices.Indices.{Indices}
use Rattle.rel_core.specs.declared.relation.RelVar.{RelVar}
use Rattle.rel_core.specs.Reading.{Reading, numbers_below}
use Rattle.rel_core.specs.Meaning.{ValueSet, is_subset, joined}
use Rattle.rel_core.specs.Uses.{Kinds, AsSet, is_spread, use_of_kind}
use Rattle.rel_core.specs.Shown.{ShowsHeap, field_relation}
use Rattle.clause_terms.proofs.Only.{subset_one}
use Rattle.clause_terms.proofs.FieldTerms.{null_exact, object_exact, references_at_object}
use Rattle.jml_rel.proofs.Forms.{field_spread}
use Rattle.jml_rel.specs.declared.asked.Asked.{Asked}
use Rattle.jml_rel.specs.declared.asked.Asked.TheVariants as asked
use Rattle.jml_rel.specs.Asked.{are_answered, class_passes, heap_passes, is_answered, object_passes}
use Rattle.jml_rel.proofs.Gathering.{all_flat, all_pass, asks_one, longer, not_any, same_all}

-- ## fields

-- null is within what a relation has at an object
pub null_there : (m : Reading) (s t u : ValueSet) (r : RelVar) (o : ℕ) → IsTrue (nat_lt o m.objects) → s ≡ is_null → u ≡ is_object o → t ≡ joined m u r → is_subset m s t ≡ m.refs r o Null
null_there m s t u r o below null one held =
    subset_one m s t Null (record { reference = refl; exact = λ v. ap (λ f. f v) null ∙ null_exact v })
    ∙ ap (λ f. f Null) held
    ∙ references_at_object m u o r Null (record { reference = below; exact = λ v. ap (λ f. f v) one ∙ object_exact o v })

null_is : (s : Seen) → gives Null s ≡ gives_null s
null_is Bad = refl
null_is Out = refl
null_is (Is Null) = refl
null_is (Is (Obj o)) = refl
null_is (Is (Num z)) = refl
null_is (Is (Flag b)) = refl

missing_is : (p : Posed) (heap : Heap) (o f : ℕ) (d : FieldDef) → slice_get p.unit.fields f ≡ Some d
    → is_missing p heap o f ≡ (must_be_there d.kind d.nullable && gives_null (field p.unit.classes heap f (Obj o)))
missing_is p heap o f d there = ap (λ x. option_map_or (λ (d : FieldDef). must_be_there d.kind d.nullable && gives_null (field p.unit.classes heap f (Obj o))) x false) there

-- a field that must not be null is missing where its relation has null
pub needed : (p : Posed) (m : Reading) (at : Indices) (heap : Heap) (o f : ℕ) (d : FieldDef) → slice_get p.unit.fields f ≡ Some d → ShowsHeap p.unit m at heap
    → must_be_there d.kind d.nullable ≡ true → m.refs (field_relation at f) o Null ≡ is_missing p heap o f
needed p m at heap o f d there shown must =
    let kind = and_parts (is_class_kind d.kind) (not d.nullable) must in
    shown.links f d o Null there kind.0 ∙ null_is (field p.unit.classes heap f (Obj o))
    ∙ sym (missing_is p heap o f d there ∙ ap (λ b. b && gives_null (field p.unit.classes heap f (Obj o))) must)

pub not_needed : (p : Posed) (heap : Heap) (o f : ℕ) (d : FieldDef) → slice_get p.unit.fields f ≡ Some d → must_be_there d.kind d.nullable ≡ false → is_missing p heap o f ≡ false
not_needed p heap o f d there may = missing_is p heap o f d there ∙ ap (λ b. b && gives_null (field p.unit.classes heap f (Obj o))) may

-- such a field is of class kind
pub needed_spread : (p : Posed) (kinds : Kinds) (at : Indices) (f : ℕ) (d : FieldDef) (r : RelVar) → slice_get p.unit.fields f ≡ Some d → must_be_there d.kind d.nullable ≡ true
    → r ≡ field_relation at f → is_spread p kinds AsSet r ≡ true
needed_spread p kinds at f d r there must is =
    ap (is_spread p kinds AsSet) is
    ∙ ap (λ u. is_spread p kinds u (field_relation at f)) (sym (as_set d.kind (and_parts (is_class_kind d.kind) (not d.nullable) must).0))
    ∙ field_spread p kinds at f d there
  where
    as_set : (k : Kind) → is_class_kind k ≡ true → use_of_kind k ≡ AsSet
    as_set kind.Int of = absurd (false≢true of)
    as_set kind.Flag of = absurd (false≢true of)
    as_set (kind.Ref c) of = refl

pub undeclared : (p : Posed) (heap : Heap) (o f : ℕ) → slice_get p.unit.fields f ≡ None → is_missing p heap o f ≡ false
undeclared p heap o f there = ap (λ x. option_map_or (λ (d : FieldDef). must_be_there d.kind d.nullable && gives_null (field p.unit.classes heap f (Obj o))) x false) there

-- ## classes

pub of_is_there : (heap : Heap) (c o : ℕ) → is_of heap c o ≡ true → o < length heap
of_is_there heap c o of = go (slice_get heap o) refl of
  where
    go : (x : Option Object) → slice_get heap o ≡ x → option_map_or (λ (x : Object). x.class == c) x false ≡ true → o < length heap
    go None is of = absurd (false≢true of)
    go (Some x) is of = slice_get_within heap o x is

-- of each class where the object is of it: of its own class alone, where it is there
pub of_own_class : (a : Asked) (p : Posed) (heap : Heap) (o : ℕ)
    → list_all (λ c. not (is_of heap c o) || option_map_or (class_passes a p heap o) (slice_get p.unit.classes c) true) (numbers_below (length p.unit.classes)) ≡ object_passes a p heap o
of_own_class a p heap o = go (slice_get heap o)
  where
    passes : ℕ → Bool
    passes c = option_map_or (class_passes a p heap o) (slice_get p.unit.classes c) true

    go : (x : Option Object) → list_all (λ c. not (option_map_or (λ (x : Object). x.class == c) x false) || passes c) (numbers_below (length p.unit.classes))
        ≡ option_map_or (λ (x : Object). passes x.class) x true
    go None = all_pass (λ c. true) 0 (length p.unit.classes) (λ c from. refl)
    go (Some x) = asks_one passes x.class (length p.unit.classes) (λ past. ap (λ d. option_map_or (class_passes a p heap o) d true) (slice_get_past p.unit.classes x.class past))

-- where it is of a class it passes
pub passes_where : (a : Asked) (p : Posed) (heap : Heap) (o c : ℕ) (d : ClassDef) (guard passes : Bool) → slice_get p.unit.classes c ≡ Some d → guard ≡ is_of heap c o
    → (is_of heap c o ≡ true → passes ≡ class_passes a p heap o d)
    → (not guard || passes) ≡ (not (is_of heap c o) || option_map_or (class_passes a p heap o) (slice_get p.unit.classes c) true)
passes_where a p heap o c d guard passes there same is =
    ap (λ g. not g || passes) same
    ∙ go (is_of heap c o) is
    ∙ sym (ap (λ x. not (is_of heap c o) || option_map_or (class_passes a p heap o) x true) there)
  where
    go : (b : Bool) → (b ≡ true → passes ≡ class_passes a p heap o d) → (not b || passes) ≡ (not b || class_passes a p heap o d)
    go true is = is refl
    go false is = refl

pub passes_nowhere : (a : Asked) (p : Posed) (heap : Heap) (o c : ℕ) → slice_get p.unit.classes c ≡ None
    → true ≡ (not (is_of heap c o) || option_map_or (class_passes a p heap o) (slice_get p.unit.classes c) true)
passes_nowhere a p heap o c there = sym (ap (λ x. not (is_of heap c o) || option_map_or (class_passes a p heap o) x true) there ∙ or_true (not (is_of heap c o)))
  where
    or_true : (b : Bool) → (b || true) ≡ true
    or_true true = refl
    or_true false = refl

-- ## heaps

-- at the numbers below K what is asked of those of the heap
pub of_those_there : (a : Asked) (p : Posed) (heap : Heap) (k : ℕ) → length heap ≤ k → list_all (object_passes a p heap) (numbers_below k) ≡ heap_passes a p heap
of_those_there a p heap k few = longer (object_passes a p heap) 0 (length heap) k few (λ o past. missing o (omega (arith, past)))
  where
    missing : (o : ℕ) → length heap ≤ o → object_passes a p heap o ≡ true
    missing o past = ap (λ x. option_map_or (λ (x : Object). option_map_or (class_passes a p heap o) (slice_get p.unit.classes x.class) true) x true) (slice_get_past heap o past)

-- what is asked of the values of invariants
answered_values : (a : Asked) (p : Posed) (heap : Heap) (o : ℕ) (cs : List Clause) → are_answered a p heap o cs ≡ list_all (is_answered a) (values_of (invariant_env p heap o) cs)
answered_values a p heap o cs = sym (list_all-map (is_answered a) (λ (c : Clause). eval c.expr (invariant_env p heap o)) cs)

module _ (p : Posed) (heap : Heap) (o : ℕ) where
  good_class : (d : Option ClassDef) → option_map_or (class_passes asked.Good p heap o) d true
      ≡ (not (list_any (is_missing p heap o) (option_map_or (λ (d : ClassDef). d.fields) d []))
      && list_all is_true (values_of (invariant_env p heap o) (option_map_or (λ (d : ClassDef). d.invariants) d [])))
  good_class None = refl
  good_class (Some d) = ap (λ b. not (list_any (is_missing p heap o) d.fields) && b) (answered_values asked.Good p heap o d.invariants)

  good_object : (x : Option Object) → option_map_or (λ (x : Object). option_map_or (class_passes asked.Good p heap o) (slice_get p.unit.classes x.class) true) x true
      ≡ (not (list_any (is_missing p heap o) (option_map_or (λ (x : Object). option_map_or (λ (d : ClassDef). d.fields) (slice_get p.unit.classes x.class) []) x []))
      && list_all is_true (values_of (invariant_env p heap o) (option_map_or (λ (x : Object). option_map_or (λ (d : ClassDef). d.invariants) (slice_get p.unit.classes x.class) []) x [])))
  good_object None = refl
  good_object (Some x) = good_class (slice_get p.unit.classes x.class)

  good_at : object_passes asked.Good p heap o ≡ is_good_at p heap o
  good_at = good_object (slice_get heap o)

  inside_class : (d : Option ClassDef) → option_map_or (class_passes asked.Inside p heap o) d true
      ≡ list_all (is_answered asked.Inside) (values_of (invariant_env p heap o) (option_map_or (λ (d : ClassDef). d.invariants) d []))
  inside_class None = refl
  inside_class (Some d) = answered_values asked.Inside p heap o d.invariants

  inside_object : (x : Option Object) → option_map_or (λ (x : Object). option_map_or (class_passes asked.Inside p heap o) (slice_get p.unit.classes x.class) true) x true
      ≡ list_all (is_answered asked.Inside) (values_of (invariant_env p heap o)
      (option_map_or (λ (x : Object). option_map_or (λ (d : ClassDef). d.invariants) (slice_get p.unit.classes x.class) []) x []))
  inside_object None = refl
  inside_object (Some x) = inside_class (slice_get p.unit.classes x.class)

  inside_at : object_passes asked.Inside p heap o ≡ list_all (is_answered asked.Inside) (invariants_at p heap o)
  inside_at = inside_object (slice_get heap o)

pub good_heap : (p : Posed) (heap : Heap) → heap_passes asked.Good p heap ≡ is_good p heap
good_heap p heap = same_all (object_passes asked.Good p heap) (is_good_at p heap) (λ o. good_at p heap o) (numbers_of heap)

pub inside_heap : (p : Posed) (heap : Heap) → heap_passes asked.Inside p heap ≡ not (list_any is_out (all_invariants p heap))
inside_heap p heap =
    same_all (object_passes asked.Inside p heap) (λ o. list_all (λ s. not (is_out s)) (invariants_at p heap o)) (λ o. inside_at p heap o) (numbers_of heap)
    ∙ sym (not_any is_out (all_invariants p heap) ∙ all_flat (λ s. not (is_out s)) (invariants_at p heap) (numbers_of heap))
