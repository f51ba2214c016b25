-- A start is canonical under the numbers of its visit, and under no others; and what that tells of tuples.
use Rattle.std.proofs.Common.{◌≡◌, ℕ, zero, suc, ◌+◌, ◌<◌, true, false, List, [], ◌∷◌, ◌++◌, length, map, Option, Some, None, refl, sym, ◌∙◌, ap, subst, arith}
use Rattle.std.specs.Prelude.{◌↔◌, slice_get, option_map, option_and_then, flat_map, option_to_list}
use Rattle.std.specs.List.{range_with_len}
use Rattle.std.specs.List.Sorted.{IsStrictlyIncreasing}
use Rattle.std.specs.Option.{option_map_or}
use Rattle.std.proofs.lemmas.Bool.{false≢true, eq-eqb, eqb-true}
use Rattle.std.proofs.lemmas.List.{map-append, append-nil}
use Rattle.std.proofs.lemmas.List.Concat.{flat_map-cons}
use Rattle.std.proofs.lemmas.Option.{slice_get_within, slice_get-map}
use Rattle.heap_core.specs.declared.value.Value.{Value}
use Rattle.heap_core.specs.declared.value.Value.TheVariants.{Null, Obj, Num, Flag}
use Rattle.heap_core.specs.declared.value.Object.{Object}
use Rattle.heap_core.specs.declared.start.Start.{Start}
use Rattle.heap_core.specs.Posed.{Posed}
use Rattle.heap_core.specs.Outcomes.{value_in}
use Rattle.heap_core.specs.declared.judged.Part.{Part}
use Rattle.heap_core.specs.declared.judged.Judged.{Judged}
use Rattle.heap_core.specs.declared.judged.Judged.TheVariants.{Breaks}
use Rattle.heap_core.specs.Heap.{Heap, field, cell_of, place_of}
use Rattle.heap_core.specs.Start.{Fits}
use Rattle.heap_core.specs.Judge.{judged, Violates}
use Rattle.canonical_order.specs.declared.tuple.Tuple.{Tuple}
use Rattle.canonical_order.specs.declared.tuple.Tuple.TheVariants.{Root, Field}
use Rattle.heap_core.specs.Outcomes.{is_value, gives}
use Rattle.canonical_order.specs.Tuples.{occurs}
use Rattle.canonical_order.specs.Visiting.{visited}
use Rattle.canonical_order.proofs.Visited.{visited_is_visit}
use Rattle.heap_symmetry.specs.Kinds.{IsOfKind, breaks}
use Rattle.heap_symmetry.specs.Laws.{RenumberingKeeps, CanonicalStartsDecide, CanonicallyViolable, TuplesArePossible, renamed_tuple}
use Rattle.heap_symmetry.proofs.Fitting.{fits_as}
use Rattle.heap_symmetry.proofs.Judging.{good_as, judged_alike}
use Rattle.canonical_order.specs.Canonical.{HoldsEachOnce, IsVisit, IsCanonical, cells_of, places, first_place, number_in, renamed, renumbered}
use Rattle.canonical_order.proofs.InOrder.{range_each_once}
use Rattle.canonical_order.proofs.NumbersLemmas.{numbered}
use Rattle.heap_symmetry.specs.Renaming.{IsNaming, value_as, object_as, IsRenamed}
use Rattle.heap_symmetry.proofs.Evaluated.{object_named}
use Rattle.heap_symmetry.proofs.Ordered.{named, named_low, naming_of, renamed_as, renumbered_as, cells_in}

-- ## the places

cells_named : {n : ℕ → ℕ} (h j : Heap) → IsRenamed n h j → (o : ℕ) → cells_of j (n o) ≡ map (value_as n) (cells_of h o)
cells_named {n} h j is o = ap (λ x. flat_map (λ (y : Object). y.cells) (option_to_list x)) (is.objects o) ∙ go (slice_get h o)
  where
    go : (x : Option Object) → flat_map (λ (y : Object). y.cells) (option_to_list (option_map (object_as n) x)) ≡ map (value_as n) (flat_map (λ (y : Object). y.cells) (option_to_list x))
    go None = refl
    go (Some x) =
        flat_map-cons (λ (y : Object). y.cells) (object_as n x) [] ∙ append-nil (map (value_as n) x.cells) ∙ ap (map (value_as n)) (sym (flat_map-cons (λ (y : Object). y.cells) x [] ∙ append-nil x.cells))

-- each number of a list is, under the new numbers, its place from a on
record AreFrom (n : ℕ → ℕ) (a : ℕ) (xs : List ℕ) : Type 0 where
  at : (i o : ℕ) → slice_get xs i ≡ Some o → n o ≡ a + i

tail_from : {n : ℕ → ℕ} {a : ℕ} (x : ℕ) (xs : List ℕ) → AreFrom n a (x ∷ xs) → AreFrom n (a + 1) xs
tail_from x xs from = record { at = λ i o there. omega (arith, from.at (suc i) o there) }

cells_along : {n : ℕ → ℕ} (h j : Heap) → IsRenamed n h j → (xs : List ℕ) (a : ℕ) → AreFrom n a xs → flat_map (cells_of j) (range_with_len a (length xs)) ≡ map (value_as n) (flat_map (cells_of h) xs)
cells_along h j is [] a from = refl
cells_along {n} h j is (x ∷ xs) a from =
    let here : a ≡ n x = omega (arith, from.at 0 x refl) in
    flat_map-cons (cells_of j) a (range_with_len (a + 1) (length xs)) ∙ ap (λ o. cells_of j o ++ flat_map (cells_of j) (range_with_len (a + 1) (length xs))) here ∙ ap (λ cs. cs ++ flat_map (cells_of j) (range_with_len (a + 1) (length xs))) (cells_named h j is x) ∙ ap (λ cs. map (value_as n) (cells_of h x) ++ cs) (cells_along h j is xs (a + 1) (tail_from x xs from)) ∙ sym (map-append (value_as n) (cells_of h x) (flat_map (cells_of h) xs)) ∙ ap (map (value_as n)) (sym (flat_map-cons (cells_of h) x xs))

first_named : {n m : ℕ → ℕ} → IsNaming n m → (vs : List Value) (o : ℕ) → first_place (map (value_as n) vs) (n o) ≡ first_place vs o
first_named naming [] o = refl
first_named naming (v ∷ vs) o = rw (object_named naming o v, first_named naming vs o) refl

map_along : (n : ℕ → ℕ) (xs : List ℕ) (a : ℕ) → AreFrom n a xs → (f g : ℕ → ℕ) → ((o : ℕ) → f (n o) ≡ g o) → map f (range_with_len a (length xs)) ≡ map g xs
map_along n [] a from f g same = refl
map_along n (x ∷ xs) a from f g same =
    let here : a ≡ n x = omega (arith, from.at 0 x refl) in
    let first : f a ≡ g x = ap f here ∙ same x in
    rw (first, map_along n xs (a + 1) (tail_from x xs from) f g same) refl

-- ## the visit

rises_alike : (p : Posed) (s : Start) (order : List ℕ) → Fits s p → (once : HoldsEachOnce order (length s.objects)) → let t = renumbered s order in map (first_place (places t (range_with_len 0 (length t.objects)))) (range_with_len 0 (length t.objects)) ≡ map (first_place (places s order)) order
rises_alike p s order fits once =
    let t = renumbered s order in
    let n = named order in
    let is = renumbered_as p s order fits once in
    let naming = naming_of order (length s.objects) once in
    let from : AreFrom n 0 order = record { at = λ i o there. named_low order o (omega (arith, once.within i o there, once.as_many)) ∙ numbered order (length s.objects) once i o there ∙ omega arith } in
    let long : length t.objects ≡ length order = is.heap.as_many ∙ sym once.as_many in
    let cells = cells_along s.objects t.objects is.heap order 0 from in
    let all_places : places t (range_with_len 0 (length order)) ≡ map (value_as n) (places s order) =
    rw (is.this, is.args, cells) (ap (λ vs. value_as n s.this ∷ vs) (sym (map-append (value_as n) s.args (flat_map (cells_of s.objects) order))))
    in
    ap (λ k. map (first_place (places t (range_with_len 0 k))) (range_with_len 0 k)) long ∙ ap (λ vs. map (first_place vs) (range_with_len 0 (length order))) all_places ∙ map_along n order 0 from (first_place (map (value_as n) (places s order))) (first_place (places s order)) (first_named naming (places s order))

pub canonical_by_visit : (p : Posed) (s : Start) (order : List ℕ) → Fits s p → HoldsEachOnce order (length s.objects) → IsCanonical (renumbered s order) ↔ IsVisit s order
canonical_by_visit p s order fits once =
    let same = rises_alike p s order fits once in
    (λ canonical. record { each_once = once; rising = subst IsStrictlyIncreasing same canonical.rising }, λ visit. record { each_once = range_each_once (length (renumbered s order).objects); rising = subst IsStrictlyIncreasing (sym same) visit.rising })

-- ## tuples

value_renamed : (order : List ℕ) (u v : Value) → is_value u v ≡ true → is_value (renamed order u) (renamed order v) ≡ true
value_renamed order (Obj o) (Obj q) is = eq-eqb (number_in order o) (number_in order q) (ap (number_in order) (eqb-true o q is))
value_renamed order Null Null is = refl
value_renamed order (Num x) (Num y) is = is
value_renamed order (Flag a) (Flag b) is = is
value_renamed order Null (Obj q) is = absurd (false≢true is)
value_renamed order Null (Num y) is = absurd (false≢true is)
value_renamed order Null (Flag b) is = absurd (false≢true is)
value_renamed order (Obj o) Null is = absurd (false≢true is)
value_renamed order (Obj o) (Num y) is = absurd (false≢true is)
value_renamed order (Obj o) (Flag b) is = absurd (false≢true is)
value_renamed order (Num x) Null is = absurd (false≢true is)
value_renamed order (Num x) (Obj q) is = absurd (false≢true is)
value_renamed order (Num x) (Flag b) is = absurd (false≢true is)
value_renamed order (Flag a) Null is = absurd (false≢true is)
value_renamed order (Flag a) (Obj q) is = absurd (false≢true is)
value_renamed order (Flag a) (Num y) is = absurd (false≢true is)

argument_renamed : (order : List ℕ) (u : Option Value) (v : Value) → option_map_or (λ x. is_value x v) u false ≡ true → option_map_or (λ x. is_value x (renamed order v)) (option_map (renamed order) u) false ≡ true
argument_renamed order None v is = absurd (false≢true is)
argument_renamed order (Some u) v is = value_renamed order u v is

-- the field of an object that is there
cell_renamed : (p : Posed) (s : Start) (order : List ℕ) → Fits s p → HoldsEachOnce order (length s.objects) → (f o : ℕ) (v : Value) (x : Object) → slice_get s.objects o ≡ Some x → gives v (cell_of p.unit.classes f (Some x)) ≡ true → gives (renamed order v) (cell_of p.unit.classes f (Some (object_as (named order) x))) ≡ true
cell_renamed p s order fits once f o v x there is = go (place_of p.unit.classes x.class f) is
  where
    n : ℕ → ℕ
    n = named order

    at : (i : ℕ) (u : Option Value) → slice_get x.cells i ≡ u → gives v (value_in u) ≡ true → gives (renamed order v) (value_in (option_map (value_as n) u)) ≡ true
    at i None none ok = absurd (false≢true ok)
    at i (Some u) some_ ok =
        let same : renamed order u ≡ value_as n u = renamed_as order u (λ q e. omega (arith, cells_in p s fits o x there i u some_ q e, once.as_many)) in
        subst (λ z. is_value z (renamed order v) ≡ true) same (value_renamed order u v ok)

    go : (place : Option ℕ) → gives v (value_in (option_and_then (λ i. slice_get x.cells i) place)) ≡ true → gives (renamed order v) (value_in (option_and_then (λ i. slice_get (map (value_as n) x.cells) i) place)) ≡ true
    go None ok = absurd (false≢true ok)
    go (Some i) ok = rw (slice_get-map (value_as n) x.cells i) (at i (slice_get x.cells i) refl ok)

field_renamed : (p : Posed) (s : Start) (order : List ℕ) → Fits s p → HoldsEachOnce order (length s.objects) → (f o : ℕ) (v : Value) → gives v (field p.unit.classes s.objects f (Obj o)) ≡ true → gives (renamed order v) (field p.unit.classes (renumbered s order).objects f (Obj (number_in order o))) ≡ true
field_renamed p s order fits once f o v is = go (slice_get s.objects o) refl is
  where
    n : ℕ → ℕ
    n = named order

    go : (x : Option Object) → slice_get s.objects o ≡ x → gives v (cell_of p.unit.classes f x) ≡ true → gives (renamed order v) (field p.unit.classes (renumbered s order).objects f (Obj (number_in order o))) ≡ true
    go None none ok = absurd (false≢true ok)
    go (Some x) some_ ok =
        let inside : o < length order = omega (arith, slice_get_within s.objects o x some_, once.as_many) in
        let here : slice_get (renumbered s order).objects (number_in order o) ≡ Some (object_as n x) =
        ap (slice_get (renumbered s order).objects) (sym (named_low order o inside)) ∙ (renumbered_as p s order fits once).heap.objects o ∙ ap (option_map (object_as n)) some_
        in
        subst (λ z. gives (renamed order v) (cell_of p.unit.classes f z) ≡ true) (sym here) (cell_renamed p s order fits once f o v x some_ ok)

pub occurs_renamed : (p : Posed) (s : Start) (order : List ℕ) → Fits s p → HoldsEachOnce order (length s.objects) → (t : Tuple) → occurs p s t ≡ true → occurs p (renumbered s order) (renamed_tuple order t) ≡ true
occurs_renamed p s order fits once (Root zero v) is = value_renamed order s.this v is
occurs_renamed p s order fits once (Root (suc i) v) is = rw (slice_get-map (renamed order) s.args i) (argument_renamed order (slice_get s.args i) v is)
occurs_renamed p s order fits once (Field f o v) is = field_renamed p s order fits once f o v is

-- ## the laws

pub keeps : RenumberingKeeps
keeps p s order fits once =
    let naming = naming_of order (length s.objects) once in
    let is = renumbered_as p s order fits once in
    record {
      fits = fits_as p naming s (renumbered s order) is fits;
      good = good_as p naming s.objects (renumbered s order).objects is.heap fits.few_objects;
      judged = judged_alike p naming s (renumbered s order) is fits.few_objects;
    }

breaks_too : (b : Part) (j : Judged) → IsOfKind (Breaks b) j → (c : Part) × (j ≡ Breaks c)
breaks_too b _ (breaks _ c) = (c, refl)

pub decide : CanonicalStartsDecide
decide p = (λ v. canonically v.0 v.1 v.2, λ c. (c.0, c.1, c.3))
  where
    canonically : (s : Start) (b : Part) → Violates p s b → CanonicallyViolable p
    canonically s b v =
        let order = visited s in
        let visit = visited_is_visit s p v.fits in
        let t = renumbered s order in
        let alike = keeps p s order v.fits visit.each_once in
        let broken = breaks_too b (judged p t) (subst (λ j. IsOfKind j (judged p t)) v.breaks alike.judged) in
        (t, broken.0, (canonical_by_visit p s order v.fits visit.each_once).1 visit, record { fits = alike.fits; breaks = broken.1 })

pub possible : TuplesArePossible
possible p s order t fits good visit holds =
    let alike = keeps p s order fits visit.each_once in (
      renumbered s order,
      record {
        fits = alike.fits;
        canonical = (canonical_by_visit p s order fits visit.each_once).1 visit;
        good = alike.good ∙ good;
        holds = occurs_renamed p s order fits visit.each_once t holds;
      },
    )
