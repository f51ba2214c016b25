-- The law of canonical starts: a start whose values have their kinds fits and is canonical exactly where each object is
-- given by a root or by a class-kind field of an object below it, and the object before it is given first there.
use Rattle.std.proofs.Common.{◌≡◌, ℕ, zero, suc, ◌+◌, ◌-◌, ◌<◌, ◌≤◌, Bool, true, false, ◌||◌, List, [], ◌∷◌}
use Rattle.std.proofs.Common.{◌++◌, length, Option, Some, None, inl, inr, refl, sym, ap, subst, ◌∙◌, arith, get_or, append_assoc}
use Rattle.std.specs.Prelude.{◌==◌, map, flat_map, position, slice_get, slice_index, option_and_then, Contains}
use Rattle.std.specs.List.{list_any, range_with_len, position_or_len}
use Rattle.std.specs.List.Sorted.{IsStrictlyIncreasing}
use Rattle.std.specs.Option.{option_map_or}
use Rattle.std.specs.Cmp.Lexicographic.{pointwise}
use Rattle.std.proofs.lemmas.Bool.{false≢true, cases_lt, cases_eq, lt-ltb, and_parts, or_cases, or_left, or_right, eqb-true, eq-eqb, ne_eqb}
use Rattle.std.proofs.lemmas.Option.{slice_get_within, slice_get-get_or, get_or_from_slice_get}
use Rattle.std.proofs.lemmas.List.Concat.{flat_map-append}
use Rattle.std.proofs.lemmas.List.Folds.{list_any-append}
use Rattle.std.proofs.lemmas.List.FromFn.{length-range_with_len, get_or-range_with_len, get_or-map-range_with_len, length-map-range_with_len}
use Rattle.std.proofs.lemmas.List.Kept.{AllPairs-from_increasing, IsStrictlyIncreasing-filter}
use Rattle.std.proofs.lemmas.List.Sums.{position_or_len_is}
use Rattle.taco_unit.specs.declared.kind.Kind.{Kind}
use Rattle.taco_unit.specs.declared.kind.Kind.TheVariants as kind
use Rattle.taco_unit.specs.declared.unit.ClassDef.{ClassDef}
use Rattle.taco_unit.specs.declared.unit.FieldDef.{FieldDef}
use Rattle.taco_unit.specs.Kinds.{is_class_kind}
use Rattle.taco_unit.specs.Parts.{Parts}
use Rattle.taco_unit.specs.Well.{IsWell, fields_of}
use Rattle.heap_core.specs.declared.value.Value.{Value}
use Rattle.heap_core.specs.declared.value.Value.TheVariants.{Null, Obj, Num, Flag}
use Rattle.heap_core.specs.declared.value.Object.{Object}
use Rattle.heap_core.specs.declared.value.Seen.{Seen}
use Rattle.heap_core.specs.declared.value.Seen.TheVariants.{Is, Bad, Out}
use Rattle.heap_core.specs.declared.start.Start.{Start}
use Rattle.heap_core.specs.Posed.{Posed}
use Rattle.heap_core.specs.Outcomes.{is_object, gives_object, value_in}
use Rattle.heap_core.specs.Heap.{field, cell, cell_of, place_of}
use Rattle.heap_core.specs.Start.{Fits, Reached, root, held, has_kind, has_field_kind, is_whole}
use Rattle.heap_core.proofs.Lists.{all_at, any_filtered}
use Rattle.heap_core.proofs.Closure.{any_below, any_in}
use Rattle.canonical_order.specs.Links.{links_at, link_places, first_link, IsVisitByLinks}
use Rattle.canonical_order.specs.Tuples.{is_link, links_of}
use Rattle.canonical_order.proofs.InOrder.{range_each_once}
use Rattle.canonical_order.proofs.Links.{visits_by_links}
use Rattle.canonical_order.proofs.Rising.{rises_over}
use Rattle.canon_rel.specs.Canonical.{HasKinds, IsGivenBelow, IsCanonicalOf, CanonicalByLinks}
use Rattle.canon_rel.proofs.FirstOf.{found, some_at, stays, was, first_within, some_from_first, some_of_flat, some_of_map, range_cut}

-- ## values and cells

object_same : (o : ℕ) (v : Value) → is_object o v ≡ true → v ≡ Obj o
object_same o (Obj q) is = ap Obj (sym (eqb-true o q is))
object_same o Null is = absurd (false≢true is)
object_same o (Num z) is = absurd (false≢true is)
object_same o (Flag b) is = absurd (false≢true is)

given_same : (o : ℕ) (e : Seen) → gives_object o e ≡ true → e ≡ Is (Obj o)
given_same o (Is v) is = ap Is (object_same o v is)
given_same o Bad is = absurd (false≢true is)
given_same o Out is = absurd (false≢true is)

contains_at : (vs : List Value) (i : ℕ) (v : Value) → slice_get vs i ≡ Some v → Contains vs v
contains_at vs i v there = (i, slice_get_within vs i v there, get_or_from_slice_get vs i v v there)

-- a number of a rising list stands at one place alone
rising : (a n : ℕ) → IsStrictlyIncreasing (range_with_len a n)
rising a n k within =
    let inside : k + 1 < n = omega (arith, within, length-range_with_len a n) in
    omega (arith, get_or-range_with_len a n k 0 (omega arith), get_or-range_with_len a n (k + 1) 0 inside)

only_place : (xs : List ℕ) → IsStrictlyIncreasing xs → (i f : ℕ) → slice_get xs i ≡ Some f → position (λ h. h == f) xs ≡ Some i
only_place xs up i f there =
    let within : i < length xs = slice_get_within xs i f there in
    let here : get_or xs i 0 ≡ f = get_or_from_slice_get xs i f 0 there in
    let before : (k : ℕ) → k < i → (get_or xs k 0 == f) ≡ false =
    λ k lower. ne_eqb (get_or xs k 0) f (λ same. absurd (omega (arith, same, here, AllPairs-from_increasing xs up k i 0 lower within)))
    in
    let first : position_or_len (λ h. h == f) xs ≡ i = position_or_len_is (λ h. h == f) xs i 0 (omega arith) before (λ inside. eq-eqb (get_or xs i 0) f here) in
    rw (first, lt-ltb i (length xs) within) refl

-- of two lists that go side by side, the first has an item where the second has one, and the two fit
beside_back : {A B : Type 0} (fits : A → B → Bool) (xs : List A) (ys : List B) (i : ℕ) (y : B) → pointwise fits xs ys ≡ true → slice_get ys i ≡ Some y
    → (x : A) × (slice_get xs i ≡ Some x) × (fits x y ≡ true)
beside_back fits [] [] i y all there = absurd (cc)
beside_back fits [] (z ∷ ys) i y all there = absurd (false≢true all)
beside_back fits (x ∷ xs) [] i y all there = absurd (false≢true all)
beside_back fits (x ∷ xs) (z ∷ ys) zero y all there =
    let same : z ≡ y = cc in
    (x, refl, ap (fits x) (sym same) ∙ (and_parts (fits x z) (pointwise fits xs ys) all).0)
beside_back fits (x ∷ xs) (z ∷ ys) (suc i) y all there = beside_back fits xs ys i y (and_parts (fits x z) (pointwise fits xs ys) all).1 there

-- a field of class kind is one of the unit
link_below : (u : Parts) (f : ℕ) → is_link u f ≡ true → f < length u.fields
link_below u f link = go (slice_get u.fields f) refl link
  where
    go : (g : Option FieldDef) → slice_get u.fields f ≡ g → option_map_or (λ (d : FieldDef). is_class_kind d.kind) g false ≡ true → f < length u.fields
    go None there link = absurd (false≢true link)
    go (Some g) there link = slice_get_within u.fields f g there

module _ (p : Posed) (s : Start) (well : IsWell p.unit) (kinds : HasKinds s p) where
  -- ## cells and links hold the same objects

  -- an object that a link gives is in a cell
  link_held : (q o : ℕ) → list_any (gives_object o) (links_at p s.objects q) ≡ true → (x : Object) × (slice_get s.objects q ≡ Some x) × Contains x.cells (Obj o)
  link_held q o some =
      let link = found (gives_object o) (links_at p s.objects q) some in
      let one = found (λ f. gives_object o (field p.unit.classes s.objects f (Obj q))) (links_of p.unit)
      (sym (some_of_map (gives_object o) (λ f. field p.unit.classes s.objects f (Obj q)) (links_of p.unit)) ∙ some) in
      at_object one.item (slice_get s.objects q) refl (given_same o (field p.unit.classes s.objects one.item (Obj q)) one.passes)
    where
      at_place : (f : ℕ) (x : Object) → (i : Option ℕ) → value_in (option_and_then (λ i. slice_get x.cells i) i) ≡ Is (Obj o) → Contains x.cells (Obj o)
      at_place f x None is = absurd (cc)
      at_place f x (Some i) is = at_cell (slice_get x.cells i) refl is
        where
          at_cell : (v : Option Value) → slice_get x.cells i ≡ v → value_in v ≡ Is (Obj o) → Contains x.cells (Obj o)
          at_cell None there is = absurd (cc)
          at_cell (Some v) there is = let same : v ≡ Obj o = cc in contains_at x.cells i (Obj o) (there ∙ ap Some same)

      at_object : (f : ℕ) (x : Option Object) → slice_get s.objects q ≡ x → cell_of p.unit.classes f (slice_get s.objects q) ≡ Is (Obj o)
          → (x : Object) × (slice_get s.objects q ≡ Some x) × Contains x.cells (Obj o)
      at_object f None there is = absurd (let lacks : Bad ≡ Is (Obj o) = ap (cell_of p.unit.classes f) (sym there) ∙ is in cc)
      at_object f (Some x) there is = (x, there, at_place f x (place_of p.unit.classes x.class f) (ap (cell_of p.unit.classes f) (sym there) ∙ is))

  -- an object in a cell is given by a link
  cell_given : (q o : ℕ) (x : Object) → slice_get s.objects q ≡ Some x → Contains x.cells (Obj o) → list_any (gives_object o) (links_at p s.objects q) ≡ true
  cell_given q o x there (k, within, is) =
      of_class (slice_get p.unit.classes x.class) refl (all_at (is_whole p.unit p.scope.ints s.objects) s.objects q x kinds.objects_whole there)
    where
      stands : slice_get x.cells k ≡ Some (Obj o)
      stands = slice_get-get_or x.cells k (Obj o) within ∙ ap Some is

      of_kind : (f : ℕ) (g : FieldDef) (k : Kind) → g.kind ≡ k → slice_get p.unit.fields f ≡ Some g → has_kind p.scope.ints s.objects k (Obj o) ≡ true → is_link p.unit f ≡ true
      of_kind f g (kind.Ref c) same listed has = ap (λ y. option_map_or (λ (d : FieldDef). is_class_kind d.kind) y false) listed ∙ ap is_class_kind same
      of_kind f g kind.Int same listed has = absurd (false≢true has)
      of_kind f g kind.Flag same listed has = absurd (false≢true has)

      of_field : (f : ℕ) → (g : Option FieldDef) → slice_get p.unit.fields f ≡ g → option_map_or (λ (g : FieldDef). has_kind p.scope.ints s.objects g.kind (Obj o)) g false ≡ true
          → is_link p.unit f ≡ true
      of_field f None listed has = absurd (false≢true has)
      of_field f (Some g) listed has = of_kind f g g.kind refl listed has

      of_class : (d : Option ClassDef) → slice_get p.unit.classes x.class ≡ d
          → option_map_or (λ (d : ClassDef). pointwise (has_field_kind p.unit.fields p.scope.ints s.objects) d.fields x.cells) d false ≡ true
          → list_any (gives_object o) (links_at p s.objects q) ≡ true
      of_class None class whole = absurd (false≢true whole)
      of_class (Some d) class whole =
          let beside = beside_back (has_field_kind p.unit.fields p.scope.ints s.objects) d.fields x.cells k (Obj o) whole stands in
          let f : ℕ = beside.0 in
          let link : is_link p.unit f ≡ true = of_field f (slice_get p.unit.fields f) refl beside.2 in
          let numbers : List ℕ = range_with_len 0 (length p.unit.fields) in
          let numbered : IsStrictlyIncreasing (fields_of p.unit x.class) = IsStrictlyIncreasing-filter _ numbers (rising 0 (length p.unit.fields)) in
          let up : IsStrictlyIncreasing d.fields = subst IsStrictlyIncreasing (sym (well.classes x.class d class).lists_fields) numbered in
          let place : place_of p.unit.classes x.class f ≡ Some k = ap (option_and_then (λ (d : ClassDef). position (λ g. g == f) d.fields)) class ∙ only_place d.fields up k f beside.1 in
          let gives : field p.unit.classes s.objects f (Obj q) ≡ Is (Obj o) =
          ap (cell_of p.unit.classes f) there ∙ ap value_in (ap (option_and_then (λ i. slice_get x.cells i)) place ∙ stands)
          in
          let one = found (λ g. g == f) (links_of p.unit)
          (any_filtered (is_link p.unit) f link numbers (any_below (λ g. g == f) (length p.unit.fields) f (link_below p.unit f link) (eq-eqb f f refl))) in
          let passes : gives_object o (field p.unit.classes s.objects one.item (Obj q)) ≡ true =
          ap (λ g. gives_object o (field p.unit.classes s.objects g (Obj q))) (eqb-true one.item f one.passes) ∙ ap (gives_object o) gives ∙ eq-eqb o o refl
          in
          some_of_map (gives_object o) (λ g. field p.unit.classes s.objects g (Obj q)) (links_of p.unit)
          ∙ some_at (λ g. gives_object o (field p.unit.classes s.objects g (Obj q))) (links_of p.unit) one.place one.item one.there passes

  -- ## the places below a number

  abbrev below : ℕ → List Seen
  below j = link_places p s (range_with_len 0 j)

  abbrev first_below : ℕ → ℕ → ℕ
  first_below j o = first_link (below j) o

  -- the places grow at their end
  grown : (j k : ℕ) → j ≤ k → below k ≡ below j ++ flat_map (links_at p s.objects) (range_with_len j (k - j))
  grown j k le =
      let whole : j + (k - j) ≡ k = omega (arith, le) in
      let cut : range_with_len 0 k ≡ range_with_len 0 j ++ range_with_len j (k - j) = ap (range_with_len 0) (sym whole) ∙ range_cut 0 j (k - j)
      ∙ ap (λ b. range_with_len 0 j ++ range_with_len b (k - j)) (omega arith) in
      ap (λ ns. map Is (s.this ∷ s.args) ++ flat_map (links_at p s.objects) ns) cut
      ∙ ap (λ es. map Is (s.this ∷ s.args) ++ es) (flat_map-append (links_at p s.objects) (range_with_len 0 j) (range_with_len j (k - j)))
      ∙ sym (append_assoc (map Is (s.this ∷ s.args)) (flat_map (links_at p s.objects) (range_with_len 0 j)) (flat_map (links_at p s.objects) (range_with_len j (k - j))))

  -- what is given below a number: by a root, or by a link of an object
  parts_of : (o j : ℕ) → list_any (gives_object o) (below j) ≡ (list_any (is_object o) (s.this ∷ s.args) || list_any (λ q. list_any (gives_object o) (links_at p s.objects q)) (range_with_len 0 j))
  parts_of o j =
      list_any-append (gives_object o) (map Is (s.this ∷ s.args)) (flat_map (links_at p s.objects) (range_with_len 0 j))
      ∙ ap (λ b. b || list_any (gives_object o) (flat_map (links_at p s.objects) (range_with_len 0 j))) (some_of_map (gives_object o) Is (s.this ∷ s.args))
      ∙ ap (λ b. list_any (is_object o) (s.this ∷ s.args) || b) (some_of_flat (gives_object o) (links_at p s.objects) (range_with_len 0 j))

  given_root : (o j : ℕ) → Contains (s.this ∷ s.args) (Obj o) → list_any (gives_object o) (below j) ≡ true
  given_root o j (k, within, is) =
      let here : list_any (is_object o) (s.this ∷ s.args) ≡ true =
      some_at (is_object o) (s.this ∷ s.args) k (Obj o) (slice_get-get_or (s.this ∷ s.args) k (Obj o) within ∙ ap Some is) (eq-eqb o o refl)
      in
      parts_of o j ∙ or_left (list_any (is_object o) (s.this ∷ s.args)) (list_any (λ q. list_any (gives_object o) (links_at p s.objects q)) (range_with_len 0 j)) here

  given_link : (q o j : ℕ) (x : Object) → q < j → slice_get s.objects q ≡ Some x → Contains x.cells (Obj o) → list_any (gives_object o) (below j) ≡ true
  given_link q o j x lower there holds =
      let here : list_any (λ q. list_any (gives_object o) (links_at p s.objects q)) (range_with_len 0 j) ≡ true =
      any_below (λ q. list_any (gives_object o) (links_at p s.objects q)) j q lower (cell_given q o x there holds)
      in
      parts_of o j ∙ or_right (list_any (is_object o) (s.this ∷ s.args)) (list_any (λ q. list_any (gives_object o) (links_at p s.objects q)) (range_with_len 0 j)) here

  -- ## from the order of the places

  module _ (given : (j : ℕ) → j < length s.objects → IsGivenBelow p s j) where
    reached : (k j : ℕ) → j < k → j < length s.objects → Reached s j
    reached zero j less within = absurd (omega (arith, less))
    reached (suc k) j less within =
        elim (or_cases (list_any (is_object j) (s.this ∷ s.args)) (list_any (λ q. list_any (gives_object j) (links_at p s.objects q)) (range_with_len 0 j))
        (sym (parts_of j j) ∙ (given j within).given)) [
          | inl at_root ↦
              let one = found (is_object j) (s.this ∷ s.args) at_root in
              root j (contains_at (s.this ∷ s.args) one.place (Obj j) (one.there ∙ ap Some (object_same j one.item one.passes)))
          | inr at_link ↦
              let from = any_in (λ q. list_any (gives_object j) (links_at p s.objects q)) j at_link in
              let cell = link_held from.0 j from.2 in
              held from.0 j cell.0 (reached k from.0 (omega (arith, less, from.1)) (slice_get_within s.objects from.0 cell.0 cell.1)) cell.1 cell.2
        ]

    fits : Fits s p
    fits = record {
      few_objects = kinds.few_objects;
      objects_whole = kinds.objects_whole;
      receiver = kinds.receiver;
      arguments = kinds.arguments;
      all_reached = λ o within. reached (length s.objects) o within within;
    }

    visit : IsVisitByLinks p s (range_with_len 0 (length s.objects))
    visit = record {
      each_once = range_each_once (length s.objects);
      rising = λ k lt.
          let n = length s.objects in
          let f : ℕ → ℕ = first_below n in
          let small : k + 1 < n = omega (arith, lt, length-map-range_with_len f 0 n) in
          omega (arith, later k small, get_or-map-range_with_len f 0 n k k 0 (omega (arith, small)) (omega arith), get_or-map-range_with_len f 0 n (k + 1) (k + 1) 0 small (omega arith));
    }
      where
        -- of two objects that follow each other the first places are those below the second
        later : (k : ℕ) → k + 1 < length s.objects → first_below (length s.objects) k < first_below (length s.objects) (k + 1)
        later k small =
            let n = length s.objects in
            let at = given (k + 1) small in
            let rest = flat_map (links_at p s.objects) (range_with_len (k + 1) (n - (k + 1))) in
            let whole : below n ≡ below (k + 1) ++ rest = grown (k + 1) n (omega (arith, small)) in
            let second : first_below (k + 1) (k + 1) < length (below (k + 1)) = first_within (gives_object (k + 1)) (below (k + 1)) at.given in
            let before : first_below (k + 1) k < first_below (k + 1) (k + 1) = ap_before k (at.after (omega arith)) in
            let same_first : first_below n k ≡ first_below (k + 1) k = ap (λ es. first_link es k) whole ∙ stays (gives_object k) (below (k + 1)) rest (omega (arith, before, second)) in
            let same_second : first_below n (k + 1) ≡ first_below (k + 1) (k + 1) = ap (λ es. first_link es (k + 1)) whole ∙ stays (gives_object (k + 1)) (below (k + 1)) rest second in
            omega (arith, same_first, same_second, before)
          where
            ap_before : (k : ℕ) → first_below (k + 1) (k + 1 - 1) < first_below (k + 1) (k + 1) → first_below (k + 1) k < first_below (k + 1) (k + 1)
            ap_before k less = let back : k + 1 - 1 ≡ k = omega arith in subst (λ i. first_below (k + 1) i < first_below (k + 1) (k + 1)) back less

    is_canonical : IsCanonicalOf p s
    is_canonical = record { fits = fits; canonical = (visits_by_links p s (range_with_len 0 (length s.objects)) well fits).1 visit }

  -- ## to it

  module _ (is : IsCanonicalOf p s) where
    abbrev count : ℕ
    count = length s.objects

    rises : (o : ℕ) → o + 1 < count → first_below count o < first_below count (o + 1)
    rises o small =
        let visit : IsVisitByLinks p s (range_with_len 0 count) = (visits_by_links p s (range_with_len 0 count) well is.fits).0 is.canonical in
        let f : ℕ → ℕ = first_below count in
        let up : slice_index (map f (range_with_len 0 count)) o < slice_index (map f (range_with_len 0 count)) (o + 1) = visit.rising o (omega (arith, small, length-map-range_with_len f 0 count)) in
        omega (arith, up, get_or-map-range_with_len f 0 count o o 0 (omega (arith, small)) (omega arith), get_or-map-range_with_len f 0 count (o + 1) (o + 1) 0 small (omega arith))

    -- were the first place of j behind the places below it, nothing from j on would be reached
    module _ (j : ℕ) (within : j < count) where
      abbrev rest : List Seen
      rest = flat_map (links_at p s.objects) (range_with_len j (count - j))

      whole : below count ≡ below j ++ rest
      whole = grown j count (omega (arith, within))

      module _ (beyond : length (below j) ≤ first_below count j) where
        only_lower : (o : ℕ) → o < count → list_any (gives_object o) (below j) ≡ true → o < j
        only_lower o small some = elim (cases_lt o j) [
          | inl lower ↦ lower
          | inr upper ↦
              let here : first_below j o < length (below j) = first_within (gives_object o) (below j) some in
              let same : first_below count o ≡ first_below j o = ap (λ es. first_link es o) whole ∙ stays (gives_object o) (below j) rest here in
              elim (cases_eq o j) [
                | inl equal ↦ absurd (omega (arith, here, same, beyond, ap (first_below count) equal))
                | inr apart ↦ absurd (omega (arith, here, same, beyond, rises_over (first_below count) count rises j o (omega (arith, upper, apart)) small))
              ]
        ]

        lower : (o : ℕ) → Reached s o → o < count → o < j
        lower _ (root o at_root) small = only_lower o small (given_root o j at_root)
        lower _ (held q o x from there cell) small = only_lower o small (given_link q o j x (lower q from (slice_get_within s.objects q x there)) there cell)

        never : ⊥
        never = omega (arith, lower j (is.fits.all_reached j within) within)

      first_inside : first_below count j < length (below j)
      first_inside = elim (cases_lt (first_below count j) (length (below j))) [
        | inl inside ↦ inside
        | inr beyond ↦ absurd (never beyond)
      ]

      same_at : (o : ℕ) → first_below count o < length (below j) → first_below count o ≡ first_below j o
      same_at o inside = ap (λ es. first_link es o) whole ∙ was (gives_object o) (below j) rest (subst (λ es. first_link es o < length (below j)) whole inside)

      earlier : 0 < j → first_below count (j - 1) < first_below count j
      earlier positive = rises_over (first_below count) count rises (j - 1) j (omega (arith, positive)) within

    given_below : (j : ℕ) → j < length s.objects → IsGivenBelow p s j
    given_below j within =
        let inside = first_inside j within in
        record {
          given = some_from_first (gives_object j) (below j) Bad (omega (arith, inside, same_at j within j inside));
          after = λ positive.
              let before = earlier j within positive in
              omega (arith, before, same_at j within j inside, same_at j within (j - 1) (omega (arith, before, inside)));
        }

pub canonical_by_links : CanonicalByLinks
canonical_by_links p s well kinds = (given_below p s well kinds, is_canonical p s well kinds)
