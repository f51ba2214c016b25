-- A visit may be read off the class-kind fields in the order of the unit: first places in two lists that give
-- the same objects in the same order compare alike.
use Rattle.std.proofs.Common.{◌≡◌, ℕ, zero, suc, ◌+◌, ◌<◌, Bool, true, false, not, cond, List, [], ◌∷◌, ◌++◌, length, Option, Some, None, refl, sym, ◌∙◌, ap, subst, inl, inr, arith, get_or, append-nil}
use Rattle.std.specs.Prelude.{◌==◌, nat_lt, map, filter, filter_map, flat_map, position, slice_get, slice_index, option_and_then, option_to_list, is_some}
use Rattle.std.specs.List.{position_or_len, range_with_len, list_all}
use Rattle.std.specs.List.Sorted.{IsStrictlyIncreasing}
use Rattle.std.specs.Option.{option_map_or}
use Rattle.std.specs.Cmp.Lexicographic.{pointwise}
use Rattle.std.proofs.lemmas.Bool.{false≢true, cases_Bool, cases_lt, eqb-true, eq-eqb, and_parts}
use Rattle.std.proofs.lemmas.List.{length-map}
use Rattle.std.proofs.lemmas.List.Concat.{flat_map-cons}
use Rattle.std.proofs.lemmas.List.Folds.{list_any_at}
use Rattle.std.proofs.lemmas.List.Elements.{filter_map-append}
use Rattle.std.proofs.lemmas.List.Kept.{IsStrictlyIncreasing-filter}
use Rattle.std.proofs.lemmas.List.FromFn.{length-range_with_len, get_or-range_with_len}
use Rattle.std.proofs.lemmas.List.Quantifiers.{position-Some}
use Rattle.std.proofs.lemmas.Option.{slice_get_within, slice_get-get_or, get_or_from_slice_get}
use Rattle.taco_unit.specs.declared.kind.Kind.{Kind}
use Rattle.taco_unit.specs.declared.kind.Kind.TheVariants as kind
use Rattle.taco_unit.specs.declared.unit.ClassDef.{ClassDef}
use Rattle.taco_unit.specs.declared.unit.FieldDef.{FieldDef}
use Rattle.taco_unit.specs.Kinds.{is_class_kind}
use Rattle.taco_unit.specs.Parts.{Parts}
use Rattle.taco_unit.specs.Well.{IsWell}
use Rattle.heap_core.specs.declared.value.Value.{Value}
use Rattle.heap_core.specs.declared.value.Value.TheVariants.{Null, Obj, Num, Flag}
use Rattle.heap_core.specs.declared.value.Object.{Object}
use Rattle.heap_core.specs.declared.value.Seen.{Seen}
use Rattle.heap_core.specs.declared.value.Seen.TheVariants.{Is, Bad, Out}
use Rattle.heap_core.specs.declared.start.Start.{Start}
use Rattle.heap_core.specs.Posed.{Posed}
use Rattle.heap_core.specs.Outcomes.{is_object, gives_object, value_in}
use Rattle.heap_core.specs.Heap.{Heap, field, cell_of, place_of, declares}
use Rattle.heap_core.specs.Start.{Fits, has_kind, has_field_kind, is_whole}
use Rattle.heap_core.proofs.Lists.{all_at, place_found}
use Rattle.heap_core.proofs.GivenFields.{declares_own, field_at}
use Rattle.canonical_order.specs.Canonical.{cells_of, places, first_place}
use Rattle.canonical_order.specs.Tuples.{is_link, links_of}
use Rattle.canonical_order.specs.Links.{links_at, link_places, first_link, VisitsByLinks}
use Rattle.canonical_order.proofs.Rising.{rises_over}

-- ## first places of the same objects in the same order

abbrev object_of : Value → Option ℕ
object_of (Obj o) = Some o
object_of _ = None

abbrev object_in : Seen → Option ℕ
object_in (Is v) = object_of v
object_in _ = None

abbrev is_that : ℕ → Option ℕ → Bool
is_that o m = option_map_or (λ q. o == q) m false

value_names : (o : ℕ) (v : Value) → is_object o v ≡ is_that o (object_of v)
value_names o (Obj q) = refl
value_names o Null = refl
value_names o (Num z) = refl
value_names o (Flag b) = refl

seen_names : (o : ℕ) (s : Seen) → gives_object o s ≡ is_that o (object_in s)
seen_names o (Is v) = value_names o v
seen_names o Bad = refl
seen_names o Out = refl

abbrev comes_before : ℕ → ℕ → List ℕ → Bool
comes_before o q ns = nat_lt (position_or_len (λ n. o == n) ns) (position_or_len (λ n. q == n) ns)

shifted : (a b : ℕ) → nat_lt (1 + a) (1 + b) ≡ nat_lt a b
shifted a b = grind arith

one_more : (b c : Bool) (x y z w : ℕ) → nat_lt x y ≡ nat_lt z w → nat_lt (cond (not b) (1 + x) 0) (cond (not c) (1 + y) 0) ≡ nat_lt (cond (not b) (1 + z) 0) (cond (not c) (1 + w) 0)
one_more true true x y z w same = refl
one_more true false x y z w same = grind arith
one_more false true x y z w same = grind arith
one_more false false x y z w same = shifted x y ∙ same ∙ sym (shifted z w)

-- which of two objects comes first in a list is told by the objects of the list alone
by_objects : {A : Type 0} (test : ℕ → A → Bool) (f : A → Option ℕ) → ((o : ℕ) (a : A) → test o a ≡ is_that o (f a)) → (xs : List A) (o q : ℕ) → nat_lt (position_or_len (test o) xs) (position_or_len (test q) xs) ≡ comes_before o q (filter_map f xs)
by_objects test f names [] o q = refl
by_objects test f names (x ∷ xs) o q = go (by_objects test f names xs o q) (f x) refl
  where
    go : nat_lt (position_or_len (test o) xs) (position_or_len (test q) xs) ≡ comes_before o q (filter_map f xs) → (m : Option ℕ) → f x ≡ m → nat_lt (cond (not (test o x)) (1 + position_or_len (test o) xs) 0) (cond (not (test q x)) (1 + position_or_len (test q) xs) 0) ≡ comes_before o q (filter_map f (x ∷ xs))
    go rest None is =
        let first : test o x ≡ false = names o x ∙ ap (is_that o) is in
        let second : test q x ≡ false = names q x ∙ ap (is_that q) is in
        rw (first, second, is) (shifted (position_or_len (test o) xs) (position_or_len (test q) xs) ∙ rest)
    go rest (Some n) is =
        let first : test o x ≡ (o == n) = names o x ∙ ap (is_that o) is in
        let second : test q x ≡ (q == n) = names q x ∙ ap (is_that q) is in
        rw (first, second, is) (one_more (o == n) (q == n) (position_or_len (test o) xs) (position_or_len (test q) xs) (position_or_len (λ k. o == k) (filter_map f xs)) (position_or_len (λ k. q == k) (filter_map f xs)) rest)

-- two lists with the same objects in the same order
same_order : (vs : List Value) (ss : List Seen) → filter_map object_of vs ≡ filter_map object_in ss → (o q : ℕ) → nat_lt (first_place vs o) (first_place vs q) ≡ nat_lt (first_link ss o) (first_link ss q)
same_order vs ss same o q =
    by_objects is_object object_of value_names vs o q ∙ ap (comes_before o q) same ∙ sym (by_objects gives_object object_in seen_names ss o q)

-- ## the objects of an object's fields

rising_range : (n : ℕ) → IsStrictlyIncreasing (range_with_len 0 n)
rising_range n o lt =
    let small : o + 1 < n = omega (arith, lt, length-range_with_len 0 n) in
    omega (arith, get_or-range_with_len 0 n o 0 (omega (arith, small)), get_or-range_with_len 0 n (o + 1) 0 small)

-- a class's fields are told apart by their places
listed_once : (u : Parts) → IsWell u → (c : ℕ) (d : ClassDef) → slice_get u.classes c ≡ Some d → (i j f : ℕ) → slice_get d.fields i ≡ Some f → slice_get d.fields j ≡ Some f → i ≡ j
listed_once u well c d there i j f first second =
    elim (cases_lt i j) [
      | inl less ↦ absurd (omega (arith, over i j less first second))
      | inr not_less ↦ elim (cases_lt j i) [
        | inl more ↦ absurd (omega (arith, over j i more second first))
        | inr not_more ↦ omega arith
      ]
    ]
  where
    rising : IsStrictlyIncreasing d.fields
    rising = subst IsStrictlyIncreasing (sym (well.classes c d there).lists_fields) (IsStrictlyIncreasing-filter (λ f. option_map_or (λ g. g.class == c) (slice_get u.fields f) false) (range_with_len 0 (length u.fields)) (rising_range (length u.fields)))

    over : (a b : ℕ) → a < b → slice_get d.fields a ≡ Some f → slice_get d.fields b ≡ Some f → f < f
    over a b less at_a at_b =
        let up = rises_over (slice_index d.fields) (length d.fields) (λ o lt. rising o lt) a b less (slice_get_within d.fields b f at_b) in
        omega (arith, up, get_or_from_slice_get d.fields a f 0 at_a, get_or_from_slice_get d.fields b f 0 at_b)

-- in order, the fields of an object's class give its cells
along : (F : ℕ → Seen) (fs : List ℕ) (cs : List Value) → ((f : ℕ) (v : Value) (i : ℕ) → slice_get fs i ≡ Some f → slice_get cs i ≡ Some v → F f ≡ Is v) → pointwise (λ (f : ℕ) (v : Value). true) fs cs ≡ true → map F fs ≡ map Is cs
along F [] [] each sized = refl
along F [] (v ∷ cs) each sized = absurd (false≢true sized)
along F (f ∷ fs) [] each sized = absurd (false≢true sized)
along F (f ∷ fs) (v ∷ cs) each sized = rw (each f v 0 refl refl, along F fs cs (λ g w i at there. each g w (suc i) at there) sized) refl

all_sized : {A B : Type 0} (fits : A → B → Bool) (xs : List A) (ys : List B) → pointwise fits xs ys ≡ true → pointwise (λ (x : A) (y : B). true) xs ys ≡ true
all_sized fits [] [] all = refl
all_sized fits [] (y ∷ ys) all = all
all_sized fits (x ∷ xs) [] all = all
all_sized fits (x ∷ xs) (y ∷ ys) all = all_sized fits xs ys (and_parts (fits x y) (pointwise fits xs ys) all).1

undeclared : (i : Option ℕ) → is_some i ≡ false → i ≡ None
undeclared None is = refl
undeclared (Some i) is = absurd (false≢true (sym is))

-- where a class lists a field
listed_place : (d : ClassDef) (i f : ℕ) → slice_get d.fields i ≡ Some f → (j : ℕ) × (position (λ g. g == f) d.fields ≡ Some j) × (slice_get d.fields j ≡ Some f)
listed_place d i f listed =
    let inside = slice_get_within d.fields i f listed in
    let found = place_found (λ g. g == f) d.fields (list_any_at (λ g. g == f) d.fields i 0 inside (eq-eqb (get_or d.fields i 0) f (get_or_from_slice_get d.fields i f 0 listed))) in
    let at = position-Some (λ g. g == f) d.fields found.0 0 found.1 in
    (found.0, found.1, slice_get-get_or d.fields found.0 0 at.0 ∙ ap Some (eqb-true (get_or d.fields found.0 0) f at.1))

-- fields that give no object
none_given : {A : Type 0} (F : A → Seen) (fs : List A) → ((f : A) → object_in (F f) ≡ None) → filter_map object_in (map F fs) ≡ []
none_given F [] none = refl
none_given F (f ∷ fs) none = rw (none f) (none_given F fs none)

mapped : (vs : List Value) → filter_map object_in (map Is vs) ≡ filter_map object_of vs
mapped [] = refl
mapped (v ∷ vs) = rw (mapped vs) refl

-- of two ways to choose from a list, what only one of them chooses gives no object
chosen : (F : ℕ → Seen) (a b : ℕ → Bool) (fs : List ℕ) → ((f : ℕ) → a f ≡ true → b f ≡ false → object_in (F f) ≡ None) → ((f : ℕ) → a f ≡ false → b f ≡ true → object_in (F f) ≡ None) → filter_map object_in (map F (filter a fs)) ≡ filter_map object_in (map F (filter b fs))
chosen F a b [] first second = refl
chosen F a b (f ∷ fs) first second =
    elim (cases_Bool (a f)) [
      | inl in_a ↦ elim (cases_Bool (b f)) [
        | inl in_b ↦ rw (in_a, in_b, chosen F a b fs first second) refl
        | inr out_b ↦ rw (in_a, out_b, first f in_a out_b) (chosen F a b fs first second)
      ]
      | inr out_a ↦ elim (cases_Bool (b f)) [
        | inl in_b ↦ rw (out_a, in_b, second f out_a in_b) (chosen F a b fs first second)
        | inr out_b ↦ rw (out_a, out_b) (chosen F a b fs first second)
      ]
    ]

no_object : (w : ℕ) (heap : Heap) (k : Kind) (v : Value) → is_class_kind k ≡ false → has_kind w heap k v ≡ true → object_of v ≡ None
no_object w heap kind.Int (Num z) plain is = refl
no_object w heap kind.Int (Obj o) plain is = absurd (false≢true is)
no_object w heap kind.Int Null plain is = refl
no_object w heap kind.Int (Flag b) plain is = refl
no_object w heap kind.Flag (Obj o) plain is = absurd (false≢true is)
no_object w heap kind.Flag Null plain is = refl
no_object w heap kind.Flag (Num z) plain is = refl
no_object w heap kind.Flag (Flag b) plain is = refl
no_object w heap (kind.Ref c) v plain is = absurd (false≢true (sym plain))

-- an object holds in its cells the objects that its class-kind fields give
objects_at : (u : Parts) → IsWell u → (w : ℕ) (heap : Heap) (o : ℕ) (x : Object) → slice_get heap o ≡ Some x → is_whole u w heap x ≡ true → filter_map object_of x.cells ≡ filter_map object_in (map (λ f. field u.classes heap f (Obj o)) (links_of u))
objects_at u well w heap o x there whole = at_class (slice_get u.classes x.class) refl whole
  where
    at_class : (d : Option ClassDef) → slice_get u.classes x.class ≡ d → option_map_or (λ d. pointwise (has_field_kind u.fields w heap) d.fields x.cells) d false ≡ true → filter_map object_of x.cells ≡ filter_map object_in (map (λ f. field u.classes heap f (Obj o)) (links_of u))
    at_class None class cells = absurd (false≢true cells)
    at_class (Some d) class cells =
        sym (mapped x.cells)
        ∙ ap (filter_map object_in) (sym (along (λ f. field u.classes heap f (Obj o)) d.fields x.cells each (all_sized (has_field_kind u.fields w heap) d.fields x.cells cells)))
        ∙ ap (λ fs. filter_map object_in (map (λ f. field u.classes heap f (Obj o)) fs)) (well.classes x.class d class).lists_fields
        ∙ chosen (λ f. field u.classes heap f (Obj o)) (λ f. option_map_or (λ g. g.class == x.class) (slice_get u.fields f) false) (is_link u) (range_with_len 0 (length u.fields)) own_plain other_link
      where
        each : (f : ℕ) (v : Value) (i : ℕ) → slice_get d.fields i ≡ Some f → slice_get x.cells i ≡ Some v → field u.classes heap f (Obj o) ≡ Is v
        each f v i listed cell_is =
            let found = listed_place d i f listed in
            ap (cell_of u.classes f) there ∙ ap value_in (ap (option_and_then (λ k. slice_get x.cells k)) (ap (option_and_then (λ d. position (λ g. g == f) d.fields)) class ∙ found.1) ∙ ap (slice_get x.cells) (listed_once u well x.class d class found.0 i f found.2 listed) ∙ cell_is)

        own_plain : (f : ℕ) → option_map_or (λ g. g.class == x.class) (slice_get u.fields f) false ≡ true → is_link u f ≡ false → object_in (field u.classes heap f (Obj o)) ≡ None
        own_plain f = with_field (slice_get u.fields f) refl
          where
            with_field : (g : Option FieldDef) → slice_get u.fields f ≡ g → option_map_or (λ g. g.class == x.class) g false ≡ true → option_map_or (λ d. is_class_kind d.kind) g false ≡ false → object_in (field u.classes heap f (Obj o)) ≡ None
            with_field None is mine plain = absurd (false≢true mine)
            with_field (Some g) is mine plain =
                let given = field_at u well (has_field_kind u.fields w heap) heap o x d f g there class cells is (eqb-true g.class x.class mine) in
                ap object_in given.1 ∙ no_object w heap g.kind given.0 plain (sym (ap (λ e. option_map_or (λ d. has_kind w heap d.kind given.0) e false) is) ∙ given.2)

        other_link : (f : ℕ) → option_map_or (λ g. g.class == x.class) (slice_get u.fields f) false ≡ false → is_link u f ≡ true → object_in (field u.classes heap f (Obj o)) ≡ None
        other_link f = with_field (slice_get u.fields f) refl
          where
            with_field : (g : Option FieldDef) → slice_get u.fields f ≡ g → option_map_or (λ g. g.class == x.class) g false ≡ false → option_map_or (λ d. is_class_kind d.kind) g false ≡ true → object_in (field u.classes heap f (Obj o)) ≡ None
            with_field None is other link = absurd (false≢true link)
            with_field (Some g) is other link =
                let none : declares u.classes x.class f ≡ false = declares_own u well f g is x.class ∙ other in
                ap object_in (ap (cell_of u.classes f) there ∙ ap (λ i. value_in (option_and_then (λ i. slice_get x.cells i) i)) (undeclared (place_of u.classes x.class f) none))

-- the objects of the places
objects_of_cells : (u : Parts) → IsWell u → (w : ℕ) (heap : Heap) → list_all (is_whole u w heap) heap ≡ true → (o : ℕ) → filter_map object_of (cells_of heap o) ≡ filter_map object_in (map (λ f. field u.classes heap f (Obj o)) (links_of u))
objects_of_cells u well w heap whole o = go (slice_get heap o) refl
  where
    go : (x : Option Object) → slice_get heap o ≡ x → filter_map object_of (flat_map (λ x. x.cells) (option_to_list x)) ≡ filter_map object_in (map (λ f. field u.classes heap f (Obj o)) (links_of u))
    go None there = sym (nothing (links_of u) there)
      where
        nothing : (fs : List ℕ) → slice_get heap o ≡ None → filter_map object_in (map (λ f. field u.classes heap f (Obj o)) fs) ≡ []
        nothing fs none = none_given (λ f. field u.classes heap f (Obj o)) fs (λ f. ap (λ x. object_in (cell_of u.classes f x)) none)
    go (Some x) there = ap (filter_map object_of) (append-nil x.cells) ∙ objects_at u well w heap o x there (all_at (is_whole u w heap) heap o x whole there)

objects_along : (p : Posed) (s : Start) → IsWell p.unit → list_all (is_whole p.unit p.scope.ints s.objects) s.objects ≡ true → (order : List ℕ) → filter_map object_of (flat_map (cells_of s.objects) order) ≡ filter_map object_in (flat_map (links_at p s.objects) order)
objects_along p s well whole [] = refl
objects_along p s well whole (o ∷ order) =
    ap (filter_map object_of) (flat_map-cons (cells_of s.objects) o order)
    ∙ filter_map-append object_of (cells_of s.objects o) (flat_map (cells_of s.objects) order)
    ∙ ap (λ ns. ns ++ filter_map object_of (flat_map (cells_of s.objects) order)) (objects_of_cells p.unit well p.scope.ints s.objects whole o)
    ∙ ap (λ ns. filter_map object_in (links_at p s.objects o) ++ ns) (objects_along p s well whole order)
    ∙ sym (filter_map-append object_in (links_at p s.objects o) (flat_map (links_at p s.objects) order))
    ∙ sym (ap (filter_map object_in) (flat_map-cons (links_at p s.objects) o order))

objects_same : (p : Posed) (s : Start) → IsWell p.unit → Fits s p → (order : List ℕ) → filter_map object_of (places s order) ≡ filter_map object_in (link_places p s order)
objects_same p s well fits order =
    filter_map-append object_of (s.this ∷ s.args) (flat_map (cells_of s.objects) order)
    ∙ ap (λ ns. ns ++ filter_map object_of (flat_map (cells_of s.objects) order)) (sym (mapped (s.this ∷ s.args)))
    ∙ ap (λ ns. filter_map object_in (map Is (s.this ∷ s.args)) ++ ns) (objects_along p s well fits.objects_whole order)
    ∙ sym (filter_map-append object_in (map Is (s.this ∷ s.args)) (flat_map (links_at p s.objects) order))

-- ## the law

below_from : (a b : ℕ) → a < b → nat_lt a b ≡ true
below_from a b less = grind (arith, less)

below_is : (a b : ℕ) → nat_lt a b ≡ true → a < b
below_is a b is = grind (arith, is)

mapped_at : (f : ℕ → ℕ) (order : List ℕ) (k : ℕ) → k < length order → slice_index (map f order) k ≡ f (get_or order k 0)
mapped_at f [] k inside = absurd (omega (arith, inside))
mapped_at f (o ∷ order) zero inside = refl
mapped_at f (o ∷ order) (suc k) inside = mapped_at f order k (omega (arith, inside))

-- what rises by one measure rises by another that compares alike
rises_alike : (f g : ℕ → ℕ) → ((o q : ℕ) → nat_lt (f o) (f q) ≡ nat_lt (g o) (g q)) → (order : List ℕ) → IsStrictlyIncreasing (map f order) → IsStrictlyIncreasing (map g order)
rises_alike f g alike order rises k lt =
    let inside : k + 1 < length order = omega (arith, lt, length-map order g) in
    let a = get_or order k 0 in
    let b = get_or order (k + 1) 0 in
    let first = mapped_at f order k (omega (arith, inside)) in
    let second = mapped_at f order (k + 1) inside in
    let up : f a < f b = omega (arith, rises k (omega (arith, inside, length-map order f)), first, second) in
    let other : g a < g b = below_is (g a) (g b) (sym (alike a b) ∙ below_from (f a) (f b) up) in
    omega (arith, other, mapped_at g order k (omega (arith, inside)), mapped_at g order (k + 1) inside)

pub visits_by_links : VisitsByLinks
visits_by_links p s order well fits =
    let alike = same_order (places s order) (link_places p s order) (objects_same p s well fits order) in (
      (λ visit. record { each_once = visit.each_once; rising = rises_alike (first_place (places s order)) (first_link (link_places p s order)) alike order visit.rising }),
      (λ visit. record { each_once = visit.each_once; rising = rises_alike (first_link (link_places p s order)) (first_place (places s order)) (λ o q. sym (alike o q)) order visit.rising }),
    )
