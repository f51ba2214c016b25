-- Where a reading shows a start, its places have the objects that the start's roots and class-kind fields give: so it has
-- its objects in order exactly where they are given in order.
use Rattle.std.proofs.Common.{◌≡◌, ℕ, suc, ◌+◌, ◌-◌, ◌<◌, Bool, true, false, not, ◌&&◌, ◌||◌, List, [], ◌∷◌, ◌++◌, length, Option, Some, None, inl, inr, refl, sym, ap, subst, ◌∙◌, arith, get_or}
use Rattle.std.specs.Prelude.{◌==◌, nat_lt, map, filter, flat_map, slice_get, option_map}
use Rattle.std.specs.List.{list_all, list_any, range_with_len}
use Rattle.std.specs.Option.{option_map_or}
use Rattle.std.specs.Cmp.Lexicographic.{pointwise}
use Rattle.std.proofs.lemmas.Bool.{lt-ltb, ltb-true, false≢true, cases_eq, cases_Bool, eq-eqb, ne_eqb, and_parts, and_from, or_left, or_right}
use Rattle.std.proofs.lemmas.Option.{slice_get_within, slice_get-get_or, get_or_from_slice_get, slice_get-map, same_Some}
use Rattle.std.proofs.lemmas.List.{length-map, get_or_append_left}
use Rattle.std.proofs.lemmas.List.Concat.{flat_map-cons}
use Rattle.std.proofs.Math.Seq.{get_or-append_seam}
use Rattle.taco_unit.specs.declared.kind.Kind.{Kind}
use Rattle.taco_unit.specs.declared.kind.Kind.TheVariants as kind
use Rattle.taco_unit.specs.declared.unit.FieldDef.{FieldDef}
use Rattle.taco_unit.specs.declared.unit.MethodDef.{MethodDef}
use Rattle.taco_unit.specs.declared.unit.ParamDef.{ParamDef}
use Rattle.taco_unit.specs.Kinds.{is_class_kind}
use Rattle.taco_unit.specs.Well.{param_kinds}
use Rattle.taco_unit.proofs.Lists.{append_last}
use Rattle.heap_core.specs.declared.value.Value.{Value}
use Rattle.heap_core.specs.declared.value.Value.TheVariants.{Null, Obj, Num, Flag}
use Rattle.heap_core.specs.declared.value.Seen.{Seen}
use Rattle.heap_core.specs.declared.value.Seen.TheVariants.{Is, Bad, Out}
use Rattle.heap_core.specs.declared.start.Start.{Start}
use Rattle.heap_core.specs.Posed.{Posed}
use Rattle.heap_core.specs.Outcomes.{is_object, is_value, gives, gives_object, is_null}
use Rattle.heap_core.specs.Heap.{field}
use Rattle.heap_core.specs.Start.{has_kind, is_receiver, is_argument, method_of}
use Rattle.heap_core.proofs.Lists.{all_at, all_from, all_filtered, beside, slice_get-append_left}
use Rattle.canonical_order.specs.Links.{links_at, link_places, first_link}
use Rattle.canonical_order.specs.Tuples.{is_root, roots_of, is_link, links_of}
use Rattle.canonical_order.proofs.Counting.{slice_get-range}
use Rattle.rel_core.specs.declared.indices.Indices.{Indices}
use Rattle.rel_core.specs.Reading.{Reading, numbers_below}
use Rattle.rel_core.specs.Uses.{receiver_kinds}
use Rattle.rel_core.specs.Shown.{ShowsStart, ShowsValue, live_relation, field_relation, slot_relation}
use Rattle.canon_rel.specs.declared.places.Place.TheVariants as place
use Rattle.canon_rel.specs.Places.{root_place, field_places, places_below}
use Rattle.canon_rel.specs.Order.{has_at, comes_before, follows, is_in_order}
use Rattle.canon_rel.specs.Canonical.{HasKinds, IsGivenBelow}
use Rattle.canon_rel.proofs.SameObjects.{Same, none, both, skip, some_same, before_same, appended}

flipped : (a b : ℕ) → (a == b) ≡ (b == a)
flipped a b = elim (cases_eq a b) [
  | inl same ↦ eq-eqb a b same ∙ sym (eq-eqb b a (sym same))
  | inr other ↦ ne_eqb a b other ∙ sym (ne_eqb b a (λ same. other (sym same)))
]

value_object : (v : Value) (o : ℕ) → is_value v (Obj o) ≡ is_object o v
value_object Null o = refl
value_object (Obj q) o = flipped q o
value_object (Num z) o = refl
value_object (Flag b) o = refl

gives_same : (e : Seen) (o : ℕ) → gives (Obj o) e ≡ gives_object o e
gives_same (Is v) o = value_object v o
gives_same Bad o = refl
gives_same Out o = refl

beside_length : {A B : Type 0} (fits : A → B → Bool) (xs : List A) (ys : List B) → pointwise fits xs ys ≡ true → length ys ≡ length xs
beside_length fits [] [] all = refl
beside_length fits [] (y ∷ ys) all = absurd (false≢true all)
beside_length fits (x ∷ xs) [] all = absurd (false≢true all)
beside_length fits (x ∷ xs) (y ∷ ys) all = ap suc (beside_length fits xs ys (and_parts (fits x y) (pointwise fits xs ys) all).1)

-- ## the roots

module _ (p : Posed) (m : Reading) (at : Indices) (s : Start) (d : MethodDef) (called : method_of p ≡ Some d) (shown : ShowsStart p m at s)
    (receiver : is_receiver s.objects d.class d.fixed s.this ≡ true) (arguments : pointwise (is_argument p.scope.ints s.objects) d.params s.args ≡ true) where
  -- a root of class kind has the object that its value is, and a value of another kind is none
  abbrev RootAt : ℕ → Value → Type 0
  RootAt r v = (is_root d r ≡ true → (o : ℕ) → has_at m o (root_place at d r) ≡ is_object o v) × (is_root d r ≡ false → (o : ℕ) → is_object o v ≡ false)

  as_many : length s.args ≡ length d.params
  as_many = beside_length (is_argument p.scope.ints s.objects) d.params s.args arguments

  kinds_too : length (param_kinds d) ≡ length d.params
  kinds_too = length-map d.params (λ q. q.kind)

  -- an argument is shown by the kind of its parameter
  pub record IsArgumentShown (x : ℕ) (q : ParamDef) : Type 0 where
    pub value : Value
    pub there : slice_get s.args x ≡ Some value
    pub has : has_kind p.scope.ints s.objects q.kind value ≡ true
    pub is_shown : ShowsValue m q.kind (slot_relation at x) 0 value

  pub argument_value : (x : ℕ) (q : ParamDef) → slice_get d.params x ≡ Some q → IsArgumentShown x q
  argument_value x q param =
      let found = beside (is_argument p.scope.ints s.objects) d.params s.args x q arguments param in
      let within : x < length s.args = slice_get_within s.args x found.0 found.1 in
      let kind_there : slice_get (param_kinds d ++ receiver_kinds d) x ≡ Some q.kind =
      slice_get-append_left (param_kinds d) (receiver_kinds d) x (omega (arith, within, as_many, kinds_too))
      ∙ slice_get-map (λ (q : ParamDef). q.kind) d.params x ∙ ap (option_map (λ (q : ParamDef). q.kind)) param
      in
      let value : get_or (s.args ++ s.this ∷ []) x Null ≡ found.0 = get_or_append_left s.args (s.this ∷ []) Null x within ∙ get_or_from_slice_get s.args x found.0 Null found.1 in
      record {
        value = found.0;
        there = found.1;
        has = found.2;
        is_shown = subst (ShowsValue m q.kind (slot_relation at x) 0) value (shown.values x q.kind (rw called kind_there));
      }

  -- so is the receiver
  pub receiver_value : d.fixed ≡ false → ShowsValue m (kind.Ref d.class) (slot_relation at (length d.params)) 0 s.this
  receiver_value instance =
      let behind : get_or (s.args ++ s.this ∷ []) (length d.params) Null ≡ s.this =
      ap (λ x. get_or (s.args ++ s.this ∷ []) x Null) (sym as_many) ∙ get_or-append_seam s.args s.this [] Null
      in
      let last : slice_get (param_kinds d ++ receiver_kinds d) (length d.params) ≡ Some (kind.Ref d.class) =
      rw instance (ap (slice_get (param_kinds d ++ kind.Ref d.class ∷ [])) (sym kinds_too) ∙ append_last (param_kinds d) (kind.Ref d.class))
      in
      subst (ShowsValue m (kind.Ref d.class) (slot_relation at (length d.params)) 0) behind (shown.values (length d.params) (kind.Ref d.class) (rw called last))

  -- what a variable of class kind has
  variable_has : (x c : ℕ) (v : Value) → ShowsValue m (kind.Ref c) (slot_relation at x) 0 v → (o : ℕ) → m.refs (slot_relation at x) 0 (Obj o) ≡ is_object o v
  variable_has x c v value o = value.1 (Obj o) ∙ value_object v o

  no_object : (k : Kind) (v : Value) → is_class_kind k ≡ false → has_kind p.scope.ints s.objects k v ≡ true → (o : ℕ) → is_object o v ≡ false
  no_object k Null plain has o = refl
  no_object k (Num z) plain has o = refl
  no_object k (Flag b) plain has o = refl
  no_object kind.Int (Obj q) plain has o = absurd (false≢true has)
  no_object kind.Flag (Obj q) plain has o = absurd (false≢true has)
  no_object (kind.Ref c) (Obj q) plain has o = absurd (false≢true (sym plain))

  argument_at : (x : ℕ) (v : Value) → slice_get s.args x ≡ Some v → RootAt (suc x) v
  argument_at x v there = go q.kind refl
    where
      none_there : ParamDef
      none_there = record { name = []; kind = kind.Int; nullable = true }

      q : ParamDef
      q = get_or d.params x none_there

      param : slice_get d.params x ≡ Some q
      param = slice_get-get_or d.params x none_there (omega (arith, slice_get_within s.args x v there, as_many))

      argument : IsArgumentShown x q
      argument = argument_value x q param

      same : argument.value ≡ v
      same = same_Some argument.value v (sym argument.there ∙ there)

      root_is : is_root d (suc x) ≡ is_class_kind q.kind
      root_is = ap (λ y. option_map_or (λ (q : ParamDef). is_class_kind q.kind) y false) param

      plain_at : is_class_kind q.kind ≡ false → RootAt (suc x) v
      plain_at plain =
          ((λ link o. absurd (false≢true (sym plain ∙ sym root_is ∙ link))), (λ other o. no_object q.kind v plain (ap (has_kind p.scope.ints s.objects q.kind) (sym same) ∙ argument.has) o))

      go : (k : Kind) → q.kind ≡ k → RootAt (suc x) v
      go (kind.Ref c) is =
          let value = subst (λ k. ShowsValue m k (slot_relation at x) 0 v) is (subst (ShowsValue m q.kind (slot_relation at x) 0) same argument.is_shown) in
          ((λ link o. variable_has x c v value o), (λ plain o. absurd (false≢true (sym plain ∙ root_is ∙ ap is_class_kind is))))
      go kind.Int is = plain_at (ap is_class_kind is)
      go kind.Flag is = plain_at (ap is_class_kind is)

  receiver_at : RootAt 0 s.this
  receiver_at = go d.fixed refl receiver
    where
      null_alone : (v : Value) → is_null v ≡ true → (o : ℕ) → is_object o v ≡ false
      null_alone Null null o = refl
      null_alone (Obj q) null o = absurd (false≢true null)
      null_alone (Num z) null o = refl
      null_alone (Flag b) null o = refl

      go : (b : Bool) → d.fixed ≡ b → is_receiver s.objects d.class b s.this ≡ true → RootAt 0 s.this
      go true fixed is = ((λ root o. absurd (false≢true (sym (ap not fixed) ∙ root))), (λ plain o. null_alone s.this is o))
      go false fixed is = ((λ root o. variable_has (length d.params) d.class s.this (receiver_value fixed) o), (λ plain o. absurd (false≢true (sym plain ∙ ap not fixed))))

  arguments_same : (i : ℕ) (vs : List Value) → ((k : ℕ) (v : Value) → slice_get vs k ≡ Some v → RootAt (suc (i + k)) v)
      → Same (has_at m) gives_object (map (root_place at d) (filter (is_root d) (range_with_len (suc i) (length vs)))) (map Is vs)
  arguments_same i [] each = none
  arguments_same i (v ∷ vs) each =
      let next : suc i + 1 ≡ suc (i + 1) = omega arith in
      let same : i + 0 ≡ i = omega arith in
      one_more i v vs (subst (λ j. RootAt (suc j) v) same (each 0 v refl))
      (subst (λ n. Same (has_at m) gives_object (map (root_place at d) (filter (is_root d) (range_with_len n (length vs)))) (map Is vs)) (sym next)
      (arguments_same (i + 1) vs (λ k w there. let later : i + suc k ≡ i + 1 + k = omega arith in subst (λ j. RootAt (suc j) w) later (each (suc k) w there))))
    where
      one_more : (i : ℕ) (v : Value) (vs : List Value) → RootAt (suc i) v
          → Same (has_at m) gives_object (map (root_place at d) (filter (is_root d) (range_with_len (suc i + 1) (length vs)))) (map Is vs)
          → Same (has_at m) gives_object (map (root_place at d) (filter (is_root d) (range_with_len (suc i) (length (v ∷ vs))))) (map Is (v ∷ vs))
      one_more i v vs here rest = elim (cases_Bool (is_root d (suc i))) [
        | inl root ↦ rw root (both (root_place at d (suc i)) (Is v) _ _ (here.0 root) rest)
        | inr plain ↦ rw plain (skip (Is v) _ _ (here.1 plain) rest)
      ]

  roots_same : Same (has_at m) gives_object (map (root_place at d) (roots_of d)) (map Is (s.this ∷ s.args))
  roots_same = subst (λ n. Same (has_at m) gives_object (map (root_place at d) (filter (is_root d) (range_with_len 0 n))) (map Is (s.this ∷ s.args))) (sym many) (elim (cases_Bool (is_root d 0)) [
    | inl root ↦ rw root (both (root_place at d 0) (Is s.this) _ _ (receiver_at.0 root) rest)
    | inr plain ↦ rw plain (skip (Is s.this) _ _ (receiver_at.1 plain) rest)
  ])
    where
      many : length d.params + 1 ≡ suc (length s.args)
      many = omega (arith, as_many)

      rest : Same (has_at m) gives_object (map (root_place at d) (filter (is_root d) (range_with_len 1 (length s.args)))) (map Is s.args)
      rest = arguments_same 0 s.args (λ k v there. let same : k ≡ 0 + k = omega arith in subst (λ j. RootAt (suc j) v) same (argument_at k v there))

-- ## the fields

module _ (p : Posed) (m : Reading) (at : Indices) (s : Start) (shown : ShowsStart p m at s) where
  links_same : (o : ℕ) (fs : List ℕ) → list_all (is_link p.unit) fs ≡ true
      → Same (has_at m) gives_object (map (λ f. place.Field (field_relation at f) o) fs) (map (λ f. field p.unit.classes s.objects f (Obj o)) fs)
  links_same o [] all = none
  links_same o (f ∷ fs) all =
      let parts = and_parts (is_link p.unit f) (list_all (is_link p.unit) fs) all in
      both (place.Field (field_relation at f) o) (field p.unit.classes s.objects f (Obj o)) _ _ (of_field (slice_get p.unit.fields f) refl parts.0) (links_same o fs parts.1)
    where
      of_field : (g : Option FieldDef) → slice_get p.unit.fields f ≡ g → option_map_or (λ (d : FieldDef). is_class_kind d.kind) g false ≡ true
          → (q : ℕ) → m.refs (field_relation at f) o (Obj q) ≡ gives_object q (field p.unit.classes s.objects f (Obj o))
      of_field None there link q = absurd (false≢true link)
      of_field (Some g) there link q = shown.heap.links f g o (Obj q) there link ∙ gives_same (field p.unit.classes s.objects f (Obj o)) q

  fields_same : (order : List ℕ) → Same (has_at m) gives_object (flat_map (field_places p at) order) (flat_map (links_at p s.objects) order)
  fields_same [] = none
  fields_same (o ∷ order) =
      subst (λ ps. Same (has_at m) gives_object ps (flat_map (links_at p s.objects) (o ∷ order))) (sym (flat_map-cons (field_places p at) o order))
      (subst (λ es. Same (has_at m) gives_object (field_places p at o ++ flat_map (field_places p at) order) es) (sym (flat_map-cons (links_at p s.objects) o order))
      (appended (has_at m) gives_object (field_places p at o) (flat_map (field_places p at) order) (links_at p s.objects o) (flat_map (links_at p s.objects) order)
      (links_same o (links_of p.unit) (all_filtered (is_link p.unit) (range_with_len 0 (length p.unit.fields)))) (fields_same order)))

-- ## both

module _ (p : Posed) (m : Reading) (at : Indices) (s : Start) (few : m.objects ≡ p.scope.objects) (shown : ShowsStart p m at s) (kinds : HasKinds s p) where
  places_same : (j : ℕ) → Same (has_at m) gives_object (places_below p at j) (link_places p s (range_with_len 0 j))
  places_same j = go (method_of p) refl kinds.receiver kinds.arguments
    where
      go : (d : Option MethodDef) → method_of p ≡ d
          → option_map_or (λ (m : MethodDef). is_receiver s.objects m.class m.fixed s.this) d false ≡ true
          → option_map_or (λ (m : MethodDef). pointwise (is_argument p.scope.ints s.objects) m.params s.args) d false ≡ true
          → Same (has_at m) gives_object (option_map_or (λ (d : MethodDef). map (root_place at d) (roots_of d)) d [] ++ flat_map (field_places p at) (range_with_len 0 j))
          (link_places p s (range_with_len 0 j))
      go None called receiver arguments = absurd (false≢true receiver)
      go (Some d) called receiver arguments =
          appended (has_at m) gives_object (map (root_place at d) (roots_of d)) (flat_map (field_places p at) (range_with_len 0 j)) (map Is (s.this ∷ s.args))
          (flat_map (links_at p s.objects) (range_with_len 0 j))
          (roots_same p m at s d called shown receiver arguments) (fields_same p m at s shown (range_with_len 0 j))

  abbrev seen_below : ℕ → List Seen
  seen_below j = link_places p s (range_with_len 0 j)

  follows_is : (j : ℕ) → follows m (places_below p at j) j ≡ (list_any (gives_object j) (seen_below j) && (j == 0 || nat_lt (first_link (seen_below j) (j - 1)) (first_link (seen_below j) j)))
  follows_is j =
      ap (λ b. b && (j == 0 || comes_before m (places_below p at j) (j - 1) j)) (some_same (has_at m) gives_object (places_below p at j) (seen_below j) (places_same j) j)
      ∙ ap (λ b. list_any (gives_object j) (seen_below j) && (j == 0 || b)) (before_same (has_at m) gives_object (places_below p at j) (seen_below j) (places_same j) (j - 1) j)

  given_from : (j : ℕ) → follows m (places_below p at j) j ≡ true → IsGivenBelow p s j
  given_from j is =
      let parts = and_parts (list_any (gives_object j) (seen_below j)) (j == 0 || nat_lt (first_link (seen_below j) (j - 1)) (first_link (seen_below j) j)) (sym (follows_is j) ∙ is) in
      record {
        given = parts.0;
        after = λ positive. ltb-true (first_link (seen_below j) (j - 1)) (first_link (seen_below j) j)
            (sym (ap (λ b. b || nat_lt (first_link (seen_below j) (j - 1)) (first_link (seen_below j) j)) (ne_eqb j 0 (λ zero. omega (arith, zero, positive)))) ∙ parts.1);
      }

  follows_from : (j : ℕ) → IsGivenBelow p s j → follows m (places_below p at j) j ≡ true
  follows_from j is =
      follows_is j ∙ and_from (list_any (gives_object j) (seen_below j)) (j == 0 || nat_lt (first_link (seen_below j) (j - 1)) (first_link (seen_below j) j)) is.given
      (elim (cases_eq j 0) [
        | inl is_first ↦ or_left (j == 0) (nat_lt (first_link (seen_below j) (j - 1)) (first_link (seen_below j) j)) (eq-eqb j 0 is_first)
        | inr positive ↦
            or_right (j == 0) (nat_lt (first_link (seen_below j) (j - 1)) (first_link (seen_below j) j))
            (lt-ltb (first_link (seen_below j) (j - 1)) (first_link (seen_below j) j) (is.after (omega (arith, positive))))
      ])

  -- the reading has its objects in order exactly where the start gives them so
  pub given_in_order : is_in_order p at m ≡ true → (j : ℕ) → j < length s.objects → IsGivenBelow p s j
  given_in_order all j within =
      let inside : j < p.scope.objects = omega (arith, within, kinds.few_objects) in
      let live : m.flag (live_relation at) j ≡ true = shown.heap.live j ∙ lt-ltb j (length s.objects) within in
      let here = all_at (λ j. not (m.flag (live_relation at) j) || follows m (places_below p at j) j) (numbers_below p.scope.objects) j j all
      (slice_get-range 0 p.scope.objects j inside ∙ ap Some (omega arith)) in
      given_from j (sym (ap (λ b. not b || follows m (places_below p at j) j) live) ∙ here)

  pub in_order_from : ((j : ℕ) → j < length s.objects → IsGivenBelow p s j) → is_in_order p at m ≡ true
  in_order_from each = all_from (λ j. not (m.flag (live_relation at) j) || follows m (places_below p at j) j) (numbers_below p.scope.objects) (λ i j there. at_object j)
    where
      at_object : (j : ℕ) → (not (m.flag (live_relation at) j) || follows m (places_below p at j) j) ≡ true
      at_object j = elim (cases_Bool (m.flag (live_relation at) j)) [
        | inl live ↦
            or_right (not (m.flag (live_relation at) j)) (follows m (places_below p at j) j)
            (follows_from j (each j (ltb-true j (length s.objects) (sym (shown.heap.live j) ∙ live))))
        | inr dead ↦ rw dead refl
      ]
