-- What going along the places breadth first puts into the list is the visit of a start that fits.
use Rattle.std.proofs.Common.{◌≡◌, ℕ, zero, suc, ◌+◌, ◌<◌, ◌≤◌, Bool, true, false, cond, eqb, not, ◌&&◌, List, [], ◌∷◌, ◌++◌, length, Option, Some, None, refl, sym, ◌∙◌, ap, subst, inl, inr, arith, take, append_assoc, get_or}
use Rattle.std.specs.Prelude.{map, flat_map, fold, nat_lt, ◌==◌, slice_get, slice_index, Contains, option_to_list}
use Rattle.std.specs.List.{range_with_len, list_any, AllByRecursion, IsDistinct}
use Rattle.std.specs.Cmp.{IsEquivalence}
use Rattle.std.proofs.lemmas.Bool.{cases_Bool, cases_lt, cases_eq, false≢true, eq-eqb, eqb-true, lt-ltb, le-ltb, ne_eqb}
use Rattle.std.proofs.lemmas.Grind.{flat_map-append}
use Rattle.std.proofs.lemmas.Option.{slice_get_within, slice_get-get_or, get_or_from_slice_get}
use Rattle.std.proofs.lemmas.List.{length-append, length-map, append-nil, take_all, take_more, take-append-le}
use Rattle.std.proofs.lemmas.List.Concat.{flat_map-cons}
use Rattle.std.proofs.lemmas.List.Elements.{Contains-append_left, Contains-append_right}
use Rattle.std.proofs.lemmas.List.Folds.{list_any-append}
use Rattle.std.proofs.lemmas.List.FromFn.{length-range_with_len}
use Rattle.std.proofs.lemmas.Map.Made.{length-le_from_is_member}
use Rattle.std.proofs.lemmas.Map.Steps.{length-le_from_distinct_below}
use Rattle.heap_core.specs.declared.value.Value.{Value}
use Rattle.heap_core.specs.declared.value.Value.TheVariants.{Null, Obj, Num, Flag}
use Rattle.heap_core.specs.declared.value.Object.{Object}
use Rattle.heap_core.specs.declared.start.Start.{Start}
use Rattle.heap_core.specs.Posed.{Posed}
use Rattle.heap_core.specs.Outcomes.{is_object}
use Rattle.heap_core.specs.Start.{Fits, Reached, root, held}
use Rattle.canonical_order.specs.Canonical.{cells_of, places, first_place, IsVisit}
use Rattle.canonical_order.specs.Visiting.{with_value, with_values, with_fields, visited}
use Rattle.heap_core.proofs.Lists.{slice_get-append_left, slice_get-append_right}
use Rattle.canonical_order.proofs.Counting.{range_at}
use Rattle.canonical_order.proofs.FirstPlaces.{stays, behind, first_within, contains_each}

abbrev is_in : List ℕ → ℕ → Bool
is_in order o = list_any (λ q. q == o) order

-- the first part of the places was gone through: exactly the objects below n that stand there were met, in the
-- order of their first places
pub record IsMetAlong (n : ℕ) (us : List Value) (order : List ℕ) : Type 0 where
  pub found : (o : ℕ) → o < n → first_place us o < length us → is_in order o ≡ true
  pub small : (i o : ℕ) → slice_get order i ≡ Some o → o < n
  pub placed : (i o : ℕ) → slice_get order i ≡ Some o → first_place us o < length us
  pub rising : (i j a b : ℕ) → i < j → slice_get order i ≡ Some a → slice_get order j ≡ Some b → first_place us a < first_place us b

one_longer : (us : List Value) (v : Value) → length (us ++ v ∷ []) ≡ length us + 1
one_longer us v = length-append us (v ∷ []) ∙ omega arith

-- one object behind a list
pub data At (order : List ℕ) (o i q : ℕ) : Type 0 where
  Before : slice_get order i ≡ Some q → i < length order → At order o i q
  Last : i ≡ length order → q ≡ o → At order o i q

pub where_at : (order : List ℕ) (o i q : ℕ) → slice_get (order ++ o ∷ []) i ≡ Some q → At order o i q
where_at order o i q there =
    elim (cases_lt i (length order)) [
      | inl before ↦ Before (sym (slice_get-append_left order (o ∷ []) i before) ∙ there) before
      | inr behind ↦
          let inside : i < length (order ++ o ∷ []) = slice_get_within (order ++ o ∷ []) i q there in
          let last : i ≡ length order = omega (arith, inside, behind, length-append order (o ∷ [])) in
          let e : slice_get (order ++ o ∷ []) (length order + 0) ≡ Some o = slice_get-append_right order (o ∷ []) 0 in
          let e' : length order + 0 ≡ i = omega (arith, last) in
          let same : Some o ≡ Some q = sym e ∙ ap (slice_get (order ++ o ∷ [])) e' ∙ there in
          Last last (cc)
    ]

is_in_push : (order : List ℕ) (o q : ℕ) → is_in order q ≡ true → is_in (order ++ o ∷ []) q ≡ true
is_in_push order o q is = list_any-append (λ x. x == q) order (o ∷ []) ∙ grind (arith, is)

is_in_last : (order : List ℕ) (o : ℕ) → is_in (order ++ o ∷ []) o ≡ true
is_in_last order o = list_any-append (λ x. x == o) order (o ∷ []) ∙ grind (arith, eq-eqb o o refl)

-- a value that is no object below n but those met
pass : (n : ℕ) (us : List Value) (order : List ℕ) (v : Value) → ((o : ℕ) → o < n → is_object o v ≡ true → is_in order o ≡ true) → IsMetAlong n us order → IsMetAlong n (us ++ v ∷ []) order
pass n us order v old m = record {
  found = λ o small within. elim (cases_lt (first_place us o) (length us)) [
    | inl before ↦ m.found o small before
    | inr beyond ↦
        let at : first_place (us ++ v ∷ []) o ≡ length us + first_place (v ∷ []) o = behind us (v ∷ []) o beyond in
        let here : first_place (v ∷ []) o < 1 = omega (arith, at, within, one_longer us v) in
        old o small (shows v o here)
  ];
  small = m.small;
  placed = λ i o there. omega (arith, m.placed i o there, stays us (v ∷ []) o (m.placed i o there), one_longer us v);
  rising = λ i j a b less first second. omega (arith, m.rising i j a b less first second, stays us (v ∷ []) a (m.placed i a first), stays us (v ∷ []) b (m.placed j b second));
}
  where
    shows : (v : Value) (o : ℕ) → first_place (v ∷ []) o < 1 → is_object o v ≡ true
    shows v o here = elim (cases_Bool (is_object o v)) [ inl is ↦ is | inr none ↦ absurd (grind (arith, none, here)) ]

-- an object below n that was not met yet
meet : (n : ℕ) (us : List Value) (order : List ℕ) (o : ℕ) → o < n → is_in order o ≡ false → IsMetAlong n us order → IsMetAlong n (us ++ Obj o ∷ []) (order ++ o ∷ [])
meet n us order o below new m = record {
  found = λ q small within. elim (cases_lt (first_place us q) (length us)) [
    | inl before ↦ is_in_push order o q (m.found q small before)
    | inr beyond ↦ elim (cases_eq o q) [
      | inl same ↦ subst (λ x. is_in (order ++ o ∷ []) x ≡ true) same (is_in_last order o)
      | inr apart ↦
          let at : first_place (us ++ Obj o ∷ []) q ≡ length us + first_place (Obj o ∷ []) q = behind us (Obj o ∷ []) q beyond in
          let none : is_object q (Obj o) ≡ false = ne_eqb q o (λ same. apart (sym same)) in
          absurd (grind (arith, none, at, within, one_longer us (Obj o)))
    ]
  ];
  small = λ i q there. elim (where_at order o i q there) [
    | Before before inside ↦ m.small i q before
    | Last last same ↦ omega (arith, below, same)
  ];
  placed = λ i q there. elim (where_at order o i q there) [
    | Before before inside ↦ omega (arith, m.placed i q before, stays us (Obj o ∷ []) q (m.placed i q before), one_longer us (Obj o))
    | Last last same ↦ omega (arith, ap (first_place (us ++ Obj o ∷ [])) same, new_place, one_longer us (Obj o))
  ];
  rising = λ i j a b less first second. elim (where_at order o i a first) [
    | Before before inside ↦ elim (where_at order o j b second) [
      | Before before' inside' ↦ omega (arith, m.rising i j a b less before before', stays us (Obj o ∷ []) a (m.placed i a before), stays us (Obj o ∷ []) b (m.placed j b before'))
      | Last last same ↦ omega (arith, m.placed i a before, stays us (Obj o ∷ []) a (m.placed i a before), ap (first_place (us ++ Obj o ∷ [])) same, new_place)
    ]
    | Last last same ↦
        absurd (omega (arith, last, less, slice_get_within (order ++ o ∷ []) j b second, length-append order (o ∷ [])))
  ];
}
  where
    not_there : length us ≤ first_place us o
    not_there = elim (cases_lt (first_place us o) (length us)) [
      | inl there ↦ absurd (false≢true (sym new ∙ m.found o below there))
      | inr beyond ↦ beyond
    ]

    new_place : first_place (us ++ Obj o ∷ []) o ≡ length us
    new_place = behind us (Obj o ∷ []) o not_there ∙ grind (arith, eq-eqb o o refl)

step : (n : ℕ) (us : List Value) (order : List ℕ) (v : Value) → IsMetAlong n us order → IsMetAlong n (us ++ v ∷ []) (with_value n order v)
step n us order (Obj o) m =
    elim (cases_lt o n) [
      | inl below ↦ elim (cases_Bool (is_in order o)) [
        | inl old ↦ rw (lt-ltb o n below, old) (pass n us order (Obj o) (λ q small is. subst (λ x. is_in order x ≡ true) (sym (eqb-true q o is)) old) m)
        | inr new ↦ rw (lt-ltb o n below, new) (meet n us order o below new m)
      ]
      | inr beyond ↦ rw (le-ltb o n beyond) (pass n us order (Obj o) (λ q small is. absurd (omega (arith, eqb-true q o is, small, beyond))) m)
    ]
step n us order Null m = pass n us order Null (λ q small is. absurd (false≢true is)) m
step n us order (Num z) m = pass n us order (Num z) (λ q small is. absurd (false≢true is)) m
step n us order (Flag b) m = pass n us order (Flag b) (λ q small is. absurd (false≢true is)) m

steps : (n : ℕ) (us vs : List Value) (order : List ℕ) → IsMetAlong n us order → IsMetAlong n (us ++ vs) (with_values n order vs)
steps n us [] order m = subst (λ z. IsMetAlong n z order) (sym (append-nil us)) m
steps n us (v ∷ vs) order m =
    subst (λ z. IsMetAlong n z (with_values n (with_value n order v) vs)) (append_assoc us (v ∷ []) vs) (steps n (us ++ v ∷ []) vs (with_value n order v) (step n us order v m))

begun : (n : ℕ) → IsMetAlong n [] []
begun n = record {
  found = λ o small within. absurd (omega (arith, within));
  small = λ i o there. absurd (cc);
  placed = λ i o there. absurd (cc);
  rising = λ i j a b less first second. absurd (cc);
}

-- ## the walk

-- what is behind the list leaves its first part as it was
grows : (n : ℕ) (order : List ℕ) (vs : List Value) → (more : List ℕ) × (with_values n order vs ≡ order ++ more)
grows n order [] = ([], sym (append-nil order))
grows n order (v ∷ vs) =
    let here = one order v in
    let rest = grows n (with_value n order v) vs in
    (here.0 ++ rest.0, rest.1 ∙ ap (λ xs. xs ++ rest.0) here.1 ∙ append_assoc order here.0 rest.0)
  where
    pushed : (order : List ℕ) (o : ℕ) (b : Bool) → (more : List ℕ) × (cond b (order ++ o ∷ []) order ≡ order ++ more)
    pushed order o true = (o ∷ [], refl)
    pushed order o false = ([], sym (append-nil order))

    one : (order : List ℕ) (v : Value) → (more : List ℕ) × (with_value n order v ≡ order ++ more)
    one order (Obj o) = pushed order o (nat_lt o n && not (is_in order o))
    one order Null = ([], sym (append-nil order))
    one order (Num z) = ([], sym (append-nil order))
    one order (Flag b) = ([], sym (append-nil order))

-- the receiver, the arguments and the fields of the first k objects of the list
abbrev pub first_parts : Start → List ℕ → ℕ → List Value
first_parts s order k = (s.this ∷ s.args) ++ flat_map (cells_of s.objects) (take k order)

pub take_next : (order : List ℕ) (k o : ℕ) → slice_get order k ≡ Some o → take (k + 1) order ≡ take k order ++ o ∷ []
take_next order k o there =
    let inside : k < length order = slice_get_within order k o there in
    take_more order k 0 inside ∙ ap (λ x. take k order ++ x ∷ []) (get_or_from_slice_get order k o 0 there)

walk_step : (s : Start) (order : List ℕ) (k : ℕ) → IsMetAlong (length s.objects) (first_parts s order k) order → IsMetAlong (length s.objects) (first_parts s (with_fields s.objects order k) (k + 1)) (with_fields s.objects order k)
walk_step s order k m = go (slice_get order k) refl
  where
    n : ℕ
    n = length s.objects

    cells : ℕ → List Value
    cells = cells_of s.objects

    go : (found : Option ℕ) → slice_get order k ≡ found → IsMetAlong n (first_parts s (with_values n order (flat_map cells (option_to_list (slice_get order k)))) (k + 1)) (with_values n order (flat_map cells (option_to_list (slice_get order k))))
    go None none =
        let past : length order ≤ k = elim (cases_lt k (length order)) [ inl inside ↦ absurd (let e : None ≡ Some (get_or order k 0) = sym none ∙ slice_get-get_or order k 0 inside in cc) | inr past ↦ past ] in
        let e : take k order ≡ take (k + 1) order = take_all k order past ∙ sym (take_all (k + 1) order (omega (arith, past))) in
        rw none (subst (λ z. IsMetAlong n ((s.this ∷ s.args) ++ flat_map cells z) order) e m)
    go (Some o) there =
        let vs : List Value = flat_map cells (o ∷ []) in
        let more = grows n order vs in
        let inside : k < length order = slice_get_within order k o there in
        let short : take (k + 1) (with_values n order vs) ≡ take k order ++ o ∷ [] =
        ap (take (k + 1)) more.1 ∙ take-append-le (k + 1) order more.0 (omega (arith, inside)) ∙ take_next order k o there
        in
        let at : first_parts s order k ++ vs ≡ first_parts s (with_values n order vs) (k + 1) =
        append_assoc (s.this ∷ s.args) (flat_map cells (take k order)) vs ∙ ap (λ z. (s.this ∷ s.args) ++ z) (sym (flat_map-append cells (take k order) (o ∷ []))) ∙ ap (λ z. (s.this ∷ s.args) ++ flat_map cells z) (sym short)
        in
        rw there (subst (λ z. IsMetAlong n z (with_values n order vs)) at (steps n (first_parts s order k) vs order m))

walk : (s : Start) (d k : ℕ) (order : List ℕ) → IsMetAlong (length s.objects) (first_parts s order k) order → let last = fold (with_fields s.objects) order (range_with_len k d) in IsMetAlong (length s.objects) (first_parts s last (k + d)) last
walk s zero k order m = subst (λ j. IsMetAlong (length s.objects) (first_parts s order j) order) (omega arith) m
walk s (suc d) k order m =
    let next = with_fields s.objects order k in
    let last = fold (with_fields s.objects) next (range_with_len (k + 1) d) in
    let e : (k + 1) + d ≡ k + suc d = omega arith in
    subst (λ j. IsMetAlong (length s.objects) (first_parts s last j) last) e (walk s d (k + 1) next (walk_step s order k m))

-- ## it holds each object once

distinct : (order : List ℕ) → ((i j a : ℕ) → i < j → slice_get order i ≡ Some a → slice_get order j ≡ Some a → ⊥) → IsDistinct eqb order
unfolding IsDistinct
distinct [] apart = tt
distinct (o ∷ order) apart =
    (none o order (λ j same. apart 0 (suc j) o (omega arith) refl same), distinct order (λ i j a less first second. apart (suc i) (suc j) a (omega arith) first second))
  where
    none : (o : ℕ) (order : List ℕ) → ((j : ℕ) → slice_get order j ≡ Some o → ⊥) → AllByRecursion (λ y. eqb o y ≡ false) order
    none o [] never = tt
    none o (y ∷ order) never = (ne_eqb o y (λ same. never 0 (ap Some (sym same))), none o order (λ j same. never (suc j) same))

in_at : (order : List ℕ) (q : ℕ) → is_in order q ≡ true → (i : ℕ) × (slice_get order i ≡ Some q)
in_at [] q is = absurd (false≢true is)
in_at (o ∷ order) q is =
    elim (cases_eq o q) [
      | inl same ↦ (0, ap Some same)
      | inr apart ↦ let rest = in_at order q (grind (arith, ne_eqb o q apart, is)) in (suc rest.0, rest.1)
    ]

same_test : (order : List ℕ) (q : ℕ) → list_any (eqb q) order ≡ is_in order q
same_test [] q = refl
same_test (o ∷ order) q = grind (arith, same_test order q)

at_in : (order : List ℕ) (i q : ℕ) → slice_get order i ≡ Some q → is_in order q ≡ true
at_in [] i q there = absurd (cc)
at_in (o ∷ order) zero q there =
    let same : o ≡ q = cc in
    grind (arith, eq-eqb o q same)
at_in (o ∷ order) (suc i) q there = grind (arith, at_in order i q there)

-- an object that is met has one place in the list alone
one_place : {n : ℕ} {us : List Value} {order : List ℕ} (m : IsMetAlong n us order) (i j a : ℕ) → slice_get order i ≡ Some a → slice_get order j ≡ Some a → i ≡ j
one_place m i j a first second =
    elim (cases_lt i j) [
      | inl less ↦ absurd (omega (arith, m.rising i j a a less first second))
      | inr le ↦ elim (cases_lt j i) [
        | inl less ↦ absurd (omega (arith, m.rising j i a a less second first))
        | inr le' ↦ omega (arith, le, le')
      ]
    ]

few : {n : ℕ} {us : List Value} {order : List ℕ} → IsMetAlong n us order → length order ≤ n
few {n} {us} {order} m =
    length-le_from_distinct_below order n (distinct order (λ i j a less first second. omega (arith, less, one_place m i j a first second))) (λ q is. let at = in_at order q (sym (same_test order q) ∙ is) in m.small at.0 q at.1)

-- a field of an object is among its cells
pub holds_cell : (s : Start) (p o : ℕ) (x : Object) → slice_get s.objects p ≡ Some x → Contains x.cells (Obj o) → Contains (cells_of s.objects p) (Obj o)
holds_cell s p o x there cell =
    rw there (subst (λ cs. Contains cs (Obj o)) (sym (flat_map-cons (λ (y : Object). y.cells) x [] ∙ append-nil x.cells)) cell)

-- each object that is reached is met, where all places of the list were gone through
all_met : (s : Start) (order : List ℕ) → IsMetAlong (length s.objects) (places s order) order → (o : ℕ) → Reached s o → o < length s.objects → is_in order o ≡ true
all_met s order m _ (root o at_root) small =
    m.found o small (first_within (places s order) o (Contains-append_left (s.this ∷ s.args) (flat_map (cells_of s.objects) order) (Obj o) at_root))
all_met s order m _ (held p o x from there cell) small =
    let inside : p < length s.objects = slice_get_within s.objects p x there in
    let at = in_at order p (all_met s order m p from inside) in
    let here = holds_cell s p o x there cell in
    m.found o small (first_within (places s order) o (Contains-append_right (s.this ∷ s.args) (flat_map (cells_of s.objects) order) (Obj o) (contains_each (cells_of s.objects) order at.0 p (Obj o) at.1 here)))

-- the numbers below n are as many
eqb_laws : IsEquivalence eqb
eqb_laws = record {
  refl = λ x. eq-eqb x x refl;
  symm = λ x y. grind arith;
  congr = λ x y z same. ap (λ w. eqb w z) (eqb-true x y same);
}

whole : (n : ℕ) (order : List ℕ) → ((o : ℕ) → o < n → is_in order o ≡ true) → n ≤ length order
whole n order each =
    let long : length (range_with_len 0 n) ≤ length order =
    length-le_from_is_member eqb_laws (range_with_len 0 n) order (distinct (range_with_len 0 n) (λ i j a less first second. omega (arith, less, (range_at n i a first).1, (range_at n j a second).1))) (λ q is. same_test order q ∙ each q (below q (sym (same_test (range_with_len 0 n) q) ∙ is)))
    in
    omega (arith, long, length-range_with_len 0 n)
  where
    below : (q : ℕ) → is_in (range_with_len 0 n) q ≡ true → q < n
    below q is = let at = in_at (range_with_len 0 n) q is in let r = range_at n at.0 q at.1 in omega (arith, r.0, r.1)

-- ## the visit

pub rising_at : (vs : List Value) (order : List ℕ) (k : ℕ) → k < length order → slice_index (map (first_place vs) order) k ≡ first_place vs (get_or order k 0)
rising_at vs [] k inside = absurd (omega arith)
rising_at vs (o ∷ order) zero inside = refl
rising_at vs (o ∷ order) (suc k) inside = rising_at vs order k (omega arith)

pub met_is_visit : (s : Start) (p : Posed) → Fits s p → (order : List ℕ) → IsMetAlong (length s.objects) (places s order) order → IsVisit s order
met_is_visit s p fits order m =
    let n = length s.objects in
    let each : (o : ℕ) → o < n → is_in order o ≡ true = λ o small. all_met s order m o (fits.all_reached o small) small in
    record {
      each_once = record {
        as_many = omega (arith, few m, whole n order each);
        within = m.small;
        apart = λ i j o first second. one_place m i j o first second;
        each = λ o small. let at = in_at order o (each o small) in (at.0, slice_get_within order at.0 o at.1, get_or_from_slice_get order at.0 o o at.1);
      };
      rising = λ k lt.
          let same : length (map (first_place (places s order)) order) ≡ length order = length-map order (first_place (places s order)) in
          let long : k + 1 < length order = omega (arith, lt, same) in
          let up = m.rising k (k + 1) (get_or order k 0) (get_or order (k + 1) 0) (omega arith) (slice_get-get_or order k 0 (omega (arith, long))) (slice_get-get_or order (k + 1) 0 long) in
          omega (arith, up, rising_at (places s order) order k (omega (arith, long)), rising_at (places s order) order (k + 1) long);
    }

pub visited_is_visit : (s : Start) (p : Posed) → Fits s p → IsVisit s (visited s)
visited_is_visit s p fits =
    let n = length s.objects in
    let first = with_values n [] (s.this ∷ s.args) in
    let start : IsMetAlong n (first_parts s first 0) first =
    subst (λ z. IsMetAlong n z first) (sym (append-nil (s.this ∷ s.args))) (steps n [] (s.this ∷ s.args) [] (begun n))
    in
    let m = walk s n 0 first start in
    let e : take (0 + n) (visited s) ≡ visited s = take_all (0 + n) (visited s) (omega (arith, few m)) in
    met_is_visit s p fits (visited s) (subst (λ z. IsMetAlong n ((s.this ∷ s.args) ++ flat_map (cells_of s.objects) z) (visited s)) e m)
