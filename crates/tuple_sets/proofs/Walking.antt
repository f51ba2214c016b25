-- The loops of a walk along the tuples: what is left after one more root, field or object.
use Rattle.std.proofs.Common.{◌≡◌, ℕ, ◌+◌, ◌-◌, ◌*◌, ◌<◌, Bool, true, false, List, ◌++◌, length, Option, sym, ap, subst, ◌∙◌, refl, arith, append_assoc}
use Rattle.std.specs.Prelude.{map, filter, flat_map}
use Rattle.std.specs.List.{range_with_len}
use Rattle.std.specs.Option.{option_map_or}
use Rattle.std.proofs.lemmas.List.Concat.{flat_map-cons}
use Rattle.taco_unit.specs.declared.unit.MethodDef.{MethodDef}
use Rattle.heap_core.specs.declared.value.Value.{Value}
use Rattle.heap_core.specs.declared.start.Start.{Start}
use Rattle.heap_core.specs.Posed.{Posed}
use Rattle.heap_core.specs.Outcomes.{is_value}
use Rattle.canonical_order.specs.declared.tuple.Tuple.{Tuple}
use Rattle.canonical_order.specs.declared.tuple.Tuple.TheVariants.{Root, Field}
use Rattle.canonical_order.specs.Tuples.{targets, is_root, is_link, occurs, tuples_of_roots, tuples_of_links, field_tuples}
use Rattle.canonical_order.proofs.Ranges.{range_step}
use Rattle.tuple_sets.specs.Passing.{marked, IsSetBefore}
use Rattle.tuple_sets.proofs.Passing.{room, passed}

-- what is left from a root on, from an object of a field on, and from a field on
abbrev pub roots_left : Posed → MethodDef → ℕ → ℕ → List Tuple
roots_left p m root count = tuples_of_roots p.scope.objects (filter (is_root m) (range_with_len root (count - root))) ++ field_tuples p

abbrev pub objects_left : Posed → ℕ → ℕ → ℕ → List Tuple → List Tuple
objects_left p f object objects rest = flat_map (λ o. map (Field f o) (targets p.scope.objects)) (range_with_len object (objects - object)) ++ rest

abbrev pub fields_left : Posed → ℕ → ℕ → List Tuple
fields_left p field count = tuples_of_links p.scope.objects (filter (is_link p.unit) (range_with_len field (count - field)))

-- of the numbers from i on, i is the first, where it passes
left_here : (f : ℕ → List Tuple) (test : ℕ → Bool) (i n : ℕ) → i < n → test i ≡ true → flat_map f (filter test (range_with_len i (n - i))) ≡ f i ++ flat_map f (filter test (range_with_len (i + 1) (n - (i + 1))))
left_here f test i n small is =
    rw (range_step i n small, is) (flat_map-cons f i (filter test (range_with_len (i + 1) (n - (i + 1)))))

left_there : (f : ℕ → List Tuple) (test : ℕ → Bool) (i n : ℕ) → i < n → test i ≡ false → flat_map f (filter test (range_with_len i (n - i))) ≡ flat_map f (filter test (range_with_len (i + 1) (n - (i + 1))))
left_there f test i n small is = rw (range_step i n small, is) refl

module _ (p : Posed) (s : Start) (objects : ℕ) (same : objects ≡ p.scope.objects) where
  -- a walk whose width is a number of objects
  moved : (next next' : ℕ) (v : Option Value) (rest : List Tuple) (set set' : List ℕ) → set' ≡ marked objects next v set → next' ≡ next + (objects + 1) → IsSetBefore p s (next + (p.scope.objects + 1)) rest (marked p.scope.objects next v set) → IsSetBefore p s next' rest set'
  moved next next' v rest set set' set_is next_is after =
      subst (λ l. IsSetBefore p s next' rest l) (sym (set_is ∙ ap (λ k. marked k next v set) same))
      (subst (λ n. IsSetBefore p s n rest (marked p.scope.objects next v set)) (sym (next_is ∙ ap (λ k. next + (k + 1)) same)) after)

  -- ## roots

  module _ (m : MethodDef) (root count next : ℕ) (set : List ℕ) (small : root < count) (before : IsSetBefore p s next (roots_left p m root count) set) where
    pub root_skipped : is_root m root ≡ false → IsSetBefore p s next (roots_left p m (root + 1) count) set
    root_skipped is =
        subst (λ l. IsSetBefore p s next (l ++ field_tuples p) set) (left_there (λ r. map (Root r) (targets p.scope.objects)) (is_root m) root count small is) before

    module _ (v : Option Value) (is : is_root m root ≡ true) (here : (x : Value) → occurs p s (Root root x) ≡ option_map_or (λ u. is_value u x) v false) where
      root_first : IsSetBefore p s next (map (Root root) (targets p.scope.objects) ++ roots_left p m (root + 1) count) set
      root_first =
          subst (λ l. IsSetBefore p s next l set)
          (ap (λ l. l ++ field_tuples p) (left_here (λ r. map (Root r) (targets p.scope.objects)) (is_root m) root count small is) ∙ append_assoc (map (Root root) (targets p.scope.objects)) _ (field_tuples p))
          before

      pub root_room : next + objects < 64 * length set
      root_room = omega (arith, room p s (Root root) v next (roots_left p m (root + 1) count) set here root_first, same)

      pub root_passed : (next' : ℕ) (set' : List ℕ) → set' ≡ marked objects next v set → next' ≡ next + (objects + 1) → IsSetBefore p s next' (roots_left p m (root + 1) count) set'
      root_passed next' set' set_is next_is =
          moved next next' v _ set set' set_is next_is (passed p s (Root root) v next (roots_left p m (root + 1) count) set here root_first)

  -- ## the objects of one field

  module _ (f object next : ℕ) (rest : List Tuple) (set : List ℕ) (v : Option Value) (small : object < objects) (here : (x : Value) → occurs p s (Field f object x) ≡ option_map_or (λ u. is_value u x) v false) (before : IsSetBefore p s next (objects_left p f object objects rest) set) where
    object_first : IsSetBefore p s next (map (Field f object) (targets p.scope.objects) ++ objects_left p f (object + 1) objects rest) set
    object_first =
        let row : ℕ → List Tuple = λ o. map (Field f o) (targets p.scope.objects) in
        subst (λ l. IsSetBefore p s next l set)
        (ap (λ os. flat_map row os ++ rest) (range_step object objects small) ∙ ap (λ l. l ++ rest) (flat_map-cons row object (range_with_len (object + 1) (objects - (object + 1)))) ∙ append_assoc (row object) _ rest)
        before

    pub object_room : next + objects < 64 * length set
    object_room = omega (arith, room p s (Field f object) v next (objects_left p f (object + 1) objects rest) set here object_first, same)

    pub object_passed : (next' : ℕ) (set' : List ℕ) → set' ≡ marked objects next v set → next' ≡ next + (objects + 1) → IsSetBefore p s next' (objects_left p f (object + 1) objects rest) set'
    object_passed next' set' set_is next_is =
        moved next next' v _ set set' set_is next_is (passed p s (Field f object) v next (objects_left p f (object + 1) objects rest) set here object_first)
