-- A walk along the tuples: what the set has after those of one more root, or of one more field of one more object.
use Rattle.std.proofs.Common.{◌≡◌, ℕ, zero, suc, ◌+◌, ◌-◌, ◌*◌, ◌/◌, ◌<◌, ◌≤◌, Bool, true, false, cond, List, [], ◌++◌, length, drop, get_or, Option, Some, None, refl, sym, ap, subst, ◌∙◌, inl, inr, arith, eq-eqb, length-set}
use Rattle.std.specs.Prelude.{◌↔◌, ◌==◌, nat_lt, map, slice_get, option_map, option_and_then, IsTrue}
use Rattle.std.specs.List.{range_with_len}
use Rattle.std.specs.Option.{option_map_or}
use Rattle.std.proofs.lemmas.Bool.{cases_Bool, cases_lt, eqb-true, false≢true}
use Rattle.std.proofs.lemmas.Bool.Decides.{nat_tests}
use Rattle.std.proofs.lemmas.List.{length-append, length-map, length-drop, get_or-drop, get_or_append_left, length-replicate, drop-drop}
use Rattle.std.proofs.lemmas.Option.{slice_get-map, slice_get_within, slice_get-get_or, get_or_from_slice_get, same_Some}
use Rattle.std.proofs.Math.Seq.{drop-append_seam}
use native.Mathlib.Decide.{ℕ_discrete}
use mathlib.Core.Logic.{dite}
use Rattle.heap_core.specs.declared.value.Value.{Value}
use Rattle.heap_core.specs.declared.value.Value.TheVariants.{Null, Obj, Num, Flag}
use Rattle.heap_core.specs.declared.start.Start.{Start}
use Rattle.heap_core.specs.Posed.{Posed}
use Rattle.heap_core.specs.Outcomes.{is_value, gives, value_in}
use Rattle.heap_core.specs.declared.value.Object.{Object}
use Rattle.heap_core.specs.Heap.{cell, cell_of}
use Rattle.taco_unit.specs.declared.unit.ClassDef.{ClassDef}
use Rattle.canonical_order.specs.declared.tuple.Tuple.{Tuple}
use Rattle.canonical_order.specs.declared.tuple.Tuple.TheVariants.{Field}
use Rattle.canonical_order.specs.Tuples.{targets, tuples, occurs}
use Rattle.canonical_order.proofs.Counting.{slice_get-range}
use Rattle.canonical_order.proofs.TupleOrder.{length-targets}
use Rattle.tuple_sets.specs.Words.{has, gain, none_of}
use Rattle.tuple_sets.specs.Numbered.{word_count}
use Rattle.tuple_sets.specs.Occurring.{OccursAt, IsSetOf}
use Rattle.tuple_sets.specs.Passing.{target_place, marked, IsSetBefore}
use Rattle.tuple_sets.proofs.Sets.{has-none_of, gain_here, gain_there}

-- ## the place of a value among the targets

kept_place : (b : Bool) (n j : ℕ) → option_map_or (λ i. i == j) (cond b (Some n) None) false ≡ cond b (n == j) false
kept_place true n j = refl
kept_place false n j = refl

same_object : (objects o j : ℕ) → j < objects → (o == j) ≡ cond (nat_lt o objects) (o + 1 == suc j) false
same_object objects o j small = grind (arith, nat_tests)

no_object : (objects o : ℕ) → false ≡ cond (nat_lt o objects) (o + 1 == 0) false
no_object objects o = grind (arith, nat_tests)

at_null : (objects : ℕ) (v : Value) → is_value v Null ≡ option_map_or (λ i. i == 0) (target_place objects v) false
at_null objects Null = refl
at_null objects (Obj o) = no_object objects o ∙ sym (kept_place (nat_lt o objects) (o + 1) 0)
at_null objects (Num z) = refl
at_null objects (Flag b) = refl

at_object : (objects j : ℕ) (v : Value) → j < objects → is_value v (Obj j) ≡ option_map_or (λ i. i == suc j) (target_place objects v) false
at_object objects j Null small = grind (arith, nat_tests)
at_object objects j (Obj o) small = same_object objects o j small ∙ sym (kept_place (nat_lt o objects) (o + 1) (suc j))
at_object objects j (Num z) small = refl
at_object objects j (Flag b) small = refl

target_is : (objects j : ℕ) (v x : Value) → slice_get (targets objects) j ≡ Some x → is_value v x ≡ option_map_or (λ i. i == j) (target_place objects v) false
target_is objects zero v x there = ap (is_value v) (sym (same_Some Null x there)) ∙ at_null objects v
target_is objects (suc j) v x there =
    let small : j < objects = omega (arith, slice_get_within (targets objects) (suc j) x there, length-targets objects) in
    let here : slice_get (targets objects) (suc j) ≡ Some (Obj (0 + j)) = slice_get-map Obj (range_with_len 0 objects) j ∙ ap (option_map Obj) (slice_get-range 0 objects j small) in
    let same : Obj j ≡ x = ap Obj (omega arith) ∙ same_Some (Obj (0 + j)) x (sym here ∙ there) in
    ap (is_value v) (sym same) ∙ at_object objects j v small

-- the same of a value that may be missing
held_is : (objects j : ℕ) (v : Option Value) (x : Value) → slice_get (targets objects) j ≡ Some x → option_map_or (λ u. is_value u x) v false ≡ option_map_or (λ i. i == j) (option_and_then (target_place objects) v) false
held_is objects j None x there = refl
held_is objects j (Some u) x there = target_is objects j u x there

small_object : (objects o i : ℕ) → cond (nat_lt o objects) (Some (o + 1)) None ≡ Some i → i < objects + 1
small_object objects o i is =
    elim (cases_Bool (nat_lt o objects)) [
      | inl inside ↦ let same : Some (o + 1) ≡ Some i = sym (ap (λ b. cond b (Some (o + 1)) None) inside) ∙ is in grind (arith, nat_tests)
      | inr outside ↦ let none : None ≡ Some i = sym (ap (λ b. cond b (Some (o + 1)) None) outside) ∙ is in absurd (cc)
    ]

small_place : (objects : ℕ) (v : Option Value) (i : ℕ) → option_and_then (target_place objects) v ≡ Some i → i < objects + 1
small_place objects None i is = absurd (cc)
small_place objects (Some Null) i is = omega (arith, same_Some 0 i is)
small_place objects (Some (Obj o)) i is = small_object objects o i is
small_place objects (Some (Num z)) i is = absurd (cc)
small_place objects (Some (Flag b)) i is = absurd (cc)

passes : (o : Option ℕ) (j : ℕ) → IsTrue (option_map_or (λ i. i == j) o false) → o ≡ Some j
passes None j is = absurd (false≢true is)
passes (Some i) j is = ap Some (eqb-true i j is)

-- what a read of a field gives
given_is : (x : Value) (m : Option Value) → gives x (value_in m) ≡ option_map_or (λ u. is_value u x) m false
given_is x None = refl
given_is x (Some u) = refl

cell_is : (x : Value) (classes : List ClassDef) (f : ℕ) (m : Option Object) → gives x (cell_of classes f m) ≡ option_map_or (λ u. is_value u x) (option_and_then (cell classes f) m) false
cell_is x classes f None = refl
cell_is x classes f (Some o) = given_is x (cell classes f o)

pub read_is : (p : Posed) (s : Start) (classes : List ClassDef) (heap : List Object) (f o : ℕ) (m : Option Value) → classes ≡ p.unit.classes → heap ≡ s.objects → m ≡ option_and_then (cell classes f) (slice_get heap o) → (x : Value) → occurs p s (Field f o x) ≡ option_map_or (λ u. is_value u x) m false
read_is p s classes heap f o m same_classes same_heap is x =
    ap (λ cs. gives x (cell_of cs f (slice_get s.objects o))) (sym same_classes)
    ∙ ap (λ h. gives x (cell_of classes f (slice_get h o))) (sym same_heap)
    ∙ cell_is x classes f (slice_get heap o)
    ∙ ap (λ v. option_map_or (λ u. is_value u x) v false) (sym is)

-- ## the first tuple, and behind the last

pub none_passed : (p : Posed) (s : Start) (n : ℕ) → n ≡ word_count p → n ≤ 80 → IsSetBefore p s 0 (tuples p) (none_of n)
none_passed p s n is few =
    let long : length (none_of n) ≡ n = length-replicate n 0 in
    record {
      as_many = long ∙ is;
      few = omega (arith, long, few);
      left_is = refl;
      exact = λ t. (λ one. let none = has-none_of n t in absurd (omega arith), λ o. absurd (omega (arith, o.0)));
    }

pub all_passed : (p : Posed) (s : Start) (next : ℕ) (set : List ℕ) → IsSetBefore p s next [] set → IsSetOf p s set
all_passed p s next set before =
    record {
      as_many = before.as_many;
      exact = λ t. (λ one. ((before.exact t).0 one).1, λ o. (before.exact t).1 (omega (arith, slice_get_within (tuples p) t o.0 o.1, length-drop next (tuples p), ap length before.left_is), o));
    }

-- ## one root, or one field of one object

module _ (p : Posed) (s : Start) (make : Value → Tuple) (v : Option Value) (next : ℕ) (rest : List Tuple) (set : List ℕ) (here : (x : Value) → occurs p s (make x) ≡ option_map_or (λ u. is_value u x) v false) (before : IsSetBefore p s next (map make (targets p.scope.objects) ++ rest) set) where
  abbrev row : List Tuple
  row = map make (targets p.scope.objects)

  abbrev place : Option ℕ
  place = option_and_then (target_place p.scope.objects) v

  long : next + (p.scope.objects + 1 + length rest) ≡ length (tuples p)
  long =
      omega (arith, length-drop next (tuples p), ap length before.left_is, length-append row rest, length-map (targets p.scope.objects) make, length-targets p.scope.objects)

  -- the set has room for them
  pub room : next + p.scope.objects < 64 * length set
  room = omega (arith, long, before.as_many)

  tuple_at : (j : ℕ) (x : Value) → slice_get (targets p.scope.objects) j ≡ Some x → slice_get (tuples p) (next + j) ≡ Some (make x)
  tuple_at j x there =
      let in_row : slice_get row j ≡ Some (make x) = slice_get-map make (targets p.scope.objects) j ∙ ap (option_map make) there in
      let inside : j < length row = slice_get_within row j (make x) in_row in
      let within : next + j < length (tuples p) = omega (arith, long, length-map (targets p.scope.objects) make, length-targets p.scope.objects) in
      slice_get-get_or (tuples p) (next + j) (make x) within
      ∙ ap Some (sym (get_or-drop next (tuples p) j (make x)) ∙ ap (λ l. get_or l j (make x)) before.left_is ∙ get_or_append_left row rest (make x) j inside ∙ get_or_from_slice_get row j (make x) (make x) in_row)

  -- exactly the tuple of the value occurs
  occurs_at : (j : ℕ) → j < p.scope.objects + 1 → OccursAt p s (next + j) ↔ (place ≡ Some j)
  occurs_at j small =
      let inside : j < length (targets p.scope.objects) = omega (arith, length-targets p.scope.objects) in
      let x : Value = get_or (targets p.scope.objects) j Null in
      let there : slice_get (targets p.scope.objects) j ≡ Some x = slice_get-get_or (targets p.scope.objects) j Null inside in
      let at : slice_get (tuples p) (next + j) ≡ Some (make x) = tuple_at j x there in
      let holds : occurs p s (make x) ≡ option_map_or (λ i. i == j) place false = here x ∙ held_is p.scope.objects j v x there in (
        λ o. passes place j (sym holds ∙ (ap (occurs p s) (same_Some (make x) o.0 (sym at ∙ o.1)) ∙ o.2)),
        λ is. (make x, at, holds ∙ ap (λ o. option_map_or (λ i. i == j) o false) is ∙ eq-eqb j j refl),
      )

  left_is : drop (next + (p.scope.objects + 1)) (tuples p) ≡ rest
  left_is =
      let width : p.scope.objects + 1 ≡ length row = omega (arith, length-map (targets p.scope.objects) make, length-targets p.scope.objects) in
      sym (drop-drop (p.scope.objects + 1) next (tuples p)) ∙ ap (drop (p.scope.objects + 1)) before.left_is ∙ ap (λ n. drop n (row ++ rest)) width ∙ drop-append_seam row rest

  done : (o : Option ℕ) → place ≡ o → IsSetBefore p s (next + (p.scope.objects + 1)) rest (option_map_or (λ j. gain set (next + j)) o set)
  done None is =
      record {
        as_many = before.as_many;
        few = before.few;
        left_is = left_is;
        exact = λ t. (
          λ one. (omega (arith, ((before.exact t).0 one).0), ((before.exact t).0 one).1),
          λ o. elim (cases_lt t next) [
            | inl less ↦ (before.exact t).1 (less, o.1)
            | inr not_less ↦
                let here' : OccursAt p s (next + (t - next)) = subst (OccursAt p s) (omega arith) o.1 in
                let found : place ≡ Some (t - next) = (occurs_at (t - next) (omega (arith, o.0))).0 here' in
                absurd (cc)
          ],
        );
      }
  done (Some i) is =
      let small : i < p.scope.objects + 1 = small_place p.scope.objects v i is in
      let inside : (next + i) / 64 < length set = omega (arith, room) in
      let stays : length (gain set (next + i)) ≡ length set = length-set set ((next + i) / 64) _ in
      record {
        as_many = stays ∙ before.as_many;
        few = omega (arith, stays, before.few);
        left_is = left_is;
        exact = λ t. dite (ℕ_discrete t (next + i))
            (λ e. (
              λ one. (omega (arith, small), subst (OccursAt p s) (sym e) ((occurs_at i small).1 is)),
              λ o. subst (λ n. has (gain set (next + i)) n ≡ 1) (sym e) (gain_here set (next + i) inside),
            ))
            (λ ne.
            let same : has (gain set (next + i)) t ≡ has set t = gain_there set (next + i) t ne in (
              λ one. let b = (before.exact t).0 (sym same ∙ one) in (omega (arith, b.0), b.1),
              λ o. elim (cases_lt t next) [
                | inl less ↦ same ∙ (before.exact t).1 (less, o.1)
                | inr not_less ↦
                    let here' : OccursAt p s (next + (t - next)) = subst (OccursAt p s) (omega arith) o.1 in
                    let found : place ≡ Some (t - next) = (occurs_at (t - next) (omega (arith, o.0))).0 here' in
                    let equal : i ≡ t - next = same_Some i (t - next) (sym is ∙ found) in
                    absurd (ne (omega arith))
              ],
            ));
      }

  -- so the set that gains it is the set of the tuples before those that are left
  pub passed : IsSetBefore p s (next + (p.scope.objects + 1)) rest (marked p.scope.objects next v set)
  passed = done place refl
