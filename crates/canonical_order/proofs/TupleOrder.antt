-- How many tuples there are, and what stands at each place.
use Rattle.std.proofs.Common.{◌≡◌, ◌≢◌, ℕ, zero, suc, ◌+◌, ◌-◌, ◌*◌, ◌<◌, ◌≤◌, List, [], length, Some, None, refl, ap, ◌∙◌, arith, mul-le-mul_right, mul_comm, subst, get_or, ◌/◌, ◌%◌}
use Rattle.std.specs.Prelude.{map, flat_map, slice_get, option_map, count_by}
use Rattle.std.specs.List.{range_with_len}
use Rattle.std.specs.Option.{option_map_or}
use Rattle.std.proofs.lemmas.List.{length-append, length-map}
use Rattle.std.proofs.lemmas.List.FromFn.{length-range_with_len}
use Rattle.std.proofs.lemmas.Option.{slice_get-map, slice_get_within, slice_get-get_or}
use Rattle.std.proofs.Math.Nat.{div-add-mod, div-lt_iff_lt-mul, mod-lt}
use Rattle.taco_unit.specs.declared.unit.MethodDef.{MethodDef}
use Rattle.taco_unit.specs.Kinds.{is_class_kind}
use Rattle.taco_unit.specs.Parts.{Parts}
use Rattle.heap_core.specs.declared.value.Value.{Value}
use Rattle.heap_core.specs.declared.value.Value.TheVariants.{Obj}
use Rattle.heap_core.specs.Posed.{Posed}
use Rattle.heap_core.specs.Start.{method_of}
use Rattle.canonical_order.specs.declared.tuple.Tuple.{Tuple}
use Rattle.canonical_order.specs.declared.tuple.Tuple.TheVariants.{Root, Field}
use Rattle.canonical_order.specs.Tuples.{targets, roots_of, links_of, tuples_of_roots, tuples_of_links, root_tuples, field_tuples, tuples}
use Rattle.heap_core.proofs.Lists.{slice_get-append_left, slice_get-append_right}
use Rattle.canonical_order.proofs.Counting.{slice_get-range, slice_get-each, length-each, count_at}

pub target_at : (objects n : ℕ) → n ≤ objects → n ≢ 0 → slice_get (targets objects) n ≡ Some (Obj (n - 1))
target_at objects zero within some = absurd (some refl)
target_at objects (suc n) within some =
    let inside : n < objects = omega arith in
    slice_get-map Obj (range_with_len 0 objects) n ∙ ap (option_map Obj) (slice_get-range 0 objects n inside) ∙ ap (λ k. Some (Obj k)) (omega arith)

pub length-links : (u : Parts) → length (links_of u) ≡ count_by (λ d. is_class_kind d.kind) u.fields
length-links u = count_at (λ d. is_class_kind d.kind) u.fields

pub length-targets : (objects : ℕ) → length (targets objects) ≡ objects + 1
length-targets objects = omega (arith, length-map (range_with_len 0 objects) Obj, length-range_with_len 0 objects)

-- the tuples of one root, and of one field
length-root : (objects r : ℕ) → length (map (Root r) (targets objects)) ≡ objects + 1
length-root objects r = length-map (targets objects) (Root r) ∙ length-targets objects

length-cell : (objects f o : ℕ) → length (map (Field f o) (targets objects)) ≡ objects + 1
length-cell objects f o = length-map (targets objects) (Field f o) ∙ length-targets objects

length-field : (objects f : ℕ) → length (flat_map (λ o. map (Field f o) (targets objects)) (range_with_len 0 objects)) ≡ objects * (objects + 1)
length-field objects f =
    length-each (λ o. map (Field f o) (targets objects)) (objects + 1) (range_with_len 0 objects) (length-cell objects f) ∙ ap (λ n. n * (objects + 1)) (length-range_with_len 0 objects)

length-root_tuples : (p : Posed) (m : MethodDef) → method_of p ≡ Some m → length (root_tuples p) ≡ length (roots_of m) * (p.scope.objects + 1)
length-root_tuples p m there =
    length-each (λ r. map (Root r) (targets p.scope.objects)) (p.scope.objects + 1) (option_map_or roots_of (method_of p) []) (length-root p.scope.objects) ∙ ap (λ o. length (option_map_or roots_of o []) * (p.scope.objects + 1)) there

length-field_tuples : (p : Posed) → length (field_tuples p) ≡ length (links_of p.unit) * (p.scope.objects * (p.scope.objects + 1))
length-field_tuples p =
    length-each (λ f. flat_map (λ o. map (Field f o) (targets p.scope.objects)) (range_with_len 0 p.scope.objects)) (p.scope.objects * (p.scope.objects + 1)) (links_of p.unit) (length-field p.scope.objects)

pub length-tuples : (p : Posed) (m : MethodDef) → method_of p ≡ Some m → length (tuples p) ≡ (length (roots_of m) + length (links_of p.unit) * p.scope.objects) * (p.scope.objects + 1)
length-tuples p m there =
    length-append (root_tuples p) (field_tuples p) ∙ (grind (arith, length-root_tuples p m there, length-field_tuples p))

inside_targets : (objects j : ℕ) (v : Value) → slice_get (targets objects) j ≡ Some v → j < objects + 1
inside_targets objects j v there = omega (arith, slice_get_within (targets objects) j v there, length-targets objects)

-- the tuple of a root and a value
pub root_tuple_at : (objects : ℕ) (roots : List ℕ) (i j r : ℕ) (v : Value) → slice_get roots i ≡ Some r → slice_get (targets objects) j ≡ Some v → slice_get (flat_map (λ q. map (Root q) (targets objects)) roots) (i * (objects + 1) + j) ≡ Some (Root r v)
root_tuple_at objects roots i j r v there value =
    slice_get-each (λ q. map (Root q) (targets objects)) (objects + 1) roots (length-root objects) i j r there (inside_targets objects j v value) ∙ slice_get-map (Root r) (targets objects) j ∙ ap (option_map (Root r)) value

row_within : (n o j : ℕ) → o < n → j < n + 1 → o * (n + 1) + j < n * (n + 1)
row_within n o j inside below = grind (arith, mul-le-mul_right (n + 1) (next inside))
  where
    next : o < n → o + 1 ≤ n
    next h = omega arith

-- the tuple of a field, an object and a value
pub field_tuple_at : (objects : ℕ) (links : List ℕ) (i o j f : ℕ) (v : Value) → slice_get links i ≡ Some f → o < objects → slice_get (targets objects) j ≡ Some v → slice_get (flat_map (λ g. flat_map (λ q. map (Field g q) (targets objects)) (range_with_len 0 objects)) links) (i * (objects * (objects + 1)) + (o * (objects + 1) + j)) ≡ Some (Field f o v)
field_tuple_at objects links i o j f v there inside value =
    let object : slice_get (range_with_len 0 objects) o ≡ Some o = slice_get-range 0 objects o inside ∙ ap Some (omega arith) in
    let below : j < objects + 1 = inside_targets objects j v value in
    slice_get-each (λ g. flat_map (λ q. map (Field g q) (targets objects)) (range_with_len 0 objects)) (objects * (objects + 1)) links (length-field objects) i (o * (objects + 1) + j) f there (row_within objects o j inside below) ∙ slice_get-each (λ q. map (Field f q) (targets objects)) (objects + 1) (range_with_len 0 objects) (length-cell objects f) o j o object below ∙ slice_get-map (Field f o) (targets objects) j ∙ ap (option_map (Field f o)) value

-- ## by quotient and remainder

joined : (n m : ℕ) → n / m * m + n % m ≡ n
joined n m = omega (arith, div-add-mod n m, mul_comm m (n / m))

pub root_tuple_is : (objects : ℕ) (roots : List ℕ) (at r : ℕ) (v : Value) → slice_get roots (at / (objects + 1)) ≡ Some r → slice_get (targets objects) (at % (objects + 1)) ≡ Some v → slice_get (tuples_of_roots objects roots) at ≡ Some (Root r v)
root_tuple_is objects roots at r v there value =
    subst (λ n. slice_get (tuples_of_roots objects roots) n ≡ Some (Root r v)) (joined at (objects + 1)) (root_tuple_at objects roots (at / (objects + 1)) (at % (objects + 1)) r v there value)

pub field_tuple_is : (objects : ℕ) (links : List ℕ) (at f : ℕ) (v : Value) → 1 ≤ objects → slice_get links (at / (objects * (objects + 1))) ≡ Some f → slice_get (targets objects) (at % (objects * (objects + 1)) % (objects + 1)) ≡ Some v → slice_get (tuples_of_links objects links) at ≡ Some (Field f (at % (objects * (objects + 1)) / (objects + 1)) v)
field_tuple_is objects links at f v some there value =
    let each = objects * (objects + 1) in
    let rest = at % (objects * (objects + 1)) in
    let positive : 0 < objects * (objects + 1) = grind (arith, mul-le-mul_right (objects + 1) some) in
    let below : at % (objects * (objects + 1)) < objects * (objects + 1) = omega (arith, mod-lt at positive) in
    let inside : rest / (objects + 1) < objects = (div-lt_iff_lt-mul {k = objects + 1} {x = rest} {y = objects} (omega arith)).1 below in
    let row : rest / (objects + 1) * (objects + 1) + rest % (objects + 1) ≡ rest = joined rest (objects + 1) in
    let whole : at / each * each + rest ≡ at = joined at each in
    subst (λ n. slice_get (tuples_of_links objects links) n ≡ Some (Field f (rest / (objects + 1)) v)) (ap (λ k. at / each * each + k) row ∙ whole)
    (field_tuple_at objects links (at / each) (rest / (objects + 1)) (rest % (objects + 1)) f v there inside value)

-- a place within the list of links is a link's
pub link_there : (objects at : ℕ) (links : List ℕ) → 1 ≤ objects → at < length links * (objects * (objects + 1)) → slice_get links (at / (objects * (objects + 1))) ≡ None → ⊥
link_there objects at links some within none =
    let positive : 0 < objects * (objects + 1) = grind (arith, mul-le-mul_right (objects + 1) some) in
    let inside : at / (objects * (objects + 1)) < length links = (div-lt_iff_lt-mul {k = objects * (objects + 1)} {x = at} {y = length links} positive).1 within in
    let there : slice_get links (at / (objects * (objects + 1))) ≡ Some (get_or links (at / (objects * (objects + 1))) 0) = slice_get-get_or links (at / (objects * (objects + 1))) 0 inside in
    cc

-- ## the roots' tuples, then the fields'

pub tuple_left : (p : Posed) (m : MethodDef) (at : ℕ) (t : Tuple) → method_of p ≡ Some m → at < length (roots_of m) * (p.scope.objects + 1) → slice_get (tuples_of_roots p.scope.objects (roots_of m)) at ≡ Some t → slice_get (tuples p) at ≡ Some t
tuple_left p m at t there within is =
    let inside : at < length (root_tuples p) = omega (arith, length-root_tuples p m there) in
    let same : root_tuples p ≡ tuples_of_roots p.scope.objects (roots_of m) =
    ap (λ o. tuples_of_roots p.scope.objects (option_map_or roots_of o [])) there
    in
    slice_get-append_left (root_tuples p) (field_tuples p) at inside ∙ ap (λ ts. slice_get ts at) same ∙ is

pub tuple_right : (p : Posed) (m : MethodDef) (at : ℕ) (t : Tuple) → method_of p ≡ Some m → length (roots_of m) * (p.scope.objects + 1) ≤ at → slice_get (field_tuples p) (at - length (roots_of m) * (p.scope.objects + 1)) ≡ Some t → slice_get (tuples p) at ≡ Some t
tuple_right p m at t there behind is =
    let place : at ≡ length (root_tuples p) + (at - length (roots_of m) * (p.scope.objects + 1)) = omega (arith, length-root_tuples p m there) in
    ap (slice_get (tuples p)) place ∙ slice_get-append_right (root_tuples p) (field_tuples p) (at - length (roots_of m) * (p.scope.objects + 1)) ∙ is

pub right_within : (p : Posed) (m : MethodDef) (at : ℕ) → method_of p ≡ Some m → at < length (tuples p) → length (roots_of m) * (p.scope.objects + 1) ≤ at → at - length (roots_of m) * (p.scope.objects + 1) < length (links_of p.unit) * (p.scope.objects * (p.scope.objects + 1))
right_within p m at there within behind =
    let whole : length (tuples p) ≡ length (root_tuples p) + length (field_tuples p) = length-append (root_tuples p) (field_tuples p) in
    omega (arith, whole, length-root_tuples p m there, length-field_tuples p)
