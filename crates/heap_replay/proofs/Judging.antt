-- The steps of a judgement.
use Rattle.std.proofs.Common.{◌≡◌, ℕ, suc, ◌+◌, ◌-◌, ◌≤◌, ◌<◌, Bool, true, false, List, [], ◌∷◌, ◌++◌, map, length, flat_map, Option, Some, None, refl, ap, ◌∙◌, arith}
use Rattle.std.proofs.lemmas.List.{length-map}
use Rattle.std.specs.Prelude.{if◌then◌else◌, filter, filter_map, is_some, option_map, slice_get}
use Rattle.std.specs.List.{enumerate_from, list_any, range_with_len}
use Rattle.std.specs.Option.{option_map_or}
use Rattle.taco_unit.specs.declared.unit.Clause.{Clause}
use Rattle.taco_unit.specs.declared.unit.ClassDef.{ClassDef}
use Rattle.taco_unit.specs.declared.unit.MethodDef.{MethodDef}
use Rattle.taco_unit.specs.Well.{IsWell}
use Rattle.heap_core.specs.declared.value.Value.{Value}
use Rattle.heap_core.specs.declared.value.Object.{Object}
use Rattle.heap_core.specs.declared.value.Seen.{Seen}
use Rattle.heap_core.specs.declared.judged.Part.{Part}
use Rattle.heap_core.specs.declared.judged.Part.TheVariants as part
use Rattle.heap_core.specs.declared.start.Start.{Start}
use Rattle.heap_core.specs.Heap.{Heap}
use Rattle.heap_core.specs.Outcomes.{is_true}
use Rattle.heap_core.specs.Posed.{Posed}
use Rattle.heap_core.specs.Eval.{eval}
use Rattle.heap_core.specs.Start.{method_of}
use Rattle.heap_core.specs.Judge.{numbers_of, not_true, values_of, invariant_env, exit_env, invariants_of, invariants_at, missing_at, broken_at, lacks_result, gives_of}
use Rattle.heap_replay.specs.Firsts.{first, parts_of, untrue_from}

-- a range begins with its first number
pub range_begins : (i n : ℕ) → i < n → range_with_len i (n - i) ≡ i ∷ range_with_len (i + 1) (n - (i + 1))
range_begins i n less =
    let one : n - i ≡ suc (n - (i + 1)) = omega (arith, less) in
    ap (range_with_len i) one

-- the first of two lists, one behind the other
pub first_in_front : {A : Type 0} (xs ys : List A) (x : A) → first xs ≡ Some x → first (xs ++ ys) ≡ Some x
first_in_front [] ys x is = absurd (cc)
first_in_front (y ∷ xs) ys x is = is

pub first_behind : {A : Type 0} (xs ys : List A) → first xs ≡ None → first (xs ++ ys) ≡ first ys
first_behind [] ys is = refl
first_behind (y ∷ xs) ys is = absurd (cc)

-- a list has an item of a kind exactly where it has a first one
pub first_of_kind : {A : Type 0} (is : A → Bool) (xs : List A) → is_some (first (filter is xs)) ≡ list_any is xs
first_of_kind is [] = refl
first_of_kind is (x ∷ xs) = by_first (is x) refl (first_of_kind is xs)
  where
    by_first : (b : Bool) → is x ≡ b → is_some (first (filter is xs)) ≡ list_any is xs → is_some (first (filter is (x ∷ xs))) ≡ list_any is (x ∷ xs)
    by_first true this rest = rw this refl
    by_first false this rest = rw this rest

-- of what is made of the items of a list, the first is made of its first
pub first_made : {A B : Type 0} (f : A → B) (xs : List A) → first (map f xs) ≡ option_map f (first xs)
first_made f [] = refl
first_made f (x ∷ xs) = refl

-- the parts of values that are not true have their numbers
abbrev named_from : ℕ → (ℕ → Part) → List Seen → List Part
named_from k named vs = filter_map (λ e. if is_true e.1 then None else Some (named e.0)) (enumerate_from k vs)

parts_named : (named : ℕ → Part) (k : ℕ) (vs : List Seen) → named_from k named vs ≡ map named (untrue_from k vs)
parts_named named k [] = refl
parts_named named k (v ∷ vs) = by_truth (is_true v) refl (parts_named named (k + 1) vs)
  where
    by_truth : (b : Bool) → is_true v ≡ b → named_from (k + 1) named vs ≡ map named (untrue_from (k + 1) vs) → named_from k named (v ∷ vs) ≡ map named (untrue_from k (v ∷ vs))
    by_truth true is rest = rw is rest
    by_truth false is rest = rw is (ap (λ l. named k ∷ l) rest)

pub first_not_true : (named : ℕ → Part) (vs : List Seen) → first (not_true named vs) ≡ option_map named (first (untrue_from 1 vs))
first_not_true named vs = ap first (parts_named named 1 vs) ∙ first_made named (untrue_from 1 vs)

-- the first broken part of an object
pub first_missing_part : (p : Posed) (heap : Heap) (o f : ℕ) → first (missing_at p heap o) ≡ Some f → first (broken_at p heap o) ≡ Some (part.NonNull o f)
first_missing_part p heap o f is =
    first_in_front (map (part.NonNull o) (missing_at p heap o)) (not_true (λ k. part.Invariant k o) (invariants_at p heap o)) (part.NonNull o f)
    (first_made (part.NonNull o) (missing_at p heap o) ∙ ap (option_map (part.NonNull o)) is)

pub first_invariant_part : (p : Posed) (heap : Heap) (o : ℕ) → first (missing_at p heap o) ≡ None
    → first (broken_at p heap o) ≡ option_map (λ k. part.Invariant k o) (first (untrue_from 1 (invariants_at p heap o)))
first_invariant_part p heap o none =
    first_behind (map (part.NonNull o) (missing_at p heap o)) (not_true (λ k. part.Invariant k o) (invariants_at p heap o))
    (first_made (part.NonNull o) (missing_at p heap o) ∙ ap (option_map (part.NonNull o)) none)
    ∙ first_not_true (λ k. part.Invariant k o) (invariants_at p heap o)

-- the first broken part of a contract
abbrev result_part : Posed → Option Value → List Part
result_part p r = if lacks_result p r then part.Result ∷ [] else []

abbrev object_parts : Posed → Heap → List Part
object_parts p heap = flat_map (broken_at p heap) (numbers_of heap)

pub first_ensures_part : (p : Posed) (gives : List Seen) (r : Option Value) (heap : Heap) (k : ℕ) → first (untrue_from 1 gives) ≡ Some k
    → first (parts_of p gives r heap) ≡ Some (part.Ensures k)
first_ensures_part p gives r heap k is =
    first_in_front (not_true part.Ensures gives ++ result_part p r) (object_parts p heap) (part.Ensures k)
    (first_in_front (not_true part.Ensures gives) (result_part p r) (part.Ensures k) (first_not_true part.Ensures gives ∙ ap (option_map part.Ensures) is))

behind_clauses : (p : Posed) (gives : List Seen) (r : Option Value) → first (untrue_from 1 gives) ≡ None → (b : Bool) → lacks_result p r ≡ b
    → first (not_true part.Ensures gives ++ result_part p r) ≡ first (if b then part.Result ∷ [] else [])
behind_clauses p gives r none b is =
    first_behind (not_true part.Ensures gives) (result_part p r) (first_not_true part.Ensures gives ∙ ap (option_map part.Ensures) none)
    ∙ ap (λ (b : Bool). first (if b then part.Result ∷ [] else [])) is

pub first_result_part : (p : Posed) (gives : List Seen) (r : Option Value) (heap : Heap) → first (untrue_from 1 gives) ≡ None → lacks_result p r ≡ true
    → first (parts_of p gives r heap) ≡ Some part.Result
first_result_part p gives r heap none lacks =
    first_in_front (not_true part.Ensures gives ++ result_part p r) (object_parts p heap) part.Result (behind_clauses p gives r none true lacks)

pub first_object_part : (p : Posed) (gives : List Seen) (r : Option Value) (heap : Heap) → first (untrue_from 1 gives) ≡ None → lacks_result p r ≡ false
    → first (parts_of p gives r heap) ≡ first (flat_map (broken_at p heap) (numbers_of heap))
first_object_part p gives r heap none there =
    first_behind (not_true part.Ensures gives ++ result_part p r) (object_parts p heap) (behind_clauses p gives r none false there)

-- an object has few invariants, and so have the values of these
clauses_few : (p : Posed) (heap : Heap) (o : ℕ) → IsWell p.unit → length (invariants_of p heap o) ≤ 255
clauses_few p heap o well = by_object (slice_get heap o)
  where
    by_class : (c : ℕ) (d : Option ClassDef) → slice_get p.unit.classes c ≡ d → length (option_map_or (λ d. d.invariants) d []) ≤ 255
    by_class c None is = omega arith
    by_class c (Some d) is = (well.classes c d is).few_invariants

    by_object : (x : Option Object) → length (option_map_or (λ x. option_map_or (λ d. d.invariants) (slice_get p.unit.classes x.class) []) x []) ≤ 255
    by_object None = omega arith
    by_object (Some x) = by_class x.class (slice_get p.unit.classes x.class) refl

pub invariants_few : (p : Posed) (heap : Heap) (o : ℕ) → IsWell p.unit → length (invariants_at p heap o) ≤ 255
invariants_few p heap o well = let few = clauses_few p heap o well in omega (arith, length-map (invariants_of p heap o) (λ (c : Clause). eval c.expr (invariant_env p heap o)), few)

-- a method has few `ensures` clauses
pub gives_few : (p : Posed) (s : Start) (r : Option Value) (heap : Heap) → IsWell p.unit → length (gives_of p s r heap) ≤ 255
gives_few p s r heap well = by_method (method_of p) refl
  where
    by_method : (m : Option MethodDef) → method_of p ≡ m → length (option_map_or (λ m. values_of (exit_env p s r heap) m.gives) m []) ≤ 255
    by_method None is = omega arith
    by_method (Some m) is =
        let few = (well.methods p.method m is).few_gives in
        omega (arith, length-map m.gives (λ (c : Clause). eval c.expr (exit_env p s r heap)), few)
