-- A clause has the same value under the new numbers.
use Rattle.std.proofs.Common.{◌≡◌, ℕ, zero, suc, ◌<◌, ◌≤◌, Bool, true, false, cond, eqb, not, ◌&&◌, ◌||◌, List, [], ◌∷◌, ◌++◌, length, map, Option, Some, None, refl, sym, ◌∙◌, ap, subst, inl, inr, arith}
use Rattle.std.specs.Prelude.{slice_get, count_by, option_map, option_and_then, ℤ, pos, ◌+ℤ◌, ◌-ℤ◌, ◌*ℤ◌, neg_ℤ, int_lt, int_le}
use Rattle.std.specs.List.{range_with_len, list_any, list_all}
use Rattle.std.specs.Option.{option_map_or}
use Rattle.std.proofs.lemmas.Bool.{cases_lt}
use Rattle.std.proofs.lemmas.List.{map-append}
use Rattle.std.proofs.lemmas.Option.{slice_get-map, slice_get_past}
use Rattle.taco_unit.specs.declared.unit.ClassDef.{ClassDef}
use Rattle.taco_unit.specs.declared.expr.Op.{Op}
use Rattle.taco_unit.specs.declared.expr.Op.TheVariants as op
use Rattle.taco_unit.specs.declared.expr.Expr.{Expr, ind-Expr, roll-Expr, map-Expr}
use Rattle.taco_unit.specs.declared.expr.Expr.TheOpen.{Expr-F, Quant-F, Reach-F}
use Rattle.taco_unit.specs.declared.expr.Quant.{Quant, out-Quant, map-Quant}
use Rattle.taco_unit.specs.declared.expr.Reach.{Reach, out-Reach, map-Reach}
use Rattle.taco_unit.specs.declared.expr.Call.{Call}
use Rattle.taco_unit.specs.declared.expr.Expr.TheVariants as e
use Rattle.heap_core.specs.declared.value.Value.{Value}
use Rattle.heap_core.specs.declared.value.Value.TheVariants.{Null, Obj, Num, Flag}
use Rattle.heap_core.specs.declared.value.Object.{Object}
use Rattle.heap_core.specs.declared.value.Seen.{Seen}
use Rattle.heap_core.specs.declared.value.Seen.TheVariants.{Is, Bad, Out}
use Rattle.heap_core.specs.Outcomes.{number, flag, value_in, with_value, with_flag, as_flag, opposite, negative, operated, in_bits, same, equivalent, on_numbers, is_out, is_bad, is_true, is_object, gives_object}
use Rattle.heap_core.specs.Heap.{Heap, is_of, field, cell, cell_of, place_of}
use Rattle.heap_core.specs.Closure.{Graph, widened, rounds, closure}
use Rattle.heap_core.specs.Eval.{Env, eval, binary, before, bind, over, instance_of, points, reached, holds, has, size}
use Rattle.heap_core.proofs.EvalForms.{eval_num, eval_flag, eval_null, eval_this, eval_result, eval_local, eval_bound, eval_read, eval_neg, eval_not, eval_bin, eval_quant, eval_old, eval_has, eval_size, eval_new, eval_call}
use Rattle.heap_symmetry.specs.Renaming.{IsNaming, value_as, object_as, seen_as, IsRenamed}
use Rattle.heap_symmetry.proofs.Names.{Within, same_name, any_same, all_same, count_same}

-- ## heaps

lacks : (n : ℕ → ℕ) (h : Heap) (o : ℕ) → o < length h → None ≡ option_map (object_as n) (slice_get h o) → ⊥
lacks n [] o inside none = omega (arith, inside)
lacks n (x ∷ h) zero inside none = cc
lacks n (x ∷ h) (suc o) inside none = lacks n h o (omega (arith, inside)) none

-- an object of the heap has a number of the other
pub inside_named : {n : ℕ → ℕ} {h j : Heap} → IsRenamed n h j → (o : ℕ) → o < length h → n o < length j
inside_named {n} {h} {j} is o inside = elim (cases_lt (n o) (length j)) [
  | inl fine ↦ fine
  | inr past ↦ absurd (lacks n h o inside (sym (slice_get_past j (n o) past) ∙ is.objects o))
]

-- the numbers below k, where the heap has at most k objects
pub named_within : {n m : ℕ → ℕ} {h j : Heap} (naming : IsNaming n m) → IsRenamed n h j → (k : ℕ) → length h ≤ k → Within k n m
named_within {n} {m} {h} {j} naming is k few = record {
  naming = naming;
  there = λ o low. elim (cases_lt o (length h)) [
    | inl inside ↦ omega (arith, inside_named is o inside, is.as_many, few)
    | inr past ↦ omega (arith, is.past o past, low)
  ];
  back = λ o low. elim (cases_lt (m o) (length h)) [
    | inl inside ↦ omega (arith, inside, few)
    | inr past ↦ omega (arith, is.past (m o) past, naming.there o, low)
  ];
}

cell_as : (n : ℕ → ℕ) (classes : List ClassDef) (f : ℕ) (x : Object) → value_in (cell classes f (object_as n x)) ≡ seen_as n (value_in (cell classes f x))
cell_as n classes f x = go (place_of classes x.class f)
  where
    in_value : (v : Option Value) → value_in (option_map (value_as n) v) ≡ seen_as n (value_in v)
    in_value None = refl
    in_value (Some v) = refl

    go : (place : Option ℕ) → value_in (option_and_then (λ i. slice_get (map (value_as n) x.cells) i) place) ≡ seen_as n (value_in (option_and_then (λ i. slice_get x.cells i) place))
    go None = refl
    go (Some i) = ap value_in (slice_get-map (value_as n) x.cells i) ∙ in_value (slice_get x.cells i)

found_as : (n : ℕ → ℕ) (classes : List ClassDef) (f : ℕ) (x : Option Object) → cell_of classes f (option_map (object_as n) x) ≡ seen_as n (cell_of classes f x)
found_as n classes f None = refl
found_as n classes f (Some x) = cell_as n classes f x

pub field_as : {n : ℕ → ℕ} {h j : Heap} → IsRenamed n h j → (classes : List ClassDef) (f : ℕ) (v : Value) → field classes j f (value_as n v) ≡ seen_as n (field classes h f v)
field_as {n} {h} is classes f (Obj o) = ap (cell_of classes f) (is.objects o) ∙ found_as n classes f (slice_get h o)
field_as is classes f Null = refl
field_as is classes f (Num z) = refl
field_as is classes f (Flag b) = refl

pub class_as : {n : ℕ → ℕ} {h j : Heap} → IsRenamed n h j → (c o : ℕ) → is_of j c (n o) ≡ is_of h c o
class_as {n} {h} is c o = ap (λ x. option_map_or (λ (y : Object). eqb y.class c) x false) (is.objects o) ∙ go (slice_get h o)
  where
    go : (x : Option Object) → option_map_or (λ (y : Object). eqb y.class c) (option_map (object_as n) x) false ≡ option_map_or (λ (y : Object). eqb y.class c) x false
    go None = refl
    go (Some x) = refl

pub gives_as : {n m : ℕ → ℕ} → IsNaming n m → (o : ℕ) (s : Seen) → gives_object (n o) (seen_as n s) ≡ gives_object o s
gives_as naming o (Is (Obj p)) = same_name naming o p
gives_as naming o (Is Null) = refl
gives_as naming o (Is (Num z)) = refl
gives_as naming o (Is (Flag b)) = refl
gives_as naming o Bad = refl
gives_as naming o Out = refl

-- ## environments

-- b is a under the new numbers
pub record IsRenamedEnv (n m : ℕ → ℕ) (a b : Env) : Type 0 where
  pub naming : IsNaming n m
  pub few : length a.heap ≤ a.objects
  pub classes : b.classes ≡ a.classes
  pub objects : b.objects ≡ a.objects
  pub ints : b.ints ≡ a.ints
  pub this : b.this ≡ value_as n a.this
  pub locals : b.locals ≡ map (value_as n) a.locals
  pub bound : b.bound ≡ map (value_as n) a.bound
  pub result : b.result ≡ option_map (value_as n) a.result
  pub heap : IsRenamed n a.heap b.heap
  pub heap_before : IsRenamed n a.heap_before b.heap_before
  pub few_before : length a.heap_before ≤ a.objects

pub within_env : {n m : ℕ → ℕ} {a b : Env} → IsRenamedEnv n m a b → Within a.objects n m
within_env {n} {m} {a} {b} is = named_within is.naming is.heap a.objects is.few

before_as : {n m : ℕ → ℕ} {a b : Env} → IsRenamedEnv n m a b → IsRenamedEnv n m (before a) (before b)
before_as is = record {
  naming = is.naming;
  few = is.few_before;
  classes = is.classes;
  objects = is.objects;
  ints = is.ints;
  this = is.this;
  locals = is.locals;
  bound = is.bound;
  result = is.result;
  heap = is.heap_before;
  heap_before = is.heap_before;
  few_before = is.few_before;
}

bind_as : {n m : ℕ → ℕ} {a b : Env} → IsRenamedEnv n m a b → (o : ℕ) → IsRenamedEnv n m (bind a o) (bind b (n o))
bind_as {n} {m} {a} {b} is o = record {
  naming = is.naming;
  few = is.few;
  classes = is.classes;
  objects = is.objects;
  ints = is.ints;
  this = is.this;
  locals = is.locals;
  bound = ap (λ vs. vs ++ Obj (n o) ∷ []) is.bound ∙ sym (map-append (value_as n) a.bound (Obj o ∷ []));
  result = is.result;
  heap = is.heap;
  heap_before = is.heap_before;
  few_before = is.few_before;
}

-- ## what is made of values

pub number_as : (n : ℕ → ℕ) (w : ℕ) (z : ℤ) → number w z ≡ seen_as n (number w z)
number_as n w z = go (in_bits w z)
  where
    go : (b : Bool) → cond b (Is (Num z)) Out ≡ seen_as n (cond b (Is (Num z)) Out)
    go true = refl
    go false = refl

with_value_as : (n : ℕ → ℕ) (s : Seen) (j k : Value → Seen) → ((v : Value) → k (value_as n v) ≡ seen_as n (j v)) → with_value (seen_as n s) k ≡ seen_as n (with_value s j)
with_value_as n (Is v) j k same = same v
with_value_as n Bad j k same = refl
with_value_as n Out j k same = refl

value_in_as : (n : ℕ → ℕ) (v : Option Value) → value_in (option_map (value_as n) v) ≡ seen_as n (value_in v)
value_in_as n None = refl
value_in_as n (Some v) = refl

pub negative_as : (n : ℕ → ℕ) (w : ℕ) (v : Value) → negative w (value_as n v) ≡ seen_as n (negative w v)
negative_as n w (Num z) = number_as n w (neg_ℤ z)
negative_as n w Null = refl
negative_as n w (Obj o) = refl
negative_as n w (Flag b) = refl

pub opposite_as : (n : ℕ → ℕ) (v : Value) → opposite (value_as n v) ≡ seen_as n (opposite v)
opposite_as n (Num z) = refl
opposite_as n Null = refl
opposite_as n (Obj o) = refl
opposite_as n (Flag b) = refl

same_as : {n m : ℕ → ℕ} → IsNaming n m → (v u : Value) → same (value_as n v) (value_as n u) ≡ seen_as n (same v u)
same_as naming (Obj o) (Obj p) = ap flag (same_name naming o p)
same_as naming (Obj o) Null = refl
same_as naming (Obj o) (Num z) = refl
same_as naming (Obj o) (Flag b) = refl
same_as naming Null (Obj o) = refl
same_as naming Null Null = refl
same_as naming Null (Num z) = refl
same_as naming Null (Flag b) = refl
same_as naming (Num z) (Obj o) = refl
same_as naming (Num z) Null = refl
same_as naming (Num z) (Num y) = refl
same_as naming (Num z) (Flag b) = refl
same_as naming (Flag b) (Obj o) = refl
same_as naming (Flag b) Null = refl
same_as naming (Flag b) (Num z) = refl
same_as naming (Flag b) (Flag c) = refl

-- an operator of numbers
record KeepsNumbers (n : ℕ → ℕ) (k : ℤ → ℤ → Seen) : Type 0 where
  keeps : (x y : ℤ) → k x y ≡ seen_as n (k x y)

on_numbers_as : (n : ℕ → ℕ) (k : ℤ → ℤ → Seen) → KeepsNumbers n k → (v u : Value) → on_numbers k (value_as n v) (value_as n u) ≡ seen_as n (on_numbers k v u)
on_numbers_as n k keeps (Num x) (Num y) = keeps.keeps x y
on_numbers_as n k keeps (Num x) Null = refl
on_numbers_as n k keeps (Num x) (Obj o) = refl
on_numbers_as n k keeps (Num x) (Flag b) = refl
on_numbers_as n k keeps Null u = refl
on_numbers_as n k keeps (Obj o) u = refl
on_numbers_as n k keeps (Flag b) u = refl

equivalent_as : (n : ℕ → ℕ) (v u : Value) → equivalent (value_as n v) (value_as n u) ≡ seen_as n (equivalent v u)
equivalent_as n (Flag b) (Flag c) = refl
equivalent_as n (Flag b) Null = refl
equivalent_as n (Flag b) (Obj o) = refl
equivalent_as n (Flag b) (Num z) = refl
equivalent_as n Null u = refl
equivalent_as n (Obj o) u = refl
equivalent_as n (Num z) u = refl

pub operated_as : {n m : ℕ → ℕ} → IsNaming n m → (o : Op) (w : ℕ) (v u : Value) → operated o w (value_as n v) (value_as n u) ≡ seen_as n (operated o w v u)
operated_as {n} naming op.Add w v u = on_numbers_as n (λ x y. number w (x +ℤ y)) (record { keeps = λ x y. number_as n w (x +ℤ y) }) v u
operated_as {n} naming op.Sub w v u = on_numbers_as n (λ x y. number w (x -ℤ y)) (record { keeps = λ x y. number_as n w (x -ℤ y) }) v u
operated_as {n} naming op.Mul w v u = on_numbers_as n (λ x y. number w (x *ℤ y)) (record { keeps = λ x y. number_as n w (x *ℤ y) }) v u
operated_as naming op.Eq w v u = same_as naming v u
operated_as {n} naming op.Ne w v u =
    ap (λ s. with_value s opposite) (same_as naming v u) ∙ with_value_as n (same v u) opposite opposite (opposite_as n)
operated_as {n} naming op.Lt w v u = on_numbers_as n (λ x y. flag (int_lt x y)) (record { keeps = λ x y. refl }) v u
operated_as {n} naming op.Le w v u = on_numbers_as n (λ x y. flag (int_le x y)) (record { keeps = λ x y. refl }) v u
operated_as {n} naming op.Gt w v u = on_numbers_as n (λ x y. flag (int_lt y x)) (record { keeps = λ x y. refl }) v u
operated_as {n} naming op.Ge w v u = on_numbers_as n (λ x y. flag (int_le y x)) (record { keeps = λ x y. refl }) v u
operated_as {n} naming op.Iff w v u = equivalent_as n v u
operated_as naming op.And w v u = refl
operated_as naming op.Or w v u = refl
operated_as naming op.Implies w v u = refl

as_flag_as : (n : ℕ → ℕ) (s : Seen) → as_flag (seen_as n s) ≡ seen_as n (as_flag s)
as_flag_as n (Is Null) = refl
as_flag_as n (Is (Obj o)) = refl
as_flag_as n (Is (Num z)) = refl
as_flag_as n (Is (Flag b)) = refl
as_flag_as n Bad = refl
as_flag_as n Out = refl

-- on from a truth value
with_flag_as : (n : ℕ → ℕ) (s : Seen) (j k : Bool → Seen) → ((b : Bool) → k b ≡ seen_as n (j b)) → with_flag (seen_as n s) k ≡ seen_as n (with_flag s j)
with_flag_as n (Is Null) j k same = refl
with_flag_as n (Is (Obj o)) j k same = refl
with_flag_as n (Is (Num z)) j k same = refl
with_flag_as n (Is (Flag b)) j k same = same b
with_flag_as n Bad j k same = refl
with_flag_as n Out j k same = refl

either_as : (n : ℕ → ℕ) (s t : Seen) (b : Bool) → cond b (seen_as n s) (seen_as n t) ≡ seen_as n (cond b s t)
either_as n s t true = refl
either_as n s t false = refl

both_as : {n m : ℕ → ℕ} → IsNaming n m → (o : Op) (w : ℕ) (s t : Seen) → with_value (seen_as n s) (λ x. with_value (seen_as n t) (operated o w x)) ≡ seen_as n (with_value s (λ x. with_value t (operated o w x)))
both_as {n} naming o w s t =
    with_value_as n s (λ x. with_value t (operated o w x)) (λ x. with_value (seen_as n t) (operated o w x)) (λ v. with_value_as n t (operated o w v) (operated o w (value_as n v)) (operated_as naming o w v))

pub binary_as : {n m : ℕ → ℕ} → IsNaming n m → (o : Op) (w : ℕ) (s t : Seen) → binary o w (seen_as n s) (seen_as n t) ≡ seen_as n (binary o w s t)
binary_as {n} naming op.And w s t = with_flag_as n s (λ x. cond x (as_flag t) (flag false)) (λ x. cond x (as_flag (seen_as n t)) (flag false)) (λ x. ap (λ z. cond x z (flag false)) (as_flag_as n t) ∙ either_as n (as_flag t) (flag false) x)
binary_as {n} naming op.Or w s t = with_flag_as n s (λ x. cond x (flag true) (as_flag t)) (λ x. cond x (flag true) (as_flag (seen_as n t))) (λ x. ap (cond x (flag true)) (as_flag_as n t) ∙ either_as n (flag true) (as_flag t) x)
binary_as {n} naming op.Implies w s t = with_flag_as n s (λ x. cond x (as_flag t) (flag true)) (λ x. cond x (as_flag (seen_as n t)) (flag true)) (λ x. ap (λ z. cond x z (flag true)) (as_flag_as n t) ∙ either_as n (as_flag t) (flag true) x)
binary_as naming op.Add w s t = both_as naming op.Add w s t
binary_as naming op.Sub w s t = both_as naming op.Sub w s t
binary_as naming op.Mul w s t = both_as naming op.Mul w s t
binary_as naming op.Eq w s t = both_as naming op.Eq w s t
binary_as naming op.Ne w s t = both_as naming op.Ne w s t
binary_as naming op.Lt w s t = both_as naming op.Lt w s t
binary_as naming op.Le w s t = both_as naming op.Le w s t
binary_as naming op.Gt w s t = both_as naming op.Gt w s t
binary_as naming op.Ge w s t = both_as naming op.Ge w s t
binary_as naming op.Iff w s t = both_as naming op.Iff w s t

-- ## quantifiers

pub out_as : (n : ℕ → ℕ) (s : Seen) → is_out (seen_as n s) ≡ is_out s
out_as n (Is v) = refl
out_as n Bad = refl
out_as n Out = refl

bad_as : (n : ℕ → ℕ) (s : Seen) → is_bad (seen_as n s) ≡ is_bad s
bad_as n (Is v) = refl
bad_as n Bad = refl
bad_as n Out = refl

pub true_as : (n : ℕ → ℕ) (s : Seen) → is_true (seen_as n s) ≡ is_true s
true_as n (Is Null) = refl
true_as n (Is (Obj o)) = refl
true_as n (Is (Num z)) = refl
true_as n (Is (Flag b)) = refl
true_as n Bad = refl
true_as n Out = refl

flagged : (n : ℕ → ℕ) (b : Bool) → flag b ≡ seen_as n (flag b)
flagged n b = refl

chosen_as : (n : ℕ → ℕ) (b c : Bool) (all : Bool) (d e : Bool) → cond b Out (cond c Bad (cond all (flag d) (flag e))) ≡ seen_as n (cond b Out (cond c Bad (cond all (flag d) (flag e))))
chosen_as n true c all d e = refl
chosen_as n false true all d e = refl
chosen_as n false false true d e = refl
chosen_as n false false false d e = refl

over_as : {n m : ℕ → ℕ} (k : ℕ) → Within k n m → (all : Bool) (domain domain' : ℕ → Bool) (instance instance' : ℕ → Seen) → ((o : ℕ) → domain' (n o) ≡ domain o) → ((o : ℕ) → instance' (n o) ≡ seen_as n (instance o)) → over all domain' instance' k ≡ seen_as n (over all domain instance k)
over_as {n} k w all domain domain' instance instance' there alike =
    let outs = any_same w (λ o. domain o && is_out (instance o)) (λ o. domain' o && is_out (instance' o)) (λ o. rw (there o, alike o, out_as n (instance o)) refl) in
    let bads = any_same w (λ o. domain o && is_bad (instance o)) (λ o. domain' o && is_bad (instance' o)) (λ o. rw (there o, alike o, bad_as n (instance o)) refl) in
    let alls = all_same w (λ o. not (domain o) || is_true (instance o)) (λ o. not (domain' o) || is_true (instance' o)) (λ o. rw (there o, alike o, true_as n (instance o)) refl) in
    let anys = any_same w (λ o. domain o && is_true (instance o)) (λ o. domain' o && is_true (instance' o)) (λ o. rw (there o, alike o, true_as n (instance o)) refl) in
    rw (outs, bads, alls, anys) (chosen_as n (list_any (λ o. domain o && is_out (instance o)) (range_with_len 0 k)) (list_any (λ o. domain o && is_bad (instance o)) (range_with_len 0 k)) all (list_all (λ o. not (domain o) || is_true (instance o)) (range_with_len 0 k)) (list_any (λ o. domain o && is_true (instance o)) (range_with_len 0 k)))

-- ## `\reach`

points_as : {n m : ℕ → ℕ} {a b : Env} → IsRenamedEnv n m a b → (fields : List ℕ) (p o : ℕ) → points b fields (n p) (n o) ≡ points a fields p o
points_as is [] p o = refl
points_as {n} {m} {a} {b} is (f ∷ fields) p o =
    let here : gives_object (n o) (field b.classes b.heap f (Obj (n p))) ≡ gives_object o (field a.classes a.heap f (Obj p)) =
    ap (λ c. gives_object (n o) (field c b.heap f (Obj (n p)))) is.classes ∙ ap (gives_object (n o)) (field_as is.heap a.classes f (Obj p)) ∙ gives_as is.naming o (field a.classes a.heap f (Obj p))
    in
    rw (here, points_as is fields p o) refl

-- the rounds from a set in a graph, under the new numbers
widened_as : {n m : ℕ → ℕ} {k : ℕ} → Within k n m → (edge edge' : Graph) → ((p o : ℕ) → edge' (n p) (n o) ≡ edge p o) → (set set' : ℕ → Bool) → ((o : ℕ) → set' (n o) ≡ set o) → (o : ℕ) → widened edge' k set' (n o) ≡ widened edge k set o
widened_as {n} {m} {k} w edge edge' edges set set' alike o =
    let around : list_any (λ p. set' p && edge' p (n o)) (range_with_len 0 k) ≡ list_any (λ p. set p && edge p o) (range_with_len 0 k) =
    any_same w (λ p. set p && edge p o) (λ p. set' p && edge' p (n o)) (λ p. rw (alike p, edges p o) refl)
    in
    rw (alike o, around) refl

rounds_as : {n m : ℕ → ℕ} {k : ℕ} → Within k n m → (edge edge' : Graph) → ((p o : ℕ) → edge' (n p) (n o) ≡ edge p o) → (turns : ℕ) (set set' : ℕ → Bool) → ((o : ℕ) → set' (n o) ≡ set o) → (o : ℕ) → rounds turns edge' k set' (n o) ≡ rounds turns edge k set o
rounds_as w edge edge' edges zero set set' alike o = alike o
rounds_as {n} {m} {k} w edge edge' edges (suc turns) set set' alike o =
    widened_as w edge edge' edges (rounds turns edge k set) (rounds turns edge' k set') (rounds_as w edge edge' edges turns set set' alike) o

pub object_named : {n m : ℕ → ℕ} → IsNaming n m → (o : ℕ) (v : Value) → is_object (n o) (value_as n v) ≡ is_object o v
object_named naming o (Obj p) = same_name naming o p
object_named naming o Null = refl
object_named naming o (Num z) = refl
object_named naming o (Flag b) = refl

pub reached_as : {n m : ℕ → ℕ} {a b : Env} → IsRenamedEnv n m a b → (fields : List ℕ) (v : Value) (o : ℕ) → reached b fields (value_as n v) (n o) ≡ reached a fields v o
reached_as {n} {m} {a} {b} is fields v o =
    ap (λ k. closure (points b fields) k (λ q. is_object q (value_as n v)) (n o)) is.objects ∙ rounds_as (within_env is) (points a fields) (points b fields) (points_as is fields) a.objects (λ q. is_object q v) (λ q. is_object q (value_as n v)) (λ q. object_named is.naming q v) o

holds_as : (n : ℕ → ℕ) (set set' : ℕ → Bool) → ((o : ℕ) → set' (n o) ≡ set o) → (x : Value) → holds set' (value_as n x) ≡ seen_as n (holds set x)
holds_as n set set' alike (Obj o) = ap flag (alike o)
holds_as n set set' alike Null = refl
holds_as n set set' alike (Num z) = refl
holds_as n set set' alike (Flag b) = refl

has_as : {n m : ℕ → ℕ} {a b : Env} → IsRenamedEnv n m a b → (fields : List ℕ) (v x : Value) → has b fields (value_as n v) (value_as n x) ≡ seen_as n (has a fields v x)
has_as {n} {m} {a} {b} is fields (Obj o) x = holds_as n (reached a fields (Obj o)) (reached b fields (Obj (n o))) (reached_as is fields (Obj o)) x
has_as {n} {m} {a} {b} is fields Null x = holds_as n (reached a fields Null) (reached b fields Null) (reached_as is fields Null) x
has_as is fields (Num z) x = refl
has_as is fields (Flag c) x = refl

counted_as : {n m : ℕ → ℕ} {a b : Env} → IsRenamedEnv n m a b → (fields : List ℕ) (v : Value) → number b.ints (pos (count_by (reached b fields (value_as n v)) (range_with_len 0 b.objects))) ≡ seen_as n (number a.ints (pos (count_by (reached a fields v) (range_with_len 0 a.objects))))
counted_as {n} {m} {a} {b} is fields v =
    let count : count_by (reached b fields (value_as n v)) (range_with_len 0 b.objects) ≡ count_by (reached a fields v) (range_with_len 0 a.objects) =
    ap (λ k. count_by (reached b fields (value_as n v)) (range_with_len 0 k)) is.objects ∙ count_same (within_env is) (reached a fields v) (reached b fields (value_as n v)) (reached_as is fields v)
    in
    ap (λ w. number w (pos (count_by (reached b fields (value_as n v)) (range_with_len 0 b.objects)))) is.ints ∙ ap (λ c. number a.ints (pos c)) count ∙ number_as n a.ints (pos (count_by (reached a fields v) (range_with_len 0 a.objects)))

size_as : {n m : ℕ → ℕ} {a b : Env} → IsRenamedEnv n m a b → (fields : List ℕ) (v : Value) → size b fields (value_as n v) ≡ seen_as n (size a fields v)
size_as is fields (Obj o) = counted_as is fields (Obj o)
size_as is fields Null = counted_as is fields Null
size_as is fields (Num z) = refl
size_as is fields (Flag c) = refl

-- ## clauses

pub record Same (a : Expr) : Type 0 where
  pub evaluated : {n m : ℕ → ℕ} (x y : Env) → IsRenamedEnv n m x y → eval a y ≡ seen_as n (eval a x)

SameRange : Option Expr → Type 0
SameRange None = Unit {0}
SameRange (Some a) = Same a

record SameQuant (q : Quant-F Expr Call Quant Reach) : Type 0 where
  range : SameRange q.range
  body : Same q.body

instance_as : {n m : ℕ → ℕ} (all : Bool) (range : Option Expr) (body : Expr) → SameRange range → Same body → (x y : Env) → IsRenamedEnv n m x y → instance_of all (option_map eval range) (eval body) y ≡ seen_as n (instance_of all (option_map eval range) (eval body) x)
unfolding SameRange
instance_as {n} all None body r b x y is = ap as_flag (b.evaluated x y is) ∙ as_flag_as n (eval body x)
instance_as {n} true (Some range) body r b x y is =
    rw (r.evaluated x y is, b.evaluated x y is) (binary_as is.naming op.Implies x.ints (eval range x) (eval body x))
instance_as {n} false (Some range) body r b x y is =
    rw (r.evaluated x y is, b.evaluated x y is) (binary_as is.naming op.And x.ints (eval range x) (eval body x))

same_local : (i : ℕ) → Same (e.Local i)
same_local i = record { evaluated = λ {n} x y is. rw (eval_local i x, eval_local i y, is.locals, slice_get-map (value_as n) x.locals i) (value_in_as n (slice_get x.locals i)) }

same_bound : (i : ℕ) → Same (e.Bound i)
same_bound i = record { evaluated = λ {n} x y is. rw (eval_bound i x, eval_bound i y, is.bound, slice_get-map (value_as n) x.bound i) (value_in_as n (slice_get x.bound i)) }

same_result : Same e.Result
same_result = record { evaluated = λ {n} x y is. rw (eval_result x, eval_result y, is.result) (value_in_as n x.result) }

same_read : (a : Expr) (f : ℕ) → Same a → Same (e.Read a f)
same_read a f s = record { evaluated = λ {n} x y is. rw (eval_read a f x, eval_read a f y, s.evaluated x y is, is.classes) (with_value_as n (eval a x) (field x.classes x.heap f) (field x.classes y.heap f) (field_as is.heap x.classes f)) }

same_neg : (a : Expr) → Same a → Same (e.Neg a)
same_neg a s = record { evaluated = λ {n} x y is. rw (eval_neg a x, eval_neg a y, s.evaluated x y is, is.ints) (with_value_as n (eval a x) (negative x.ints) (negative x.ints) (negative_as n x.ints)) }

same_not : (a : Expr) → Same a → Same (e.Not a)
same_not a s = record { evaluated = λ {n} x y is. rw (eval_not a x, eval_not a y, s.evaluated x y is) (with_value_as n (eval a x) opposite opposite (opposite_as n)) }

same_bin : (o : Op) (a b : Expr) → Same a → Same b → Same (e.Bin o a b)
same_bin o a b s t = record { evaluated = λ {n} x y is. rw (eval_bin o a b x, eval_bin o a b y, s.evaluated x y is, t.evaluated x y is, is.ints) (binary_as is.naming o x.ints (eval a x) (eval b x)) }

same_quant : (q : Quant) → SameQuant (out-Quant q) → Same (e.Quant q)
same_quant q s = record { evaluated = λ {n} x y is. let p = out-Quant q in rw (eval_quant q x, eval_quant q y) (ap (over p.all (is_of y.heap p.class) (λ o. instance_of p.all (option_map eval p.range) (eval p.body) (bind y o))) is.objects ∙ over_as x.objects (within_env is) p.all (is_of x.heap p.class) (is_of y.heap p.class) (λ o. instance_of p.all (option_map eval p.range) (eval p.body) (bind x o)) (λ o. instance_of p.all (option_map eval p.range) (eval p.body) (bind y o)) (class_as is.heap p.class) (λ o. instance_as p.all p.range p.body s.range s.body (bind x o) (bind y (n o)) (bind_as is o))) }

same_old : (a : Expr) → Same a → Same (e.Old a)
same_old a s = record { evaluated = λ {n} x y is. rw (eval_old a x, eval_old a y) (s.evaluated (before x) (before y) (before_as is)) }

same_has : (r : Reach) (a : Expr) → Same (out-Reach r).from → Same a → Same (e.Has r a)
same_has r a s t = record { evaluated = λ {n} x y is. let p = out-Reach r in rw (eval_has r a x, eval_has r a y, s.evaluated x y is, t.evaluated x y is) (with_value_as n (eval p.from x) (λ v. with_value (eval a x) (has x p.fields v)) (λ v. with_value (seen_as n (eval a x)) (has y p.fields v)) (λ v. with_value_as n (eval a x) (has x p.fields v) (has y p.fields (value_as n v)) (has_as is p.fields v))) }

same_size : (r : Reach) → Same (out-Reach r).from → Same (e.Size r)
same_size r s = record { evaluated = λ {n} x y is. let p = out-Reach r in rw (eval_size r x, eval_size r y, s.evaluated x y is) (with_value_as n (eval p.from x) (size x p.fields) (size y p.fields) (size_as is p.fields)) }

abbrev E : Type 0
E = (a : Expr) × Same a

abbrev C : Type 0
C = (c : Call) × Unit {0}

abbrev Q : Type 0
Q = (q : Quant) × SameQuant (out-Quant q)

abbrev R : Type 0
R = (r : Reach) × Same (out-Reach r).from

layer_same : (y : Expr-F E C Q R) → Same (roll-Expr (map-Expr E C Q R Expr Call Quant Reach (λ a. a.0) (λ c. c.0) (λ q. q.0) (λ q. q.0) y))
layer_same (Expr-F.Num z) = rw (e.rolls-Num z) (record { evaluated = λ {n} x y is. rw (eval_num z x, eval_num z y, is.ints) (number_as n x.ints z) })
layer_same (Expr-F.Flag b) = rw (e.rolls-Flag b) (record { evaluated = λ {n} x y is. rw (eval_flag b x, eval_flag b y) refl })
layer_same Expr-F.Null = rw e.rolls-Null (record { evaluated = λ {n} x y is. rw (eval_null x, eval_null y) refl })
layer_same Expr-F.This = rw e.rolls-This (record { evaluated = λ {n} x y is. rw (eval_this x, eval_this y, is.this) refl })
layer_same Expr-F.Result = rw e.rolls-Result same_result
layer_same (Expr-F.Local i) = rw (e.rolls-Local i) (same_local i)
layer_same (Expr-F.Bound i) = rw (e.rolls-Bound i) (same_bound i)
layer_same (Expr-F.Read a f) = rw (e.rolls-Read a.0 f) (same_read a.0 f a.1)
layer_same (Expr-F.Neg a) = rw (e.rolls-Neg a.0) (same_neg a.0 a.1)
layer_same (Expr-F.Not a) = rw (e.rolls-Not a.0) (same_not a.0 a.1)
layer_same (Expr-F.Bin o a b) = rw (e.rolls-Bin o a.0 b.0) (same_bin o a.0 b.0 a.1 b.1)
layer_same (Expr-F.Quant q) = rw (e.rolls-Quant q.0) (same_quant q.0 q.1)
layer_same (Expr-F.Old a) = rw (e.rolls-Old a.0) (same_old a.0 a.1)
layer_same (Expr-F.Has q a) = rw (e.rolls-Has q.0 a.0) (same_has q.0 a.0 q.1 a.1)
layer_same (Expr-F.Size q) = rw (e.rolls-Size q.0) (same_size q.0 q.1)
layer_same (Expr-F.New c) = rw (e.rolls-New c) (record { evaluated = λ {n} x y is. rw (eval_new c x, eval_new c y) refl })
layer_same (Expr-F.Call c) = rw (e.rolls-Call c.0) (record { evaluated = λ {n} x y is. rw (eval_call c.0 x, eval_call c.0 y) refl })

quant_parts : (all : Bool) (class bound : ℕ) (range : Option E) (body : E) → SameQuant (map-Quant E C Q R Expr Call Quant Reach (λ a. a.0) (λ c. c.0) (λ q. q.0) (λ q. q.0) (record { all = all; class = class; bound = bound; range = range; body = body }))
unfolding SameRange
quant_parts all class bound None body = record { range = tt; body = body.1 }
quant_parts all class bound (Some r) body = record { range = r.1; body = body.1 }

quant_layer : (y : Quant-F E C Q R) → SameQuant (map-Quant E C Q R Expr Call Quant Reach (λ a. a.0) (λ c. c.0) (λ q. q.0) (λ q. q.0) y)
quant_layer y = quant_parts y.all y.class y.bound y.range y.body

reach_layer : (y : Reach-F E C Q R) → Same (map-Reach E C Q R Expr Call Quant Reach (λ a. a.0) (λ c. c.0) (λ q. q.0) (λ q. q.0) y).from
reach_layer y = y.from.1

pub same_value : (a : Expr) → Same a
same_value = ind-Expr Same (λ c. Unit {0}) (λ q. SameQuant (out-Quant q)) (λ r. Same (out-Reach r).from) (λ x y is. subst (λ z. Same (roll-Expr z)) is (layer_same y)) (λ x y is. tt) (λ x y is. subst SameQuant is (quant_layer y)) (λ x y is. subst (λ z. Same z.from) is (reach_layer y))
