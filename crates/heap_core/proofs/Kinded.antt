-- What kinds rule out never happens: each clause that has a sort settles on a value of it, or on Bad.
use Rattle.std.proofs.Common.{◌≡◌, ℕ, Bool, true, false, ◌&&◌, ◌==◌, List, [], ◌∷◌, ◌++◌, length, Option, Some, None, refl, ◌∙◌, ap, subst}
use Rattle.std.specs.Prelude.{ℤ, nat_lt, option_map, slice_get}
use Rattle.std.specs.List.{list_all}
use Rattle.std.specs.Option.{option_map_or}
use Rattle.std.specs.Cmp.Lexicographic.{pointwise}
use Rattle.std.proofs.lemmas.Bool.{false≢true, and_parts, and_from, eqb-true}
use Rattle.taco_unit.specs.declared.kind.Kind.{Kind}
use Rattle.taco_unit.specs.declared.kind.Kind.TheVariants.{Flag, Ref}
use Rattle.taco_unit.specs.declared.expr.Op.{Op}
use Rattle.taco_unit.specs.declared.expr.Op.TheVariants as op
use Rattle.taco_unit.specs.declared.expr.Expr.{Expr, ind-Expr, roll-Expr, map-Expr}
use Rattle.taco_unit.specs.declared.expr.Expr.TheOpen.{Expr-F, Quant-F, Reach-F}
use Rattle.taco_unit.specs.declared.expr.Quant.{Quant, out-Quant, map-Quant}
use Rattle.taco_unit.specs.declared.expr.Reach.{Reach, out-Reach, map-Reach}
use Rattle.taco_unit.specs.declared.expr.Call.{Call}
use Rattle.taco_unit.specs.declared.expr.Expr.TheVariants as e
use Rattle.taco_unit.specs.Parts.{Parts}
use Rattle.taco_unit.specs.Kinds.{Sort, Of, Around, binary_sort, where_, is_object_of, is_link, sort_of_kind, sort_of_class, past, with_bound, in_clause, has_sort, size_sort, sort_of, is_condition}
use Rattle.taco_unit.proofs.KindForms.{sort_num, sort_flag, sort_null, sort_this, sort_result, sort_local, sort_bound, sort_read, sort_neg}
use Rattle.taco_unit.proofs.KindForms.{sort_not, sort_bin, sort_quant, sort_old, reach_form, sort_has, sort_size, sort_new, sort_call}
use Rattle.heap_core.specs.declared.value.Value.{Value}
use Rattle.heap_core.specs.declared.value.Value.TheVariants as v
use Rattle.heap_core.specs.declared.value.Object.{Object}
use Rattle.heap_core.specs.declared.value.Seen.{Seen}
use Rattle.heap_core.specs.declared.value.Seen.TheVariants.{Is}
use Rattle.heap_core.specs.Outcomes.{flag, value_in, with_value}
use Rattle.heap_core.specs.Heap.{Heap, is_of, field}
use Rattle.heap_core.specs.Eval.{Env, eval, before, bind, over, instance_of}
use Rattle.heap_core.specs.Kinded.{is_of_kind, IsKindedHeap, IsKinded, Settles, by_bits, KindsHold}
use Rattle.heap_core.proofs.EvalForms.{eval_num, eval_flag, eval_null, eval_this, eval_result, eval_local, eval_bound, eval_read, eval_neg, eval_not, eval_bin, eval_quant, eval_old, eval_has, eval_size}
use Rattle.heap_core.proofs.KindedWidths.{always, number_settles, over_settles}
use Rattle.heap_core.proofs.KindedForms.{Held, held_as, where_held, in_clause_held, in_exit_held, in_code_held, suited, object_suits, local_held}
use Rattle.heap_core.proofs.KindedForms.{bound_held, negative_held, opposite_held, as_flag_settles, binary_held, operator_held, read_held, has_held, size_held}

-- ## environments

-- inside `\old`
pub past_kinded : {all : Heap} {k : Around} {env : Env} → IsKinded all k env → IsKinded all (past k) (before env)
past_kinded is = record {
  clause = λ past. absurd (cc);
  unit = is.unit;
  classes = is.classes;
  this = is.this;
  locals = is.locals;
  bound = is.bound;
  result = λ r exit there. absurd (cc);
  heap = is.heap_before;
  heap_before = is.heap_before;
}

one_more :
    {A : Type 0} (fits : A → Value → Bool) (xs : List A) (ys : List Value) (x : A) (y : Value) → pointwise fits xs ys ≡ true → fits x y ≡ true
    → pointwise fits (xs ++ x ∷ []) (ys ++ y ∷ []) ≡ true
one_more fits [] [] x y all here = and_from (fits x y) true here refl
one_more fits [] (z ∷ ys) x y all here = absurd (false≢true all)
one_more fits (w ∷ xs) [] x y all here = absurd (false≢true all)
one_more fits (w ∷ xs) (z ∷ ys) x y all here =
    let both = and_parts (fits w z) (pointwise fits xs ys) all in
    and_from (fits w z) (pointwise fits (xs ++ x ∷ []) (ys ++ y ∷ [])) both.0 (one_more fits xs ys x y both.1 here)

-- an object of the class is one of those that are known
of_class : {u : Parts} {all heap : Heap} → IsKindedHeap u all heap → (c o : ℕ) → is_of heap c o ≡ true → is_of all c o ≡ true
of_class {u} {all} {heap} kinded c o is = go (slice_get heap o) refl is
  where
    go : (x : Option Object) → slice_get heap o ≡ x → option_map_or (λ (y : Object). y.class == c) x false ≡ true → is_of all c o ≡ true
    go None there is = absurd (false≢true is)
    go (Some x) there is = subst (λ d. is_of all d o ≡ true) (eqb-true x.class c is) (kinded.known o x there)

-- inside a quantifier
pub bound_kinded : {all : Heap} {k : Around} {env : Env} → IsKinded all k env → (c o : ℕ) → is_of env.heap c o ≡ true → IsKinded all (with_bound k c) (bind env o)
bound_kinded {all} {k} {env} is c o here = record {
  clause = is.clause;
  unit = is.unit;
  classes = is.classes;
  this = is.this;
  locals = is.locals;
  bound = one_more (λ c. is_of_kind all (Ref c)) k.bound env.bound c (v.Obj o) is.bound (of_class is.heap c o here);
  result = is.result;
  heap = is.heap;
  heap_before = is.heap_before;
}

-- ## clauses

-- with this many bits
abbrev wide : Env → ℕ → Env
wide env bits = record env { ints = bits }

-- where the clause has a sort, it settles
pub record Kinded (a : Expr) : Type 0 where
  pub held : {all : Heap} (k : Around) (env : Env) → IsKinded all k env → Held all (sort_of a k) (by_bits a env)

KindedRange : Option Expr → Type 0
KindedRange None = Unit {0}
KindedRange (Some a) = Kinded a

record KindedQuant (q : Quant-F Expr Call Quant Reach) : Type 0 where
  range : KindedRange q.range
  body : Kinded q.body

-- a sort or a value that is there at once
plain : {all : Heap} {t : Sort} {f : ℕ → Seen} → Settles all t f → Held all t f
plain s = record { settles = λ ok. s }

kinded_num : (z : ℤ) → Kinded (e.Num z)
kinded_num z = record { held = λ {all} k env is. held_as (sort_num z k) (λ bits. eval_num z (wide env bits)) (plain (number_settles all z)) }

kinded_flag : (b : Bool) → Kinded (e.Flag b)
kinded_flag b = record { held = λ {all} k env is. held_as (sort_flag b k) (λ bits. eval_flag b (wide env bits)) (plain (always (flag b) refl)) }

kinded_null : Kinded e.Null
kinded_null = record { held = λ {all} k env is. held_as (sort_null k) (λ bits. eval_null (wide env bits)) (plain (always (Is v.Null) refl)) }

-- these two stand in no clause
kinded_new : (c : ℕ) → Kinded (e.New c)
kinded_new c = record { held = λ {all} k env is. held_as (sort_new c k) (λ bits. refl) (in_code_held k.form _ is.clause) }

kinded_call : (c : Call) → Kinded (e.Call c)
kinded_call c = record { held = λ {all} k env is. held_as (sort_call c k) (λ bits. refl) (in_code_held k.form _ is.clause) }

kinded_this : Kinded e.This
kinded_this = record {
  held = λ {all} k env is. held_as (sort_this k) (λ bits. eval_this (wide env bits)) (go k.this env.this is.this);
}
  where
    go : {all : Heap} (c : Option ℕ) (x : Value) → option_map_or (λ c. is_of_kind all (Ref c) x) c true ≡ true → Held all (sort_of_class c) (λ bits. Is x)
    go None x is = record { settles = λ ok. absurd (false≢true ok) }
    go (Some c) x is = plain (always (Is x) is)

kinded_result : Kinded e.Result
kinded_result = record {
  held = λ {all} k env is.
      let given = in_exit_held k.form (λ exit. go k.result env.result (λ r there. is.result r exit there)) in
      held_as (sort_result k) (λ bits. eval_result (wide env bits)) given;
}
  where
    given : {all : Heap} (r : Kind) (x : Option Value) → option_map_or (is_of_kind all r) x false ≡ true → Held all (Of r) (λ bits. value_in x)
    given r None is = absurd (false≢true is)
    given r (Some x) is = plain (always (Is x) is)

    go : {all : Heap} (r : Option Kind) (x : Option Value) → ((s : Kind) → r ≡ Some s → option_map_or (is_of_kind all s) x false ≡ true) → Held all (sort_of_kind r) (λ bits. value_in x)
    go None x is = record { settles = λ ok. absurd (false≢true ok) }
    go (Some r) x is = given r x (is r refl)

kinded_local : (i : ℕ) → Kinded (e.Local i)
kinded_local i = record {
  held = λ {all} k env is.
      held_as (sort_local i k) (λ bits. eval_local i (wide env bits)) (local_held k.locals env.locals i is.locals);
}

kinded_bound : (i : ℕ) → Kinded (e.Bound i)
kinded_bound i = record {
  held = λ {all} k env is.
      held_as (sort_bound i k) (λ bits. eval_bound i (wide env bits)) (bound_held k.bound env.bound i is.bound);
}

kinded_read : (a : Expr) (f : ℕ) → Kinded a → Kinded (e.Read a f)
kinded_read a f h = record {
  held = λ {all} k env is.
      let read = read_held is.unit is.heap f (sort_of a k) (h.held k env is) in
      held_as (sort_read a f k) (λ bits. eval_read a f (wide env bits) ∙ ap (λ c. with_value (by_bits a env bits) (field c env.heap f)) is.classes) read;
}

kinded_neg : (a : Expr) → Kinded a → Kinded (e.Neg a)
kinded_neg a h = record {
  held = λ {all} k env is. held_as (sort_neg a k) (λ bits. eval_neg a (wide env bits)) (negative_held (sort_of a k) (h.held k env is));
}

kinded_not : (a : Expr) → Kinded a → Kinded (e.Not a)
kinded_not a h = record {
  held = λ {all} k env is. held_as (sort_not a k) (λ bits. eval_not a (wide env bits)) (opposite_held (sort_of a k) (h.held k env is));
}

kinded_bin : (o : Op) (a b : Expr) → Kinded a → Kinded b → Kinded (e.Bin o a b)
kinded_bin o a b h i = record {
  held = λ {all} k env is.
      let made = binary_held o (sort_of a k) (sort_of b k) (h.held k env is) (i.held k env is) in
      held_as (sort_bin o a b k) (λ bits. eval_bin o a b (wide env bits)) (operator_held o k.form (binary_sort o (sort_of a k) (sort_of b k)) made);
}

kinded_old : (a : Expr) → Kinded a → Kinded (e.Old a)
kinded_old a h = record {
  held = λ {all} k env is.
      let inner = in_exit_held k.form (λ exit. h.held (past k) (before env) (past_kinded is)) in
      held_as (sort_old a k) (λ bits. eval_old a (wide env bits)) inner;
}

-- where the test passes
tested : {all : Heap} {f : ℕ → Seen} (b : Bool) → b ≡ true → Held all (where_ b (Of Flag)) f → Settles all (Of Flag) f
tested true is h = h.settles refl
tested false is h = absurd (false≢true is)

-- an instance of a quantifier whose parts are conditions
instance_settles :
    {all : Heap} (every : Bool) (range : Option Expr) (body : Expr) → KindedRange range → Kinded body → (k : Around) (env : Env) → IsKinded all k env
    → option_map_or (is_condition k) range true ≡ true → is_condition k body ≡ true
    → Settles all (Of Flag) (λ bits. instance_of every (option_map eval range) (eval body) (wide env bits))
unfolding KindedRange
instance_settles every None body r b k env is fine good = as_flag_settles (suited Flag (sort_of body k) good (b.held k env is))
instance_settles true (Some range) body r b k env is fine good =
    let both = and_from (is_condition k range) (is_condition k body) fine good in
    tested (is_condition k range && is_condition k body) both (binary_held op.Implies (sort_of range k) (sort_of body k) (r.held k env is) (b.held k env is))
instance_settles false (Some range) body r b k env is fine good =
    let both = and_from (is_condition k range) (is_condition k body) fine good in
    tested (is_condition k range && is_condition k body) both (binary_held op.And (sort_of range k) (sort_of body k) (r.held k env is) (b.held k env is))

-- a quantifier fits
abbrev quant_fits : Around → Quant-F Expr Call Quant Reach → Bool
quant_fits k p =
    nat_lt p.class (length k.unit.classes) && p.bound == length k.bound && option_map_or (is_condition (with_bound k p.class)) p.range true && is_condition (with_bound k p.class) p.body

-- the last two of four tests, the middle one of three
last_two : (a b c d : Bool) → (a && b && c && d) ≡ true → (c ≡ true) × (d ≡ true)
last_two true true c d is = and_parts c d is
last_two true false c d is = absurd (false≢true is)
last_two false b c d is = absurd (false≢true is)

middle : (a b c : Bool) → (a && b && c) ≡ true → b ≡ true
middle true b c is = (and_parts b c is).0
middle false b c is = absurd (false≢true is)

quant_settles :
    {all : Heap} (p : Quant-F Expr Call Quant Reach) → KindedQuant p → (k : Around) (env : Env) → IsKinded all k env → quant_fits k p ≡ true
    → Settles all (Of Flag) (λ bits. over p.all (is_of env.heap p.class) (λ o. instance_of p.all (option_map eval p.range) (eval p.body) (bind (wide env bits) o)) env.objects)
quant_settles p h k env is fine =
    let inner = with_bound k p.class in
    let parts = last_two (nat_lt p.class (length k.unit.classes)) (p.bound == length k.bound) (option_map_or (is_condition inner) p.range true) (is_condition inner p.body) fine in
    let instance : ℕ → ℕ → Seen = λ bits o. instance_of p.all (option_map eval p.range) (eval p.body) (bind (wide env bits) o) in
    over_settles p.all (is_of env.heap p.class) instance env.objects (λ o there. instance_settles p.all p.range p.body h.range h.body inner (bind env o) (bound_kinded is p.class o there) parts.0 parts.1)

kinded_quant : (q : Quant) → KindedQuant (out-Quant q) → Kinded (e.Quant q)
kinded_quant q h = record {
  held = λ {all} k env is.
      let p = out-Quant q in
      held_as (sort_quant q k) (λ bits. eval_quant q (wide env bits)) (in_clause_held k.form (where_held (quant_fits k p) (quant_settles p h k env is)));
}

-- a `\reach` fits
abbrev reach_fits : Around → Reach-F Expr Call Quant Reach → Bool
reach_fits k p = nat_lt p.class (length k.unit.classes) && is_object_of p.class (sort_of p.from k) && list_all (is_link k.unit p.class) p.fields

-- where it begins
root_settles :
    {all : Heap} (p : Reach-F Expr Call Quant Reach) → Kinded p.from → (k : Around) (env : Env) → IsKinded all k env
    → reach_fits k p ≡ true → Settles all (Of (Ref p.class)) (by_bits p.from env)
root_settles p h k env is fine =
    let object = middle (nat_lt p.class (length k.unit.classes)) (is_object_of p.class (sort_of p.from k)) (list_all (is_link k.unit p.class) p.fields) fine in
    suited (Ref p.class) (sort_of p.from k) (object_suits p.class (sort_of p.from k) object) (h.held k env is)

kinded_has : (r : Reach) (a : Expr) → Kinded (out-Reach r).from → Kinded a → Kinded (e.Has r a)
kinded_has r a h i = record {
  held = λ {all} k env is.
      let p = out-Reach r in
      let sorts = sort_has r a k ∙ ap (λ t. in_clause k.form (has_sort t (sort_of a k))) (reach_form r k) in
      let has = has_held env p.fields (reach_fits k p) p.class (sort_of a k) (root_settles p h k env is) (i.held k env is) in
      held_as sorts (λ bits. eval_has r a (wide env bits)) (in_clause_held k.form has);
}

kinded_size : (r : Reach) → Kinded (out-Reach r).from → Kinded (e.Size r)
kinded_size r h = record {
  held = λ {all} k env is.
      let p = out-Reach r in
      let sorts = sort_size r k ∙ ap (λ t. in_clause k.form (size_sort t)) (reach_form r k) in
      let size = size_held env p.fields (reach_fits k p) p.class (root_settles p h k env is) in
      held_as sorts (λ bits. eval_size r (wide env bits)) (in_clause_held k.form size);
}

-- ## the law

abbrev E : Type 0
E = (a : Expr) × Kinded a

abbrev C : Type 0
C = (c : Call) × Unit {0}

abbrev Q : Type 0
Q = (q : Quant) × KindedQuant (out-Quant q)

abbrev R : Type 0
R = (r : Reach) × Kinded (out-Reach r).from

layer_kinded : (y : Expr-F E C Q R) → Kinded (roll-Expr (map-Expr E C Q R Expr Call Quant Reach (λ a. a.0) (λ c. c.0) (λ q. q.0) (λ q. q.0) y))
layer_kinded (Expr-F.Num z) = rw (e.rolls-Num z) (kinded_num z)
layer_kinded (Expr-F.Flag b) = rw (e.rolls-Flag b) (kinded_flag b)
layer_kinded Expr-F.Null = rw e.rolls-Null kinded_null
layer_kinded Expr-F.This = rw e.rolls-This kinded_this
layer_kinded Expr-F.Result = rw e.rolls-Result kinded_result
layer_kinded (Expr-F.Local i) = rw (e.rolls-Local i) (kinded_local i)
layer_kinded (Expr-F.Bound i) = rw (e.rolls-Bound i) (kinded_bound i)
layer_kinded (Expr-F.Read a f) = rw (e.rolls-Read a.0 f) (kinded_read a.0 f a.1)
layer_kinded (Expr-F.Neg a) = rw (e.rolls-Neg a.0) (kinded_neg a.0 a.1)
layer_kinded (Expr-F.Not a) = rw (e.rolls-Not a.0) (kinded_not a.0 a.1)
layer_kinded (Expr-F.Bin o a b) = rw (e.rolls-Bin o a.0 b.0) (kinded_bin o a.0 b.0 a.1 b.1)
layer_kinded (Expr-F.Quant q) = rw (e.rolls-Quant q.0) (kinded_quant q.0 q.1)
layer_kinded (Expr-F.Old a) = rw (e.rolls-Old a.0) (kinded_old a.0 a.1)
layer_kinded (Expr-F.Has q a) = rw (e.rolls-Has q.0 a.0) (kinded_has q.0 a.0 q.1 a.1)
layer_kinded (Expr-F.Size q) = rw (e.rolls-Size q.0) (kinded_size q.0 q.1)
layer_kinded (Expr-F.New c) = rw (e.rolls-New c) (kinded_new c)
layer_kinded (Expr-F.Call c) = rw (e.rolls-Call c.0) (kinded_call c.0)

quant_parts :
    (every : Bool) (class bound : ℕ) (range : Option E) (body : E)
    → KindedQuant (map-Quant E C Q R Expr Call Quant Reach (λ a. a.0) (λ c. c.0) (λ q. q.0) (λ q. q.0) (record { all = every; class = class; bound = bound; range = range; body = body }))
unfolding KindedRange
quant_parts every class bound None body = record { range = tt; body = body.1 }
quant_parts every class bound (Some r) body = record { range = r.1; body = body.1 }

quant_layer : (y : Quant-F E C Q R) → KindedQuant (map-Quant E C Q R Expr Call Quant Reach (λ a. a.0) (λ c. c.0) (λ q. q.0) (λ q. q.0) y)
quant_layer y = quant_parts y.all y.class y.bound y.range y.body

reach_layer : (y : Reach-F E C Q R) → Kinded (map-Reach E C Q R Expr Call Quant Reach (λ a. a.0) (λ c. c.0) (λ q. q.0) (λ q. q.0) y).from
reach_layer y = y.from.1

kinded : (a : Expr) → Kinded a
kinded =
    ind-Expr Kinded (λ c. Unit {0}) (λ q. KindedQuant (out-Quant q)) (λ r. Kinded (out-Reach r).from)
    (λ x y is. subst (λ z. Kinded (roll-Expr z)) is (layer_kinded y))
    (λ x y is. tt)
    (λ x y is. subst KindedQuant is (quant_layer y))
    (λ x y is. subst (λ z. Kinded z.from) is (reach_layer y))

pub kinds_hold : KindsHold
kinds_hold all k env a is ok = ((kinded a).held k env is).settles ok
