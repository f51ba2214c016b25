-- What the sorts of the operands say of the values that an operator, a read or a `\reach` looks at.
use Rattle.std.proofs.Common.{◌≡◌, ℕ, Bool, true, false, not, ◌&&◌, cond, List, Option, Some, None, refl, sym, ◌∙◌, ap, subst}
use Rattle.std.specs.Prelude.{◌≢◌, ◌==◌, ℤ, pos, ◌+ℤ◌, ◌-ℤ◌, ◌*ℤ◌, neg_ℤ, int_lt, int_le, slice_get, count_by}
use Rattle.std.specs.List.{range_with_len}
use Rattle.std.specs.Option.{option_map_or}
use Rattle.std.specs.Cmp.Lexicographic.{pointwise}
use Rattle.std.proofs.lemmas.Bool.{false≢true, and_parts, eqb-true}
use Rattle.taco_unit.specs.declared.kind.Kind.{Kind}
use Rattle.taco_unit.specs.declared.kind.Kind.TheVariants.{Int, Flag, Ref}
use Rattle.taco_unit.specs.declared.unit.ClassDef.{ClassDef}
use Rattle.taco_unit.specs.declared.unit.FieldDef.{FieldDef}
use Rattle.taco_unit.specs.declared.expr.Op.{Op}
use Rattle.taco_unit.specs.declared.expr.Op.TheVariants as op
use Rattle.taco_unit.specs.Parts.{Parts}
use Rattle.taco_unit.specs.Well.{IsWell}
use Rattle.taco_unit.specs.Kinds.{Sort, Of, NullOnly, Faulty, NoValue, Form, Code, Entry, Exit, Past, same_kind, suits}
use Rattle.taco_unit.specs.Kinds.{alike, where_, is_object_of, sort_of_kind, sort_of_class, field_sort, binary_sort, operator_sort, in_clause, in_code, in_exit, has_sort, size_sort}
use Rattle.heap_core.specs.declared.value.Value.{Value}
use Rattle.heap_core.specs.declared.value.Value.TheVariants as v
use Rattle.heap_core.specs.declared.value.Object.{Object}
use Rattle.heap_core.specs.declared.value.Seen.{Seen}
use Rattle.heap_core.specs.declared.value.Seen.TheVariants.{Is, Bad, Out}
use Rattle.heap_core.specs.Outcomes.{number, flag, value_in, with_value, on_number, on_flag, on_numbers, as_flag, opposite, negative, same, equivalent}
use Rattle.heap_core.specs.Heap.{Heap, field, cell_of}
use Rattle.heap_core.specs.Eval.{Env, binary, reached, holds, has, size}
use Rattle.heap_core.specs.Kinded.{is_of_kind, is_of_field, IsKindedHeap, has_value, is_of_sort, Settles}
use Rattle.heap_core.proofs.Lists.{beside}
use Rattle.heap_core.proofs.GivenFields.{field_at}
use Rattle.heap_core.proofs.KindedWidths.{always, settles_as, number_settles, then_settles, both_settle}

-- the evaluation of what has this sort settles, where the sort has values
pub record Held (all : Heap) (t : Sort) (f : ℕ → Seen) : Type 0 where
  pub settles : has_value t ≡ true → Settles all t f

pub held_as : {all : Heap} {t u : Sort} {f g : ℕ → Seen} → t ≡ u → ((bits : ℕ) → f bits ≡ g bits) → Held all u g → Held all t f
held_as {all} {t} {u} {f} {g} sorts same h = record {
  settles = λ ok. settles_as same (subst (λ s. Settles all s g) (sym sorts) (h.settles (ap has_value (sym sorts) ∙ ok)));
}

-- ## sorts

pub where_held : {all : Heap} {t : Sort} {f : ℕ → Seen} (b : Bool) → (b ≡ true → Settles all t f) → Held all (where_ b t) f
where_held true h = record { settles = λ ok. h refl }
where_held false h = record { settles = λ ok. absurd (false≢true ok) }

pub in_clause_held : {all : Heap} {t : Sort} {f : ℕ → Seen} (form : Form) → Held all t f → Held all (in_clause form t) f
in_clause_held Code h = record { settles = λ ok. absurd (false≢true ok) }
in_clause_held Entry h = h
in_clause_held Exit h = h
in_clause_held Past h = h

pub in_exit_held : {all : Heap} {t : Sort} {f : ℕ → Seen} (form : Form) → (form ≡ Exit → Held all t f) → Held all (in_exit form t) f
in_exit_held Code h = record { settles = λ ok. absurd (false≢true ok) }
in_exit_held Entry h = record { settles = λ ok. absurd (false≢true ok) }
in_exit_held Exit h = h refl
in_exit_held Past h = record { settles = λ ok. absurd (false≢true ok) }

-- what stands in code alone stands in no clause
pub in_code_held : {all : Heap} {f : ℕ → Seen} (form : Form) (t : Sort) → form ≢ Code → Held all (in_code form t) f
in_code_held Code t clause = absurd (clause refl)
in_code_held Entry t clause = record { settles = λ ok. absurd (false≢true ok) }
in_code_held Exit t clause = record { settles = λ ok. absurd (false≢true ok) }
in_code_held Past t clause = record { settles = λ ok. absurd (false≢true ok) }

-- null, or Bad, is of every class kind
null_settles : {all : Heap} {f : ℕ → Seen} (c : ℕ) → Settles all NullOnly f → Settles all (Of (Ref c)) f
null_settles {all} {f} c s = record { outcome = s.outcome; of_sort = go s.outcome s.of_sort; enough = s.enough; with_enough = s.with_enough; with_any = s.with_any }
  where
    go : (o : Seen) → is_of_sort all NullOnly o ≡ true → is_of_sort all (Of (Ref c)) o ≡ true
    go (Is v.Null) is = refl
    go (Is (v.Obj o)) is = absurd (false≢true is)
    go (Is (v.Num z)) is = absurd (false≢true is)
    go (Is (v.Flag b)) is = absurd (false≢true is)
    go Bad is = refl
    go Out is = is

pub kinds_same : (k l : Kind) → same_kind k l ≡ true → k ≡ l
kinds_same Int Int is = refl
kinds_same Flag Flag is = refl
kinds_same (Ref c) (Ref d) is = ap Ref (eqb-true c d is)
kinds_same Int Flag is = absurd (false≢true is)
kinds_same Int (Ref d) is = absurd (false≢true is)
kinds_same Flag Int is = absurd (false≢true is)
kinds_same Flag (Ref d) is = absurd (false≢true is)
kinds_same (Ref c) Int is = absurd (false≢true is)
kinds_same (Ref c) Flag is = absurd (false≢true is)

-- what suits a kind settles on a value of it
pub suited : {all : Heap} {f : ℕ → Seen} (k : Kind) (t : Sort) → suits k t ≡ true → Held all t f → Settles all (Of k) f
suited {all} {f} k (Of l) is h = subst (λ l. Settles all (Of l) f) (sym (kinds_same k l is)) (h.settles refl)
suited (Ref c) NullOnly is h = null_settles c (h.settles refl)
suited Int NullOnly is h = absurd (false≢true is)
suited Flag NullOnly is h = absurd (false≢true is)
suited k Faulty is h = absurd (false≢true is)
suited k NoValue is h = absurd (false≢true is)

pub object_suits : (c : ℕ) (t : Sort) → is_object_of c t ≡ true → suits (Ref c) t ≡ true
object_suits c (Of k) is = is
object_suits c NullOnly is = absurd (false≢true is)
object_suits c Faulty is = absurd (false≢true is)
object_suits c NoValue is = absurd (false≢true is)

-- ## values that stand in lists

pub local_held : {all : Heap} (ks : List Kind) (vs : List Value) (i : ℕ) → pointwise (is_of_kind all) ks vs ≡ true → Held all (sort_of_kind (slice_get ks i)) (λ bits. value_in (slice_get vs i))
local_held {all} ks vs i fit = go (slice_get ks i) refl
  where
    go : (k : Option Kind) → slice_get ks i ≡ k → Held all (sort_of_kind k) (λ bits. value_in (slice_get vs i))
    go None is = record { settles = λ ok. absurd (false≢true ok) }
    go (Some k) is =
        let found = beside (is_of_kind all) ks vs i k fit is in
        held_as refl (λ bits. ap value_in found.1) (record { settles = λ ok. always (Is found.0) found.2 })

pub bound_held :
    {all : Heap} (cs : List ℕ) (vs : List Value) (i : ℕ) → pointwise (λ c. is_of_kind all (Ref c)) cs vs ≡ true
    → Held all (sort_of_class (slice_get cs i)) (λ bits. value_in (slice_get vs i))
bound_held {all} cs vs i fit = go (slice_get cs i) refl
  where
    go : (c : Option ℕ) → slice_get cs i ≡ c → Held all (sort_of_class c) (λ bits. value_in (slice_get vs i))
    go None is = record { settles = λ ok. absurd (false≢true ok) }
    go (Some c) is =
        let found = beside (λ c. is_of_kind all (Ref c)) cs vs i c fit is in
        held_as refl (λ bits. ap value_in found.1) (record { settles = λ ok. always (Is found.0) found.2 })

-- ## operators

-- on from a number, a truth value, two numbers
number_then : {all : Heap} {u : Sort} (k : ℕ → ℤ → Seen) → ((z : ℤ) → Settles all u (λ bits. k bits z)) → (x : Value) → is_of_kind all Int x ≡ true → Settles all u (λ bits. on_number (k bits) x)
number_then k h (v.Num z) is = h z
number_then k h v.Null is = absurd (false≢true is)
number_then k h (v.Obj o) is = absurd (false≢true is)
number_then k h (v.Flag b) is = absurd (false≢true is)

flag_then : {all : Heap} {u : Sort} (k : ℕ → Bool → Seen) → ((b : Bool) → Settles all u (λ bits. k bits b)) → (x : Value) → is_of_kind all Flag x ≡ true → Settles all u (λ bits. on_flag (k bits) x)
flag_then k h (v.Flag b) is = h b
flag_then k h v.Null is = absurd (false≢true is)
flag_then k h (v.Obj o) is = absurd (false≢true is)
flag_then k h (v.Num z) is = absurd (false≢true is)

numbers_then :
    {all : Heap} {u : Sort} (k : ℕ → ℤ → ℤ → Seen) → ((x y : ℤ) → Settles all u (λ bits. k bits x y)) → (x y : Value) → is_of_kind all Int x ≡ true
    → is_of_kind all Int y ≡ true → Settles all u (λ bits. on_numbers (k bits) x y)
numbers_then k h (v.Num x) (v.Num y) is also = h x y
numbers_then k h (v.Num x) v.Null is also = absurd (false≢true also)
numbers_then k h (v.Num x) (v.Obj o) is also = absurd (false≢true also)
numbers_then k h (v.Num x) (v.Flag b) is also = absurd (false≢true also)
numbers_then k h v.Null y is also = absurd (false≢true is)
numbers_then k h (v.Obj o) y is also = absurd (false≢true is)
numbers_then k h (v.Flag b) y is also = absurd (false≢true is)

negative_settles : (all : Heap) (x : Value) → is_of_kind all Int x ≡ true → Settles all (Of Int) (λ bits. negative bits x)
negative_settles all = number_then (λ bits z. number bits (neg_ℤ z)) (λ z. number_settles all (neg_ℤ z))

opposite_settles : (all : Heap) (x : Value) → is_of_kind all Flag x ≡ true → Settles all (Of Flag) (λ bits. opposite x)
opposite_settles all = flag_then (λ bits b. flag (not b)) (λ b. always (flag (not b)) refl)

pub negative_held :
    {all : Heap} {f : ℕ → Seen} (t : Sort) → Held all t f → Held all (where_ (suits Int t) (Of Int)) (λ bits. with_value (f bits) (negative bits))
negative_held {all} t h = where_held (suits Int t) (λ fine. then_settles (Of Int) negative (suited Int t fine h) (negative_settles all))

pub opposite_held :
    {all : Heap} {f : ℕ → Seen} (t : Sort) → Held all t f → Held all (where_ (suits Flag t) (Of Flag)) (λ bits. with_value (f bits) opposite)
opposite_held {all} t h =
    where_held (suits Flag t) (λ fine. then_settles (Of Flag) (λ bits. opposite) (suited Flag t fine h) (opposite_settles all))

pub as_flag_settles : {all : Heap} {f : ℕ → Seen} → Settles all (Of Flag) f → Settles all (Of Flag) (λ bits. as_flag (f bits))
as_flag_settles s = then_settles (Of Flag) (λ bits. on_flag flag) s (flag_then (λ bits b. flag b) (λ b. always (flag b) refl))

-- values of one kind are compared
same_settles : (all : Heap) (k : Kind) (x y : Value) → is_of_kind all k x ≡ true → is_of_kind all k y ≡ true → Settles all (Of Flag) (λ bits. same x y)
same_settles all Int (v.Num x) (v.Num y) is also = always (same (v.Num x) (v.Num y)) refl
same_settles all Int (v.Num x) v.Null is also = absurd (false≢true also)
same_settles all Int (v.Num x) (v.Obj o) is also = absurd (false≢true also)
same_settles all Int (v.Num x) (v.Flag b) is also = absurd (false≢true also)
same_settles all Int v.Null y is also = absurd (false≢true is)
same_settles all Int (v.Obj o) y is also = absurd (false≢true is)
same_settles all Int (v.Flag b) y is also = absurd (false≢true is)
same_settles all Flag (v.Flag x) (v.Flag y) is also = always (same (v.Flag x) (v.Flag y)) refl
same_settles all Flag (v.Flag x) v.Null is also = absurd (false≢true also)
same_settles all Flag (v.Flag x) (v.Obj o) is also = absurd (false≢true also)
same_settles all Flag (v.Flag x) (v.Num z) is also = absurd (false≢true also)
same_settles all Flag v.Null y is also = absurd (false≢true is)
same_settles all Flag (v.Obj o) y is also = absurd (false≢true is)
same_settles all Flag (v.Num z) y is also = absurd (false≢true is)
same_settles all (Ref c) v.Null v.Null is also = always (flag true) refl
same_settles all (Ref c) v.Null (v.Obj p) is also = always (flag false) refl
same_settles all (Ref c) (v.Obj o) v.Null is also = always (flag false) refl
same_settles all (Ref c) (v.Obj o) (v.Obj p) is also = always (flag (o == p)) refl
same_settles all (Ref c) v.Null (v.Num z) is also = absurd (false≢true also)
same_settles all (Ref c) v.Null (v.Flag b) is also = absurd (false≢true also)
same_settles all (Ref c) (v.Obj o) (v.Num z) is also = absurd (false≢true also)
same_settles all (Ref c) (v.Obj o) (v.Flag b) is also = absurd (false≢true also)
same_settles all (Ref c) (v.Num z) y is also = absurd (false≢true is)
same_settles all (Ref c) (v.Flag b) y is also = absurd (false≢true is)

other_settles : (all : Heap) (k : Kind) (x y : Value) → is_of_kind all k x ≡ true → is_of_kind all k y ≡ true → Settles all (Of Flag) (λ bits. with_value (same x y) opposite)
other_settles all k x y is also = then_settles (Of Flag) (λ bits. opposite) (same_settles all k x y is also) (opposite_settles all)

equivalent_settles : (all : Heap) (x y : Value) → is_of_kind all Flag x ≡ true → is_of_kind all Flag y ≡ true → Settles all (Of Flag) (λ bits. equivalent x y)
equivalent_settles all (v.Flag x) (v.Flag y) is also = always (equivalent (v.Flag x) (v.Flag y)) refl
equivalent_settles all (v.Flag x) v.Null is also = absurd (false≢true also)
equivalent_settles all (v.Flag x) (v.Obj o) is also = absurd (false≢true also)
equivalent_settles all (v.Flag x) (v.Num z) is also = absurd (false≢true also)
equivalent_settles all v.Null y is also = absurd (false≢true is)
equivalent_settles all (v.Obj o) y is also = absurd (false≢true is)
equivalent_settles all (v.Num z) y is also = absurd (false≢true is)

-- two numbers; two truth values, of which the left one decides first; two values of one kind
arithmetic :
    {all : Heap} {u : Sort} {f g : ℕ → Seen} (t s : Sort) (k : ℕ → ℤ → ℤ → Seen) → ((x y : ℤ) → Settles all u (λ bits. k bits x y)) → Held all t f
    → Held all s g → Held all (where_ (suits Int t && suits Int s) u) (λ bits. with_value (f bits) (λ x. with_value (g bits) (on_numbers (k bits) x)))
arithmetic t s k each h i = where_held (suits Int t && suits Int s) (λ is.
    let both = and_parts (suits Int t) (suits Int s) is in
    both_settle (Of Int) (λ bits. on_numbers (k bits)) (suited Int t both.0 h) (suited Int s both.1 i) (numbers_then k each))

deciding :
    {all : Heap} {f g : ℕ → Seen} (t s : Sort) (k : Bool → Seen → Seen)
    → ((b : Bool) → Settles all (Of Flag) g → Settles all (Of Flag) (λ bits. k b (g bits))) → Held all t f → Held all s g
    → Held all (where_ (suits Flag t && suits Flag s) (Of Flag)) (λ bits. with_value (f bits) (on_flag (λ b. k b (g bits))))
deciding {all} {f} {g} t s k each h i = where_held (suits Flag t && suits Flag s) (λ is.
    let both = and_parts (suits Flag t) (suits Flag s) is in
    then_settles (Of Flag) (λ bits. on_flag (λ b. k b (g bits))) (suited Flag t both.0 h) (flag_then (λ bits b. k b (g bits)) (λ b. each b (suited Flag s both.1 i))))

-- the kind in which two sorts are alike
record OneKind (all : Heap) (f g : ℕ → Seen) : Type 0 where
  kind : Kind
  left : Settles all (Of kind) f
  right : Settles all (Of kind) g

one_kind : {all : Heap} {f g : ℕ → Seen} (t s : Sort) → alike t s ≡ true → Held all t f → Held all s g → OneKind all f g
one_kind (Of k) s is h i = record { kind = k; left = h.settles refl; right = suited k s is i }
one_kind NullOnly (Of (Ref c)) is h i = record { kind = Ref c; left = null_settles c (h.settles refl); right = i.settles refl }
one_kind NullOnly NullOnly is h i = record { kind = Ref 0; left = null_settles 0 (h.settles refl); right = null_settles 0 (i.settles refl) }
one_kind NullOnly (Of Int) is h i = absurd (false≢true is)
one_kind NullOnly (Of Flag) is h i = absurd (false≢true is)
one_kind NullOnly Faulty is h i = absurd (false≢true is)
one_kind NullOnly NoValue is h i = absurd (false≢true is)
one_kind Faulty s is h i = absurd (false≢true is)
one_kind NoValue s is h i = absurd (false≢true is)

comparing :
    {all : Heap} {f g : ℕ → Seen} (t s : Sort) (k : Value → Value → Seen)
    → ((l : Kind) (x y : Value) → is_of_kind all l x ≡ true → is_of_kind all l y ≡ true → Settles all (Of Flag) (λ bits. k x y)) → Held all t f
    → Held all s g → Held all (where_ (alike t s) (Of Flag)) (λ bits. with_value (f bits) (λ x. with_value (g bits) (k x)))
comparing t s k each h i = where_held (alike t s) (λ is.
    let one = one_kind t s is h i in
    both_settle (Of one.kind) (λ bits. k) one.left one.right (each one.kind))

pub binary_held : {all : Heap} {f g : ℕ → Seen} (o : Op) (t s : Sort) → Held all t f → Held all s g → Held all (binary_sort o t s) (λ bits. binary o bits (f bits) (g bits))
binary_held {all} op.Add t s h i = arithmetic t s (λ bits x y. number bits (x +ℤ y)) (λ x y. number_settles all (x +ℤ y)) h i
binary_held {all} op.Sub t s h i = arithmetic t s (λ bits x y. number bits (x -ℤ y)) (λ x y. number_settles all (x -ℤ y)) h i
binary_held {all} op.Mul t s h i = arithmetic t s (λ bits x y. number bits (x *ℤ y)) (λ x y. number_settles all (x *ℤ y)) h i
binary_held op.Lt t s h i = arithmetic t s (λ bits x y. flag (int_lt x y)) (λ x y. always (flag (int_lt x y)) refl) h i
binary_held op.Le t s h i = arithmetic t s (λ bits x y. flag (int_le x y)) (λ x y. always (flag (int_le x y)) refl) h i
binary_held op.Gt t s h i = arithmetic t s (λ bits x y. flag (int_lt y x)) (λ x y. always (flag (int_lt y x)) refl) h i
binary_held op.Ge t s h i = arithmetic t s (λ bits x y. flag (int_le y x)) (λ x y. always (flag (int_le y x)) refl) h i
binary_held {all} op.Eq t s h i = comparing t s same (same_settles all) h i
binary_held {all} op.Ne t s h i = comparing t s (λ x y. with_value (same x y) opposite) (other_settles all) h i
binary_held op.And t s h i = deciding t s (λ b z. cond b (as_flag z) (flag false)) (elim [ true ↦ as_flag_settles | false ↦ λ r. always (flag false) refl ]) h i
binary_held op.Or t s h i = deciding t s (λ b z. cond b (flag true) (as_flag z)) (elim [ true ↦ λ r. always (flag true) refl | false ↦ as_flag_settles ]) h i
binary_held op.Implies t s h i = deciding t s (λ b z. cond b (as_flag z) (flag true)) (elim [ true ↦ as_flag_settles | false ↦ λ r. always (flag true) refl ]) h i
binary_held {all} op.Iff t s h i = where_held (suits Flag t && suits Flag s) (λ is.
    let both = and_parts (suits Flag t) (suits Flag s) is in
    both_settle (Of Flag) (λ bits. equivalent) (suited Flag t both.0 h) (suited Flag s both.1 i) (equivalent_settles all))

pub operator_held : {all : Heap} {f : ℕ → Seen} (o : Op) (form : Form) (t : Sort) → Held all t f → Held all (operator_sort o form t) f
operator_held op.Implies form t h = in_clause_held form h
operator_held op.Iff form t h = in_clause_held form h
operator_held op.Add form t h = h
operator_held op.Sub form t h = h
operator_held op.Mul form t h = h
operator_held op.Eq form t h = h
operator_held op.Ne form t h = h
operator_held op.Lt form t h = h
operator_held op.Le form t h = h
operator_held op.Gt form t h = h
operator_held op.Ge form t h = h
operator_held op.And form t h = h
operator_held op.Or form t h = h

-- ## fields

-- a field of its class, of an object or of null
field_settles :
    {u : Parts} {all heap : Heap} → IsWell u → IsKindedHeap u all heap → (f : ℕ) (d : FieldDef) → slice_get u.fields f ≡ Some d → (x : Value)
    → is_of_kind all (Ref d.class) x ≡ true → Settles all (Of d.kind) (λ bits. field u.classes heap f x)
field_settles well kinded f d is v.Null of = always Bad refl
field_settles well kinded f d is (v.Num z) of = absurd (false≢true of)
field_settles well kinded f d is (v.Flag b) of = absurd (false≢true of)
field_settles {u} {all} {heap} well kinded f d is (v.Obj o) of = go (slice_get heap o) refl
  where
    one_class : (x : Option Object) (c e : ℕ) → option_map_or (λ (z : Object). z.class == c) x false ≡ true → option_map_or (λ (z : Object). z.class == e) x false ≡ true → c ≡ e
    one_class None c e first second = absurd (false≢true first)
    one_class (Some x) c e first second = sym (eqb-true x.class c first) ∙ eqb-true x.class e second

    gives :
        (x : Object) → slice_get heap o ≡ Some x → d.class ≡ x.class → (c : Option ClassDef) → slice_get u.classes x.class ≡ c
        → option_map_or (λ e. pointwise (is_of_field u all) e.fields x.cells) c false ≡ true
        → Settles all (Of d.kind) (λ bits. field u.classes heap f (v.Obj o))
    gives x there same None classed whole = absurd (false≢true whole)
    gives x there same (Some e) classed whole =
        let found = field_at u well (is_of_field u all) heap o x e f d there classed whole is same in
        let kind : is_of_kind all d.kind found.0 ≡ true = ap (λ g. option_map_or (λ e. is_of_kind all e.kind found.0) g false) (sym is) ∙ found.2 in
        settles_as (λ bits. found.1) (always (Is found.0) kind)

    go : (x : Option Object) → slice_get heap o ≡ x → Settles all (Of d.kind) (λ bits. field u.classes heap f (v.Obj o))
    go None none = settles_as (λ bits. ap (cell_of u.classes f) none) (always Bad refl)
    go (Some x) there = gives x there (one_class (slice_get all o) d.class x.class of (kinded.known o x there)) (slice_get u.classes x.class) refl (kinded.cells o x there)

pub read_held :
    {u : Parts} {all heap : Heap} {g : ℕ → Seen} → IsWell u → IsKindedHeap u all heap → (f : ℕ) (t : Sort) → Held all t g
    → Held all (field_sort (slice_get u.fields f) t) (λ bits. with_value (g bits) (field u.classes heap f))
read_held {u} {all} {heap} {g} well kinded f t h = go (slice_get u.fields f) refl t h
  where
    go : (d : Option FieldDef) → slice_get u.fields f ≡ d → (t : Sort) → Held all t g → Held all (field_sort d t) (λ bits. with_value (g bits) (field u.classes heap f))
    go None is t h = record { settles = λ ok. absurd (false≢true ok) }
    go (Some d) is (Of (Ref c)) h = where_held (d.class == c) (λ same.
        let own : Held all (Of (Ref d.class)) g = subst (λ c. Held all (Of (Ref c)) g) (sym (eqb-true d.class c same)) h in
        then_settles (Of (Ref d.class)) (λ bits. field u.classes heap f) (own.settles refl) (field_settles well kinded f d is))
    go (Some d) is (Of Int) h = record { settles = λ ok. absurd (false≢true ok) }
    go (Some d) is (Of Flag) h = record { settles = λ ok. absurd (false≢true ok) }
    go (Some d) is NullOnly h = record { settles = λ ok. absurd (false≢true ok) }
    go (Some d) is Faulty h = record { settles = λ ok. absurd (false≢true ok) }
    go (Some d) is NoValue h = record { settles = λ ok. absurd (false≢true ok) }

-- ## `\reach`

holds_settles : (all : Heap) (set : ℕ → Bool) (c : ℕ) (x : Value) → is_of_kind all (Ref c) x ≡ true → Settles all (Of Flag) (λ bits. holds set x)
holds_settles all set c v.Null is = always (flag false) refl
holds_settles all set c (v.Obj o) is = always (flag (set o)) refl
holds_settles all set c (v.Num z) is = absurd (false≢true is)
holds_settles all set c (v.Flag b) is = absurd (false≢true is)

has_settles :
    (all : Heap) (env : Env) (fields : List ℕ) (c : ℕ) (from x : Value) → is_of_kind all (Ref c) from ≡ true → is_of_kind all (Ref c) x ≡ true
    → Settles all (Of Flag) (λ bits. has (record env { ints = bits }) fields from x)
has_settles all env fields c v.Null x is also = holds_settles all (reached env fields v.Null) c x also
has_settles all env fields c (v.Obj o) x is also = holds_settles all (reached env fields (v.Obj o)) c x also
has_settles all env fields c (v.Num z) x is also = absurd (false≢true is)
has_settles all env fields c (v.Flag b) x is also = absurd (false≢true is)

size_settles : (all : Heap) (env : Env) (fields : List ℕ) (c : ℕ) (from : Value) → is_of_kind all (Ref c) from ≡ true → Settles all (Of Int) (λ bits. size (record env { ints = bits }) fields from)
size_settles all env fields c v.Null is = number_settles all (pos (count_by (reached env fields v.Null) (range_with_len 0 env.objects)))
size_settles all env fields c (v.Obj o) is = number_settles all (pos (count_by (reached env fields (v.Obj o)) (range_with_len 0 env.objects)))
size_settles all env fields c (v.Num z) is = absurd (false≢true is)
size_settles all env fields c (v.Flag b) is = absurd (false≢true is)

-- a `\reach` whose beginning fits where the test says so
pub has_held :
    {all : Heap} {f g : ℕ → Seen} (env : Env) (fields : List ℕ) (b : Bool) (c : ℕ) (t : Sort) → (b ≡ true → Settles all (Of (Ref c)) f) → Held all t g
    → Held all (has_sort (where_ b (Of (Ref c))) t) (λ bits. with_value (f bits) (λ x. with_value (g bits) (has (record env { ints = bits }) fields x)))
has_held env fields false c t from h = record { settles = λ ok. absurd (false≢true ok) }
has_held {all} env fields true c t from h = where_held (suits (Ref c) t) (λ is.
    both_settle (Of (Ref c)) (λ bits. has (record env { ints = bits }) fields) (from refl) (suited (Ref c) t is h) (has_settles all env fields c))

pub size_held :
    {all : Heap} {f : ℕ → Seen} (env : Env) (fields : List ℕ) (b : Bool) (c : ℕ) → (b ≡ true → Settles all (Of (Ref c)) f)
    → Held all (size_sort (where_ b (Of (Ref c)))) (λ bits. with_value (f bits) (size (record env { ints = bits }) fields))
size_held env fields false c from = record { settles = λ ok. absurd (false≢true ok) }
size_held {all} env fields true c from = record { settles = λ ok. then_settles (Of (Ref c)) (λ bits. size (record env { ints = bits }) fields) (from refl) (size_settles all env fields c) }
