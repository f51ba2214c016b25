-- How expressions of code end over a well unit, form by form.
use Rattle.std.proofs.Common.{◌≡◌, ℕ, Bool, true, false, Option, Some, None, refl, sym, ◌∙◌, ap, subst}
use Rattle.std.specs.Prelude.{◌==◌, ◌&&◌, ◌+ℤ◌, ◌-ℤ◌, ◌*ℤ◌, neg_ℤ, int_lt, int_le, if◌then◌else◌, slice_get}
use Rattle.std.proofs.lemmas.Bool.{false≢true, and_parts}
use Rattle.taco_unit.specs.declared.kind.Kind.{Kind}
use Rattle.taco_unit.specs.declared.kind.Kind.TheVariants as kind
use Rattle.taco_unit.specs.declared.expr.Op.{Op}
use Rattle.taco_unit.specs.declared.expr.Op.TheVariants as op
use Rattle.taco_unit.specs.declared.unit.FieldDef.{FieldDef}
use Rattle.taco_unit.specs.Kinds.{Sort, Of, NullOnly, Faulty, NoValue, Sorted, Around, suits, alike, where_, field_sort, binary_sort, operator_sort}
use Rattle.taco_unit.specs.Well.{IsWell}
use Rattle.heap_core.specs.declared.value.Value.{Value}
use Rattle.heap_core.specs.declared.value.Value.TheVariants.{Null, Obj, Num, Flag}
use Rattle.heap_core.specs.declared.value.Seen.{Seen}
use Rattle.heap_core.specs.declared.value.Seen.TheVariants.{Is, Bad, Out}
use Rattle.heap_core.specs.Posed.{Posed}
use Rattle.heap_core.specs.Outcomes.{number, flag, negative, opposite, same, operated, with_value}
use Rattle.heap_core.specs.Heap.{Heap}
use Rattle.heap_core.specs.Start.{has_kind}
use Rattle.heap_core.specs.Exec.{Memory, Ends, Gives, Frame, Code, then_with, on_test, as_test, ends_as, on_object, gives_in, read, combined}
use Rattle.heap_core.proofs.Lists.{beside}
use Rattle.dyn_core.proofs.Fitting.{gives_only, number_only, numbers_only, same_only}
use Rattle.dyn_plan.specs.Endings.{ComesAfter}
use Rattle.dyn_plan.proofs.EndParts.{later_self, IsKind, Ended, ended_then, HoldsIn, holds_later, where_suits, in_clause_never, as_kind, same_itself, seen_ends, object_ends, read_ends}

-- code of this sort ends with a value of each kind that the sort suits
pub record CodeEnds (p : Posed) (sort : Sorted) (c : Code) : Type 0 where
  pub ends : (k : Around) (fr : Frame) (m : Memory) (w : Kind) → HoldsIn p k fr m.heap → ComesAfter p m.heap m.heap → suits w (sort k) ≡ true → Ended p m.heap (IsKind p w) (c fr m)

-- ## one operand

pub one_ends : (p : Posed) (sort : Sorted) (c : Code) (v w : Kind) (make : Value → Seen) (k : Around) (fr : Frame) (m : Memory) → CodeEnds p sort c → HoldsIn p k fr m.heap
    → ComesAfter p m.heap m.heap → suits v (sort k) ≡ true → ((heap : Heap) (x : Value) → gives_only p.scope.ints heap w (make x) ≡ true)
    → Ended p m.heap (IsKind p w) (then_with (c fr m) (λ v n. ends_as n (make v)))
one_ends p sort c v w make k fr m claim holds whole fits only =
    ended_then p m.heap (IsKind p v) (IsKind p w) (c fr m) (λ v n. ends_as n (make v)) (claim.ends k fr m v holds whole fits)
    (λ x n after is. seen_ends p w n (make x) (later_self p m.heap n.heap after) (only n.heap x))

pub negative_only : (w : ℕ) (heap : Heap) (x : Value) → gives_only w heap kind.Int (negative w x) ≡ true
negative_only w heap (Num z) = number_only w heap (neg_ℤ z)
negative_only w heap Null = refl
negative_only w heap (Obj o) = refl
negative_only w heap (Flag b) = refl

pub opposite_only : (w : ℕ) (heap : Heap) (x : Value) → gives_only w heap kind.Flag (opposite x) ≡ true
opposite_only w heap (Num z) = refl
opposite_only w heap Null = refl
opposite_only w heap (Obj o) = refl
opposite_only w heap (Flag b) = refl

-- ## fields

-- a field that is read, by the sort of its object
pub record FieldSorted (o : Option FieldDef) (s : Sort) : Type 0 where
  pub declared : FieldDef
  pub there : o ≡ Some declared
  pub object : suits (kind.Ref declared.class) s ≡ true

pub field_sorted : (o : Option FieldDef) (s : Sort) (w : Kind) → suits w (field_sort o s) ≡ true → (f : FieldSorted o s) × (suits w (Of f.declared.kind) ≡ true)
field_sorted None s w is = absurd (false≢true is)
field_sorted (Some d) (Of (kind.Ref c)) w is =
    let parts = where_suits (d.class == c) (Of d.kind) w is in
    (record { declared = d; there = refl; object = parts.0 }, parts.1)
field_sorted (Some d) (Of kind.Int) w is = absurd (false≢true is)
field_sorted (Some d) (Of kind.Flag) w is = absurd (false≢true is)
field_sorted (Some d) NullOnly w is = absurd (false≢true is)
field_sorted (Some d) NoValue w is = absurd (false≢true is)
field_sorted (Some d) Faulty w is = absurd (false≢true is)

pub field_there : (p : Posed) (k : Around) (f : ℕ) (d : FieldDef) → k.unit ≡ p.unit → slice_get k.unit.fields f ≡ Some d → slice_get p.unit.fields f ≡ Some d
field_there p k f d same there = ap (λ u. slice_get u.fields f) (sym same) ∙ there

pub field_ends : (p : Posed) → IsWell p.unit → (sort : Sorted) (c : Code) (f : ℕ) (k : Around) (fr : Frame) (m : Memory) (w : Kind) → CodeEnds p sort c → HoldsIn p k fr m.heap
    → ComesAfter p m.heap m.heap → suits w (field_sort (slice_get k.unit.fields f) (sort k)) ≡ true → Ended p m.heap (IsKind p w) (then_with (c fr m) (on_object (read p f)))
field_ends p well sort c f k fr m w claim holds whole is =
    let sorted = field_sorted (slice_get k.unit.fields f) (sort k) w is in
    let d = sorted.0.declared in
    let there = field_there p k f d holds.unit sorted.0.there in
    as_kind p w d.kind m.heap (then_with (c fr m) (on_object (read p f))) sorted.1
    (ended_then p m.heap (IsKind p (kind.Ref d.class)) (IsKind p d.kind) (c fr m) (on_object (read p f)) (claim.ends k fr m (kind.Ref d.class) holds whole sorted.0.object)
    (λ v n after is.
    let self = later_self p m.heap n.heap after in
    object_ends p d.class n (IsKind p d.kind) (read p f) v self is (λ o of. read_ends p well f o d n self there of)))

-- ## two operands

both_end : (p : Posed) (o : Op) (s t : Sorted) (a c : Code) (v w : Kind) (k : Around) (fr : Frame) (m : Memory) → CodeEnds p s a → CodeEnds p t c → HoldsIn p k fr m.heap
    → ComesAfter p m.heap m.heap → suits v (s k) ≡ true → suits v (t k) ≡ true → ((heap : Heap) (x y : Value) → gives_only p.scope.ints heap w (operated o p.scope.ints x y) ≡ true)
    → Ended p m.heap (IsKind p w) (then_with (a fr m) (λ x n. then_with (c fr n) (λ y l. ends_as l (operated o p.scope.ints x y))))
both_end p o s t a c v w k fr m first second holds whole left right only =
    ended_then p m.heap (IsKind p v) (IsKind p w) (a fr m) (λ x n. then_with (c fr n) (λ y l. ends_as l (operated o p.scope.ints x y))) (first.ends k fr m v holds whole left)
    (λ x n after is. one_ends p t c v w (operated o p.scope.ints x) k fr n second (holds_later p k fr m.heap n.heap after holds) (later_self p m.heap n.heap after) right
    (λ heap y. only heap x y))

alike_kind : (s t : Sort) → alike s t ≡ true → (k : Kind) × (suits k s ≡ true) × (suits k t ≡ true)
alike_kind (Of k) t is = (k, same_itself k, is)
alike_kind NullOnly (Of k) is = (k, is, same_itself k)
alike_kind NullOnly NullOnly is = (kind.Ref 0, refl, refl)
alike_kind NullOnly NoValue is = absurd (false≢true is)
alike_kind NullOnly Faulty is = absurd (false≢true is)
alike_kind NoValue t is = absurd (false≢true is)
alike_kind Faulty t is = absurd (false≢true is)

differs_only : (w : ℕ) (heap : Heap) (s : Seen) → gives_only w heap kind.Flag (with_value s opposite) ≡ true
differs_only w heap (Is v) = opposite_only w heap v
differs_only w heap Bad = refl
differs_only w heap Out = refl

-- a truth value, where it is one
truth_ends : (p : Posed) (v : Value) (m : Memory) → ComesAfter p m.heap m.heap → Ended p m.heap (IsKind p kind.Flag) (on_test (λ b n. Gives (Flag b) n) v m)
truth_ends p (Flag b) m whole = (whole, refl)
truth_ends p Null m whole = tt
truth_ends p (Obj o) m whole = tt
truth_ends p (Num z) m whole = tt

-- the right operand, where it is looked at
right_ends : (p : Posed) (t : Sorted) (c : Code) (k : Around) (fr : Frame) (m : Memory) → CodeEnds p t c → HoldsIn p k fr m.heap → ComesAfter p m.heap m.heap → suits kind.Flag (t k) ≡ true
    → Ended p m.heap (IsKind p kind.Flag) (as_test (c fr m))
right_ends p t c k fr m claim holds whole fits =
    ended_then p m.heap (IsKind p kind.Flag) (IsKind p kind.Flag) (c fr m) (on_test (λ b n. Gives (Flag b) n)) (claim.ends k fr m kind.Flag holds whole fits)
    (λ v n after is. truth_ends p v n (later_self p m.heap n.heap after))

module _ (p : Posed) (s t : Sorted) (a c : Code) (k : Around) (fr : Frame) (m : Memory) (w : Kind) (first : CodeEnds p s a) (second : CodeEnds p t c) (holds : HoldsIn p k fr m.heap)
    (whole : ComesAfter p m.heap m.heap) where
  of_numbers : (o : Op) (r : Kind) → ((heap : Heap) (x y : Value) → gives_only p.scope.ints heap r (operated o p.scope.ints x y) ≡ true)
      → suits w (where_ (suits kind.Int (s k) && suits kind.Int (t k)) (Of r)) ≡ true
      → Ended p m.heap (IsKind p w) (then_with (a fr m) (λ x n. then_with (c fr n) (λ y l. ends_as l (operated o p.scope.ints x y))))
  of_numbers o r only is =
      let parts = where_suits (suits kind.Int (s k) && suits kind.Int (t k)) (Of r) w is in
      let both = and_parts (suits kind.Int (s k)) (suits kind.Int (t k)) parts.0 in
      as_kind p w r m.heap (then_with (a fr m) (λ x n. then_with (c fr n) (λ y l. ends_as l (operated o p.scope.ints x y)))) parts.1
      (both_end p o s t a c kind.Int r k fr m first second holds whole both.0 both.1 only)

  of_same : (o : Op) → ((heap : Heap) (x y : Value) → gives_only p.scope.ints heap kind.Flag (operated o p.scope.ints x y) ≡ true)
      → suits w (where_ (alike (s k) (t k)) (Of kind.Flag)) ≡ true
      → Ended p m.heap (IsKind p w) (then_with (a fr m) (λ x n. then_with (c fr n) (λ y l. ends_as l (operated o p.scope.ints x y))))
  of_same o only is =
      let parts = where_suits (alike (s k) (t k)) (Of kind.Flag) w is in
      let both = alike_kind (s k) (t k) parts.0 in
      as_kind p w kind.Flag m.heap (then_with (a fr m) (λ x n. then_with (c fr n) (λ y l. ends_as l (operated o p.scope.ints x y)))) parts.1
      (both_end p o s t a c both.0 kind.Flag k fr m first second holds whole both.1 both.2 only)

  of_truth : (decides : Bool) → suits w (where_ (suits kind.Flag (s k) && suits kind.Flag (t k)) (Of kind.Flag)) ≡ true
      → Ended p m.heap (IsKind p w) (then_with (a fr m) (on_test (λ x n. if x then (if decides then Gives (Flag true) n else as_test (c fr n)) else (if decides then as_test
      (c fr n) else Gives (Flag false) n))))
  of_truth decides is =
      let parts = where_suits (suits kind.Flag (s k) && suits kind.Flag (t k)) (Of kind.Flag) w is in
      let both = and_parts (suits kind.Flag (s k)) (suits kind.Flag (t k)) parts.0 in
      let next : Value → Memory → Ends Value = on_test (λ x n. if x then (if decides then Gives (Flag true) n else as_test (c fr n)) else (if decides then as_test (c fr n) else Gives
      (Flag false) n)) in
      as_kind p w kind.Flag m.heap (then_with (a fr m) next) parts.1
      (ended_then p m.heap (IsKind p kind.Flag) (IsKind p kind.Flag) (a fr m) next (first.ends k fr m kind.Flag holds whole both.0)
      (λ v n after is. by decides both.1 v n (holds_later p k fr m.heap n.heap after holds) (later_self p m.heap n.heap after)))
    where
      by : (decides : Bool) → suits kind.Flag (t k) ≡ true → (v : Value) (n : Memory) → HoldsIn p k fr n.heap → ComesAfter p n.heap n.heap
          → Ended p n.heap (IsKind p kind.Flag) (on_test (λ x n. if x then (if decides then Gives (Flag true) n else as_test (c fr n)) else (if decides then as_test
          (c fr n) else Gives (Flag false) n)) v n)
      by true fits (Flag true) n around self = (self, refl)
      by true fits (Flag false) n around self = right_ends p t c k fr n second around self fits
      by false fits (Flag true) n around self = right_ends p t c k fr n second around self fits
      by false fits (Flag false) n around self = (self, refl)
      by decides fits Null n around self = tt
      by decides fits (Obj o) n around self = tt
      by decides fits (Num z) n around self = tt

  pub combined_ends : (o : Op) → suits w (operator_sort o k.form (binary_sort o (s k) (t k))) ≡ true → Ended p m.heap (IsKind p w) (combined o p.scope.ints a c fr m)
  combined_ends op.Add is = of_numbers op.Add kind.Int
      (λ heap. numbers_only p.scope.ints heap kind.Int (λ x y. number p.scope.ints (x +ℤ y)) (λ x y. number_only p.scope.ints heap (x +ℤ y))) is
  combined_ends op.Sub is = of_numbers op.Sub kind.Int
      (λ heap. numbers_only p.scope.ints heap kind.Int (λ x y. number p.scope.ints (x -ℤ y)) (λ x y. number_only p.scope.ints heap (x -ℤ y))) is
  combined_ends op.Mul is = of_numbers op.Mul kind.Int
      (λ heap. numbers_only p.scope.ints heap kind.Int (λ x y. number p.scope.ints (x *ℤ y)) (λ x y. number_only p.scope.ints heap (x *ℤ y))) is
  combined_ends op.Eq is = of_same op.Eq (λ heap x y. same_only p.scope.ints heap x y) is
  combined_ends op.Ne is = of_same op.Ne (λ heap x y. differs_only p.scope.ints heap (same x y)) is
  combined_ends op.Lt is = of_numbers op.Lt kind.Flag (λ heap. numbers_only p.scope.ints heap kind.Flag (λ x y. flag (int_lt x y)) (λ x y. refl)) is
  combined_ends op.Le is = of_numbers op.Le kind.Flag (λ heap. numbers_only p.scope.ints heap kind.Flag (λ x y. flag (int_le x y)) (λ x y. refl)) is
  combined_ends op.Gt is = of_numbers op.Gt kind.Flag (λ heap. numbers_only p.scope.ints heap kind.Flag (λ x y. flag (int_lt y x)) (λ x y. refl)) is
  combined_ends op.Ge is = of_numbers op.Ge kind.Flag (λ heap. numbers_only p.scope.ints heap kind.Flag (λ x y. flag (int_le y x)) (λ x y. refl)) is
  combined_ends op.And is = of_truth false is
  combined_ends op.Or is = of_truth true is
  combined_ends op.Implies is = absurd (in_clause_never k.form (binary_sort op.Implies (s k) (t k)) w holds.form is)
  combined_ends op.Iff is = absurd (in_clause_never k.form (binary_sort op.Iff (s k) (t k)) w holds.form is)

-- ## locals

pub local_ends : (p : Posed) (i : ℕ) (k : Around) (fr : Frame) (m : Memory) (w : Kind) → HoldsIn p k fr m.heap → ComesAfter p m.heap m.heap → (l : Kind) → slice_get k.locals i ≡ Some l
    → suits w (Of l) ≡ true → Ended p m.heap (IsKind p w) (gives_in (slice_get fr.locals i) m)
local_ends p i k fr m w holds whole l there fits =
    let found = beside (has_kind p.scope.ints m.heap) k.locals fr.locals i l holds.locals there in
    as_kind p w l m.heap (gives_in (slice_get fr.locals i) m) fits (subst (λ o. Ended p m.heap (IsKind p l) (gives_in o m)) (sym found.1) (whole, found.2))
