-- How each statement of code ends over a well unit, where methods that are run end so.
use Rattle.std.proofs.Common.{◌≡◌, ℕ, zero, suc, Bool, true, false, List, length, Option, Some, None, refl, sym, ◌∙◌, ap, subst}
use Rattle.std.specs.Prelude.{pos, ◌==◌, ◌&&◌, ◌+ℤ◌, ◌-ℤ◌, nat_lt, if◌then◌else◌, map, slice_get, slice_set, option_map, is_none}
use Rattle.std.specs.Cmp.Lexicographic.{pointwise}
use Rattle.std.proofs.lemmas.Bool.{false≢true}
use Rattle.taco_unit.specs.declared.kind.Kind.{Kind}
use Rattle.taco_unit.specs.declared.kind.Kind.TheVariants as kind
use Rattle.taco_unit.specs.declared.expr.Expr.{Expr}
use Rattle.taco_unit.specs.declared.expr.Op.TheVariants as op
use Rattle.taco_unit.specs.declared.expr.Call.{Call, out-Call}
use Rattle.taco_unit.specs.declared.expr.Expr.TheVariants as e
use Rattle.taco_unit.specs.declared.unit.FieldDef.{FieldDef}
use Rattle.taco_unit.specs.declared.unit.MethodDef.{MethodDef}
use Rattle.taco_unit.specs.Kinds.{Sort, Of, NullOnly, Faulty, NoValue, Sorted, Around, suits, where_, field_sort, sort_of, sort_of_kind, in_code, are_arguments, result_sort}
use Rattle.taco_unit.specs.Bodies.{takes, place_sort, is_call, returns, Fitting}
use Rattle.taco_unit.specs.Well.{IsWell}
use Rattle.taco_unit.proofs.KindForms.{sort_of_call, called_as, is_target_of, sort_call, call_form as call_sorted}
use Rattle.heap_core.specs.declared.value.Value.{Value}
use Rattle.heap_core.specs.declared.value.Value.TheVariants.{Null, Obj, Num, Flag}
use Rattle.heap_core.specs.Posed.{Posed}
use Rattle.heap_core.specs.Outcomes.{number, operated}
use Rattle.heap_core.specs.Heap.{Heap}
use Rattle.heap_core.specs.Start.{has_kind}
use Rattle.heap_core.specs.Exec.{Memory, Ends, Gives, Throws, Leaves, Exit, Goes, Returns, Raises, Stops, Frame, Code, Body, Run, then_with, on_object, gives_in, read, write, code}
use Rattle.heap_core.specs.Exec.{call_of, after, on_branch, after_test, then_body, set_local, stepped, step_field, turns, give_back}
use Rattle.heap_core.proofs.Lists.{beside_set}
use Rattle.dyn_core.proofs.Fitting.{number_only, numbers_only}
use Rattle.dyn_plan.specs.Endings.{ComesAfter, IsOfKind}
use Rattle.dyn_plan.proofs.EndParts.{later_self, later_then, IsKind, kind_later, Ended, ended_then, HoldsIn, holds_later, all_later, kinds_same, seen_ends, object_ends, read_ends}
use Rattle.dyn_plan.proofs.EndParts.{write_ends, Done}
use Rattle.dyn_plan.proofs.EndExprs.{CodeEnds, field_there, local_ends}
use Rattle.dyn_plan.proofs.EndCalls.{IsResult, RunEnds, CallSorted, method_there, expr_ends, every_call}

-- ## statements

-- a statement that begins with this heap and ends within the scope ends with a heap that comes after it, and leaves
-- locals of their kinds, or returns a value of the result's kind
abbrev pub Exits : Posed → Around → Heap → Exit → Type 0
Exits p k heap (Goes ls m) = ComesAfter p heap m.heap × (pointwise (has_kind p.scope.ints m.heap) k.locals ls ≡ true)
Exits p k heap (Returns v m) = ComesAfter p heap m.heap × IsOfKind p.scope.ints m.heap k.result v
Exits p k heap (Raises m) = ComesAfter p heap m.heap
Exits p k heap Stops = Unit {0}

pub record StmtEnds (p : Posed) (fits : Fitting) (b : Body) : Type 0 where
  pub ends : (k : Around) (fr : Frame) (m : Memory) → HoldsIn p k fr m.heap → ComesAfter p m.heap m.heap → fits k ≡ true → Exits p k m.heap (b fr m)

exits_from : (p : Posed) (k : Around) (a b : Heap) (x : Exit) → ComesAfter p a b → Exits p k b x → Exits p k a x
exits_from p k a b (Goes ls m) after exits = (later_then p a b m.heap after exits.0, exits.1)
exits_from p k a b (Returns v m) after exits = (later_then p a b m.heap after exits.0, exits.1)
exits_from p k a b (Raises m) after exits = later_then p a b m.heap after exits
exits_from p k a b Stops after exits = tt

exits_after : {A : Type 0} (p : Posed) (k : Around) (heap : Heap) (P : A → Heap → Type 0) (e : Ends A) (next : A → Memory → Exit)
    → Ended p heap P e → ((a : A) (n : Memory) → ComesAfter p heap n.heap → P a n.heap → Exits p k n.heap (next a n)) → Exits p k heap (after e next)
exits_after p k heap P (Gives a m) next ended on = exits_from p k heap m.heap (next a m) ended.0 (on a m ended.0 ended.1)
exits_after p k heap P (Throws m) next ended on = ended
exits_after p k heap P Leaves next ended on = tt

-- what holds with other locals
with_locals : (p : Posed) (k : Around) (fr : Frame) (heap : Heap) (ls : List Value) → HoldsIn p k fr heap → pointwise (has_kind p.scope.ints heap) k.locals ls ≡ true
    → HoldsIn p k (record fr { locals = ls }) heap
with_locals p k fr heap ls holds are = record { form = holds.form; unit = holds.unit; this = holds.this; locals = are }

pub exits_then : (p : Posed) (k : Around) (fr : Frame) (heap : Heap) (x : Exit) (b : Body) → HoldsIn p k fr heap → Exits p k heap x
    → ((ls : List Value) (n : Memory) → ComesAfter p heap n.heap → HoldsIn p k (record fr { locals = ls }) n.heap → Exits p k n.heap (b (record fr { locals = ls }) n))
    → Exits p k heap (then_body x fr b)
exits_then p k fr heap (Goes ls m) b holds exits on =
    exits_from p k heap m.heap (b (record fr { locals = ls }) m) exits.0
    (on ls m exits.0 (with_locals p k fr m.heap ls (holds_later p k fr heap m.heap exits.0 holds) exits.1))
exits_then p k fr heap (Returns v m) b holds exits on = exits
exits_then p k fr heap (Raises m) b holds exits on = exits
exits_then p k fr heap Stops b holds exits on = tt

-- on to the end of a statement that leaves the locals as they are
goes_on : (p : Posed) (k : Around) (fr : Frame) (a b : Heap) (m : Memory) → HoldsIn p k fr a → ComesAfter p a m.heap → Exits p k m.heap (Goes fr.locals m)
goes_on p k fr a b m holds after = (later_self p a m.heap after, all_later p a m.heap k.locals fr.locals after holds.locals)

-- ## locals and fields

set_exits : (p : Posed) (k : Around) (fr : Frame) (m : Memory) (i : ℕ) (l : Kind) (v : Value) → HoldsIn p k fr m.heap → ComesAfter p m.heap m.heap → slice_get k.locals i ≡ Some l
    → IsKind p l v m.heap → Exits p k m.heap (set_local fr i v m)
set_exits p k fr m i l v holds whole there is = by (nat_lt i (length fr.locals))
  where
    by : (t : Bool) → Exits p k m.heap (if t then Goes (slice_set fr.locals i v) m else Stops)
    by true = (whole, beside_set (has_kind p.scope.ints m.heap) k.locals fr.locals i l v holds.locals there is)
    by false = tt

-- the kind of a local that takes this sort
local_takes : (o : Option Kind) (s : Sort) → takes (sort_of_kind o) s ≡ true → (l : Kind) × (o ≡ Some l) × (suits l s ≡ true)
local_takes None s is = absurd (false≢true is)
local_takes (Some l) s is = (l, refl, is)

record FieldTakes (o : Option FieldDef) (s t : Sort) : Type 0 where
  pub declared : FieldDef
  pub there : o ≡ Some declared
  pub object : suits (kind.Ref declared.class) s ≡ true
  pub value : suits declared.kind t ≡ true

where_takes : (b : Bool) (k : Kind) (t : Sort) → takes (where_ b (Of k)) t ≡ true → (b ≡ true) × (suits k t ≡ true)
where_takes true k t is = (refl, is)
where_takes false k t is = absurd (false≢true is)

field_takes : (o : Option FieldDef) (s t : Sort) → takes (field_sort o s) t ≡ true → FieldTakes o s t
field_takes None s t is = absurd (false≢true is)
field_takes (Some d) (Of (kind.Ref c)) t is =
    let parts = where_takes (d.class == c) d.kind t is in
    record { declared = d; there = refl; object = parts.0; value = parts.1 }
field_takes (Some d) (Of kind.Int) t is = absurd (false≢true is)
field_takes (Some d) (Of kind.Flag) t is = absurd (false≢true is)
field_takes (Some d) NullOnly t is = absurd (false≢true is)
field_takes (Some d) NoValue t is = absurd (false≢true is)
field_takes (Some d) Faulty t is = absurd (false≢true is)

stepped_ends : (p : Posed) (up : Bool) (v : Value) (m : Memory) → ComesAfter p m.heap m.heap → Ended p m.heap (IsKind p kind.Int) (stepped p.scope.ints up v m)
stepped_ends p true v m whole = seen_ends p kind.Int m (operated op.Add p.scope.ints v (Num (pos 1))) whole
    (numbers_only p.scope.ints m.heap kind.Int (λ x y. number p.scope.ints (x +ℤ y)) (λ x y. number_only p.scope.ints m.heap (x +ℤ y)) v (Num (pos 1)))
stepped_ends p false v m whole = seen_ends p kind.Int m (operated op.Sub p.scope.ints v (Num (pos 1))) whole
    (numbers_only p.scope.ints m.heap kind.Int (λ x y. number p.scope.ints (x -ℤ y)) (λ x y. number_only p.scope.ints m.heap (x -ℤ y)) v (Num (pos 1)))

step_field_ends : (p : Posed) → IsWell p.unit → (f o : ℕ) (up : Bool) (d : FieldDef) (m : Memory) → ComesAfter p m.heap m.heap → slice_get p.unit.fields f ≡ Some d → d.kind ≡ kind.Int
    → IsKind p (kind.Ref d.class) (Obj o) m.heap → Ended p m.heap Done (step_field p f up o m)
step_field_ends p well f o up d m whole there int is =
    ended_then p m.heap (IsKind p d.kind) Done (read p f o m) (λ v n. then_with (stepped p.scope.ints up v n) (λ u l. write p f o u l)) (read_ends p well f o d m whole there is)
    (λ v n after of.
    ended_then p n.heap (IsKind p kind.Int) Done (stepped p.scope.ints up v n) (λ u l. write p f o u l) (stepped_ends p up v n (later_self p m.heap n.heap after))
    (λ u l later number.
    let object = kind_later p n.heap l.heap (kind.Ref d.class) (Obj o) later (kind_later p m.heap n.heap (kind.Ref d.class) (Obj o) after is) in
    write_ends p well f o d u l (later_self p n.heap l.heap later) there object (subst (λ z. IsKind p z u l.heap) (sym int) number)))

-- ## loops

module _ (p : Posed) (k : Around) (sort : Sorted) (c : Code) (fits : Fitting) (b : Body) (test : CodeEnds p sort c) (body : StmtEnds p fits b) (is : suits kind.Flag (sort k) ≡ true)
    (fit : fits k ≡ true) where
  pub turns_end : (n : ℕ) (fr : Frame) (m : Memory) → HoldsIn p k fr m.heap → ComesAfter p m.heap m.heap → Exits p k m.heap (turns n c b fr m)
  turns_end zero fr m holds whole =
      exits_after p k m.heap (IsKind p kind.Flag) (c fr m) (on_branch (λ b n. if b then Stops else Goes fr.locals n)) (test.ends k fr m kind.Flag holds whole is)
      (λ v n after of. by v n after)
    where
      by : (v : Value) (n : Memory) → ComesAfter p m.heap n.heap → Exits p k n.heap (on_branch (λ b n. if b then Stops else Goes fr.locals n) v n)
      by (Flag true) n after = tt
      by (Flag false) n after = goes_on p k fr m.heap n.heap n holds after
      by Null n after = tt
      by (Obj o) n after = tt
      by (Num z) n after = tt
  turns_end (suc i) fr m holds whole =
      exits_after p k m.heap (IsKind p kind.Flag) (c fr m) (on_branch (λ x n. if x then then_body (b fr n) fr (turns i c b) else Goes fr.locals n)) (test.ends k fr m kind.Flag holds whole is)
      (λ v n after of. by (turns_end i) v n after)
    where
      by : ((fr : Frame) (m : Memory) → HoldsIn p k fr m.heap → ComesAfter p m.heap m.heap → Exits p k m.heap (turns i c b fr m)) → (v : Value) (n : Memory)
          → ComesAfter p m.heap n.heap → Exits p k n.heap (on_branch (λ x n. if x then then_body (b fr n) fr (turns i c b) else Goes fr.locals n) v n)
      by rest (Flag true) n after =
          let around = holds_later p k fr m.heap n.heap after holds in
          exits_then p k fr n.heap (b fr n) (turns i c b) around (body.ends k fr n around (later_self p m.heap n.heap after) fit)
          (λ ls q later held. rest (record fr { locals = ls }) q held (later_self p n.heap q.heap later))
      by rest (Flag false) n after = goes_on p k fr m.heap n.heap n holds after
      by rest Null n after = tt
      by rest (Obj o) n after = tt
      by rest (Num z) n after = tt

-- ## each form

module _ (p : Posed) (well : IsWell p.unit) (run : Run) (runs : RunEnds p run) where
  pub expr : (a : Expr) → CodeEnds p (sort_of a) (code p run a)
  expr a = expr_ends p well run runs a

  pub assign_exits : (i : ℕ) (a : Expr) (k : Around) (fr : Frame) (m : Memory) → HoldsIn p k fr m.heap → ComesAfter p m.heap m.heap
      → takes (sort_of_kind (slice_get k.locals i)) (sort_of a k) ≡ true → Exits p k m.heap (after (code p run a fr m) (set_local fr i))
  assign_exits i a k fr m holds whole fits =
      let local = local_takes (slice_get k.locals i) (sort_of a k) fits in
      exits_after p k m.heap (IsKind p local.0) (code p run a fr m) (set_local fr i) ((expr a).ends k fr m local.0 holds whole local.2)
      (λ v n after is. set_exits p k fr n i local.0 v (holds_later p k fr m.heap n.heap after holds) (later_self p m.heap n.heap after) local.1 is)

  pub write_exits : (a c : Expr) (f : ℕ) (k : Around) (fr : Frame) (m : Memory) → HoldsIn p k fr m.heap → ComesAfter p m.heap m.heap → takes (place_sort k a f) (sort_of c k) ≡ true
      → Exits p k m.heap (after (code p run a fr m) (λ v n. after (code p run c fr n) (λ u l. after (on_object (λ o. write p f o u) v l) (λ z. Goes fr.locals))))
  write_exits a c f k fr m holds whole fits =
      let field = field_takes (slice_get k.unit.fields f) (sort_of a k) (sort_of c k) fits in
      let d = field.declared in
      let there = field_there p k f d holds.unit field.there in
      exits_after p k m.heap (IsKind p (kind.Ref d.class)) (code p run a fr m) (λ v n. after (code p run c fr n) (λ u l. after (on_object (λ o. write p f o u) v l) (λ z. Goes fr.locals)))
      ((expr a).ends k fr m (kind.Ref d.class) holds whole field.object)
      (λ v n passed is.
      let around = holds_later p k fr m.heap n.heap passed holds in
      exits_after p k n.heap (IsKind p d.kind) (code p run c fr n) (λ u l. after (on_object (λ o. write p f o u) v l) (λ z. Goes fr.locals))
      ((expr c).ends k fr n d.kind around (later_self p m.heap n.heap passed) field.value)
      (λ u l later of.
      let self = later_self p n.heap l.heap later in
      let held = holds_later p k fr n.heap l.heap later around in
      exits_after p k l.heap Done (on_object (λ o. write p f o u) v l) (λ z. Goes fr.locals)
      (object_ends p d.class l Done (λ o. write p f o u) v self (kind_later p n.heap l.heap (kind.Ref d.class) v later is) (λ o object. write_ends p well f o d u l self there object of))
      (λ z q done nothing. goes_on p k fr l.heap q.heap q held done)))

  pub step_local_exits : (i : ℕ) (up : Bool) (k : Around) (fr : Frame) (m : Memory) → HoldsIn p k fr m.heap → ComesAfter p m.heap m.heap
      → takes (sort_of_kind (slice_get k.locals i)) (Of kind.Int) ≡ true
      → Exits p k m.heap (after (gives_in (slice_get fr.locals i) m) (λ v n. after (stepped p.scope.ints up v n) (set_local fr i)))
  step_local_exits i up k fr m holds whole fits =
      let local = local_takes (slice_get k.locals i) (Of kind.Int) fits in
      let there : slice_get k.locals i ≡ Some kind.Int = local.1 ∙ ap Some (kinds_same local.0 kind.Int local.2) in
      exits_after p k m.heap (IsKind p kind.Int) (gives_in (slice_get fr.locals i) m) (λ v n. after (stepped p.scope.ints up v n) (set_local fr i))
      (local_ends p i k fr m kind.Int holds whole kind.Int there refl)
      (λ v n after is.
      exits_after p k n.heap (IsKind p kind.Int) (stepped p.scope.ints up v n) (set_local fr i) (stepped_ends p up v n (later_self p m.heap n.heap after))
      (λ u l later of.
      set_exits p k fr l i kind.Int u (holds_later p k fr n.heap l.heap later (holds_later p k fr m.heap n.heap after holds)) (later_self p n.heap l.heap later) there of))

  pub step_field_exits : (a : Expr) (f : ℕ) (up : Bool) (k : Around) (fr : Frame) (m : Memory) → HoldsIn p k fr m.heap → ComesAfter p m.heap m.heap → takes (place_sort k a f) (Of kind.Int) ≡ true
      → Exits p k m.heap (after (code p run a fr m) (λ v n. after (on_object (step_field p f up) v n) (λ z. Goes fr.locals)))
  step_field_exits a f up k fr m holds whole fits =
      let field = field_takes (slice_get k.unit.fields f) (sort_of a k) (Of kind.Int) fits in
      let d = field.declared in
      let there = field_there p k f d holds.unit field.there in
      exits_after p k m.heap (IsKind p (kind.Ref d.class)) (code p run a fr m) (λ v n. after (on_object (step_field p f up) v n) (λ z. Goes fr.locals))
      ((expr a).ends k fr m (kind.Ref d.class) holds whole field.object)
      (λ v n after is.
      let self = later_self p m.heap n.heap after in
      let held = holds_later p k fr m.heap n.heap after holds in
      exits_after p k n.heap Done (on_object (step_field p f up) v n) (λ z. Goes fr.locals)
      (object_ends p d.class n Done (step_field p f up) v self is (λ o of. step_field_ends p well f o up d n self there (kinds_same d.kind kind.Int field.value) of))
      (λ z q done nothing. goes_on p k fr n.heap q.heap q held done))

  pub branch_exits : (a : Expr) (x y : Fitting) (b d : Body) (k : Around) (fr : Frame) (m : Memory) → StmtEnds p x b → StmtEnds p y d → HoldsIn p k fr m.heap → ComesAfter p m.heap m.heap
      → suits kind.Flag (sort_of a k) ≡ true → x k ≡ true → y k ≡ true → Exits p k m.heap (after_test (code p run a fr m) (λ t n. if t then b fr n else d fr n))
  branch_exits a x y b d k fr m first second holds whole test taken other =
      exits_after p k m.heap (IsKind p kind.Flag) (code p run a fr m) (on_branch (λ t n. if t then b fr n else d fr n)) ((expr a).ends k fr m kind.Flag holds whole test)
      (λ v n after is. by v n (holds_later p k fr m.heap n.heap after holds) (later_self p m.heap n.heap after))
    where
      by : (v : Value) (n : Memory) → HoldsIn p k fr n.heap → ComesAfter p n.heap n.heap → Exits p k n.heap (on_branch (λ t n. if t then b fr n else d fr n) v n)
      by (Flag true) n around self = first.ends k fr n around self taken
      by (Flag false) n around self = second.ends k fr n around self other
      by Null n around self = tt
      by (Obj o) n around self = tt
      by (Num z) n around self = tt

  pub return_exits : (a : Option Expr) (k : Around) (fr : Frame) (m : Memory) → HoldsIn p k fr m.heap → ComesAfter p m.heap m.heap → returns k a ≡ true
      → Exits p k m.heap (give_back (option_map (code p run) a) fr m)
  return_exits None k fr m holds whole fits = (whole, by k.result fits)
    where
      by : (o : Option Kind) → is_none o ≡ true → IsOfKind p.scope.ints m.heap o None
      by None is = tt
      by (Some r) is = absurd (false≢true is)
  return_exits (Some a) k fr m holds whole fits =
      let result = local_takes k.result (sort_of a k) fits in
      exits_after p k m.heap (IsKind p result.0) (code p run a fr m) (λ v n. Returns (Some v) n) ((expr a).ends k fr m result.0 holds whole result.2)
      (λ v n after is. (later_self p m.heap n.heap after, subst (λ o. IsOfKind p.scope.ints n.heap o (Some v)) (sym result.1) is))

  called_stands : (k : Around) (t : Option Expr) (as_ : List Expr) (o : Option MethodDef) → is_call (called_as k t as_ o) ≡ true → CallSorted k t as_ o
  called_stands k t as_ None is = absurd (false≢true is)
  called_stands k t as_ (Some d) is =
      record { method = d; there = refl; fits = by (is_target_of k d t && are_arguments k d.params (map sort_of as_)) (result_sort d.result) is }
    where
      by : (b : Bool) (s : Sort) → is_call (where_ b s) ≡ true → b ≡ true
      by true s is = refl
      by false s is = absurd (false≢true is)

  pub run_exits : (c : Call) (k : Around) (fr : Frame) (m : Memory) → HoldsIn p k fr m.heap → ComesAfter p m.heap m.heap → is_call (sort_of (e.Call c) k) ≡ true
      → Exits p k m.heap (after (call_of p run c fr m) (λ v. Goes fr.locals))
  run_exits c k fr m holds whole fits =
      let x = out-Call c in
      let in_form : is_call (sort_of_call c k) ≡ true = subst (λ z. is_call (in_code z (sort_of_call c k)) ≡ true) holds.form (subst (λ z. is_call z ≡ true) (sort_call c k) fits) in
      let sorted = called_stands k x.target x.args (slice_get k.unit.methods x.method) (subst (λ z. is_call z ≡ true) (call_sorted c k) in_form) in
      let d = sorted.method in
      exits_after p k m.heap (IsResult p d) (call_of p run c fr m) (λ v. Goes fr.locals)
      ((every_call p well run runs c).ends k fr m d holds whole (method_there p k x.method d holds.unit sorted.there) sorted.fits)
      (λ v n after is. goes_on p k fr m.heap n.heap n holds after)
