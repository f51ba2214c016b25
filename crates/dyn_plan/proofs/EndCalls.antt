-- How each expression and each call of code ends over a well unit, where methods that are run end so.
use Rattle.std.proofs.Common.{◌≡◌, ℕ, Bool, true, false, List, [], ◌∷◌, Option, Some, None, refl, sym, ◌∙◌, ap, subst}
use Rattle.std.specs.Prelude.{not, ◌&&◌, nat_lt, map, length, slice_get, option_map}
use Rattle.std.specs.Cmp.Lexicographic.{pointwise}
use Rattle.std.proofs.lemmas.Bool.{false≢true, and_parts, and_from}
use Rattle.taco_unit.specs.declared.kind.Kind.{Kind}
use Rattle.taco_unit.specs.declared.kind.Kind.TheVariants as kind
use Rattle.taco_unit.specs.declared.expr.Expr.{Expr, ind-Expr, roll-Expr, map-Expr}
use Rattle.taco_unit.specs.declared.expr.Expr.TheOpen.{Expr-F, Call-F}
use Rattle.taco_unit.specs.declared.expr.Expr.TheVariants as e
use Rattle.taco_unit.specs.declared.expr.Call.{Call, out-Call, roll-Call, map-Call}
use Rattle.taco_unit.specs.declared.expr.Quant.{Quant}
use Rattle.taco_unit.specs.declared.expr.Reach.{Reach}
use Rattle.taco_unit.specs.declared.unit.MethodDef.{MethodDef}
use Rattle.taco_unit.specs.declared.unit.ParamDef.{ParamDef}
use Rattle.taco_unit.specs.Kinds.{Sort, Of, NullOnly, Faulty, NoValue, Sorted, Around, suits, where_, sort_of, sort_of_kind, sort_of_class, field_sort, binary_sort, operator_sort}
use Rattle.taco_unit.specs.Kinds.{in_code, is_object_of, are_arguments, result_sort}
use Rattle.taco_unit.specs.Well.{IsWell, receiver_of, result_kind}
use Rattle.taco_unit.proofs.KindForms.{sort_of_call, called_as, is_target_of, sort_num, sort_flag, sort_null, sort_this, sort_local, sort_read, sort_neg, sort_not, sort_bin}
use Rattle.taco_unit.proofs.KindForms.{sort_new, sort_call, call_form as call_sorted}
use Rattle.heap_core.specs.declared.value.Value.{Value}
use Rattle.heap_core.specs.declared.value.Value.TheVariants.{Null, Obj, Flag}
use Rattle.heap_core.specs.Posed.{Posed}
use Rattle.heap_core.specs.Outcomes.{number, negative, opposite}
use Rattle.heap_core.specs.Heap.{Heap}
use Rattle.heap_core.specs.Start.{has_kind}
use Rattle.heap_core.specs.Exec.{Memory, Ends, Gives, Leaves, Frame, Code, Run, then_with, ends_as, on_object, gives_in, read, make, combined, in_order, target_of, entered, code, call_of}
use Rattle.heap_core.proofs.Lists.{beside_more}
use Rattle.heap_core.proofs.ExecForms.{code_num, code_flag, code_null, code_this, code_local, code_read, code_neg, code_not, code_bin, code_new, code_call, code_result, code_bound}
use Rattle.heap_core.proofs.ExecForms.{code_quant, code_old, code_has, code_size, call_form}
use Rattle.dyn_core.proofs.Fitting.{number_only}
use Rattle.dyn_plan.specs.Endings.{ComesAfter, IsOfKind}
use Rattle.dyn_plan.proofs.EndParts.{later_self, IsKind, kind_later, Ended, ended_then, HoldsIn, holds_later, where_suits, in_code_suits, as_kind, kinds_same, seen_ends, object_ends, make_ends}
use Rattle.dyn_plan.proofs.EndExprs.{CodeEnds, one_ends, negative_only, opposite_only, field_ends, combined_ends, local_ends}

-- ## methods that are run

-- a value of a parameter's kind
abbrev pub fits_param : ℕ → Heap → ParamDef → Value → Bool
fits_param w heap q v = has_kind w heap q.kind v

-- a result of the method's kind, exactly where it has one
abbrev pub IsResult : Posed → MethodDef → Option Value → Heap → Type 0
IsResult p d v heap = IsOfKind p.scope.ints heap (result_kind d) v

-- each method that is run, on a receiver and arguments of their kinds, ends with a result of its kind
pub record RunEnds (p : Posed) (run : Run) : Type 0 where
  pub ends : (method : ℕ) (d : MethodDef) (this : Value) (vs : List Value) (m : Memory) → slice_get p.unit.methods method ≡ Some d → ComesAfter p m.heap m.heap
      → ((c : ℕ) → receiver_of d.fixed d.class ≡ Some c → IsKind p (kind.Ref c) this m.heap) → pointwise (fits_param p.scope.ints m.heap) d.params vs ≡ true
      → Ended p m.heap (IsResult p d) (run method this vs m)

-- ## arguments and target

abbrev EachEnds : Posed → Run → List Expr → Type 0
EachEnds p run [] = Unit {0}
EachEnds p run (a ∷ as_) = CodeEnds p (sort_of a) (code p run a) × EachEnds p run as_

abbrev AreParams : Posed → List ParamDef → List Value → Heap → Type 0
AreParams p qs vs heap = pointwise (fits_param p.scope.ints heap) qs vs ≡ true

arguments_end : (p : Posed) (run : Run) (qs : List ParamDef) (as_ : List Expr) (k : Around) (fr : Frame) (m : Memory) → EachEnds p run as_ → HoldsIn p k fr m.heap → ComesAfter p m.heap m.heap
    → are_arguments k qs (map sort_of as_) ≡ true → Ended p m.heap (AreParams p qs) (in_order (map (code p run) as_) fr m)
arguments_end p run [] [] k fr m claims holds whole fits = (whole, refl)
arguments_end p run [] (a ∷ as_) k fr m claims holds whole fits = absurd (false≢true fits)
arguments_end p run (q ∷ qs) [] k fr m claims holds whole fits = absurd (false≢true fits)
arguments_end p run (q ∷ qs) (a ∷ as_) k fr m claims holds whole fits =
    let both = and_parts (suits q.kind (sort_of a k)) (are_arguments k qs (map sort_of as_)) fits in
    let rest : Value → Memory → Ends (List Value) = λ v n. then_with (in_order (map (code p run) as_) fr n) (λ vs l. Gives (v ∷ vs) l) in
    ended_then p m.heap (IsKind p q.kind) (AreParams p (q ∷ qs)) (code p run a fr m) rest (claims.0.ends k fr m q.kind holds whole both.0)
    (λ v n after is.
    ended_then p n.heap (AreParams p qs) (AreParams p (q ∷ qs)) (in_order (map (code p run) as_) fr n) (λ vs l. Gives (v ∷ vs) l)
    (arguments_end p run qs as_ k fr n claims.1 (holds_later p k fr m.heap n.heap after holds) (later_self p m.heap n.heap after) both.1)
    (λ vs l later are. (
      later_self p n.heap l.heap later,
      and_from (fits_param p.scope.ints l.heap q v) (pointwise (fits_param p.scope.ints l.heap) qs vs) (kind_later p n.heap l.heap q.kind v later is) are,
    )))

-- a target that suits the method
abbrev IsTarget : Posed → MethodDef → Option Value → Heap → Type 0
IsTarget p d None heap = d.fixed ≡ true
IsTarget p d (Some v) heap = IsKind p (kind.Ref d.class) v heap

abbrev TargetEnds : Posed → Run → Option Expr → Type 0
TargetEnds p run None = Unit {0}
TargetEnds p run (Some a) = CodeEnds p (sort_of a) (code p run a)

pub object_suits : (class : ℕ) (s : Sort) → is_object_of class s ≡ true → suits (kind.Ref class) s ≡ true
object_suits class (Of k) is = is
object_suits class NullOnly is = absurd (false≢true is)
object_suits class NoValue is = absurd (false≢true is)
object_suits class Faulty is = absurd (false≢true is)

target_ends : (p : Posed) (run : Run) (d : MethodDef) (t : Option Expr) (k : Around) (fr : Frame) (m : Memory) → TargetEnds p run t → HoldsIn p k fr m.heap → ComesAfter p m.heap m.heap
    → is_target_of k d t ≡ true → Ended p m.heap (IsTarget p d) (target_of (option_map (code p run) t) fr m)
target_ends p run d None k fr m claim holds whole fits = (whole, fits)
target_ends p run d (Some a) k fr m claim holds whole fits =
    let both = and_parts (not d.fixed) (is_object_of d.class (sort_of a k)) fits in
    ended_then p m.heap (IsKind p (kind.Ref d.class)) (IsTarget p d) (code p run a fr m) (λ v n. Gives (Some v) n)
    (claim.ends k fr m (kind.Ref d.class) holds whole (object_suits d.class (sort_of a k) both.1))
    (λ v n after is. (later_self p m.heap n.heap after, is))

target_later : (p : Posed) (d : MethodDef) (a b : Heap) (v : Option Value) → ComesAfter p a b → IsTarget p d v a → IsTarget p d v b
target_later p d a b None after is = is
target_later p d a b (Some v) after is = kind_later p a b (kind.Ref d.class) v after is

static_has_none : (fixed : Bool) (class c : ℕ) → fixed ≡ true → receiver_of fixed class ≡ Some c → ⊥
static_has_none true class c is there = absurd (cc)
static_has_none false class c is there = false≢true is

receiver_same : (p : Posed) (fixed : Bool) (class c : ℕ) (v : Value) (heap : Heap) → IsKind p (kind.Ref class) v heap → receiver_of fixed class ≡ Some c → IsKind p (kind.Ref c) v heap
receiver_same p true class c v heap is there = absurd (cc)
receiver_same p false class c v heap is there =
    let same : class ≡ c = cc in
    subst (λ z. IsKind p (kind.Ref z) v heap) same is

entered_ends : (p : Posed) (run : Run) (method : ℕ) (d : MethodDef) (target : Option Value) (vs : List Value) (m : Memory) → RunEnds p run → slice_get p.unit.methods method ≡ Some d
    → ComesAfter p m.heap m.heap → IsTarget p d target m.heap → AreParams p d.params vs m.heap → Ended p m.heap (IsResult p d) (entered run method target vs m)
entered_ends p run method d None vs m runs there whole is are =
    runs.ends method d Null vs m there whole (λ c at. absurd (static_has_none d.fixed d.class c is at)) are
entered_ends p run method d (Some v) vs m runs there whole is are =
    object_ends p d.class m (IsResult p d) (λ o n. run method (Obj o) vs n) v whole is
    (λ o of. runs.ends method d (Obj o) vs m there whole (λ c at. receiver_same p d.fixed d.class c (Obj o) m.heap of at) are)

-- ## calls

-- a call that fits its method ends with a result of the method
pub record CallEnds (p : Posed) (run : Run) (c : Call) : Type 0 where
  pub ends : (k : Around) (fr : Frame) (m : Memory) (d : MethodDef) → HoldsIn p k fr m.heap → ComesAfter p m.heap m.heap → slice_get p.unit.methods (out-Call c).method ≡ Some d
      → (is_target_of k d (out-Call c).target && are_arguments k d.params (map sort_of (out-Call c).args)) ≡ true → Ended p m.heap (IsResult p d) (call_of p run c fr m)

params_later : (p : Posed) (a b : Heap) (qs : List ParamDef) (vs : List Value) → ComesAfter p a b → AreParams p qs vs a → AreParams p qs vs b
params_later p a b qs vs after are = beside_more (fits_param p.scope.ints a) (fits_param p.scope.ints b) (λ q v is. kind_later p a b q.kind v after is) qs vs are

call_ends : (p : Posed) (run : Run) (c : Call) → RunEnds p run → TargetEnds p run (out-Call c).target → EachEnds p run (out-Call c).args → CallEnds p run c
call_ends p run c runs target args = record {
  ends = λ k fr m d holds whole there fits.
      let x = out-Call c in
      let both = and_parts (is_target_of k d x.target) (are_arguments k d.params (map sort_of x.args)) fits in
      let rest : Option Value → Memory → Ends (Option Value) = λ this n. then_with (in_order (map (code p run) x.args) fr n) (λ vs l. entered run x.method this vs l) in
      subst (Ended p m.heap (IsResult p d)) (sym (call_form p run c fr m))
      (ended_then p m.heap (IsTarget p d) (IsResult p d) (target_of (option_map (code p run) x.target) fr m) rest (target_ends p run d x.target k fr m target holds whole both.0)
      (λ this n after is.
      ended_then p n.heap (AreParams p d.params) (IsResult p d) (in_order (map (code p run) x.args) fr n) (λ vs l. entered run x.method this vs l)
      (arguments_end p run d.params x.args k fr n args (holds_later p k fr m.heap n.heap after holds) (later_self p m.heap n.heap after) both.1)
      (λ vs l later are. entered_ends p run x.method d this vs l runs there (later_self p n.heap l.heap later) (target_later p d n.heap l.heap this later is) are)));
}

-- the method of a call that has a value of this kind
pub record CallSorted (k : Around) (t : Option Expr) (as_ : List Expr) (o : Option MethodDef) : Type 0 where
  pub method : MethodDef
  pub there : o ≡ Some method
  pub fits : (is_target_of k method t && are_arguments k method.params (map sort_of as_)) ≡ true

pub called_suits : (k : Around) (t : Option Expr) (as_ : List Expr) (o : Option MethodDef) (w : Kind) → suits w (called_as k t as_ o) ≡ true
    → (c : CallSorted k t as_ o) × (suits w (result_sort c.method.result) ≡ true)
called_suits k t as_ None w is = absurd (false≢true is)
called_suits k t as_ (Some d) w is =
    let parts = where_suits (is_target_of k d t && are_arguments k d.params (map sort_of as_)) (result_sort d.result) w is in
    (record { method = d; there = refl; fits = parts.0 }, parts.1)

-- a result that is wanted as a value
value_ends : (p : Posed) (w : Kind) (r : Option (Kind × Bool)) (v : Option Value) (m : Memory) → suits w (result_sort r) ≡ true → ComesAfter p m.heap m.heap
    → IsOfKind p.scope.ints m.heap (option_map (λ r. r.0) r) v → Ended p m.heap (IsKind p w) (gives_in v m)
value_ends p w None v m fits whole is = absurd (false≢true fits)
value_ends p w (Some r) None m fits whole is = tt
value_ends p w (Some r) (Some v) m fits whole is = (whole, subst (λ z. IsKind p z v m.heap) (sym (kinds_same w r.0 fits)) is)

pub method_there : (p : Posed) (k : Around) (i : ℕ) (d : MethodDef) → k.unit ≡ p.unit → slice_get k.unit.methods i ≡ Some d → slice_get p.unit.methods i ≡ Some d
method_there p k i d same there = ap (λ u. slice_get u.methods i) (sym same) ∙ there

valued_ends : (p : Posed) (run : Run) (c : Call) (k : Around) (fr : Frame) (m : Memory) (w : Kind) → CallEnds p run c → HoldsIn p k fr m.heap → ComesAfter p m.heap m.heap
    → suits w (in_code k.form (sort_of_call c k)) ≡ true → Ended p m.heap (IsKind p w) (then_with (call_of p run c fr m) gives_in)
valued_ends p run c k fr m w claim holds whole is =
    let x = out-Call c in
    let in_form = in_code_suits k.form (sort_of_call c k) w holds.form is in
    let sorted = called_suits k x.target x.args (slice_get k.unit.methods x.method) w (subst (λ s. suits w s ≡ true) (call_sorted c k) in_form) in
    let d = sorted.0.method in
    ended_then p m.heap (IsResult p d) (IsKind p w) (call_of p run c fr m) gives_in
    (claim.ends k fr m d holds whole (method_there p k x.method d holds.unit sorted.0.there) sorted.0.fits)
    (λ v n after is. value_ends p w d.result v n sorted.1 (later_self p m.heap n.heap after) is)

-- ## every form

formed : (p : Posed) (s t : Sorted) (c d : Code) → ((k : Around) → s k ≡ t k) → ((fr : Frame) (m : Memory) → c fr m ≡ d fr m) → CodeEnds p t d → CodeEnds p s c
formed p s t c d sorts codes claim = record {
  ends = λ k fr m w holds whole fits. subst (Ended p m.heap (IsKind p w)) (sym (codes fr m)) (claim.ends k fr m w holds whole (subst (λ z. suits w z ≡ true) (sorts k) fits));
}

abbrev E : Posed → Run → Type 0
E p run = (a : Expr) × CodeEnds p (sort_of a) (code p run a)

abbrev C : Posed → Run → Type 0
C p run = (c : Call) × CallEnds p run c

abbrev Q : Type 0
Q = (q : Quant) × Unit {0}

abbrev R : Type 0
R = (r : Reach) × Unit {0}

abbrev shaped : (p : Posed) (run : Run) → Expr-F (E p run) (C p run) Q R → Expr
shaped p run y = roll-Expr (map-Expr (E p run) (C p run) Q R Expr Call Quant Reach (λ a. a.0) (λ c. c.0) (λ q. q.0) (λ q. q.0) y)

-- what leaves the scope ends so
leaving : (p : Posed) (a : Expr) (run : Run) → ((fr : Frame) (m : Memory) → code p run a fr m ≡ Leaves) → CodeEnds p (sort_of a) (code p run a)
leaving p a run is = formed p (sort_of a) (sort_of a) (code p run a) (λ fr m. Leaves) (λ k. refl) is (record { ends = λ k fr m w holds whole fits. tt })

this_ends : (p : Posed) (fr : Frame) (m : Memory) (w : Kind) (o : Option ℕ) → ((c : ℕ) → o ≡ Some c → IsKind p (kind.Ref c) fr.this m.heap) → ComesAfter p m.heap m.heap
    → suits w (sort_of_class o) ≡ true → Ended p m.heap (IsKind p w) (Gives fr.this m)
this_ends p fr m w None this whole fits = absurd (false≢true fits)
this_ends p fr m w (Some c) this whole fits = as_kind p w (kind.Ref c) m.heap (Gives fr.this m) fits (whole, this c refl)

local_by : (p : Posed) (i : ℕ) (k : Around) (fr : Frame) (m : Memory) (w : Kind) → HoldsIn p k fr m.heap → ComesAfter p m.heap m.heap → (o : Option Kind) → slice_get k.locals i ≡ o
    → suits w (sort_of_kind o) ≡ true → Ended p m.heap (IsKind p w) (gives_in (slice_get fr.locals i) m)
local_by p i k fr m w holds whole None there fits = absurd (false≢true fits)
local_by p i k fr m w holds whole (Some l) there fits = local_ends p i k fr m w holds whole l there fits

null_ends : (p : Posed) (m : Memory) (w : Kind) → ComesAfter p m.heap m.heap → suits w NullOnly ≡ true → Ended p m.heap (IsKind p w) (Gives Null m)
null_ends p m kind.Int whole fits = absurd (false≢true fits)
null_ends p m kind.Flag whole fits = absurd (false≢true fits)
null_ends p m (kind.Ref c) whole fits = (whole, refl)

code_layer : (p : Posed) → IsWell p.unit → (run : Run) (y : Expr-F (E p run) (C p run) Q R) → CodeEnds p (sort_of (shaped p run y)) (code p run (shaped p run y))
code_layer p well run (Expr-F.Num z) = rw (e.rolls-Num z)
    (formed p (sort_of (e.Num z)) (λ k. Of kind.Int) (code p run (e.Num z)) (λ fr m. ends_as m (number p.scope.ints z)) (sort_num z) (code_num p run z) (record {
      ends = λ k fr m w holds whole fits. as_kind p w kind.Int m.heap (ends_as m (number p.scope.ints z)) fits
          (seen_ends p kind.Int m (number p.scope.ints z) whole (number_only p.scope.ints m.heap z));
    }))
code_layer p well run (Expr-F.Flag b) = rw (e.rolls-Flag b)
    (formed p (sort_of (e.Flag b)) (λ k. Of kind.Flag) (code p run (e.Flag b)) (λ fr m. Gives (Flag b) m) (sort_flag b) (code_flag p run b) (record {
      ends = λ k fr m w holds whole fits. as_kind p w kind.Flag m.heap (Gives (Flag b) m) fits (whole, refl);
    }))
code_layer p well run Expr-F.Null = rw e.rolls-Null
    (formed p (sort_of e.Null) (λ k. NullOnly) (code p run e.Null) (λ fr m. Gives Null m) sort_null (code_null p run) (record { ends = λ k fr m w holds whole fits. null_ends p m w whole fits }))
code_layer p well run Expr-F.This = rw e.rolls-This
    (formed p (sort_of e.This) (λ k. sort_of_class k.this) (code p run e.This) (λ fr m. Gives fr.this m) sort_this (code_this p run) (record {
      ends = λ k fr m w holds whole fits. this_ends p fr m w k.this holds.this whole fits;
    }))
code_layer p well run Expr-F.Result = rw e.rolls-Result (leaving p e.Result run (code_result p run))
code_layer p well run (Expr-F.Local i) = rw (e.rolls-Local i)
    (formed p (sort_of (e.Local i)) (λ k. sort_of_kind (slice_get k.locals i)) (code p run (e.Local i)) (λ fr m. gives_in (slice_get fr.locals i) m) (sort_local i) (code_local p run i) (record {
      ends = λ k fr m w holds whole fits. local_by p i k fr m w holds whole (slice_get k.locals i) refl fits;
    }))
code_layer p well run (Expr-F.Bound i) = rw (e.rolls-Bound i) (leaving p (e.Bound i) run (code_bound p run i))
code_layer p well run (Expr-F.Read a f) = rw (e.rolls-Read a.0 f)
    (formed p (sort_of (e.Read a.0 f)) (λ k. field_sort (slice_get k.unit.fields f) (sort_of a.0 k)) (code p run (e.Read a.0 f)) (λ fr m. then_with (code p run a.0 fr m) (on_object (read p f)))
    (sort_read a.0 f) (code_read p run a.0 f) (record {
      ends = λ k fr m w holds whole fits. field_ends p well (sort_of a.0) (code p run a.0) f k fr m w a.1 holds whole fits;
    }))
code_layer p well run (Expr-F.Neg a) = rw (e.rolls-Neg a.0)
    (formed p (sort_of (e.Neg a.0)) (λ k. where_ (suits kind.Int (sort_of a.0 k)) (Of kind.Int)) (code p run (e.Neg a.0))
    (λ fr m. then_with (code p run a.0 fr m) (λ v n. ends_as n (negative p.scope.ints v))) (sort_neg a.0) (code_neg p run a.0) (record {
      ends = λ k fr m w holds whole fits.
          let parts = where_suits (suits kind.Int (sort_of a.0 k)) (Of kind.Int) w fits in
          as_kind p w kind.Int m.heap (then_with (code p run a.0 fr m) (λ v n. ends_as n (negative p.scope.ints v))) parts.1
          (one_ends p (sort_of a.0) (code p run a.0) kind.Int kind.Int (negative p.scope.ints) k fr m a.1 holds whole parts.0 (λ heap x. negative_only p.scope.ints heap x));
    }))
code_layer p well run (Expr-F.Not a) = rw (e.rolls-Not a.0)
    (formed p (sort_of (e.Not a.0)) (λ k. where_ (suits kind.Flag (sort_of a.0 k)) (Of kind.Flag)) (code p run (e.Not a.0))
    (λ fr m. then_with (code p run a.0 fr m) (λ v n. ends_as n (opposite v))) (sort_not a.0) (code_not p run a.0) (record {
      ends = λ k fr m w holds whole fits.
          let parts = where_suits (suits kind.Flag (sort_of a.0 k)) (Of kind.Flag) w fits in
          as_kind p w kind.Flag m.heap (then_with (code p run a.0 fr m) (λ v n. ends_as n (opposite v))) parts.1
          (one_ends p (sort_of a.0) (code p run a.0) kind.Flag kind.Flag opposite k fr m a.1 holds whole parts.0 (λ heap x. opposite_only p.scope.ints heap x));
    }))
code_layer p well run (Expr-F.Bin o a c) = rw (e.rolls-Bin o a.0 c.0)
    (formed p (sort_of (e.Bin o a.0 c.0)) (λ k. operator_sort o k.form (binary_sort o (sort_of a.0 k) (sort_of c.0 k))) (code p run (e.Bin o a.0 c.0))
    (λ fr m. combined o p.scope.ints (code p run a.0) (code p run c.0) fr m) (sort_bin o a.0 c.0) (code_bin p run o a.0 c.0) (record {
      ends = λ k fr m w holds whole fits. combined_ends p (sort_of a.0) (sort_of c.0) (code p run a.0) (code p run c.0) k fr m w a.1 c.1 holds whole o fits;
    }))
code_layer p well run (Expr-F.Quant q) = rw (e.rolls-Quant q.0) (leaving p (e.Quant q.0) run (code_quant p run q.0))
code_layer p well run (Expr-F.Old a) = rw (e.rolls-Old a.0) (leaving p (e.Old a.0) run (code_old p run a.0))
code_layer p well run (Expr-F.Has q a) = rw (e.rolls-Has q.0 a.0) (leaving p (e.Has q.0 a.0) run (code_has p run q.0 a.0))
code_layer p well run (Expr-F.Size q) = rw (e.rolls-Size q.0) (leaving p (e.Size q.0) run (code_size p run q.0))
code_layer p well run (Expr-F.New c) = rw (e.rolls-New c)
    (formed p (sort_of (e.New c)) (λ k. in_code k.form (where_ (nat_lt c (length k.unit.classes)) (Of (kind.Ref c)))) (code p run (e.New c)) (λ fr m. make p c m) (sort_new c)
    (code_new p run c) (record {
      ends = λ k fr m w holds whole fits.
          let inner = in_code_suits k.form (where_ (nat_lt c (length k.unit.classes)) (Of (kind.Ref c))) w holds.form fits in
          let parts = where_suits (nat_lt c (length k.unit.classes)) (Of (kind.Ref c)) w inner in
          as_kind p w (kind.Ref c) m.heap (make p c m) parts.1 (make_ends p well c m whole);
    }))
code_layer p well run (Expr-F.Call c) = rw (e.rolls-Call c.0)
    (formed p (sort_of (e.Call c.0)) (λ k. in_code k.form (sort_of_call c.0 k)) (code p run (e.Call c.0)) (λ fr m. then_with (call_of p run c.0 fr m) gives_in) (sort_call c.0)
    (code_call p run c.0)
    (record { ends = λ k fr m w holds whole fits. valued_ends p run c.0 k fr m w c.1 holds whole fits }))

-- ## every expression and call

each_of : (p : Posed) (run : Run) (as_ : List (E p run)) → EachEnds p run (map (λ a. a.0) as_)
each_of p run [] = tt
each_of p run (a ∷ as_) = (a.1, each_of p run as_)

record PartsEnd (p : Posed) (run : Run) (c : Call-F Expr Call Quant Reach) : Type 0 where
  pub target : TargetEnds p run c.target
  pub args : EachEnds p run c.args

call_parts : (p : Posed) (run : Run) (method : ℕ) (target : Option (E p run)) (args : List (E p run))
    → PartsEnd p run (map-Call (E p run) (C p run) Q R Expr Call Quant Reach (λ a. a.0) (λ c. c.0) (λ q. q.0) (λ q. q.0) (record { method = method; target = target; args = args }))
call_parts p run method None args = record { target = tt; args = each_of p run args }
call_parts p run method (Some t) args = record { target = t.1; args = each_of p run args }

call_layer : (p : Posed) (run : Run) (y : Call-F (E p run) (C p run) Q R)
    → PartsEnd p run (map-Call (E p run) (C p run) Q R Expr Call Quant Reach (λ a. a.0) (λ c. c.0) (λ q. q.0) (λ q. q.0) y)
call_layer p run y = call_parts p run y.method y.target y.args

of_parts : (p : Posed) (run : Run) (x : Call-F Expr Call Quant Reach) → RunEnds p run → PartsEnd p run x → CallEnds p run (roll-Call x)
of_parts p run x runs parts = call_ends p run (roll-Call x) runs parts.target parts.args

pub expr_ends : (p : Posed) → IsWell p.unit → (run : Run) → RunEnds p run → (a : Expr) → CodeEnds p (sort_of a) (code p run a)
expr_ends p well run runs =
    ind-Expr (λ a. CodeEnds p (sort_of a) (code p run a)) (λ c. CallEnds p run c) (λ q. Unit {0}) (λ r. Unit {0})
    (λ x y is. subst (λ z. CodeEnds p (sort_of (roll-Expr z)) (code p run (roll-Expr z))) is (code_layer p well run y))
    (λ x y is. of_parts p run x runs (subst (PartsEnd p run) is (call_layer p run y)))
    (λ x y is. tt) (λ x y is. tt)

each_expr : (p : Posed) → IsWell p.unit → (run : Run) → RunEnds p run → (as_ : List Expr) → EachEnds p run as_
each_expr p well run runs [] = tt
each_expr p well run runs (a ∷ as_) = (expr_ends p well run runs a, each_expr p well run runs as_)

maybe_expr : (p : Posed) → IsWell p.unit → (run : Run) → RunEnds p run → (a : Option Expr) → TargetEnds p run a
maybe_expr p well run runs None = tt
maybe_expr p well run runs (Some a) = expr_ends p well run runs a

pub every_call : (p : Posed) → IsWell p.unit → (run : Run) → RunEnds p run → (c : Call) → CallEnds p run c
every_call p well run runs c = call_ends p run c runs (maybe_expr p well run runs (out-Call c).target) (each_expr p well run runs (out-Call c).args)
