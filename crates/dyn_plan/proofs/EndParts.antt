-- How evaluations end over a well unit: the relations, how they are put together, and what is done to heaps.
use Rattle.std.proofs.Common.{◌≡◌, ℕ, zero, suc, Bool, true, false, List, [], ◌∷◌, Option, Some, None, refl, sym, ◌∙◌, ap, subst}
use Rattle.std.specs.Prelude.{◌&&◌, length, slice_get, option_map, option_and_then}
use Rattle.std.specs.Option.{option_map_or}
use Rattle.std.specs.Cmp.Lexicographic.{pointwise}
use Rattle.std.proofs.lemmas.Bool.{false≢true, eqb-true, eq-eqb, and_from}
use Rattle.taco_unit.specs.declared.kind.Kind.{Kind}
use Rattle.taco_unit.specs.declared.kind.Kind.TheVariants as kind
use Rattle.taco_unit.specs.declared.unit.FieldDef.{FieldDef}
use Rattle.taco_unit.specs.Kinds.{Sort, Around, Code as InCode, Form, same_kind, suits, where_, in_code, in_clause, in_exit}
use Rattle.taco_unit.specs.Well.{IsWell}
use Rattle.heap_core.specs.declared.value.Value.{Value}
use Rattle.heap_core.specs.declared.value.Value.TheVariants.{Null, Obj, Num, Flag}
use Rattle.heap_core.specs.declared.value.Object.{Object}
use Rattle.heap_core.specs.declared.value.Seen.{Seen}
use Rattle.heap_core.specs.declared.value.Seen.TheVariants.{Is, Bad, Out}
use Rattle.heap_core.specs.Posed.{Posed}
use Rattle.heap_core.specs.Outcomes.{value_in}
use Rattle.heap_core.specs.Heap.{Heap, cell, cell_of, put, grown}
use Rattle.heap_core.specs.Start.{has_kind}
use Rattle.heap_core.specs.Exec.{Memory, Ends, Gives, Throws, Leaves, Frame, then_with, ends_as, on_object, gives_in, with_heap, read, write, make}
use Rattle.heap_core.proofs.FieldLaws.{none_some, some_same, kind_kept}
use Rattle.heap_core.proofs.Lists.{beside_more}
use Rattle.dyn_core.specs.declared.prog.Act.TheVariants.{Write, Make}
use Rattle.dyn_core.specs.declared.state.DynState.{DynState}
use Rattle.dyn_core.specs.States.{var_at, with_var}
use Rattle.dyn_core.specs.Kinds.{is_var, is_kinded_act, HasKinds, KeepsKinds}
use Rattle.dyn_core.proofs.Fitting.{gives_only, field_only}
use Rattle.dyn_core.proofs.Kept.{act_keeps_kinds}
use Rattle.dyn_plan.specs.Endings.{ComesAfter}

-- ## heaps

pub later_self : (p : Posed) (a b : Heap) → ComesAfter p a b → ComesAfter p b b
later_self p a b after = record { whole = after.whole; few = after.few; objects = λ class o is. is }

pub later_then : (p : Posed) (a b c : Heap) → ComesAfter p a b → ComesAfter p b c → ComesAfter p a c
later_then p a b c first second = record { whole = second.whole; few = second.few; objects = λ class o is. second.objects class o (first.objects class o is) }

-- a value of a kind
abbrev pub IsKind : Posed → Kind → Value → Heap → Type 0
IsKind p k v heap = has_kind p.scope.ints heap k v ≡ true

pub kind_later : (p : Posed) (a b : Heap) (k : Kind) (v : Value) → ComesAfter p a b → IsKind p k v a → IsKind p k v b
kind_later p a b k v after is = kind_kept p.scope.ints a b after.objects k v is

-- ## evaluations

-- an evaluation that begins with this heap and ends within the scope ends with a heap that comes after it, and what it
-- gives has the property
abbrev pub Ended : {A : Type 0} → Posed → Heap → (A → Heap → Type 0) → Ends A → Type 0
Ended p heap P (Gives a m) = ComesAfter p heap m.heap × P a m.heap
Ended p heap P (Throws m) = ComesAfter p heap m.heap
Ended p heap P Leaves = Unit {0}

pub ended_from : {A : Type 0} (p : Posed) (a b : Heap) (P : A → Heap → Type 0) (e : Ends A) → ComesAfter p a b → Ended p b P e → Ended p a P e
ended_from p a b P (Gives v m) after ended = (later_then p a b m.heap after ended.0, ended.1)
ended_from p a b P (Throws m) after ended = later_then p a b m.heap after ended
ended_from p a b P Leaves after ended = tt

pub ended_then : {A B : Type 0} (p : Posed) (heap : Heap) (P : A → Heap → Type 0) (Q : B → Heap → Type 0) (e : Ends A) (k : A → Memory → Ends B)
    → Ended p heap P e → ((a : A) (n : Memory) → ComesAfter p heap n.heap → P a n.heap → Ended p n.heap Q (k a n)) → Ended p heap Q (then_with e k)
ended_then p heap P Q (Gives a m) k ended next = ended_from p heap m.heap Q (k a m) ended.0 (next a m ended.0 ended.1)
ended_then p heap P Q (Throws m) k ended next = ended
ended_then p heap P Q Leaves k ended next = tt

-- what holds around a part of a method: its receiver and its locals are of their kinds
pub record HoldsIn (p : Posed) (k : Around) (fr : Frame) (heap : Heap) : Type 0 where
  pub form : k.form ≡ InCode
  pub unit : k.unit ≡ p.unit
  pub this : (c : ℕ) → k.this ≡ Some c → IsKind p (kind.Ref c) fr.this heap
  pub locals : pointwise (has_kind p.scope.ints heap) k.locals fr.locals ≡ true

pub all_later : (p : Posed) (a b : Heap) (ks : List Kind) (vs : List Value) → ComesAfter p a b → pointwise (has_kind p.scope.ints a) ks vs ≡ true
    → pointwise (has_kind p.scope.ints b) ks vs ≡ true
all_later p a b ks vs after all = beside_more (has_kind p.scope.ints a) (has_kind p.scope.ints b) (λ k v is. kind_later p a b k v after is) ks vs all

pub holds_later : (p : Posed) (k : Around) (fr : Frame) (a b : Heap) → ComesAfter p a b → HoldsIn p k fr a → HoldsIn p k fr b
holds_later p k fr a b after holds = record {
  form = holds.form;
  unit = holds.unit;
  this = λ c is. kind_later p a b (kind.Ref c) fr.this after (holds.this c is);
  locals = all_later p a b k.locals fr.locals after holds.locals;
}

-- ## sorts

pub kinds_same : (k l : Kind) → same_kind k l ≡ true → k ≡ l
kinds_same kind.Int kind.Int is = refl
kinds_same kind.Int kind.Flag is = absurd (false≢true is)
kinds_same kind.Int (kind.Ref d) is = absurd (false≢true is)
kinds_same kind.Flag kind.Int is = absurd (false≢true is)
kinds_same kind.Flag kind.Flag is = refl
kinds_same kind.Flag (kind.Ref d) is = absurd (false≢true is)
kinds_same (kind.Ref c) kind.Int is = absurd (false≢true is)
kinds_same (kind.Ref c) kind.Flag is = absurd (false≢true is)
kinds_same (kind.Ref c) (kind.Ref d) is = ap kind.Ref (eqb-true c d is)

pub where_suits : (t : Bool) (s : Sort) (w : Kind) → suits w (where_ t s) ≡ true → (t ≡ true) × (suits w s ≡ true)
where_suits true s w is = (refl, is)
where_suits false s w is = absurd (false≢true is)

pub in_code_suits : (f : Form) (s : Sort) (w : Kind) → f ≡ InCode → suits w (in_code f s) ≡ true → suits w s ≡ true
in_code_suits f s w form is = subst (λ z. suits w (in_code z s) ≡ true) form is

pub in_clause_never : (f : Form) (s : Sort) (w : Kind) → f ≡ InCode → suits w (in_clause f s) ≡ true → ⊥
in_clause_never f s w form is = false≢true (subst (λ z. suits w (in_clause z s) ≡ true) form is)

pub in_exit_never : (f : Form) (s : Sort) (w : Kind) → f ≡ InCode → suits w (in_exit f s) ≡ true → ⊥
in_exit_never f s w form is = false≢true (subst (λ z. suits w (in_exit z s) ≡ true) form is)

-- ends as a value of another kind, which is the same
pub as_kind : (p : Posed) (w l : Kind) (heap : Heap) (e : Ends Value) → same_kind w l ≡ true → Ended p heap (IsKind p l) e → Ended p heap (IsKind p w) e
as_kind p w l heap e same ended = subst (λ z. Ended p heap (IsKind p z) e) (sym (kinds_same w l same)) ended

-- ## what is evaluated and done

pub seen_ends : (p : Posed) (k : Kind) (m : Memory) (seen : Seen) → ComesAfter p m.heap m.heap → gives_only p.scope.ints m.heap k seen ≡ true → Ended p m.heap (IsKind p k) (ends_as m seen)
seen_ends p k m (Is v) whole only = (whole, only)
seen_ends p k m Bad whole only = whole
seen_ends p k m Out whole only = tt

-- on from an object of a class
pub object_ends : {B : Type 0} (p : Posed) (class : ℕ) (m : Memory) (Q : B → Heap → Type 0) (k : ℕ → Memory → Ends B) (v : Value) → ComesAfter p m.heap m.heap
    → IsKind p (kind.Ref class) v m.heap → ((o : ℕ) → IsKind p (kind.Ref class) (Obj o) m.heap → Ended p m.heap Q (k o m)) → Ended p m.heap Q (on_object k v m)
object_ends p class m Q k Null whole is next = whole
object_ends p class m Q k (Obj o) whole is next = next o is
object_ends p class m Q k (Num z) whole is next = tt
object_ends p class m Q k (Flag b) whole is next = tt

pub read_ends : (p : Posed) → IsWell p.unit → (f o : ℕ) (d : FieldDef) (m : Memory) → ComesAfter p m.heap m.heap → slice_get p.unit.fields f ≡ Some d
    → IsKind p (kind.Ref d.class) (Obj o) m.heap → Ended p m.heap (IsKind p d.kind) (read p f o m)
read_ends p well f o d m whole there is = by (slice_get m.heap o) (field_only p.unit well p.scope.ints m.heap whole.whole f d there (Obj o) is)
  where
    of : (v : Option Value) → gives_only p.scope.ints m.heap d.kind (value_in v) ≡ true → Ended p m.heap (IsKind p d.kind) (gives_in v m)
    of None only = tt
    of (Some v) only = (whole, only)

    by : (x : Option Object) → gives_only p.scope.ints m.heap d.kind (cell_of p.unit.classes f x) ≡ true
        → Ended p m.heap (IsKind p d.kind) (gives_in (option_and_then (cell p.unit.classes f) x) m)
    by None only = tt
    by (Some x) only = of (cell p.unit.classes f x) only

pub same_itself : (k : Kind) → same_kind k k ≡ true
same_itself kind.Int = refl
same_itself kind.Flag = refl
same_itself (kind.Ref c) = eq-eqb c c refl

later_of : (p : Posed) (ks : List Kind) (s t : DynState) → KeepsKinds p ks s t → ComesAfter p s.objects t.objects
later_of p ks s t kept = record { whole = kept.kinded.objects_whole; few = kept.kinded.few_objects; objects = kept.objects }

-- a field is set, as the action does it
put_later : (p : Posed) → IsWell p.unit → (f o : ℕ) (d : FieldDef) (u : Value) (heap after : Heap) → ComesAfter p heap heap → slice_get p.unit.fields f ≡ Some d
    → IsKind p (kind.Ref d.class) (Obj o) heap → IsKind p d.kind u heap → put p.unit.classes heap f o u ≡ Some after → ComesAfter p heap after
put_later p well f o d u heap after whole there is of made =
    let ks : List Kind = kind.Ref d.class ∷ d.kind ∷ [] in
    let vars : List Value = Obj o ∷ u ∷ [] in
    let s : DynState = record { vars = vars; objects = heap } in
    let t : DynState = record { vars = vars; objects = after } in
    let has : HasKinds p ks s = record { vars = each; objects_whole = whole.whole; few_objects = whole.few } in
    let both = and_from (same_kind (kind.Ref d.class) (kind.Ref d.class)) (same_kind d.kind d.kind) (same_itself (kind.Ref d.class)) (same_itself d.kind) in
    let fits : is_kinded_act p ks (Write 0 f 1) ≡ true = ap (λ z. option_map_or (λ d. is_var ks 0 (kind.Ref d.class) && is_var ks 1 d.kind) z false) there ∙ both in
    later_of p ks s t (act_keeps_kinds p ks well (Write 0 f 1) s t fits has (ap (option_map (λ h. record s { objects = h })) made))
  where
    each : (x : ℕ) (k : Kind) → slice_get (kind.Ref d.class ∷ d.kind ∷ []) x ≡ Some k → has_kind p.scope.ints heap k (var_at (Obj o ∷ u ∷ []) x) ≡ true
    each zero k at = subst (λ z. IsKind p z (Obj o) heap) (some_same at) is
    each (suc zero) k at = subst (λ z. IsKind p z u heap) (some_same at) of
    each (suc (suc x)) k at = absurd (none_some at)

-- nothing is given
abbrev pub Done : Unit {0} → Heap → Type 0
Done v h = Unit {0}

pub write_ends : (p : Posed) → IsWell p.unit → (f o : ℕ) (d : FieldDef) (u : Value) (m : Memory) → ComesAfter p m.heap m.heap → slice_get p.unit.fields f ≡ Some d
    → IsKind p (kind.Ref d.class) (Obj o) m.heap → IsKind p d.kind u m.heap → Ended p m.heap Done (write p f o u m)
write_ends p well f o d u m whole there is of = by (put p.unit.classes m.heap f o u) refl
  where
    by : (h : Option Heap) → put p.unit.classes m.heap f o u ≡ h → Ended p m.heap Done (with_heap {A = Unit {0}} tt h m)
    by None made = tt
    by (Some after) made = (put_later p well f o d u m.heap after whole there is of made, tt)

-- a new object, as the action makes it
pub make_ends : (p : Posed) → IsWell p.unit → (class : ℕ) (m : Memory) → ComesAfter p m.heap m.heap → Ended p m.heap (IsKind p (kind.Ref class)) (make p class m)
make_ends p well class m whole = by (grown p m.heap class) refl
  where
    each : (x : ℕ) (k : Kind) → slice_get (kind.Ref class ∷ []) x ≡ Some k → has_kind p.scope.ints m.heap k (var_at (Null ∷ []) x) ≡ true
    each zero k at = subst (λ z. IsKind p z Null m.heap) (some_same at) refl
    each (suc x) k at = absurd (none_some at)

    by : (h : Option Heap) → grown p m.heap class ≡ h → Ended p m.heap (IsKind p (kind.Ref class)) (with_heap (Obj (length m.heap)) h m)
    by None made = tt
    by (Some after) made =
        let ks : List Kind = kind.Ref class ∷ [] in
        let s : DynState = record { vars = Null ∷ []; objects = m.heap } in
        let t : DynState = record { vars = Obj (length m.heap) ∷ []; objects = after } in
        let has : HasKinds p ks s = record { vars = each; objects_whole = whole.whole; few_objects = whole.few } in
        let kept = act_keeps_kinds p ks well (Make 0 class) s t (same_itself (kind.Ref class)) has
        (ap (option_map (λ h. record { vars = with_var (Null ∷ []) 0 (Obj (length m.heap)); objects = h })) made) in
        (later_of p ks s t kept, kept.kinded.vars 0 (kind.Ref class) refl)
