-- A start that is shown shows what the clauses of the method are evaluated in.
use Rattle.std.proofs.Common.{◌≡◌, ℕ, suc, ◌<◌, ◌≤◌, Bool, true, false, List, [], ◌∷◌, ◌++◌, length, Option, Some, None, ◌⊎◌, inl, inr, refl, sym, ap, subst, ◌∙◌, arith, get_or}
use Rattle.std.specs.Prelude.{nat_lt, slice_get, option_map, option_and_then, if◌then◌else◌}
use Rattle.std.specs.Option.{option_map_or}
use Rattle.std.specs.Cmp.Lexicographic.{pointwise}
use Rattle.std.proofs.lemmas.Bool.{false≢true, and_parts, cases_lt, le-ltb}
use Rattle.std.proofs.lemmas.Option.{slice_get_past, slice_get_within, slice_get-get_or, slice_get-map}
use Rattle.std.proofs.Math.Seq.{get_or-append_seam}
use Rattle.std.proofs.lemmas.List.{length-map, get_or_append_left}
use Rattle.taco_unit.specs.declared.kind.Kind.{Kind}
use Rattle.taco_unit.specs.declared.kind.Kind.TheVariants as kind
use Rattle.taco_unit.specs.declared.unit.MethodDef.{MethodDef}
use Rattle.taco_unit.specs.declared.unit.ParamDef.{ParamDef}
use Rattle.taco_unit.specs.Well.{param_kinds}
use Rattle.taco_unit.proofs.Lists.{append_last}
use Rattle.heap_core.specs.declared.value.Value.{Value}
use Rattle.heap_core.specs.declared.value.Value.TheVariants.{Null, Obj, Num, Flag}
use Rattle.heap_core.specs.declared.start.Start.{Start}
use Rattle.heap_core.specs.Posed.{Posed}
use Rattle.heap_core.specs.Outcomes.{is_null}
use Rattle.heap_core.specs.Start.{Fits, is_argument, is_receiver, method_of}
use Rattle.heap_core.proofs.Lists.{slice_get-append_left}
use Rattle.rel_core.specs.declared.sets.RelExpr.TheVariants as set
use Rattle.rel_core.specs.declared.indices.Indices.{Indices}
use Rattle.rel_core.specs.Reading.{Reading}
use Rattle.rel_core.specs.Meaning.{set_of}
use Rattle.rel_core.specs.Uses.{receiver_kinds}
use Rattle.rel_core.specs.Shown.{ShowsStart, ShowsValue, slot_relation}
use Rattle.rel_core.proofs.Forms.{set_nil, set_var}
use Rattle.clause_terms.specs.Terms.{IsOnly}
use Rattle.clause_terms.proofs.FieldTerms.{null_exact}
use Rattle.jml_rel.specs.Places.{ShowsVariable, has_slot, result_of, variable_at}
use Rattle.jml_rel.specs.Clauses.{EntriesAreShown, ExitsAreShown, ListsParameters}

as_long : {A B : Type 0} (fits : A → B → Bool) (xs : List A) (ys : List B) → pointwise fits xs ys ≡ true → length ys ≡ length xs
as_long fits [] [] all = refl
as_long fits [] (y ∷ ys) all = absurd (false≢true all)
as_long fits (x ∷ xs) [] all = absurd (false≢true all)
as_long fits (x ∷ xs) (y ∷ ys) all = ap suc (as_long fits xs ys (and_parts (fits x y) (pointwise fits xs ys) all).1)

null_is : (v : Value) → is_null v ≡ true → v ≡ Null
null_is Null null = refl
null_is (Obj o) null = absurd (false≢true null)
null_is (Num z) null = absurd (false≢true null)
null_is (Flag b) null = absurd (false≢true null)

-- ## the method's parameters and receiver

module _ (p : Posed) (m : Reading) (at : Indices) (s : Start) (d : MethodDef) (called : method_of p ≡ Some d) (shown : ShowsStart p m at s)
    (fits : pointwise (is_argument p.scope.ints s.objects) d.params s.args ≡ true) where
  as_many : length s.args ≡ length d.params
  as_many = as_long (is_argument p.scope.ints s.objects) d.params s.args fits

  kinds_too : length (param_kinds d) ≡ length d.params
  kinds_too = length-map d.params (λ q. q.kind)

  value_at : (x : ℕ) (k : Kind) → slice_get (param_kinds d ++ receiver_kinds d) x ≡ Some k → ShowsValue m k (slot_relation at x) 0 (get_or (s.args ++ s.this ∷ []) x Null)
  value_at x k there = shown.values x k (rw called there)

  argument_at : (i : ℕ) (q : ParamDef) → slice_get d.params i ≡ Some q → ShowsValue m q.kind (slot_relation at i) 0 (get_or s.args i Null)
  argument_at i q there =
      let within : i < length d.params = slice_get_within d.params i q there in
      let kind_there : slice_get (param_kinds d) i ≡ Some q.kind = slice_get-map (λ q. q.kind) d.params i ∙ ap (option_map (λ q. q.kind)) there in
      subst (ShowsValue m q.kind (slot_relation at i) 0) (get_or_append_left s.args (s.this ∷ []) Null i (omega (arith, within, as_many)))
      (value_at i q.kind (slice_get-append_left (param_kinds d) (receiver_kinds d) i (omega (arith, within, kinds_too)) ∙ kind_there))

  parameter_at : ListsParameters p at → (i : ℕ) (q : Option ParamDef) → slice_get d.params i ≡ q
      → ShowsVariable m (option_and_then (λ (q : ParamDef). variable_at at i q.kind) q) (slice_get s.args i)
  parameter_at listed i None there = subst (ShowsVariable m None) (sym (slice_get_past s.args i (past (cases_lt i (length d.params))))) tt
    where
      past : (i < length d.params) ⊎ (length d.params ≤ i) → length s.args ≤ i
      past (inl below) =
          let none : ParamDef = record { name = []; kind = kind.Int; nullable = true } in
          let found : slice_get d.params i ≡ Some (get_or d.params i none) = slice_get-get_or d.params i none below in
          absurd (cc)
      past (inr above) = omega (arith, above, as_many)
  parameter_at listed i (Some q) there =
      let within : i < length d.params = slice_get_within d.params i q there in
      let slot : has_slot at i ≡ true = listed i (subst (λ x. i < option_map_or (λ (d : MethodDef). length d.params) x 0) (sym called) within) in
      subst (ShowsVariable m (variable_at at i q.kind)) (sym (slice_get-get_or s.args i Null (omega (arith, within, as_many))))
      (subst (λ b. ShowsVariable m (if b then Some (q.kind, slot_relation at i) else None) (Some (get_or s.args i Null))) (sym slot) (argument_at i q there))

  receiver_at : (b : Bool) → d.fixed ≡ b → is_receiver s.objects d.class b s.this ≡ true → IsOnly m (set_of (if b then set.Nil else set.Var (slot_relation at (length d.params))) m) s.this
  receiver_at true fixed is = subst (IsOnly m (set_of set.Nil m)) (sym (null_is s.this is)) (record { reference = refl; exact = λ u. ap (λ f. f u) (set_nil m) ∙ null_exact u })
  receiver_at false fixed is =
      let behind : get_or (s.args ++ s.this ∷ []) (length d.params) Null ≡ s.this = ap (λ x. get_or (s.args ++ s.this ∷ []) x Null) (sym as_many) ∙ get_or-append_seam s.args s.this [] Null in
      let last : slice_get (param_kinds d ++ receiver_kinds d) (length d.params) ≡ Some (kind.Ref d.class) =
      rw fixed (ap (slice_get (param_kinds d ++ kind.Ref d.class ∷ [])) (sym kinds_too) ∙ append_last (param_kinds d) (kind.Ref d.class)) in
      let value : ShowsValue m (kind.Ref d.class) (slot_relation at (length d.params)) 0 s.this =
      subst (ShowsValue m (kind.Ref d.class) (slot_relation at (length d.params)) 0) behind (value_at (length d.params) (kind.Ref d.class) last) in
      record { reference = value.0; exact = λ u. ap (λ f. f u) (set_var (slot_relation at (length d.params)) m) ∙ value.1 u }

-- ## the start

receiver_shown : (p : Posed) (m : Reading) (at : Indices) (s : Start) → Fits s p → ShowsStart p m at s → (x : Option MethodDef) → method_of p ≡ x
    → option_map_or (λ m. is_receiver s.objects m.class m.fixed s.this) x false ≡ true
    → option_map_or (λ m. pointwise (is_argument p.scope.ints s.objects) m.params s.args) x false ≡ true
    → IsOnly m (set_of (option_map_or (λ (d : MethodDef). if d.fixed then set.Nil else set.Var (slot_relation at (length d.params))) x set.Nil) m) s.this
receiver_shown p m at s fits shown None called receiver arguments = absurd (false≢true receiver)
receiver_shown p m at s fits shown (Some d) called receiver arguments = receiver_at p m at s d called shown arguments d.fixed refl receiver

parameter_shown : (p : Posed) (m : Reading) (at : Indices) (s : Start) → Fits s p → ShowsStart p m at s → ListsParameters p at → (i : ℕ) (x : Option MethodDef) → method_of p ≡ x
    → option_map_or (λ m. pointwise (is_argument p.scope.ints s.objects) m.params s.args) x false ≡ true
    → ShowsVariable m (option_and_then (λ (d : MethodDef). option_and_then (λ (q : ParamDef). variable_at at i q.kind) (slice_get d.params i)) x) (slice_get s.args i)
parameter_shown p m at s fits shown listed i None called arguments = absurd (false≢true arguments)
parameter_shown p m at s fits shown listed i (Some d) called arguments = parameter_at p m at s d called shown arguments listed i (slice_get d.params i) refl

-- there is no result where it would be variable 0
pub no_result : (p : Posed) (at : Indices) → at.result ≡ 0 → result_of p at ≡ None
no_result p at zero = go (method_of p)
  where
    above : (d : MethodDef) → nat_lt (length d.params) at.result ≡ false
    above d = ap (nat_lt (length d.params)) zero ∙ le-ltb (length d.params) 0 (omega arith)

    of : (d : MethodDef) (k : Option (Kind × Bool)) → option_and_then (λ (k : Kind × Bool). if nat_lt (length d.params) at.result then variable_at at at.result k.0 else None) k ≡ None
    of d None = refl
    of d (Some k) = ap (λ b. if b then variable_at at at.result k.0 else None) (above d)

    go : (d : Option MethodDef)
        → option_and_then (λ (d : MethodDef). option_and_then (λ (k : Kind × Bool). if nat_lt (length d.params) at.result then variable_at at at.result k.0 else None) d.result) d ≡ None
    go None = refl
    go (Some d) = of d d.result

pub entries_are_shown : EntriesAreShown
entries_are_shown p m at s well range fits heap shown listed zero = record {
  classes = refl;
  objects = refl;
  numbers = heap.objects;
  ints = heap.ints;
  heap = heap.shown;
  before = heap.shown;
  this = receiver_shown p m at s fits shown (method_of p) refl fits.receiver fits.arguments;
  locals = λ i. parameter_shown p m at s fits shown listed i (method_of p) refl fits.arguments;
  result = subst (λ x. ShowsVariable m x None) (sym (no_result p at zero)) tt;
  bound = refl;
  below = refl;
}

pub exits_are_shown : ExitsAreShown
exits_are_shown p m at old s heap r well range fits before shown listed after result = record {
  classes = refl;
  objects = refl;
  numbers = before.objects;
  ints = before.ints;
  heap = after.shown;
  before = before.shown;
  this = receiver_shown p m old s fits shown (method_of p) refl fits.receiver fits.arguments;
  locals = λ i. parameter_shown p m old s fits shown listed i (method_of p) refl fits.arguments;
  result = result;
  bound = refl;
  below = refl;
}
