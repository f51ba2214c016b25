-- The states with which the runs of a start begin.
use Rattle.std.proofs.Common.{◌≡◌, ℕ, zero, suc, ◌+◌, ◌<◌, ◌≤◌, Bool, true, false, List, [], ◌∷◌, ◌++◌}
use Rattle.std.proofs.Common.{length, map, drop, Option, Some, inl, inr, refl, sym, ◌∙◌, ap, subst, arith, get_or}
use Rattle.std.specs.Prelude.{nat_lt, pos, if◌then◌else◌, slice_get, option_map, unwrap_or}
use Rattle.std.specs.Option.{option_map_or}
use Rattle.std.specs.Cmp.Lexicographic.{pointwise}
use Rattle.std.proofs.lemmas.Bool.{false≢true, and_parts}
use Rattle.std.proofs.lemmas.List.{length-map, length-append}
use Rattle.std.proofs.lemmas.Option.{slice_get_within, slice_get-map}
use Rattle.taco_unit.specs.declared.kind.Kind.{Kind}
use Rattle.taco_unit.specs.declared.kind.Kind.TheVariants as kind
use Rattle.taco_unit.specs.declared.unit.MethodDef.{MethodDef}
use Rattle.taco_unit.specs.declared.unit.ParamDef.{ParamDef}
use Rattle.taco_unit.specs.Parts.{Parts}
use Rattle.taco_unit.specs.Well.{param_kinds}
use Rattle.heap_core.specs.declared.value.Value.{Value}
use Rattle.heap_core.specs.declared.value.Value.TheVariants.{Null, Obj, Num, Flag}
use Rattle.heap_core.specs.declared.start.Start.{Start}
use Rattle.heap_core.specs.Posed.{Posed}
use Rattle.heap_core.specs.Outcomes.{zero_of, is_null}
use Rattle.heap_core.specs.Heap.{Heap}
use Rattle.heap_core.specs.Start.{Fits, has_kind, is_argument, is_receiver, method_of}
use Rattle.heap_core.proofs.Lists.{slice_get-append_left}
use Rattle.heap_core.proofs.FieldLaws.{some_same}
use Rattle.rel_core.specs.declared.indices.Indices.{Indices}
use Rattle.rel_core.specs.declared.relation.What.TheVariants as what
use Rattle.rel_core.specs.Reading.{Reading}
use Rattle.rel_core.specs.Uses.{receiver_kinds, start_kinds}
use Rattle.rel_core.specs.Shown.{IsFirst, ShowsValue, ShowsHeap, ShowsStart, slot_relation}
use Rattle.rel_core.proofs.StartsShown.{start_is_state}
use Rattle.dyn_core.specs.States.{var_at}
use Rattle.dyn_core.specs.Kinds.{HasKinds}
use Rattle.dyn_steps.specs.Points.{slot}
use Rattle.dyn_steps.proofs.Zeros.{zero_kinded}
use Rattle.dyn_rel.specs.Formulas.{ShowsAt}
use Rattle.dyn_rel.specs.Starts.{IsRestZero, BeginWith, given, first_state, IsStateOf, StartsAreStates}
use Rattle.dyn_rel.proofs.Joints.{less_or_not}

-- ## lists with an item in the middle

seam : {A : Type 0} (xs : List A) (y : A) (ys : List A) → slice_get (xs ++ y ∷ ys) (length xs) ≡ Some y
seam [] y ys = refl
seam (x ∷ xs) y ys = seam xs y ys

-- up to the item in the middle the list behind it plays no part
front_same : {A : Type 0} (xs : List A) (y : A) (ys zs : List A) (i : ℕ) → i ≤ length xs → slice_get (xs ++ y ∷ ys) i ≡ slice_get (xs ++ y ∷ zs) i
front_same [] y ys zs zero low = refl
front_same [] y ys zs (suc i) low = absurd (omega (arith, low))
front_same (x ∷ xs) y ys zs zero low = refl
front_same (x ∷ xs) y ys zs (suc i) low = front_same xs y ys zs i (omega (arith, low))

values_front : (args : List Value) (this : Value) (zeros : List Value) (x : ℕ) → x ≤ length args → var_at (args ++ this ∷ zeros) x ≡ get_or (args ++ this ∷ []) x Null
values_front [] this zeros zero low = refl
values_front [] this zeros (suc x) low = absurd (omega (arith, low))
values_front (v ∷ args) this zeros zero low = refl
values_front (v ∷ args) this zeros (suc x) low = values_front args this zeros x (omega (arith, low))

zeros_have : (rest : List Kind) (x : ℕ) (k : Kind) → slice_get rest x ≡ Some k → var_at (map zero_of rest) x ≡ zero_of k
zeros_have rest x k is = ap (λ v. unwrap_or v Null) (slice_get-map zero_of rest x ∙ ap (option_map zero_of) is)

values_behind :
    (params : List Kind) (args : List Value) (this : Value) (c : Kind) (rest : List Kind) → length params ≡ length args → (x : ℕ) (k : Kind) → length args < x
    → slice_get (params ++ c ∷ rest) x ≡ Some k → var_at (args ++ this ∷ map zero_of rest) x ≡ zero_of k
values_behind [] [] this c rest many zero k high is = absurd (omega (arith, high))
values_behind [] [] this c rest many (suc x) k high is = zeros_have rest x k is
values_behind [] (v ∷ args) this c rest many x k high is = absurd (omega (arith, many))
values_behind (j ∷ params) [] this c rest many x k high is = absurd (omega (arith, many))
values_behind (j ∷ params) (v ∷ args) this c rest many zero k high is = absurd (omega (arith, high))
values_behind (j ∷ params) (v ∷ args) this c rest many (suc x) k high is =
    values_behind params args this c rest (omega (arith, many)) x k (omega (arith, high)) is

behind_next : (params : List Kind) (c : Kind) (rest : List Kind) (n : ℕ) → length params ≡ n → drop (suc n) (params ++ c ∷ rest) ≡ rest
behind_next [] c rest zero many = refl
behind_next [] c rest (suc n) many = absurd (omega (arith, many))
behind_next (j ∷ params) c rest zero many = absurd (omega (arith, many))
behind_next (j ∷ params) c rest (suc n) many = behind_next params c rest n (omega (arith, many))

behind : (params : List Kind) (c : Kind) (rest : List Kind) (n : ℕ) → length params ≡ n → drop (n + 1) (params ++ c ∷ rest) ≡ rest
behind params c rest n many = ap (λ i. drop i (params ++ c ∷ rest)) (let next : n + 1 ≡ suc n = omega arith in next) ∙ behind_next params c rest n many

as_many : (w : ℕ) (heap : Heap) (params : List ParamDef) (args : List Value) → pointwise (is_argument w heap) params args ≡ true → length params ≡ length args
as_many w heap [] [] all = refl
as_many w heap [] (v ∷ args) all = absurd (false≢true all)
as_many w heap (q ∷ params) [] all = absurd (false≢true all)
as_many w heap (q ∷ params) (v ∷ args) all = ap suc (as_many w heap params args (and_parts (is_argument w heap q v) (pointwise (is_argument w heap) params args) all).1)

null_is : (v : Value) → is_null v ≡ true → v ≡ Null
null_is Null is = refl
null_is (Obj o) is = absurd (false≢true is)
null_is (Num z) is = absurd (false≢true is)
null_is (Flag b) is = absurd (false≢true is)

-- ## the same at other first indices

heap_at_first : (u : Parts) (m : Reading) (at first : Indices) (heap : Heap) → IsFirst at → IsFirst first → ShowsHeap u m at heap → ShowsHeap u m first heap
heap_at_first u m at first heap at_is first_is shown = record {
  few = shown.few;
  live = λ o. subst (λ (i : ℕ). m.flag (record { what = what.Live; index = i }) o ≡ nat_lt o (length heap)) live (shown.live o);
  classes = λ o x there. subst (λ (i : ℕ). m.number (record { what = what.ClassOf; index = i }) o ≡ pos x.class) live (shown.classes o x there);
  cells = λ f d o there of.
      let cell = shown.cells f d o there of in
      record {
        value = cell.value;
        is = cell.is;
        shown = subst (λ (i : ℕ). ShowsValue m d.kind (record { what = what.Field f; index = i }) o cell.value) (fields f) cell.shown;
      };
  links = λ f d o v there of.
      ap (λ (i : ℕ). m.refs (record { what = what.Field f; index = i }) o v) (sym (fields f)) ∙ shown.links f d o v there of;
}
  where
    live : at.live ≡ first.live
    live = at_is.live ∙ sym first_is.live

    fields : (f : ℕ) → get_or at.heap f 0 ≡ get_or first.heap f 0
    fields f = at_is.fields f ∙ sym (first_is.fields f)

-- a value at first indices is one at index 0, and back
to_zero : (m : Reading) (at : Indices) (k : Kind) (x : ℕ) (v : Value) → IsFirst at → ShowsValue m k (slot_relation at x) 0 v → ShowsValue m k (slot x 0) 0 v
to_zero m at k x v is shown = subst (λ (i : ℕ). ShowsValue m k (slot x i) 0 v) (is.slots x) shown

from_zero : (m : Reading) (at : Indices) (k : Kind) (x : ℕ) (v : Value) → IsFirst at → ShowsValue m k (slot x 0) 0 v → ShowsValue m k (slot_relation at x) 0 v
from_zero m at k x v is shown = subst (λ (i : ℕ). ShowsValue m k (slot x i) 0 v) (sym (is.slots x)) shown

-- ## the variables of a start, and those behind them

-- which kinds and values the first variables have, and which the rest
record Zones (started kinds : List Kind) (n : ℕ) (value : ℕ → Value) (vars : List Value) : Type 0 where
  pub front : (x : ℕ) (k : Kind) → slice_get kinds x ≡ Some k → x < n → slice_get started x ≡ Some k
  pub back : (x : ℕ) (k : Kind) → slice_get started x ≡ Some k → slice_get kinds x ≡ Some k × (x < n)
  pub same : (x : ℕ) → x < n → var_at vars x ≡ value x
  pub zeros : (x : ℕ) (k : Kind) → slice_get kinds x ≡ Some k → n ≤ x → var_at vars x ≡ zero_of k

module _ (params : List Kind) (args : List Value) (this : Value) (c : ℕ) (rest : List Kind) (n : ℕ) (many : length params ≡ n) (also : length args ≡ n) where
  abbrev all_kinds : List Kind
  all_kinds = params ++ kind.Ref c ∷ rest

  abbrev all_values : List Value
  all_values = args ++ this ∷ map zero_of rest

  abbrev value_of : ℕ → Value
  value_of x = get_or (args ++ this ∷ []) x Null

  -- with a receiver
  zones_of_instance : Zones (params ++ kind.Ref c ∷ []) all_kinds (n + 1) value_of all_values
  zones_of_instance = record {
    front = λ x k is low. front_same params (kind.Ref c) [] rest x (omega (arith, low, many)) ∙ is;
    back = λ x k is.
        let low = slice_get_within (params ++ kind.Ref c ∷ []) x k is in
        let long = length-append params (kind.Ref c ∷ []) in
        (front_same params (kind.Ref c) rest [] x (omega (arith, low, long)) ∙ is, omega (arith, low, long, many));
    same = λ x low. values_front args this (map zero_of rest) x (omega (arith, low, also));
    zeros = λ x k is high. values_behind params args this (kind.Ref c) rest (many ∙ sym also) x k (omega (arith, high, also)) is;
  }

  -- and without
  zones_of_static : this ≡ Null → Zones (params ++ []) all_kinds n value_of all_values
  zones_of_static nothing = record {
    front = λ x k is low. slice_get-append_left params [] x (omega (arith, low, many)) ∙ sym (slice_get-append_left params (kind.Ref c ∷ rest) x (omega (arith, low, many))) ∙ is;
    back = λ x k is.
        let low = slice_get_within (params ++ []) x k is in
        let long = length-append params [] in
        let within : x < length params = omega (arith, low, long) in
        (slice_get-append_left params (kind.Ref c ∷ rest) x within ∙ sym (slice_get-append_left params [] x within) ∙ is, omega (arith, within, many));
    same = λ x low. values_front args this (map zero_of rest) x (omega (arith, low, also));
    zeros = λ x k is high. elim (less_or_not x n) [
      | inl low ↦ absurd (omega (arith, low, high))
      | inr past ↦ elim (less_or_not n x) [
        | inl beyond ↦ values_behind params args this (kind.Ref c) rest (many ∙ sym also) x k (omega (arith, beyond, also)) is
        | inr up_to ↦
            let here : x ≡ n = omega (arith, up_to, past) in
            let k_is : kind.Ref c ≡ k = some_same (sym (seam params (kind.Ref c) rest) ∙ ap (slice_get all_kinds) (many ∙ sym here) ∙ is) in
            ap (λ i. var_at all_values i) (here ∙ sym also) ∙ ap (λ v. unwrap_or v Null) (seam args this (map zero_of rest)) ∙ nothing ∙ ap zero_of k_is
      ]
    ];
  }

-- ## the law

module _ (p : Posed) (kinds : List Kind) (d : MethodDef) (s : Start) (called : method_of p ≡ Some d) (fits : Fits s p) where
  arguments : pointwise (is_argument p.scope.ints s.objects) d.params s.args ≡ true
  arguments = subst (λ (m : Option MethodDef). option_map_or (λ (m : MethodDef). pointwise (is_argument p.scope.ints s.objects) m.params s.args) m false ≡ true) called fits.arguments

  receiver : is_receiver s.objects d.class d.fixed s.this ≡ true
  receiver = subst (λ (m : Option MethodDef). option_map_or (λ (m : MethodDef). is_receiver s.objects m.class m.fixed s.this) m false ≡ true) called fits.receiver

  many : length (param_kinds d) ≡ length d.params
  many = length-map d.params (λ q. q.kind)

  also : length s.args ≡ length d.params
  also = sym (as_many p.scope.ints s.objects d.params s.args arguments)

  abbrev StartZones : Type 0
  StartZones = Zones (start_kinds p) kinds (given d) (λ x. get_or (s.args ++ s.this ∷ []) x Null) (first_state kinds s).vars

  start_zones : BeginWith d kinds → StartZones
  start_zones begin =
      subst (λ ks. Zones (start_kinds p) ks (given d) (λ x. get_or (s.args ++ s.this ∷ []) x Null) (first_state ks s).vars) (sym begin.1)
      (subst (λ zs. Zones (start_kinds p) whole (given d) (λ x. get_or (s.args ++ s.this ∷ []) x Null) (s.args ++ s.this ∷ map zero_of zs)) (sym dropped)
      (subst (λ ss. Zones ss whole (given d) (λ x. get_or (s.args ++ s.this ∷ []) x Null) (s.args ++ s.this ∷ map zero_of begin.0)) (sym started)
      (by d.fixed receiver)))
    where
      whole : List Kind
      whole = param_kinds d ++ kind.Ref d.class ∷ begin.0

      dropped : drop (length s.args + 1) whole ≡ begin.0
      dropped = behind (param_kinds d) (kind.Ref d.class) begin.0 (length s.args) (many ∙ sym also)

      started : start_kinds p ≡ param_kinds d ++ receiver_kinds d
      started = ap (λ (m : Option MethodDef). option_map_or (λ (m : MethodDef). param_kinds m ++ receiver_kinds m) m []) called

      by : (b : Bool) → is_receiver s.objects d.class b s.this ≡ true
          → Zones (param_kinds d ++ (if b then [] else kind.Ref d.class ∷ [])) whole (if b then length d.params else length d.params + 1) (λ x. get_or (s.args ++ s.this ∷ []) x Null)
          (s.args ++ s.this ∷ map zero_of begin.0)
      by true is = zones_of_static (param_kinds d) s.args s.this d.class begin.0 (length d.params) many also (null_is s.this is)
      by false is = zones_of_instance (param_kinds d) s.args s.this d.class begin.0 (length d.params) many also

  module _ (zones : StartZones) where
    state_kinded : HasKinds p kinds (first_state kinds s)
    state_kinded = record {
      vars = λ x k is. elim (less_or_not x (given d)) [
        | inl low ↦ ap (has_kind p.scope.ints s.objects k) (zones.same x low) ∙ (start_is_state p s fits).values x k (zones.front x k is low)
        | inr high ↦ ap (has_kind p.scope.ints s.objects k) (zones.zeros x k is high) ∙ zero_kinded p.scope.ints s.objects k
      ];
      objects_whole = fits.objects_whole;
      few_objects = fits.few_objects;
    }

    state_from_start : (m : Reading) (at first : Indices) → IsFirst at → IsFirst first → ShowsStart p m at s → IsRestZero kinds (given d) m → ShowsAt p kinds m first (first_state kinds s)
    state_from_start m at first at_is first_is shown rest = record {
      heap = heap_at_first p.unit m at first s.objects at_is first_is shown.heap;
      values = λ x k is. elim (less_or_not x (given d)) [
        | inl low ↦
            subst (λ v. ShowsValue m k (slot_relation first x) 0 v) (sym (zones.same x low))
            (from_zero m first k x (get_or (s.args ++ s.this ∷ []) x Null) first_is
            (to_zero m at k x (get_or (s.args ++ s.this ∷ []) x Null) at_is (shown.values x k (zones.front x k is low))))
        | inr high ↦
            subst (λ v. ShowsValue m k (slot_relation first x) 0 v) (sym (zones.zeros x k is high)) (from_zero m first k x (zero_of k) first_is (rest x k high is))
      ];
    }

    start_from_state : (m : Reading) (at first : Indices) → IsFirst at → IsFirst first → ShowsAt p kinds m first (first_state kinds s) → ShowsStart p m at s
    start_from_state m at first at_is first_is shown = record {
      heap = heap_at_first p.unit m first at s.objects first_is at_is shown.heap;
      values = λ x k is.
          let here = zones.back x k is in
          subst (λ v. ShowsValue m k (slot_relation at x) 0 v) (zones.same x here.1)
          (from_zero m at k x (var_at (first_state kinds s).vars x) at_is (to_zero m first k x (var_at (first_state kinds s).vars x) first_is (shown.values x k here.0)));
    }

    rest_from_state : (m : Reading) (first : Indices) → IsFirst first → ShowsAt p kinds m first (first_state kinds s) → IsRestZero kinds (given d) m
    rest_from_state m first first_is shown x k high is =
        subst (λ v. ShowsValue m k (slot x 0) 0 v) (zones.zeros x k is high) (to_zero m first k x (var_at (first_state kinds s).vars x) first_is (shown.values x k is))

    state_of_start : IsStateOf p kinds d s
    state_of_start = record {
      kinded = state_kinded;
      shown = λ m at first f of at_is first_is says. (
        (λ both. state_from_start m at first at_is first_is both.0 ((says.meaning m of).0 both.1)),
        (λ shown. (start_from_state m at first at_is first_is shown, (says.meaning m of).1 (rest_from_state m first first_is shown))),
      );
    }

pub starts_are_states : StartsAreStates
starts_are_states p kinds d s called begin fits = state_of_start p kinds d s called fits (start_zones p kinds d s called fits begin)
