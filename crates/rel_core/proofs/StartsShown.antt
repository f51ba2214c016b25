-- States and starts are shown by their readings.
use Rattle.std.proofs.Common.{◌≡◌, ℕ, zero, suc, Bool, true, false, List, [], ◌∷◌, ◌++◌, Option, Some, None, refl, sym, ap, ◌∙◌, get_or}
use Rattle.std.specs.Prelude.{slice_get, map, if◌then◌else◌}
use Rattle.std.specs.Option.{option_map_or}
use Rattle.std.specs.Cmp.Lexicographic.{pointwise}
use Rattle.std.proofs.lemmas.Bool.{false≢true, and_parts}
use Rattle.std.proofs.lemmas.Option.{same_Some, none-some}
use Rattle.taco_unit.specs.declared.kind.Kind.{Kind}
use Rattle.taco_unit.specs.declared.kind.Kind.TheVariants as kind
use Rattle.taco_unit.specs.declared.unit.MethodDef.{MethodDef}
use Rattle.taco_unit.specs.declared.unit.ParamDef.{ParamDef}
use Rattle.taco_unit.specs.Well.{param_kinds}
use Rattle.heap_core.specs.declared.value.Value.{Value}
use Rattle.heap_core.specs.declared.value.Value.TheVariants.{Null, Obj, Num, Flag}
use Rattle.heap_core.specs.declared.start.Start.{Start}
use Rattle.heap_core.specs.Posed.{Posed}
use Rattle.heap_core.specs.Heap.{Heap}
use Rattle.heap_core.specs.Start.{Fits, has_kind, is_argument, is_receiver, method_of}
use Rattle.rel_core.specs.Uses.{Kinds, start_kinds, receiver_kinds}
use Rattle.rel_core.specs.Shown.{state_of}
use Rattle.rel_core.specs.States.{IsState}
use Rattle.rel_core.specs.Laws.{StatesAreShown, StartsAreShown}
use Rattle.rel_core.proofs.StatesShown.{state_shown}
use Rattle.rel_core.proofs.StatesOf.{state_of_problem}

pub states_are_shown : StatesAreShown
states_are_shown p kinds s well range is = record {
  of_problem = state_of_problem p kinds s well range is;
  shown = λ at first. state_shown p kinds s at well is first;
}

-- ## a start that fits is a state within the scope

-- the kinds of arguments, and of what stands behind them
arguments_have : (w : ℕ) (heap : Heap) (params : List ParamDef) (args : List Value) (rest : List Kind) (this : Value)
    → pointwise (is_argument w heap) params args ≡ true
    → ((x : ℕ) (k : Kind) → slice_get rest x ≡ Some k → has_kind w heap k (get_or (this ∷ []) x Null) ≡ true)
    → (x : ℕ) (k : Kind) → slice_get (map (λ q. q.kind) params ++ rest) x ≡ Some k → has_kind w heap k (get_or (args ++ this ∷ []) x Null) ≡ true
arguments_have w heap [] [] rest this all behind x k there = behind x k there
arguments_have w heap [] (v ∷ vs) rest this all behind x k there = absurd (false≢true all)
arguments_have w heap (q ∷ qs) [] rest this all behind x k there = absurd (false≢true all)
arguments_have w heap (q ∷ qs) (v ∷ vs) rest this all behind zero k there =
    ap (λ k. has_kind w heap k v) (sym (same_Some q.kind k there)) ∙ (and_parts (is_argument w heap q v) (pointwise (is_argument w heap) qs vs) all).0
arguments_have w heap (q ∷ qs) (v ∷ vs) rest this all behind (suc x) k there =
    arguments_have w heap qs vs rest this (and_parts (is_argument w heap q v) (pointwise (is_argument w heap) qs vs) all).1 behind x k there

receiver_has : (w : ℕ) (heap : Heap) (class : ℕ) (fixed : Bool) (this : Value) → is_receiver heap class fixed this ≡ true → (x : ℕ) (k : Kind)
    → slice_get (if fixed then [] else kind.Ref class ∷ []) x ≡ Some k → has_kind w heap k (get_or (this ∷ []) x Null) ≡ true
receiver_has w heap class true this is x k there = absurd (none-some k there)
receiver_has w heap class false (Obj o) is zero k there = ap (λ k. has_kind w heap k (Obj o)) (sym (same_Some (kind.Ref class) k there)) ∙ is
receiver_has w heap class false this is (suc x) k there = absurd (none-some k there)
receiver_has w heap class false Null is zero k there = absurd (false≢true is)
receiver_has w heap class false (Num z) is zero k there = absurd (false≢true is)
receiver_has w heap class false (Flag b) is zero k there = absurd (false≢true is)

values_have : (p : Posed) (s : Start) (m : Option MethodDef) → method_of p ≡ m
    → option_map_or (λ m. is_receiver s.objects m.class m.fixed s.this) m false ≡ true
    → option_map_or (λ m. pointwise (is_argument p.scope.ints s.objects) m.params s.args) m false ≡ true
    → (x : ℕ) (k : Kind) → slice_get (option_map_or (λ m. param_kinds m ++ receiver_kinds m) m []) x ≡ Some k
    → has_kind p.scope.ints s.objects k (get_or (s.args ++ s.this ∷ []) x Null) ≡ true
values_have p s (Some m) is receiver arguments x k there =
    arguments_have p.scope.ints s.objects m.params s.args (receiver_kinds m) s.this arguments (receiver_has p.scope.ints s.objects m.class m.fixed s.this receiver) x k there
values_have p s None is receiver arguments x k there = absurd (false≢true receiver)

pub start_is_state : (p : Posed) (s : Start) → Fits s p → IsState p (slice_get (start_kinds p)) (state_of s)
start_is_state p s fits = record {
  few_objects = fits.few_objects;
  objects_whole = fits.objects_whole;
  values = values_have p s (method_of p) refl fits.receiver fits.arguments;
}

pub starts_are_shown : StartsAreShown
starts_are_shown p s well range fits =
    let kinds : Kinds = slice_get (start_kinds p) in
    let is = start_is_state p s fits in
    record {
      of_problem = state_of_problem p kinds (state_of s) well range is;
      shown = λ at first. state_shown p kinds (state_of s) at well is first;
    }
