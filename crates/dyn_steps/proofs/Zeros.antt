-- Variables that have the value with which those of their kind begin.
use Rattle.std.proofs.Common.{◌≡◌, ℕ, Bool, true, List, Some, refl, sym, ◌∙◌, ap, subst}
use Rattle.std.specs.Prelude.{pos, if◌then◌else◌, slice_get}
use Rattle.taco_unit.specs.declared.kind.Kind.{Kind}
use Rattle.taco_unit.specs.declared.kind.Kind.TheVariants as kind
use Rattle.heap_core.specs.declared.value.Value.{Value}
use Rattle.heap_core.specs.declared.value.Value.TheVariants.{Num}
use Rattle.heap_core.specs.declared.value.Seen.TheVariants.{Is, Out}
use Rattle.heap_core.specs.Posed.{Posed}
use Rattle.heap_core.specs.Outcomes.{zero_of}
use Rattle.heap_core.specs.Heap.{Heap}
use Rattle.heap_core.specs.Start.{has_kind}
use Rattle.rel_core.specs.declared.formula.Formula.{Formula}
use Rattle.rel_core.specs.declared.relation.RelVar.{RelVar}
use Rattle.rel_core.specs.Reading.{Reading}
use Rattle.rel_core.specs.Meaning.{holds, fitting}
use Rattle.rel_core.specs.Uses.{Kinds, IsOf, use_of_kind, is_variable, is_sorted}
use Rattle.rel_core.specs.Shown.{ShowsValue}
use Rattle.dyn_core.specs.Kinds.{takes_constant}
use Rattle.dyn_steps.specs.Points.{slot}
use Rattle.dyn_steps.specs.Meanings.{is_number, is_constant}
use Rattle.dyn_steps.specs.Paths.{HasZero}
use Rattle.dyn_steps.proofs.Saying.{Says, says_number, says_flag, says_null, is_same}
use Rattle.dyn_steps.proofs.FirstValues.{zero_in}
use Rattle.dyn_steps.proofs.Acts.{variable_used}

-- the first value of a kind is one of the kind
pub zero_kinded : (w : ℕ) (heap : Heap) (k : Kind) → has_kind w heap k (zero_of k) ≡ true
zero_kinded w heap kind.Int = zero_in w
zero_kinded w heap kind.Flag = refl
zero_kinded w heap (kind.Ref c) = refl

zero_taken : (k : Kind) → takes_constant (zero_of k) k ≡ true
zero_taken kind.Int = refl
zero_taken kind.Flag = refl
zero_taken (kind.Ref c) = refl

says_zero : (p : Posed) (kinds : Kinds) (m : Reading) → IsOf p kinds m → (k : Kind) (r : RelVar) → Says m k r (Is (zero_of k)) (is_constant m r (zero_of k))
says_zero p kinds m of kind.Int r =
    subst (λ e. Says m kind.Int r e (is_number m r (fitting m.ints (pos 0)))) (ap (λ b. if b then Is (Num (pos 0)) else Out) (zero_in m.ints)) (says_number m r (pos 0))
says_zero p kinds m of kind.Flag r = says_flag m r _
says_zero p kinds m of (kind.Ref c) r = says_null p kinds m of c r

pub zero_said :
    (p : Posed) (kinds : List Kind) (k : Kind) (x i : ℕ) (f : Formula) (r : RelVar) (v : Value)
    → r ≡ slot x i
    → v ≡ zero_of k
    → ((m : Reading) → holds f m ≡ is_constant m r v)
    → ((p : Posed) (kinds : Kinds) (k : Kind) → takes_constant v k ≡ true → is_variable p kinds (use_of_kind k) r ≡ true → is_sorted p kinds f ≡ true)
    → slice_get kinds x ≡ Some k
    → HasZero p kinds k x i f
zero_said p kinds k x i f r v r_is v_is meaning sorted there = record {
  sorted = sorted p (slice_get kinds) k (ap (λ z. takes_constant z k) v_is ∙ zero_taken k) (ap (is_variable p (slice_get kinds) (use_of_kind k)) r_is ∙ variable_used p kinds x i k there);
  meaning = λ m of. (
    (λ is. let led = (says_zero p (slice_get kinds) m of k (slot x i)).sound (sym (means m) ∙ is) in subst (λ z. ShowsValue m k (slot x i) 0 z) (sym (is_same led.1)) led.2),
    (λ shown. means m ∙ (says_zero p (slice_get kinds) m of k (slot x i)).full (zero_of k) refl shown),
  );
}
  where
    means : (m : Reading) → holds f m ≡ is_constant m (slot x i) (zero_of k)
    means m = meaning m ∙ ap (λ z. is_constant m z v) r_is ∙ ap (λ z. is_constant m (slot x i) z) v_is
