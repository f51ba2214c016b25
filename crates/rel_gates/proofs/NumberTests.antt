-- The gates of formulas on numbers, and of classes.
use Rattle.std.proofs.Common.{◌≡◌, ℕ, ◌+◌, ◌<◌, ◌≤◌, Bool, true, false, not, ◌&&◌, ◌||◌, List, length, refl, sym, subst, ap, ◌∙◌, arith, inl, inr, add-one, ℤ, pos, Some, None, is_some}
use Rattle.std.specs.Prelude.{◌==◌, nat_lt, int_lt, if◌then◌else◌}
use Rattle.std.specs.Ordering.{int_eq}
use Rattle.std.specs.List.{list_all}
use Rattle.std.proofs.lemmas.Bool.{cases_Bool, and_parts, eqb-true}
use Rattle.gate_core.specs.declared.circuit.Node.{Node}
use Rattle.gate_core.specs.Circuit.{value, IsOf, Keeps}
use Rattle.gate_arith.specs.Numbers.{number}
use Rattle.gate_arith.specs.Operations.{shown, IsTruth}
use Rattle.gate_sets.specs.Lists.{at}
use Rattle.gate_sets.specs.Shapes.{has_object as has_gate, is_within}
use Rattle.heap_core.specs.Posed.{Posed}
use Rattle.rel_core.specs.declared.relation.RelVar.{RelVar}
use Rattle.rel_core.specs.declared.sets.RelExpr.{RelExpr}
use Rattle.rel_core.specs.declared.numbers.NumExpr.{NumExpr}
use Rattle.rel_core.specs.declared.formula.Formula.{Formula}
use Rattle.rel_core.specs.declared.formula.Formula.TheVariants as f
use Rattle.rel_core.specs.Reading.{Reading, numbers_below}
use Rattle.rel_core.specs.Meaning.{has_object, set_of, number_of, with_both, holds}
use Rattle.rel_core.specs.Uses.{Kinds, AsClass, is_slot, has_use, is_spread, is_sorted, is_sorted_set, is_sorted_number}
use Rattle.rel_core.proofs.Forms.{holds_is_class, holds_same_number, holds_below, holds_fits, sorted_is_class, sorted_same_number, sorted_below, sorted_fits}
use Rattle.rel_gates.specs.Shown.{Named, gates_of, class_bits, row_bits, number_shown}
use Rattle.rel_gates.specs.Limits.{is_class_at}
use Rattle.rel_gates.specs.Meant.{Stand, reference_at, AreSet, IsTruthOf}
use Rattle.rel_gates.specs.Counted.{counted, IsNumberOf, IsComparison}
use Rattle.rel_gates.proofs.BitRows.{same_numbers}
use Rattle.rel_gates.proofs.ClassLimits.{class_what, class_read, class_below}
use Rattle.rel_gates.proofs.Growing.{agree_to}
use Rattle.rel_gates.proofs.Inclusions.{all_alike}
use Rattle.rel_gates.proofs.OfSets.{seen_before}

-- ## tests of numbers

tested : (p : Posed) (es : Named) (old new : List Node) (test : ℤ → ℤ → Bool) (form : NumExpr → NumExpr → Formula) (a b : NumExpr) (x : List ℕ) (x_there : ℕ) (y : List ℕ)
    (y_there gate : ℕ) → Keeps old new → IsOf old 0 → Stand old es
    → ((m : Reading) → holds (form a b) m ≡ with_both (number_of a m) (number_of b m) test false)
    → ((kinds : Kinds) → is_sorted p kinds (form a b) ≡ (is_sorted_number p kinds a && is_sorted_number p kinds b)) → IsNumberOf p es old a x x_there → IsNumberOf p es old b y y_there
    → IsComparison test old new x x_there y y_there gate → IsTruthOf p es new (form a b) gate
tested p es old new test form a b x x_there y y_there gate keeps some stand meaning sorts first second truth = record {
  of = truth.of;
  truth = λ kinds m inputs sorted seen.
      let before = seen_before p kinds old new es inputs m keeps some stand seen in
      let parts = and_parts (is_sorted_number p kinds a) (is_sorted_number p kinds b) (sym (sorts kinds) ∙ sorted) in
      truth.value_is inputs
      ∙ ap (λ k. with_both k (counted old y y_there inputs) test false) (first.values kinds m inputs parts.0 before)
      ∙ ap (λ k. with_both (number_of a m) k test false) (second.values kinds m inputs parts.1 before)
      ∙ sym (meaning m);
}

pub same_number_truth : (p : Posed) (es : Named) (old new : List Node) (a b : NumExpr) (x : List ℕ) (x_there : ℕ) (y : List ℕ) (y_there gate : ℕ) → Keeps old new → IsOf old 0
    → Stand old es → IsNumberOf p es old a x x_there → IsNumberOf p es old b y y_there → IsComparison int_eq old new x x_there y y_there gate → IsTruthOf p es new (f.SameNum a b) gate
same_number_truth p es old new a b x x_there y y_there gate keeps some stand =
    tested p es old new int_eq f.SameNum a b x x_there y y_there gate keeps some stand (holds_same_number a b) (λ kinds. sorted_same_number p kinds a b)

pub below_truth : (p : Posed) (es : Named) (old new : List Node) (a b : NumExpr) (x : List ℕ) (x_there : ℕ) (y : List ℕ) (y_there gate : ℕ) → Keeps old new → IsOf old 0
    → Stand old es → IsNumberOf p es old a x x_there → IsNumberOf p es old b y y_there → IsComparison int_lt old new x x_there y y_there gate → IsTruthOf p es new (f.BelowNum a b) gate
below_truth p es old new a b x x_there y y_there gate keeps some stand =
    tested p es old new int_lt f.BelowNum a b x x_there y y_there gate keeps some stand (holds_below a b) (λ kinds. sorted_below p kinds a b)

there_or_none : (b : Bool) (z : ℤ) → is_some (if b then Some z else None) ≡ b
there_or_none true z = refl
there_or_none false z = refl

pub fits_truth : (p : Posed) (es : Named) (nodes : List Node) (a : NumExpr) (x : List ℕ) (there : ℕ) → IsNumberOf p es nodes a x there → IsTruthOf p es nodes (f.Fits a) there
fits_truth p es nodes a x there is = record {
  of = is.stands.there_of;
  truth = λ kinds m inputs sorted seen.
      sym (there_or_none (value inputs nodes there) (shown nodes x inputs)) ∙ ap is_some (is.values kinds m inputs (sym (sorted_fits p kinds a) ∙ sorted) seen) ∙ sym (holds_fits a m);
}

-- ## classes

-- a number that is that of a class, and this one's
class_same : (n c count : ℕ) → nat_lt n count ≡ true → (nat_lt c count && (n == c)) ≡ int_eq (pos n) (pos c)
class_same n c count below =
    elim (cases_Bool (n == c)) [
      | inl same ↦
          let equal : n ≡ c = eqb-true n c same in
          ap (λ k. nat_lt k count && (n == c)) (sym equal) ∙ ap (λ b. b && (n == c)) below ∙ sym (same_numbers n c)
      | inr other ↦ ap (λ b. nat_lt c count && b) other ∙ and_none (nat_lt c count) ∙ sym (same_numbers n c ∙ other)
    ]
  where
    and_none : (b : Bool) → (b && false) ≡ false
    and_none true = refl
    and_none false = refl

pub class_truth : (p : Posed) (es : Named) (old new : List Node) (e : RelExpr) (class : ℕ) (r : RelVar) (set rows : List ℕ) (gate : ℕ) → 1 ≤ length p.unit.classes → Keeps old new → IsOf old 0
    → Stand old es → AreSet p es old e set → gates_of es r ≡ Some rows
    → IsTruth new (λ inputs. is_within p.scope.objects (has_gate (at old set inputs)) (is_class_at p (value inputs old) rows class)) gate → IsTruthOf p es new (f.IsClass e class r) gate
class_truth p es old new e class r set rows gate some_class keeps some stand are found truth = record {
  of = truth.of;
  truth = λ kinds m inputs sorted seen.
      let before = seen_before p kinds old new es inputs m keeps some stand seen in
      let parts = and_parts (is_sorted_set p kinds e) (is_spread p kinds AsClass r) (sym (sorted_is_class p kinds e class r) ∙ sorted) in
      let what_is = class_what p kinds r.what (and_parts (not (is_slot r.what)) (has_use p kinds AsClass r.what) parts.1).1 in
      let members = has_object (set_of e m) in
      let agree = (agree_to p kinds (value inputs old) es m r (before.agrees r (ap is_some found))).1 in
      truth.value_is inputs
      ∙ all_alike (λ o. not (at old set inputs (o + 1)) || is_class_at p (value inputs old) rows class o) (λ o. not (members o) || int_eq (m.number r o) (pos class)) 0 p.scope.objects (λ o under.
      let below : o < p.scope.objects = omega (arith, under) in
      let n = number (row_bits (value inputs old) (class_bits p) rows o) in
      let read = class_read p kinds m r (value inputs old) rows o (subst (λ gs. m.number r o ≡ number_shown p kinds (value inputs old) gs r o) found (agree o)) what_is below in
      ap (λ b. not b || is_class_at p (value inputs old) rows class o) (are.values kinds m inputs parts.0 before (o + 1) (omega (arith, below)) ∙ ap (λ k. set_of e m (reference_at k)) (add-one o))
      ∙ ap (λ b. not (members o) || b) (class_same n class (length p.unit.classes) (class_below p kinds m r o n before.of_problem some_class what_is below read)
      ∙ ap (λ z. int_eq z (pos class)) (sym read)))
      ∙ ap (λ k. list_all (λ o. not (members o) || int_eq (m.number r o) (pos class)) (numbers_below k)) (sym before.of_problem.objects)
      ∙ sym (holds_is_class e class r m);
}
