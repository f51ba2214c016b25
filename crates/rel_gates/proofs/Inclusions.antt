-- Inclusion, and what all objects of a set pass.
use Rattle.std.proofs.Common.{◌≡◌, ℕ, zero, suc, ◌+◌, ◌<◌, ◌≤◌, Bool, true, not, ◌&&◌, ◌||◌, List, length, get_or, refl, sym, subst, ap, ◌∙◌, arith, add-one, Some, is_some}
use Rattle.std.specs.Prelude.{IsTrue}
use Rattle.std.specs.List.{list_all, range_with_len}
use Rattle.std.proofs.lemmas.Bool.{and_parts}
use Rattle.std.proofs.lemmas.List.Folds.{list_all-map}
use Rattle.std.proofs.lemmas.Grind.{get_or_default_zero}
use Rattle.gate_core.specs.declared.circuit.Node.{Node}
use Rattle.gate_core.specs.Circuit.{value, IsOf, Keeps}
use Rattle.gate_arith.specs.Operations.{IsTruth}
use Rattle.gate_sets.specs.Shapes.{is_within}
use Rattle.heap_core.specs.declared.value.Value.{Value}
use Rattle.heap_core.specs.declared.value.Value.TheVariants.{Null, Obj}
use Rattle.heap_core.specs.Posed.{Posed}
use Rattle.rel_core.specs.declared.relation.RelVar.{RelVar}
use Rattle.rel_core.specs.declared.sets.RelExpr.{RelExpr}
use Rattle.rel_core.specs.declared.formula.Formula.TheVariants as f
use Rattle.rel_core.specs.Reading.{Reading, references}
use Rattle.rel_core.specs.Meaning.{set_of, holds}
use Rattle.rel_core.specs.Uses.{Kinds, AsFlag, is_variable, is_sorted, is_sorted_set}
use Rattle.rel_core.proofs.Forms.{holds_flag, holds_subset, sorted_flag, sorted_subset}
use Rattle.rel_gates.specs.Shown.{Named, gates_of, flag_shown}
use Rattle.rel_gates.specs.Meant.{Stand, reference_at, IsSeen, AreSet, IsTruthOf}
use Rattle.rel_gates.proofs.Growing.{agree_to}
use Rattle.rel_gates.proofs.OfSets.{seen_before, variable_place}

-- tests that agree at the numbers of a range
pub all_alike : (a b : ℕ → Bool) (start n : ℕ) → ((i : ℕ) → i < start + n → a i ≡ b i) → list_all a (range_with_len start n) ≡ list_all b (range_with_len start n)
all_alike a b start zero same = refl
all_alike a b start (suc n) same = ap (λ x. x && list_all a (range_with_len (start + 1) n)) (same start (omega arith))
    ∙ ap (λ x. b start && x) (all_alike a b (start + 1) n (λ i below. same i (omega arith)))

-- a test of the references, place by place
places_from : (test : Value → Bool) (start n : ℕ) → list_all (λ i. test (reference_at i)) (range_with_len (start + 1) n) ≡ list_all (λ o. test (Obj o)) (range_with_len start n)
places_from test start zero = refl
places_from test start (suc n) = ap (λ k. test (reference_at k) && list_all (λ i. test (reference_at i)) (range_with_len (start + 1 + 1) n)) (add-one start)
    ∙ ap (λ b. test (Obj start) && b) (places_from test (start + 1) n)

pub all_references : (test : Value → Bool) (objects : ℕ) → list_all (λ i. test (reference_at i)) (range_with_len 0 (objects + 1)) ≡ list_all test (references objects)
all_references test objects =
    ap (λ n. list_all (λ i. test (reference_at i)) (range_with_len 0 n)) (add-one objects)
    ∙ ap (λ b. test Null && b) (places_from test 0 objects ∙ sym (list_all-map test Obj (range_with_len 0 objects)))

pub subset_truth : (p : Posed) (es : Named) (middle new : List Node) (d e : RelExpr) (a b : List ℕ) (gate : ℕ) → AreSet p es middle d a → AreSet p es middle e b → Stand middle es
    → IsOf middle 0 → Keeps middle new
    → IsTruth new (λ inputs. is_within (length a) (λ i. value inputs middle (get_or a i 0)) (λ i. value inputs middle (get_or b i 0))) gate → IsTruthOf p es new (f.Subset d e) gate
subset_truth p es middle new d e a b gate first second stand some keeps truth = record { of = truth.of; truth = values }
  where
    values : (kinds : Kinds) (m : Reading) (inputs : ℕ → Bool) → IsTrue (is_sorted p kinds (f.Subset d e)) → IsSeen p kinds new es inputs m → value inputs new gate ≡ holds (f.Subset d e) m
    values kinds m inputs sorted seen =
        let before = seen_before p kinds middle new es inputs m keeps some stand seen in
        let parts = and_parts (is_sorted_set p kinds d) (is_sorted_set p kinds e) (sym (sorted_subset p kinds d e) ∙ sorted) in
        let test = λ (v : Value). not (set_of d m v) || set_of e m v in
        truth.value_is inputs
        ∙ ap (λ n. is_within n (λ i. value inputs middle (get_or a i 0)) (λ i. value inputs middle (get_or b i 0))) first.wide
        ∙ all_alike (λ i. not (value inputs middle (get_or a i 0)) || value inputs middle (get_or b i 0)) (λ i. test (reference_at i)) 0 (p.scope.objects + 1)
        (λ i below.
        let within : i < p.scope.objects + 1 = omega (arith, below) in
        ap (λ x. not x || value inputs middle (get_or b i 0)) (first.values kinds m inputs parts.0 before i within)
        ∙ ap (λ x. not (set_of d m (reference_at i)) || x) (second.values kinds m inputs parts.1 before i within))
        ∙ all_references test p.scope.objects ∙ ap (λ n. list_all test (references n)) (sym before.of_problem.objects) ∙ sym (holds_subset d e m)

-- the flag of a relation at place 0
pub flag_truth : (p : Posed) (es : Named) (nodes : List Node) (r : RelVar) (rows : List ℕ) (gate : ℕ) → gates_of es r ≡ Some rows → length rows ≡ 1 → 1 ≤ p.scope.objects
    → Stand nodes es → gate ≡ get_or rows 0 gate → IsTruthOf p es nodes (f.Flag r) gate
flag_truth p es nodes r rows gate found wide some stand is = record { of = subst (IsOf nodes) (sym is) (stand r rows found 0 gate (omega (arith, wide))); truth = values }
  where
    values : (kinds : Kinds) (m : Reading) (inputs : ℕ → Bool) → IsTrue (is_sorted p kinds (f.Flag r)) → IsSeen p kinds nodes es inputs m → value inputs nodes gate ≡ holds (f.Flag r) m
    values kinds m inputs sorted seen =
        let variable : is_variable p kinds AsFlag r ≡ true = sym (sorted_flag p kinds r) ∙ sorted in
        let agree = (agree_to p kinds (value inputs nodes) es m r (seen.agrees r (ap is_some found))).2 0 in
        let shown : m.flag r 0 ≡ flag_shown p kinds (value inputs nodes) (Some rows) r 0 = subst (λ gs. m.flag r 0 ≡ flag_shown p kinds (value inputs nodes) gs r 0) found agree in
        ap (value inputs nodes) (is ∙ get_or_default_zero rows 0 gate (omega (arith, wide)))
        ∙ sym (shown ∙ ap (λ b. b && value inputs nodes (get_or rows 0 0)) (variable_place p kinds AsFlag r variable some)) ∙ sym (holds_flag r m)
