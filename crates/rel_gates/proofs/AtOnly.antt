-- What a relation has at the only object of a set.
use Rattle.std.proofs.Common.{◌≡◌, ℕ, ◌+◌, ◌*◌, ◌<◌, Bool, false, not, ◌&&◌, ◌||◌, List, get_or, sym, subst, ap, ◌∙◌, arith, add-one, Some, is_some}
use Rattle.std.specs.Prelude.{◌==◌, filter, IsTrue}
use Rattle.std.specs.List.{list_all, range_with_len}
use Rattle.std.specs.Option.{option_map_or}
use Rattle.std.proofs.lemmas.Bool.{and_parts}
use Rattle.std.proofs.lemmas.Grind.{get_or_default_zero}
use Rattle.gate_core.specs.declared.circuit.Node.{Node}
use Rattle.gate_core.specs.Circuit.{value, IsOf, Keeps}
use Rattle.gate_sets.specs.Lists.{AreTruths}
use Rattle.gate_sets.specs.Shapes.{has_object as has_gate, is_only, joined_only}
use Rattle.gate_sets.proofs.Standing.{any_row_alike}
use Rattle.heap_core.specs.Posed.{Posed}
use Rattle.rel_core.specs.declared.relation.RelVar.{RelVar}
use Rattle.rel_core.specs.declared.sets.RelExpr.{RelExpr}
use Rattle.rel_core.specs.declared.formula.Formula.TheVariants as f
use Rattle.rel_core.specs.Reading.{Reading}
use Rattle.rel_core.specs.Meaning.{has_object, only, set_of, holds}
use Rattle.rel_core.specs.Uses.{Kinds, AsFlag, is_spread, is_sorted, is_sorted_set}
use Rattle.rel_core.proofs.Forms.{holds_flag_at, sorted_flag_at}
use Rattle.rel_gates.specs.Shown.{Named, gates_of, flag_shown}
use Rattle.rel_gates.specs.Meant.{Stand, reference_at, IsSeen, AreSet, IsTruthOf}
use Rattle.rel_gates.proofs.Growing.{agree_to}
use Rattle.rel_gates.proofs.OfSets.{seen_before, spread_place}
use Rattle.rel_gates.proofs.Inclusions.{all_alike}
use Rattle.rel_gates.proofs.OnlyOne.{only_value}

-- sets that agree have the same only object
pub only_alike : (count : ℕ) (a b : ℕ → Bool) (o : ℕ) → ((q : ℕ) → q < count → a q ≡ b q) → o < count → is_only count a o ≡ is_only count b o
only_alike count a b o same within =
    ap (λ x. x && list_all (λ p. not (a p) || p == o) (range_with_len 0 count)) (same o within)
    ∙ ap (λ x. b o && x) (all_alike (λ p. not (a p) || p == o) (λ p. not (b p) || p == o) 0 count (λ q below. ap (λ x. not x || q == o) (same q (omega (arith, below)))))

pub flag_at_truth : (p : Posed) (es : Named) (middle new : List Node) (e : RelExpr) (r : RelVar) (set rows places : List ℕ) (gate : ℕ) → AreSet p es middle e set
    → gates_of es r ≡ Some rows → Stand middle es → IsOf middle 0 → Keeps middle new
    → AreTruths new 1 (λ inputs i. joined_only p.scope.objects 1 middle set rows inputs i) places → gate ≡ get_or places 0 gate → IsTruthOf p es new (f.FlagAt e r) gate
flag_at_truth p es middle new e r set rows places gate are found stand some keeps truths is = record {
  of = subst (IsOf new) (sym is) (truths.of 0 gate (omega (
    arith,
    truths.wide,
  )));
  truth = values;
}
  where
    values : (kinds : Kinds) (m : Reading) (inputs : ℕ → Bool) → IsTrue (is_sorted p kinds (f.FlagAt e r)) → IsSeen p kinds new es inputs m → value inputs new gate ≡ holds (f.FlagAt e r) m
    values kinds m inputs sorted seen =
        let before = seen_before p kinds middle new es inputs m keeps some stand seen in
        let parts = and_parts (is_sorted_set p kinds e) (is_spread p kinds AsFlag r) (sym (sorted_flag_at p kinds e r) ∙ sorted) in
        let member : (o : ℕ) → o < p.scope.objects → has_gate (λ k. value inputs middle (get_or set k 0)) o ≡ has_object (set_of e m) o =
        λ o below. are.values kinds m inputs parts.0 before (o + 1) (omega (arith, below)) ∙ ap (λ k. set_of e m (reference_at k)) (add-one o) in
        let agree = (agree_to p kinds (value inputs middle) es m r (before.agrees r (ap is_some found))).2 in
        let flag : (o : ℕ) → o < p.scope.objects → value inputs middle (get_or rows (o * 1 + 0) 0) ≡ m.flag r o =
        λ o below.
        sym (subst (λ gs. m.flag r o ≡ flag_shown p kinds (value inputs middle) gs r o) found (agree o)
        ∙ ap (λ b. b && value inputs middle (get_or rows (o * 1 + 0) 0)) (spread_place p kinds AsFlag r o parts.1 below)) in
        ap (value inputs new) (is ∙ get_or_default_zero places 0 gate (omega (arith, truths.wide)))
        ∙ truths.values inputs 0 (omega arith)
        ∙ any_row_alike p.scope.objects (is_only p.scope.objects (has_gate (λ k. value inputs middle (get_or set k 0)))) (is_only p.scope.objects (has_object (set_of e
        m))) (λ o i. value inputs middle (get_or rows (o * 1 + i) 0)) (λ o i. m.flag r o) 0
        (λ o below. only_alike p.scope.objects (has_gate (λ k. value inputs middle (get_or set k 0))) (has_object (set_of e m)) o member below) flag
        ∙ sym (only_value (has_object (set_of e m)) (m.flag r) p.scope.objects)
        ∙ ap (λ n. option_map_or (m.flag r) (only (objects_below n)) false) (sym before.of_problem.objects)
        ∙ sym (holds_flag_at e r m)
      where
        objects_below : ℕ → List ℕ
        objects_below n = filter (has_object (set_of e m)) (range_with_len 0 n)
