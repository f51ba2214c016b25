-- The edges of relations, and what is reached along them.
use Rattle.std.proofs.Common.{◌≡◌, ℕ, zero, suc, ◌+◌, ◌-◌, ◌<◌, Bool, true, false, ◌&&◌, ◌||◌, List, [], ◌∷◌, ◌++◌, get_or, refl, sym, subst, ap, ◌∙◌, arith, add-one, Some, is_some}
use Rattle.std.specs.Prelude.{nat_lt, IsTrue}
use Rattle.std.specs.List.{list_all}
use Rattle.std.proofs.lemmas.Bool.{and_parts, lt-ltb}
use Rattle.std.proofs.lemmas.List.Folds.{list_any-append, list_all-append}
use Rattle.gate_core.specs.declared.circuit.Node.{Node}
use Rattle.gate_core.specs.Circuit.{value, IsOf, Keeps}
use Rattle.gate_core.proofs.Values.{all_more, of_more}
use Rattle.gate_sets.specs.Lists.{AreTruths, AreRows}
use Rattle.gate_sets.specs.Shapes.{has_object as has_gate, led_edges, edges, reached_set}
use Rattle.heap_core.specs.Closure.{closure}
use Rattle.heap_core.proofs.Closure.{rounds_agree_below}
use Rattle.heap_core.specs.declared.value.Value.TheVariants.{Obj}
use Rattle.heap_core.specs.Posed.{Posed}
use Rattle.rel_core.specs.declared.relation.RelVar.{RelVar}
use Rattle.rel_core.specs.declared.sets.RelExpr.{RelExpr}
use Rattle.rel_core.specs.declared.sets.RelExpr.TheVariants as s
use Rattle.rel_core.specs.Reading.{Reading}
use Rattle.rel_core.specs.Meaning.{ValueSet, has_object, objects_only, reached_from, leads, set_of}
use Rattle.rel_core.specs.Uses.{Kinds, AsSet, is_spread, is_sorted_set}
use Rattle.rel_core.proofs.Forms.{set_reach, sorted_set_reach}
use Rattle.rel_gates.specs.Shown.{Named, gates_of, in_row, refs_shown}
use Rattle.rel_gates.specs.Meant.{Stand, reference_at, IsSeen, AreSet, AreEdges}
use Rattle.rel_gates.proofs.Growing.{agree_to}
use Rattle.rel_gates.proofs.OfSets.{seen_before, refs_read, spread_place}

pub stand_more : (old new : List Node) (es : Named) → Keeps old new → Stand old es → Stand new es
stand_more old new es keeps stand r gates found = all_more old new gates keeps (stand r gates found)

pub edges_none : (p : Posed) (es : Named) (nodes : List Node) (graph : List ℕ) → AreRows nodes p.scope.objects p.scope.objects (λ inputs q o. false) graph → AreEdges p es nodes [] graph
edges_none p es nodes graph rows = record { of = rows.of; long = rows.long; values = λ kinds m inputs spread seen q o in_q in_o. rows.values inputs q o in_q in_o }

or_none : (b : Bool) → (b || false) ≡ b
or_none true = refl
or_none false = refl

and_all : (b : Bool) → (b && true) ≡ b
and_all true = refl
and_all false = refl

pub edges_more : (p : Posed) (es : Named) (middle new : List Node) (rs : List RelVar) (r : RelVar) (graph rows next : List ℕ) → AreEdges p es middle rs graph
    → gates_of es r ≡ Some rows → Stand middle es → IsOf middle 0 → Keeps middle new
    → AreRows new p.scope.objects p.scope.objects (λ inputs q o. led_edges p.scope.objects middle graph rows inputs q o) next → AreEdges p es new (rs ++ r ∷ []) next
edges_more p es middle new rs r graph rows next before found stand some keeps are = record { of = are.of; long = are.long; values = values }
  where
    values : (kinds : Kinds) (m : Reading) (inputs : ℕ → Bool) → IsTrue (list_all (is_spread p kinds AsSet) (rs ++ r ∷ [])) → IsSeen p kinds new es inputs m
        → (q o : ℕ) → q < p.scope.objects → o < p.scope.objects → in_row (value inputs new) p.scope.objects next q o ≡ leads m (rs ++ r ∷ []) q o
    values kinds m inputs spread seen q o in_q in_o =
        let earlier = seen_before p kinds middle new es inputs m keeps some stand seen in
        let parts = and_parts (list_all (is_spread p kinds AsSet) rs) (is_spread p kinds AsSet r)
        (ap (λ b. list_all (is_spread p kinds AsSet) rs && b) (sym (and_all (is_spread p kinds AsSet r))) ∙ sym (list_all-append (is_spread p kinds AsSet) rs (r ∷ [])) ∙ spread) in
        let agree = (agree_to p kinds (value inputs middle) es m r (earlier.agrees r (ap is_some found))).0 in
        let edge : in_row (value inputs middle) (p.scope.objects + 1) rows q (o + 1) ≡ m.refs r q (Obj o) =
        refs_read p kinds m r (value inputs middle) rows q (o + 1)
        (subst (λ gs. m.refs r q (reference_at (o + 1)) ≡ refs_shown p kinds (value inputs middle) gs r q (reference_at (o + 1))) found (agree q (reference_at (o + 1))))
        (spread_place p kinds AsSet r q parts.1 in_q) (omega (arith, in_o))
        ∙ ap (λ k. m.refs r q (reference_at k)) (add-one o) in
        are.values inputs q o in_q in_o
        ∙ ap (λ b. b || in_row (value inputs middle) (p.scope.objects + 1) rows q (o + 1)) (before.values kinds m inputs parts.0 earlier q o in_q in_o)
        ∙ ap (λ b. leads m rs q o || b) (edge ∙ sym (or_none (m.refs r q (Obj o))))
        ∙ sym (list_any-append (λ t. m.refs t q (Obj o)) rs (r ∷ []))

pub reached_members : (p : Posed) (es : Named) (old middle new : List Node) (e : RelExpr) (rs : List RelVar) (set graph places : List ℕ) → AreSet p es old e set
    → AreEdges p es middle rs graph → Stand old es → IsOf old 0 → Keeps old middle → Keeps middle new
    → AreTruths new (p.scope.objects + 1) (λ inputs i. reached_set p.scope.objects middle set graph inputs i) places → AreSet p es new (s.Reach e rs) places
reached_members p es old middle new e rs set graph places are edges_are stand some grown keeps truths = record { of = truths.of; wide = truths.wide; values = values }
  where
    some_later : IsOf middle 0
    some_later = of_more old middle 0 grown some

    values : (kinds : Kinds) (m : Reading) (inputs : ℕ → Bool) → IsTrue (is_sorted_set p kinds (s.Reach e rs)) → IsSeen p kinds new es inputs m
        → (i : ℕ) → i < p.scope.objects + 1 → value inputs new (get_or places i 0) ≡ set_of (s.Reach e rs) m (reference_at i)
    values kinds m inputs sorted seen i within = truths.values inputs i within ∙ place i within ∙ sym (ap (λ (t : ValueSet). t (reference_at i)) (set_reach e rs m))
      where
        later : IsSeen p kinds middle es inputs m
        later = seen_before p kinds middle new es inputs m keeps some_later (stand_more old middle es grown stand) seen

        earlier : IsSeen p kinds old es inputs m
        earlier = seen_before p kinds old middle es inputs m grown some stand later

        parts : (is_sorted_set p kinds e ≡ true) × (list_all (is_spread p kinds AsSet) rs ≡ true)
        parts = and_parts (is_sorted_set p kinds e) (list_all (is_spread p kinds AsSet) rs) (sym (sorted_set_reach p kinds e rs) ∙ sorted)

        member : (o : ℕ) → o < p.scope.objects → has_gate (λ k. value inputs middle (get_or set k 0)) o ≡ has_object (set_of e m) o
        member o below =
            grown.values inputs (get_or set (o + 1) 0) (are.of (o + 1) 0 (omega (arith, below, are.wide)))
            ∙ are.values kinds m inputs parts.0 earlier (o + 1) (omega (arith, below)) ∙ ap (λ k. set_of e m (reference_at k)) (add-one o)

        whole : (o : ℕ) → o < p.scope.objects
            → closure (edges p.scope.objects middle graph inputs) p.scope.objects (has_gate (λ k. value inputs middle (get_or set k 0))) o ≡ reached_from m rs (set_of e m) o
        whole o below =
            rounds_agree_below p.scope.objects (edges p.scope.objects middle graph inputs) (leads m rs) p.scope.objects (has_gate (λ k. value inputs middle (get_or set k
            0))) (has_object (set_of e m))
            (λ q t in_q in_t. edges_are.values kinds m inputs parts.1 later q t in_q in_t) member o below
            ∙ ap (λ n. closure (leads m rs) n (has_object (set_of e m)) o) (sym seen.of_problem.objects)

        place : (k : ℕ) → k < p.scope.objects + 1 → reached_set p.scope.objects middle set graph inputs k ≡ objects_only (reached_from m rs (set_of e m)) (reference_at k)
        place zero inside = refl
        place (suc o) inside =
            let back : suc o - 1 ≡ o = omega arith in
            let front : nat_lt 0 (suc o) ≡ true = lt-ltb 0 (suc o) (omega arith) in
            let full = closure (edges p.scope.objects middle graph inputs) p.scope.objects (has_gate (λ k. value inputs middle (get_or set k 0))) in
            ap (λ b. b && full (suc o - 1)) front ∙ ap full back ∙ whole o (omega (arith, inside))
