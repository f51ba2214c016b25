-- The gate of each form of a formula, from the gates of its parts.
use Rattle.std.proofs.Common.{◌≡◌, ℕ, ◌+◌, ◌*◌, ◌≤◌, true, List, [], ◌∷◌, ◌++◌, take, refl, sym, subst, ap, ◌∙◌, arith}
use Rattle.std.specs.List.{flat_map, list_all, list_any}
use Rattle.std.specs.Option.{option_map_or}
use Rattle.std.proofs.lemmas.List.{take_more}
use Rattle.gate_core.specs.declared.circuit.Node.{Node}
use Rattle.gate_core.specs.Circuit.{value, IsOf}
use Rattle.gate_core.proofs.Values.{of_more, keeps_twice}
use Rattle.gate_arith.specs.Operations.{IsTruth}
use Rattle.heap_core.specs.Posed.{Posed}
use Rattle.rel_core.specs.declared.sets.RelExpr.{RelExpr}
use Rattle.rel_core.specs.Uses.{AsClass}
use Rattle.rel_gates.specs.Shown.{Named, class_bits}
use Rattle.rel_gates.specs.Naming.{set_uses, number_uses, uses, wanted_each, changed_uses, spread_use, is_named_for, are_named}
use Rattle.rel_gates.specs.Meant.{AreSet, IsTruthOf}
use Rattle.rel_gates.specs.Counted.{IsNumberOf}
use Rattle.rel_gates.specs.Parts.{AreTruthsOf}
use Rattle.rel_gates.proofs.UseForms.{both_named, one_named}
use Rattle.rel_gates.proofs.FormulaUses.{uses_subset, uses_is_class, uses_same_number, uses_below, uses_changed, uses_not, uses_and, uses_or, uses_same}
use Rattle.rel_gates.proofs.FormulaParts.{size, size_not, size_and, size_or, size_same, part_falls, list_falls, element_falls, element_named, has_constant}
use Rattle.rel_gates.proofs.OfSets.{named_count, is_named_by}
use Rattle.rel_gates.proofs.OfGraphs.{stand_more}
use Rattle.rel_gates.proofs.ClassLimits.{some_class}
use Rattle.rel_gates.proofs.NumberMeaning.{number_kept, set_kept}
use Rattle.rel_gates.proofs.NumberTests.{same_number_truth, below_truth, fits_truth, class_truth}
use Rattle.rel_gates.proofs.Connectives.{truth_of_kept, not_truth, same_truth, parts_more, and_truth, or_truth}
use Rattle.rel_gates.proofs.formulas.+formulas.Goals as goal

-- where there is a gate, there is a node
node_of_gate : (nodes : List Node) (gate : ℕ) → IsOf nodes gate → IsOf nodes 0
node_of_gate nodes gate of = omega (arith, of)

set_node : (p : Posed) (es : Named) (nodes : List Node) (e : RelExpr) (set : List ℕ) → AreSet p es nodes e set → IsOf nodes 0
set_node p es nodes e set are =
    let first = are.of 0 0 (omega (arith, are.wide)) in
    omega (arith, first)

pub formula_gate-set_gates-requires-in-Subset-2-clause-named : goal.formula_gate-set_gates-requires-in-Subset-2-clause-named
formula_gate-set_gates-requires-in-Subset-2-clause-named t c =
    let p = c.args.problem.now in
    let es = c.args.relations.now in
    (subst (λ e. are_named es (set_uses p e) ≡ true) (sym c.get-in-Subset-2.ensures)
    (both_named es (uses p c.args.formula.now) (set_uses p c.in-Subset.a) (set_uses p c.in-Subset.b) c.requires.named
    (ap (uses p) c.in-Subset.is ∙ uses_subset p c.in-Subset.a c.in-Subset.b)).1)

pub formula_gate-set_gates-requires-in-IsClass-clause-named : goal.formula_gate-set_gates-requires-in-IsClass-clause-named
formula_gate-set_gates-requires-in-IsClass-clause-named t c =
    let p = c.args.problem.now in
    let es = c.args.relations.now in
    (subst (λ e. are_named es (set_uses p e) ≡ true) (sym c.get-in-IsClass.ensures)
    (both_named es (uses p c.args.formula.now) (set_uses p c.in-IsClass.set) (wanted_each p AsClass c.in-IsClass.relation ∷ []) c.requires.named
    (ap (uses p) c.in-IsClass.is ∙ uses_is_class p c.in-IsClass.set c.in-IsClass.class c.in-IsClass.relation)).0)

pub formula_gate-gates_for-rows-requires : goal.formula_gate-gates_for-rows-requires
formula_gate-gates_for-rows-requires t c =
    let p = c.args.problem.now in
    let es = c.args.relations.now in
    let r = c.in-IsClass.relation in
    let named : is_named_for es (wanted_each p AsClass r) ≡ true = one_named es (wanted_each p AsClass r ∷ []) (wanted_each p AsClass r) (both_named es (uses p c.args.formula.now)
    (set_uses p c.in-IsClass.set) (wanted_each p AsClass c.in-IsClass.relation ∷ []) c.requires.named (ap (uses p)
    c.in-IsClass.is ∙ uses_is_class p c.in-IsClass.set c.in-IsClass.class c.in-IsClass.relation)).1 refl in
    is_named_by es r (p.scope.objects * class_bits p) named

pub formula_gate-class_gate-requires-clause-long : goal.formula_gate-class_gate-requires-clause-long
formula_gate-class_gate-requires-clause-long t c =
    let p = c.args.problem.now in
    let es = c.args.relations.now in
    let r = c.in-IsClass.relation in
    let named : is_named_for es (wanted_each p AsClass r) ≡ true = one_named es (wanted_each p AsClass r ∷ []) (wanted_each p AsClass r) (both_named es (uses p c.args.formula.now)
    (set_uses p c.in-IsClass.set) (wanted_each p AsClass c.in-IsClass.relation ∷ []) c.requires.named (ap (uses p)
    c.in-IsClass.is ∙ uses_is_class p c.in-IsClass.set c.in-IsClass.class c.in-IsClass.relation)).1 refl in
    named_count es r (p.scope.objects * class_bits p) c.gates_for-rows.result.now named c.gates_for-rows.ensures

pub formula_gate-number_gates-requires-clause-named : goal.formula_gate-number_gates-requires-clause-named
formula_gate-number_gates-requires-clause-named t c =
    let p = c.args.problem.now in
    let es = c.args.relations.now in
    (subst (λ e. are_named es (number_uses p e) ≡ true) (sym c.get-in-SameNum.ensures)
    (both_named es (uses p c.args.formula.now) (number_uses p c.in-SameNum.a) (number_uses p c.in-SameNum.b) c.requires.named
    (ap (uses p) c.in-SameNum.is ∙ uses_same_number p c.in-SameNum.a c.in-SameNum.b)).0)

pub formula_gate-number_gates-requires-in-SameNum-clause-named : goal.formula_gate-number_gates-requires-in-SameNum-clause-named
formula_gate-number_gates-requires-in-SameNum-clause-named t c =
    let p = c.args.problem.now in
    let es = c.args.relations.now in
    (subst (λ e. are_named es (number_uses p e) ≡ true) (sym c.get-in-SameNum-2.ensures)
    (both_named es (uses p c.args.formula.now) (number_uses p c.in-SameNum.a) (number_uses p c.in-SameNum.b) c.requires.named
    (ap (uses p) c.in-SameNum.is ∙ uses_same_number p c.in-SameNum.a c.in-SameNum.b)).1)

pub formula_gate-number_gates-requires-in-BelowNum-clause-named : goal.formula_gate-number_gates-requires-in-BelowNum-clause-named
formula_gate-number_gates-requires-in-BelowNum-clause-named t c =
    let p = c.args.problem.now in
    let es = c.args.relations.now in
    (subst (λ e. are_named es (number_uses p e) ≡ true) (sym c.get-in-BelowNum.ensures)
    (both_named es (uses p c.args.formula.now) (number_uses p c.in-BelowNum.a) (number_uses p c.in-BelowNum.b) c.requires.named
    (ap (uses p) c.in-BelowNum.is ∙ uses_below p c.in-BelowNum.a c.in-BelowNum.b)).0)

pub formula_gate-number_gates-requires-in-BelowNum-2-clause-named : goal.formula_gate-number_gates-requires-in-BelowNum-2-clause-named
formula_gate-number_gates-requires-in-BelowNum-2-clause-named t c =
    let p = c.args.problem.now in
    let es = c.args.relations.now in
    (subst (λ e. are_named es (number_uses p e) ≡ true) (sym c.get-in-BelowNum-2.ensures)
    (both_named es (uses p c.args.formula.now) (number_uses p c.in-BelowNum.a) (number_uses p c.in-BelowNum.b) c.requires.named
    (ap (uses p) c.in-BelowNum.is ∙ uses_below p c.in-BelowNum.a c.in-BelowNum.b)).1)

pub formula_gate-set_gates-requires-in-Changed-clause-named : goal.formula_gate-set_gates-requires-in-Changed-clause-named
formula_gate-set_gates-requires-in-Changed-clause-named t c =
    let p = c.args.problem.now in
    let es = c.args.relations.now in
    (subst (λ e. are_named es (set_uses p e) ≡ true) (sym c.get-in-Changed.ensures)
    (both_named es (uses p c.args.formula.now) (set_uses p c.in-Changed.set)
    (option_map_or (changed_uses p c.in-Changed.new c.in-Changed.given c.in-Changed.old) (spread_use p c.in-Changed.new) []) c.requires.named (ap (uses p)
    c.in-Changed.is ∙ uses_changed p c.in-Changed.new c.in-Changed.set c.in-Changed.given c.in-Changed.old)).0)

pub formula_gate-changed_gate-requires-clause-named : goal.formula_gate-changed_gate-requires-clause-named
formula_gate-changed_gate-requires-clause-named t c =
    let p = c.args.problem.now in
    let es = c.args.relations.now in
    (both_named es (uses p c.args.formula.now) (set_uses p c.in-Changed.set)
    (option_map_or (changed_uses p c.in-Changed.new c.in-Changed.given c.in-Changed.old) (spread_use p c.in-Changed.new) []) c.requires.named (ap (uses p)
    c.in-Changed.is ∙ uses_changed p c.in-Changed.new c.in-Changed.set c.in-Changed.given c.in-Changed.old)).1

pub formula_gate-formula_gate-requires : goal.formula_gate-formula_gate-requires
formula_gate-formula_gate-requires t c =
    let p = c.args.problem.now in
    let es = c.args.relations.now in
    let a = c.in-Not.a in
    let less : size a + 1 ≤ size c.args.formula.now = subst (λ n. size a + 1 ≤ n) (sym (ap size c.in-Not.is ∙ size_not a)) (omega arith) in (
      part_falls a c.get-in-Not.result.now (size c.args.formula.now) t c.get-in-Not.ensures less c.decreases,
      (c.requires.stand, (subst (λ e. are_named es (uses p e) ≡ true) (sym c.get-in-Not.ensures) (ap (are_named es) (sym (ap (uses p) c.in-Not.is ∙ uses_not p a)) ∙ c.requires.named))),
    )

pub formula_gate-part_gates-requires : goal.formula_gate-part_gates-requires
formula_gate-part_gates-requires t c =
    let p = c.args.problem.now in
    let es = c.args.relations.now in
    let fs = c.in-And.parts in (
      list_falls fs c.as_slice.result.now (size c.args.formula.now) t c.as_slice.ensures (ap size c.in-And.is ∙ size_and fs) c.decreases,
      (c.requires.stand, subst (λ gs. are_named es (flat_map (uses p) gs) ≡ true) (sym c.as_slice.ensures) (ap (are_named es) (sym (ap (uses p) c.in-And.is ∙ uses_and p fs)) ∙ c.requires.named)),
    )

pub formula_gate-part_gates-requires-in-Or : goal.formula_gate-part_gates-requires-in-Or
formula_gate-part_gates-requires-in-Or t c =
    let p = c.args.problem.now in
    let es = c.args.relations.now in
    let fs = c.in-Or.parts in (
      list_falls fs c.as_slice-in-Or.result.now (size c.args.formula.now) t c.as_slice-in-Or.ensures (ap size c.in-Or.is ∙ size_or fs) c.decreases,
      (c.requires.stand, subst (λ gs. are_named es (flat_map (uses p) gs) ≡ true) (sym c.as_slice-in-Or.ensures) (ap (are_named es) (sym (ap (uses p) c.in-Or.is ∙ uses_or p fs)) ∙ c.requires.named)),
    )

pub formula_gate-formula_gate-requires-in-Same : goal.formula_gate-formula_gate-requires-in-Same
formula_gate-formula_gate-requires-in-Same t c =
    let p = c.args.problem.now in
    let es = c.args.relations.now in
    let a = c.in-Same.a in
    let b = c.in-Same.b in
    let less : size a + 1 ≤ size c.args.formula.now = subst (λ n. size a + 1 ≤ n) (sym (ap size c.in-Same.is ∙ size_same a b)) (omega arith) in (
      part_falls a c.get-in-Same.result.now (size c.args.formula.now) t c.get-in-Same.ensures less c.decreases,
      (
        c.requires.stand,
        (subst (λ e. are_named es (uses p e) ≡ true) (sym c.get-in-Same.ensures)
            (both_named es (uses p c.args.formula.now) (uses p a) (uses p b) c.requires.named (ap (uses p) c.in-Same.is ∙ uses_same p a b)).0),
      ),
    )

pub formula_gate-formula_gate-requires-in-Same-2 : goal.formula_gate-formula_gate-requires-in-Same-2
formula_gate-formula_gate-requires-in-Same-2 t c =
    let p = c.args.problem.now in
    let es = c.args.relations.now in
    let a = c.in-Same.a in
    let b = c.in-Same.b in
    let less : size b + 1 ≤ size c.args.formula.now = subst (λ n. size b + 1 ≤ n) (sym (ap size c.in-Same.is ∙ size_same a b)) (omega arith) in (
      part_falls b c.get-in-Same-2.result.now (size c.args.formula.now) t c.get-in-Same-2.ensures less c.decreases,
      (
        stand_more c.args.gates.now c.formula_gate-in-Same.new.gates es c.in_ok-x-in-Same.ensures.keeps c.requires.stand,
        (subst (λ e. are_named es (uses p e) ≡ true) (sym c.get-in-Same-2.ensures)
            (both_named es (uses p c.args.formula.now) (uses p a) (uses p b) c.requires.named (ap (uses p) c.in-Same.is ∙ uses_same p a b)).1),
      ),
    )

pub formula_gate-returns-in_ok-gate-in-FlagAt-clause-truth : goal.formula_gate-returns-in_ok-gate-in-FlagAt-clause-truth
formula_gate-returns-in_ok-gate-in-FlagAt-clause-truth t c =
    let p = c.args.problem.now in
    let es = c.args.relations.now in
    rw c.in-FlagAt.is
    (c.in_ok-gate-in-FlagAt.ensures.flag c.in-FlagAt.set
    (subst (λ gs. AreSet p es c.set_gates.new.gates c.in-FlagAt.set gs) (sym c.deref.ensures.value) (rw c.get.ensures at c.in_ok-members-in-FlagAt.ensures.set)))

pub formula_gate-returns-in_ok-gate-in-Subset-clause-truth : goal.formula_gate-returns-in_ok-gate-in-Subset-clause-truth
formula_gate-returns-in_ok-gate-in-Subset-clause-truth t c =
    let p = c.args.problem.now in
    let es = c.args.relations.now in
    let a = c.in-Subset.a in
    let b = c.in-Subset.b in
    let middle = c.set_gates-in-Subset.new.gates in
    let third = c.set_gates-in-Subset-2.new.gates in
    let inner = c.in_ok-inner-in-Subset.inner.items in
    let outer = c.in_ok-outer-in-Subset.outer.items in
    let first : AreSet p es middle a inner = rw c.get-in-Subset.ensures at c.in_ok-inner-in-Subset.ensures.set in
    let second : AreSet p es third b outer = rw c.get-in-Subset-2.ensures at c.in_ok-outer-in-Subset.ensures.set in
    let some = set_node p es middle a inner first in
    let stand = stand_more c.args.gates.now middle es c.in_ok-inner-in-Subset.ensures.keeps c.requires.stand in
    let kept = set_kept p es middle third a inner c.in_ok-outer-in-Subset.ensures.keeps some stand first in
    rw c.in-Subset.is
    (c.in_ok-gate-in-Subset.ensures.subset a b (subst (λ gs. AreSet p es third a gs) (sym c.deref-in-Subset.ensures.value) kept)
    (subst (λ gs. AreSet p es third b gs) (sym c.deref-in-Subset-2.ensures.value) second))

pub formula_gate-returns-in_ok-gate-in-IsClass-clause-truth : goal.formula_gate-returns-in_ok-gate-in-IsClass-clause-truth
formula_gate-returns-in_ok-gate-in-IsClass-clause-truth t c =
    let p = c.args.problem.now in
    let es = c.args.relations.now in
    let e = c.in-IsClass.set in
    let middle = c.set_gates-in-IsClass.new.gates in
    let members = c.in_ok-members-in-IsClass.members.items in
    let are : AreSet p es middle e members = rw c.get-in-IsClass.ensures at c.in_ok-members-in-IsClass.ensures.set in
    let some = set_node p es middle e members are in
    let stand = stand_more c.args.gates.now middle es c.in_ok-members-in-IsClass.ensures.keeps c.requires.stand in
    rw c.in-IsClass.is
    (class_truth p es middle c.class_gate.new.gates e c.in-IsClass.class c.in-IsClass.relation c.deref-in-IsClass.result.now c.gates_for-rows.result.now c.in_ok-gate-in-IsClass.gate
    (some_class p c.well_posed.ensures.unit c.well_posed.ensures.scope) c.in_ok-gate-in-IsClass.ensures.keeps some stand
    (subst (λ gs. AreSet p es middle e gs) (sym c.deref-in-IsClass.ensures.value) are) c.gates_for-rows.ensures c.in_ok-gate-in-IsClass.ensures.class)

pub formula_gate-returns-in_ok-gate-in-SameNum-clause-truth : goal.formula_gate-returns-in_ok-gate-in-SameNum-clause-truth
formula_gate-returns-in_ok-gate-in-SameNum-clause-truth t c =
    let p = c.args.problem.now in
    let es = c.args.relations.now in
    let a = c.in-SameNum.a in
    let b = c.in-SameNum.b in
    let middle = c.number_gates.new.gates in
    let third = c.number_gates-in-SameNum.new.gates in
    let x = c.in_ok-x-in-SameNum.x in
    let y = c.in_ok-y-in-SameNum.y in
    let first : IsNumberOf p es middle a x.bits.items x.there = rw c.get-in-SameNum.ensures at c.in_ok-x-in-SameNum.ensures.number in
    let second : IsNumberOf p es third b y.bits.items y.there = rw c.get-in-SameNum-2.ensures at c.in_ok-y-in-SameNum.ensures.number in
    let stand = stand_more c.args.gates.now middle es c.in_ok-x-in-SameNum.ensures.keeps c.requires.stand in
    let later = stand_more middle third es c.in_ok-y-in-SameNum.ensures.keeps stand in
    let some = node_of_gate middle x.there first.stands.there_of in
    let some_third = node_of_gate third y.there second.stands.there_of in
    rw c.in-SameNum.is
    (same_number_truth p es third c.are_same.new.gates a b x.bits.items x.there y.bits.items y.there c.in_ok-gate-in-SameNum.gate c.in_ok-gate-in-SameNum.ensures.keeps some_third later
    (number_kept p es middle third a x.bits.items x.there c.in_ok-y-in-SameNum.ensures.keeps some stand first) second c.in_ok-gate-in-SameNum.ensures.same)

pub formula_gate-returns-in_ok-gate-in-BelowNum-clause-truth : goal.formula_gate-returns-in_ok-gate-in-BelowNum-clause-truth
formula_gate-returns-in_ok-gate-in-BelowNum-clause-truth t c =
    let p = c.args.problem.now in
    let es = c.args.relations.now in
    let a = c.in-BelowNum.a in
    let b = c.in-BelowNum.b in
    let middle = c.number_gates-in-BelowNum.new.gates in
    let third = c.number_gates-in-BelowNum-2.new.gates in
    let x = c.in_ok-x-in-BelowNum.x in
    let y = c.in_ok-y-in-BelowNum.y in
    let first : IsNumberOf p es middle a x.bits.items x.there = rw c.get-in-BelowNum.ensures at c.in_ok-x-in-BelowNum.ensures.number in
    let second : IsNumberOf p es third b y.bits.items y.there = rw c.get-in-BelowNum-2.ensures at c.in_ok-y-in-BelowNum.ensures.number in
    let stand = stand_more c.args.gates.now middle es c.in_ok-x-in-BelowNum.ensures.keeps c.requires.stand in
    let later = stand_more middle third es c.in_ok-y-in-BelowNum.ensures.keeps stand in
    let some = node_of_gate middle x.there first.stands.there_of in
    let some_third = node_of_gate third y.there second.stands.there_of in
    rw c.in-BelowNum.is
    (below_truth p es third c.is_below.new.gates a b x.bits.items x.there y.bits.items y.there c.in_ok-gate-in-BelowNum.gate c.in_ok-gate-in-BelowNum.ensures.keeps some_third later
    (number_kept p es middle third a x.bits.items x.there c.in_ok-y-in-BelowNum.ensures.keeps some stand first) second c.in_ok-gate-in-BelowNum.ensures.below)

pub formula_gate-returns-in_ok-x-in-Fits-clause-truth : goal.formula_gate-returns-in_ok-x-in-Fits-clause-truth
formula_gate-returns-in_ok-x-in-Fits-clause-truth t c =
    let p = c.args.problem.now in
    let es = c.args.relations.now in
    let x = c.in_ok-x-in-Fits.x in
    rw c.in-Fits.is (fits_truth p es c.number_gates-in-Fits.new.gates c.in-Fits.a x.bits.items x.there (rw c.get-in-Fits.ensures at c.in_ok-x-in-Fits.ensures.number))

pub formula_gate-returns-in_ok-gate-in-Changed-clause-truth : goal.formula_gate-returns-in_ok-gate-in-Changed-clause-truth
formula_gate-returns-in_ok-gate-in-Changed-clause-truth t c =
    let p = c.args.problem.now in
    let es = c.args.relations.now in
    rw c.in-Changed.is
    (c.in_ok-gate-in-Changed.ensures.changed c.in-Changed.set
    (subst (λ gs. AreSet p es c.set_gates-in-Changed.new.gates c.in-Changed.set gs) (sym c.deref-in-Changed.ensures.value) (rw c.get-in-Changed.ensures at
    c.in_ok-members-in-Changed.ensures.set)))

pub formula_gate-returns-in_ok-gate-in-Not-clause-truth : goal.formula_gate-returns-in_ok-gate-in-Not-clause-truth
formula_gate-returns-in_ok-gate-in-Not-clause-truth t c =
    let p = c.args.problem.now in
    let es = c.args.relations.now in
    let nodes = c.formula_gate.new.gates in
    let gate = c.in_ok-gate-in-Not.gate in
    let is : IsTruthOf p es nodes c.in-Not.a gate = rw c.get-in-Not.ensures at c.in_ok-gate-in-Not.ensures.truth in
    rw c.in-Not.is (not_truth p es nodes c.in-Not.a gate c.not.result is (c.not.ensures.of nodes is.of) (λ inputs. c.not.ensures.value inputs nodes))

pub formula_gate-returns-in_ok-gate-in-And-clause-truth : goal.formula_gate-returns-in_ok-gate-in-And-clause-truth
formula_gate-returns-in_ok-gate-in-And-clause-truth t c =
    let p = c.args.problem.now in
    let es = c.args.relations.now in
    let fs = c.in-And.parts in
    let start = c.args.gates.now in
    let middle = c.part_gates.new.gates in
    let new = c.all_of.new.gates in
    let list = c.in_ok-list-in-And.list.items in
    let gate = c.in_ok-gate-in-And.gate in
    let are : AreTruthsOf p es middle fs list = rw c.as_slice.ensures at c.in_ok-list-in-And.ensures.parts in
    let some = of_more start middle 0 c.in_ok-list-in-And.ensures.keeps (has_constant start c.nodes-nodes.ensures.circuit) in
    let stand = stand_more start middle es c.in_ok-list-in-And.ensures.keeps c.requires.stand in
    rw c.in-And.is
    (and_truth p es middle new fs list gate c.in_ok-gate-in-And.ensures.keeps some stand are
    (subst (λ gs. IsTruth new (λ inputs. list_all (value inputs middle) gs) gate) c.deref-in-And.ensures.value c.in_ok-gate-in-And.ensures.truth))

pub formula_gate-returns-in_ok-gate-in-Or-clause-truth : goal.formula_gate-returns-in_ok-gate-in-Or-clause-truth
formula_gate-returns-in_ok-gate-in-Or-clause-truth t c =
    let p = c.args.problem.now in
    let es = c.args.relations.now in
    let fs = c.in-Or.parts in
    let start = c.args.gates.now in
    let middle = c.part_gates-in-Or.new.gates in
    let new = c.any_of.new.gates in
    let list = c.in_ok-list-in-Or.list.items in
    let gate = c.in_ok-gate-in-Or.gate in
    let are : AreTruthsOf p es middle fs list = rw c.as_slice-in-Or.ensures at c.in_ok-list-in-Or.ensures.parts in
    let some = of_more start middle 0 c.in_ok-list-in-Or.ensures.keeps (has_constant start c.nodes-nodes.ensures.circuit) in
    let stand = stand_more start middle es c.in_ok-list-in-Or.ensures.keeps c.requires.stand in
    rw c.in-Or.is
    (or_truth p es middle new fs list gate c.in_ok-gate-in-Or.ensures.keeps some stand are
    (subst (λ gs. IsTruth new (λ inputs. list_any (value inputs middle) gs) gate) c.deref-in-Or.ensures.value c.in_ok-gate-in-Or.ensures.truth))

pub formula_gate-returns-in_ok-apart-in-Same-clause-truth : goal.formula_gate-returns-in_ok-apart-in-Same-clause-truth
formula_gate-returns-in_ok-apart-in-Same-clause-truth t c =
    let p = c.args.problem.now in
    let es = c.args.relations.now in
    let a = c.in-Same.a in
    let b = c.in-Same.b in
    let middle = c.formula_gate-in-Same.new.gates in
    let third = c.formula_gate-in-Same-2.new.gates in
    let new = c.exclusive_or.new.gates in
    let x = c.in_ok-x-in-Same.x in
    let y = c.in_ok-y-in-Same.y in
    let apart = c.in_ok-apart-in-Same.apart in
    let first : IsTruthOf p es middle a x = rw c.get-in-Same.ensures at c.in_ok-x-in-Same.ensures.truth in
    let second : IsTruthOf p es third b y = rw c.get-in-Same-2.ensures at c.in_ok-y-in-Same.ensures.truth in
    let stand = stand_more c.args.gates.now middle es c.in_ok-x-in-Same.ensures.keeps c.requires.stand in
    let later = stand_more middle third es c.in_ok-y-in-Same.ensures.keeps stand in
    let kept = truth_of_kept p es middle third a x c.in_ok-y-in-Same.ensures.keeps (node_of_gate middle x first.of) stand first in
    let truth = c.in_ok-apart-in-Same.ensures.truth in
    rw c.in-Same.is
    (same_truth p es third new a b x y apart c.not-in-Same.result c.in_ok-apart-in-Same.ensures.keeps (node_of_gate third y second.of) later kept second truth
    (c.not-in-Same.ensures.of new truth.of) (λ inputs. c.not-in-Same.ensures.value inputs new))

pub part_gates-formula_gate-requires : goal.part_gates-formula_gate-requires
part_gates-formula_gate-requires t c =
    let p = c.args.problem.now in
    let es = c.args.relations.now in
    let fs = c.args.parts.now in
    let index = c.loop-part.part-index in
    let part = c.part-item.result in (
      element_falls fs index part t c.loop-part-test.true c.part-item.is c.decreases,
      (stand_more c.args.gates.now c.loop-part.gates es c.loop-part.invariant.keeps c.requires.stand, element_named p es fs index part c.loop-part-test.true c.part-item.is c.requires.named),
    )

pub part_gates-loop-part-preserved : goal.part_gates-loop-part-preserved
part_gates-loop-part-preserved t c =
    let p = c.args.problem.now in
    let es = c.args.relations.now in
    let fs = c.args.parts.now in
    let index = c.loop-part.part-index in
    let part = c.part-item.result in
    let start = c.args.gates.now in
    let middle = c.loop-part.gates in
    let new = c.formula_gate.new.gates in
    let inv = c.loop-part.invariant in
    let gate = c.in_ok-gate.gate in
    let keeps = c.in_ok-gate.ensures.keeps in
    let list = c.loop-part.list.items in
    let some = of_more start middle 0 inv.keeps (has_constant start c.nodes-nodes.ensures.circuit) in
    let stand = stand_more start middle es inv.keeps c.requires.stand in
    let longer : take (index + 1) fs ≡ take index fs ++ part ∷ [] = take_more fs index part c.loop-part-test.true ∙ ap (λ x. take index fs ++ x ∷ []) (sym c.part-item.is) in
    let more = parts_more p es middle new (take index fs) part list gate keeps some stand inv.parts c.in_ok-gate.ensures.truth in
    record {
      keeps = keeps_twice start middle new inv.keeps keeps;
      parts = subst (λ gs. AreTruthsOf p es new (take (index + 1) fs) gs) (sym c.in_ok-push.ensures.items)
          (subst (λ gs. AreTruthsOf p es new gs (list ++ gate ∷ [])) (sym longer) more);
    }
