-- The uses of a formula are those of its parts, in order.
use Rattle.std.proofs.Common.{◌≡◌, ◌+◌, ◌∷◌, ◌++◌, [], take, sym, subst, ap, ◌∙◌, append_assoc, arith}
use Rattle.std.specs.List.{flat_map}
use Rattle.std.proofs.lemmas.List.{flat_map_more, take_more, take_all}
use Rattle.rel_core.specs.declared.formula.Formula.{Formula}
use Rattle.rel_gates.specs.Naming.{Wanted, uses, PartsFit}
use Rattle.rel_gates.proofs.FormulaUses.{uses_subset, uses_is_class, uses_same_number, uses_below, uses_changed, uses_and, uses_or, uses_same}
use Rattle.rel_gates.proofs.FormulaFits.{one_part_more, flag_at_fits, subset_fits, is_class_fits, same_number_fits, below_fits, fits_fits, changed_fits, not_fits, and_fits, or_fits, same_fits}
use Rattle.rel_gates.proofs.uses.+formula_uses.Goals as goal

-- what is added twice
added_twice : (old xs ys middle new all : Wanted) → middle ≡ old ++ xs → new ≡ middle ++ ys → all ≡ xs ++ ys → new ≡ old ++ all
added_twice old xs ys middle new all first second is = second ∙ ap (λ zs. zs ++ ys) first ∙ append_assoc old xs ys ∙ ap (λ zs. old ++ zs) (sym is)

pub add_formula-returns-in_ok-push-in-FlagAt-clause-fits : goal.add_formula-returns-in_ok-push-in-FlagAt-clause-fits
add_formula-returns-in_ok-push-in-FlagAt-clause-fits t c =
    rw c.in-FlagAt.is (flag_at_fits c.args.problem.now c.in-FlagAt.set c.in-FlagAt.relation (rw c.get.ensures at c.in_ok-add_set-in-FlagAt.ensures.fits))

pub add_formula-returns-in_ok-add_set-in-Subset-2-clause-added : goal.add_formula-returns-in_ok-add_set-in-Subset-2-clause-added
add_formula-returns-in_ok-add_set-in-Subset-2-clause-added t c =
    rw c.in-Subset.is (added_twice c.args.list.now.items _ _ _ _ _ (rw c.get-in-Subset.ensures at c.in_ok-add_set-in-Subset.ensures.added)
    (rw c.get-in-Subset-2.ensures at c.in_ok-add_set-in-Subset-2.ensures.added) (uses_subset c.args.problem.now c.in-Subset.a c.in-Subset.b))

pub add_formula-returns-in_ok-add_set-in-Subset-2-clause-fits : goal.add_formula-returns-in_ok-add_set-in-Subset-2-clause-fits
add_formula-returns-in_ok-add_set-in-Subset-2-clause-fits t c =
    rw c.in-Subset.is (subset_fits c.args.problem.now c.in-Subset.a c.in-Subset.b (rw c.get-in-Subset.ensures at c.in_ok-add_set-in-Subset.ensures.fits)
    (rw c.get-in-Subset-2.ensures at c.in_ok-add_set-in-Subset-2.ensures.fits))

pub add_formula-returns-in_ok-add_number-in-SameNum-2-clause-added : goal.add_formula-returns-in_ok-add_number-in-SameNum-2-clause-added
add_formula-returns-in_ok-add_number-in-SameNum-2-clause-added t c =
    rw c.in-SameNum.is (added_twice c.args.list.now.items _ _ _ _ _ (rw c.get-in-SameNum.ensures at c.in_ok-add_number-in-SameNum.ensures.added)
    (rw c.get-in-SameNum-2.ensures at c.in_ok-add_number-in-SameNum-2.ensures.added) (uses_same_number c.args.problem.now c.in-SameNum.a c.in-SameNum.b))

pub add_formula-returns-in_ok-add_number-in-SameNum-2-clause-fits : goal.add_formula-returns-in_ok-add_number-in-SameNum-2-clause-fits
add_formula-returns-in_ok-add_number-in-SameNum-2-clause-fits t c =
    rw c.in-SameNum.is (same_number_fits c.args.problem.now c.in-SameNum.a c.in-SameNum.b (rw c.get-in-SameNum.ensures at c.in_ok-add_number-in-SameNum.ensures.fits)
    (rw c.get-in-SameNum-2.ensures at c.in_ok-add_number-in-SameNum-2.ensures.fits))

pub add_formula-returns-in_ok-add_number-in-BelowNum-2-clause-added : goal.add_formula-returns-in_ok-add_number-in-BelowNum-2-clause-added
add_formula-returns-in_ok-add_number-in-BelowNum-2-clause-added t c =
    rw c.in-BelowNum.is (added_twice c.args.list.now.items _ _ _ _ _ (rw c.get-in-BelowNum.ensures at c.in_ok-add_number-in-BelowNum.ensures.added)
    (rw c.get-in-BelowNum-2.ensures at c.in_ok-add_number-in-BelowNum-2.ensures.added) (uses_below c.args.problem.now c.in-BelowNum.a c.in-BelowNum.b))

pub add_formula-returns-in_ok-add_number-in-BelowNum-2-clause-fits : goal.add_formula-returns-in_ok-add_number-in-BelowNum-2-clause-fits
add_formula-returns-in_ok-add_number-in-BelowNum-2-clause-fits t c =
    rw c.in-BelowNum.is (below_fits c.args.problem.now c.in-BelowNum.a c.in-BelowNum.b (rw c.get-in-BelowNum.ensures at c.in_ok-add_number-in-BelowNum.ensures.fits)
    (rw c.get-in-BelowNum-2.ensures at c.in_ok-add_number-in-BelowNum-2.ensures.fits))

pub add_formula-returns-in_ok-add_formula-in-Same-2-clause-added : goal.add_formula-returns-in_ok-add_formula-in-Same-2-clause-added
add_formula-returns-in_ok-add_formula-in-Same-2-clause-added t c =
    rw c.in-Same.is (added_twice c.args.list.now.items _ _ _ _ _ (rw c.get-in-Same.ensures at c.in_ok-add_formula-in-Same.ensures.added)
    (rw c.get-in-Same-2.ensures at c.in_ok-add_formula-in-Same-2.ensures.added) (uses_same c.args.problem.now c.in-Same.a c.in-Same.b))

pub add_formula-returns-in_ok-add_formula-in-Same-2-clause-fits : goal.add_formula-returns-in_ok-add_formula-in-Same-2-clause-fits
add_formula-returns-in_ok-add_formula-in-Same-2-clause-fits t c =
    rw c.in-Same.is (same_fits c.args.problem.now c.in-Same.a c.in-Same.b (rw c.get-in-Same.ensures at c.in_ok-add_formula-in-Same.ensures.fits)
    (rw c.get-in-Same-2.ensures at c.in_ok-add_formula-in-Same-2.ensures.fits))

pub add_formula-returns-in_ok-add_class-in-IsClass-clause-added : goal.add_formula-returns-in_ok-add_class-in-IsClass-clause-added
add_formula-returns-in_ok-add_class-in-IsClass-clause-added t c =
    rw c.in-IsClass.is (added_twice c.args.list.now.items _ _ _ _ _ (rw c.get-in-IsClass.ensures at c.in_ok-add_set-in-IsClass.ensures.added) c.in_ok-add_class-in-IsClass.ensures.added
    (uses_is_class c.args.problem.now c.in-IsClass.set c.in-IsClass.field-1 c.in-IsClass.relation))

pub add_formula-returns-in_ok-add_class-in-IsClass-clause-fits : goal.add_formula-returns-in_ok-add_class-in-IsClass-clause-fits
add_formula-returns-in_ok-add_class-in-IsClass-clause-fits t c =
    rw c.in-IsClass.is (is_class_fits c.args.problem.now c.in-IsClass.set c.in-IsClass.field-1 c.in-IsClass.relation (rw c.get-in-IsClass.ensures at c.in_ok-add_set-in-IsClass.ensures.fits))

pub add_formula-returns-in_ok-add_number-in-Fits-clause-fits : goal.add_formula-returns-in_ok-add_number-in-Fits-clause-fits
add_formula-returns-in_ok-add_number-in-Fits-clause-fits t c =
    rw c.in-Fits.is (fits_fits c.args.problem.now c.in-Fits.a (rw c.get-in-Fits.ensures at c.in_ok-add_number-in-Fits.ensures.fits))

pub add_formula-returns-in_ok-add_changed-in-Changed-clause-added : goal.add_formula-returns-in_ok-add_changed-in-Changed-clause-added
add_formula-returns-in_ok-add_changed-in-Changed-clause-added t c =
    rw c.in-Changed.is (added_twice c.args.list.now.items _ _ _ _ _ (rw c.get-in-Changed.ensures at c.in_ok-add_set-in-Changed.ensures.added) c.in_ok-add_changed-in-Changed.ensures.added
    (uses_changed c.args.problem.now c.in-Changed.new c.in-Changed.set c.in-Changed.given c.in-Changed.old))

pub add_formula-returns-in_ok-add_changed-in-Changed-clause-fits : goal.add_formula-returns-in_ok-add_changed-in-Changed-clause-fits
add_formula-returns-in_ok-add_changed-in-Changed-clause-fits t c =
    rw c.in-Changed.is (changed_fits c.args.problem.now c.in-Changed.new c.in-Changed.set c.in-Changed.given c.in-Changed.old (rw c.get-in-Changed.ensures at c.in_ok-add_set-in-Changed.ensures.fits))

pub add_formula-returns-in_ok-add_formula-in-Not-clause-fits : goal.add_formula-returns-in_ok-add_formula-in-Not-clause-fits
add_formula-returns-in_ok-add_formula-in-Not-clause-fits t c =
    rw c.in-Not.is (not_fits c.args.problem.now c.in-Not.a (rw c.get-in-Not.ensures at c.in_ok-add_formula-in-Not.ensures.fits))

pub add_formula-returns-in_ok-add_parts-in-And-clause-added : goal.add_formula-returns-in_ok-add_parts-in-And-clause-added
add_formula-returns-in_ok-add_parts-in-And-clause-added t c =
    rw c.in-And.is ((rw c.as_slice.ensures at c.in_ok-add_parts-in-And.ensures.added) ∙ ap (λ zs. c.args.list.now.items ++ zs) (sym (uses_and c.args.problem.now c.in-And.parts)))

pub add_formula-returns-in_ok-add_parts-in-And-clause-fits : goal.add_formula-returns-in_ok-add_parts-in-And-clause-fits
add_formula-returns-in_ok-add_parts-in-And-clause-fits t c =
    rw c.in-And.is (and_fits c.args.problem.now c.in-And.parts (rw c.as_slice.ensures at c.in_ok-add_parts-in-And.ensures.fits))

pub add_formula-returns-in_ok-add_parts-in-Or-clause-added : goal.add_formula-returns-in_ok-add_parts-in-Or-clause-added
add_formula-returns-in_ok-add_parts-in-Or-clause-added t c =
    rw c.in-Or.is ((rw c.as_slice-in-Or.ensures at c.in_ok-add_parts-in-Or.ensures.added) ∙ ap (λ zs. c.args.list.now.items ++ zs) (sym (uses_or c.args.problem.now c.in-Or.parts)))

pub add_formula-returns-in_ok-add_parts-in-Or-clause-fits : goal.add_formula-returns-in_ok-add_parts-in-Or-clause-fits
add_formula-returns-in_ok-add_parts-in-Or-clause-fits t c =
    rw c.in-Or.is (or_fits c.args.problem.now c.in-Or.parts (rw c.as_slice-in-Or.ensures at c.in_ok-add_parts-in-Or.ensures.fits))

pub add_parts-loop-part-preserved : goal.add_parts-loop-part-preserved
add_parts-loop-part-preserved t c =
    let p = c.args.problem.now in
    let parts = c.args.parts.now in
    let index = c.loop-part.part-index in
    let inv = c.loop-part.invariant in
    let part : Formula = c.part-item.result in
    let longer : take (index + 1) parts ≡ take index parts ++ part ∷ [] = take_more parts index part c.loop-part-test.true ∙ ap (λ x. take index parts ++ x ∷ []) (sym c.part-item.is) in
    record {
      items = c.in_ok-add_formula.ensures.added ∙ ap (λ xs. xs ++ uses p part) inv.items
          ∙ flat_map_more (uses p) c.args.list.now.items (take index parts) part ∙ ap (λ fs. c.args.list.now.items ++ flat_map (uses p) fs) (sym longer);
      fit = subst (PartsFit p) (sym longer) (one_part_more p (take index parts) part inv.fit c.in_ok-add_formula.ensures.fits);
    }

pub add_parts-returns-clause-fits : goal.add_parts-returns-clause-fits
add_parts-returns-clause-fits t c =
    let parts = c.args.parts.now in
    subst (PartsFit c.args.problem.now) (take_all c.loop-part.part-index parts (omega arith)) c.loop-part.invariant.fit
