-- The uses of a number are those of its parts, and then its own.
use Rattle.std.proofs.Common.{◌++◌, sym, ap, ◌∙◌, append_assoc}
use Rattle.rel_gates.specs.Naming.{number_uses}
use Rattle.rel_gates.proofs.NumberUses.{uses_sum, uses_difference, uses_product, at_fits, sum_fits, difference_fits, product_fits, count_fits}
use Rattle.rel_gates.proofs.uses.+add_number.Goals as goal

pub returns-in_ok-push-in-At-clause-fits : goal.returns-in_ok-push-in-At-clause-fits
returns-in_ok-push-in-At-clause-fits t c =
    rw c.in-At.is (at_fits c.args.problem.now c.in-At.set c.in-At.relation (rw c.get.ensures at c.in_ok-add_set-in-At.ensures.fits))

pub returns-in_ok-add_set-in-Count-clause-fits : goal.returns-in_ok-add_set-in-Count-clause-fits
returns-in_ok-add_set-in-Count-clause-fits t c =
    rw c.in-Count.is (count_fits c.args.problem.now c.in-Count.set (rw c.get-in-Count.ensures at c.in_ok-add_set-in-Count.ensures.fits))

pub returns-in_ok-add_number-in-Sum-2-clause-added : goal.returns-in_ok-add_number-in-Sum-2-clause-added
returns-in_ok-add_number-in-Sum-2-clause-added t c =
    let p = c.args.problem.now in
    let old = c.args.list.now.items in
    rw c.in-Sum.is
    ((rw c.get-in-Sum-2.ensures at c.in_ok-add_number-in-Sum-2.ensures.added)
    ∙ ap (λ xs. xs ++ number_uses p c.in-Sum.b) (rw c.get-in-Sum.ensures at c.in_ok-add_number-in-Sum.ensures.added)
    ∙ append_assoc old (number_uses p c.in-Sum.a) (number_uses p c.in-Sum.b) ∙ ap (λ xs. old ++ xs) (sym (uses_sum p c.in-Sum.a c.in-Sum.b)))

pub returns-in_ok-add_number-in-Sum-2-clause-fits : goal.returns-in_ok-add_number-in-Sum-2-clause-fits
returns-in_ok-add_number-in-Sum-2-clause-fits t c =
    rw c.in-Sum.is
    (sum_fits c.args.problem.now c.in-Sum.a c.in-Sum.b (rw c.get-in-Sum.ensures at c.in_ok-add_number-in-Sum.ensures.fits)
    (rw c.get-in-Sum-2.ensures at c.in_ok-add_number-in-Sum-2.ensures.fits))

pub returns-in_ok-add_number-in-Diff-2-clause-added : goal.returns-in_ok-add_number-in-Diff-2-clause-added
returns-in_ok-add_number-in-Diff-2-clause-added t c =
    let p = c.args.problem.now in
    let old = c.args.list.now.items in
    rw c.in-Diff.is
    ((rw c.get-in-Diff-2.ensures at c.in_ok-add_number-in-Diff-2.ensures.added)
    ∙ ap (λ xs. xs ++ number_uses p c.in-Diff.b) (rw c.get-in-Diff.ensures at c.in_ok-add_number-in-Diff.ensures.added)
    ∙ append_assoc old (number_uses p c.in-Diff.a) (number_uses p c.in-Diff.b) ∙ ap (λ xs. old ++ xs) (sym (uses_difference p c.in-Diff.a c.in-Diff.b)))

pub returns-in_ok-add_number-in-Diff-2-clause-fits : goal.returns-in_ok-add_number-in-Diff-2-clause-fits
returns-in_ok-add_number-in-Diff-2-clause-fits t c =
    rw c.in-Diff.is
    (difference_fits c.args.problem.now c.in-Diff.a c.in-Diff.b (rw c.get-in-Diff.ensures at c.in_ok-add_number-in-Diff.ensures.fits)
    (rw c.get-in-Diff-2.ensures at c.in_ok-add_number-in-Diff-2.ensures.fits))

pub returns-in_ok-add_number-in-Product-2-clause-added : goal.returns-in_ok-add_number-in-Product-2-clause-added
returns-in_ok-add_number-in-Product-2-clause-added t c =
    let p = c.args.problem.now in
    let old = c.args.list.now.items in
    rw c.in-Product.is
    ((rw c.get-in-Product-2.ensures at c.in_ok-add_number-in-Product-2.ensures.added)
    ∙ ap (λ xs. xs ++ number_uses p c.in-Product.b) (rw c.get-in-Product.ensures at c.in_ok-add_number-in-Product.ensures.added)
    ∙ append_assoc old (number_uses p c.in-Product.a) (number_uses p c.in-Product.b) ∙ ap (λ xs. old ++ xs) (sym (uses_product p c.in-Product.a c.in-Product.b)))

pub returns-in_ok-add_number-in-Product-2-clause-fits : goal.returns-in_ok-add_number-in-Product-2-clause-fits
returns-in_ok-add_number-in-Product-2-clause-fits t c =
    rw c.in-Product.is
    (product_fits c.args.problem.now c.in-Product.a c.in-Product.b (rw c.get-in-Product.ensures at c.in_ok-add_number-in-Product.ensures.fits)
    (rw c.get-in-Product-2.ensures at c.in_ok-add_number-in-Product-2.ensures.fits))
