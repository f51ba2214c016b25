use Rattle.std.proofs.Common.{rules}
use Rattle.jml_rel.proofs.clauses.formulas_of.Goals as goal

pub returns-clause-sorted : goal.returns-clause-sorted
returns-clause-sorted c p kinds term =
    let truth = c.in_ok-truth.ensures.sorted p kinds term in
    record {
      truth = c.in_ok-truth-2.ensures.sorted p kinds truth.fine truth.value;
      defined = c.in_ok-defined.ensures.sorted p kinds (search rules) (c.in_ok-leaves.ensures.sorted p kinds (search rules));
      inside = search rules;
    }
