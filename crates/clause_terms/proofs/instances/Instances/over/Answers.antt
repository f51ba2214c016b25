use Rattle.clause_terms.proofs.Quantified.{told_over}
use Rattle.clause_terms.proofs.instances.Instances.over.Goals as goal

pub returns-clause-told : goal.returns-clause-told
returns-clause-told c m domain instance n settled g = told_over domain instance settled m c.args.all n c.args.instances c.in_ok-fine.fine c.in_ok-inside.inside c.in_ok-value.value g
    (c.in_ok-fine.ensures.meaning m) (c.in_ok-inside.ensures.meaning m) (c.in_ok-value.ensures.meaning m)

pub returns-clause-sorted : goal.returns-clause-sorted
returns-clause-sorted c p kinds i = record {
  value = c.in_ok-value.ensures.sorted p kinds i.values;
  fine = c.in_ok-fine.ensures.sorted p kinds i.fine;
  inside = c.in_ok-inside.ensures.sorted p kinds i.inside;
}
