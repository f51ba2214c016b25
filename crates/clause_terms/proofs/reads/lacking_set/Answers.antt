use Rattle.rel_core.specs.Meaning.{holds, set_of}
use Rattle.clause_terms.proofs.FieldTerms.{told_lacking}
use Rattle.clause_terms.proofs.reads.lacking_set.Goals as goal

pub returns-clause-told : goal.returns-clause-told
returns-clause-told c classes m heap f v lacks one = told_lacking classes m c.args.at.now heap f _ (set_of c.args.set m) v (holds c.in_ok-live.live m) lacks one
    (c.in_ok-live.ensures.meaning m) (c.in_ok-fine.ensures.meaning m) (c.in_ok-inside.ensures.meaning m)

pub returns-clause-sorted : goal.returns-clause-sorted
returns-clause-sorted c p kinds set = record {
  value = c.in_ok-value.ensures.sorted p kinds;
  fine = c.in_ok-fine.ensures.sorted p kinds;
  inside = c.in_ok-inside.ensures.sorted p kinds (c.in_ok-live.ensures.sorted p kinds set);
}
