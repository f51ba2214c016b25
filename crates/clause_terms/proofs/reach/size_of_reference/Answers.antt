use Rattle.rel_core.specs.Meaning.{set_of}
use Rattle.clause_terms.proofs.Reached.{told_size}
use Rattle.clause_terms.proofs.reach.size_of_reference.Goals as goal

pub returns-clause-told : goal.returns-clause-told
returns-clause-told c m env fields v alike one = told_size m c.args.relations.now env fields c.args.root (set_of c.in_ok-all.all m) c.in_ok-count.count _ v alike
    (c.in_ok-all.ensures.meaning m) (c.in_ok-count.ensures.meaning m) (c.in_ok-term.ensures.told m) one

pub returns-clause-sorted : goal.returns-clause-sorted
returns-clause-sorted c p kinds root relations = c.in_ok-term.ensures.sorted p kinds (c.in_ok-count.ensures.sorted p kinds (c.in_ok-all.ensures.sorted p kinds root relations))
