use Rattle.rel_core.specs.Meaning.{set_of}
use Rattle.clause_terms.proofs.Reached.{told_has}
use Rattle.clause_terms.proofs.reach.has_reference.Goals as goal

pub returns-clause-told : goal.returns-clause-told
returns-clause-told c m env fields v u alike one two = told_has m c.args.relations.now env fields c.args.root c.args.member (set_of c.in_ok-all.all m) c.in_ok-within.within _ v u alike
    (c.in_ok-all.ensures.meaning m) (c.in_ok-within.ensures.meaning m) (c.in_ok-term.ensures.told m) one two

pub returns-clause-sorted : goal.returns-clause-sorted
returns-clause-sorted c p kinds root relations member = c.in_ok-term.ensures.sorted p kinds (c.in_ok-within.ensures.sorted p kinds member (c.in_ok-all.ensures.sorted p kinds root relations))
