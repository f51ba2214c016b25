use Rattle.std.proofs.Common.{sym, ap}
use Rattle.heap_core.specs.declared.value.Value.TheVariants.{Flag}
use Rattle.clause_terms.proofs.term.Term.constant.Goals as goal

pub returns-clause-told : goal.returns-clause-told
returns-clause-told c m = c.in_ok-term.ensures.told m (Flag c.args.truth) (ap Flag (sym (c.in_ok-value.ensures.meaning m)))

pub returns-clause-sorted : goal.returns-clause-sorted
returns-clause-sorted c p kinds = c.in_ok-term.ensures.sorted p kinds (c.in_ok-value.ensures.sorted p kinds)
