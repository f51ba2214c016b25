use Rattle.std.proofs.Common.{sym, subst}
use Rattle.heap_core.specs.Eval.{binary}
use Rattle.clause_terms.specs.Terms.{Judges}
use Rattle.jml_rel.specs.Parts.{chain_operator}
use Rattle.jml_rel.proofs.walk.before_rest.Goals as goal

pub returns-in_ok-either-clause-told : goal.returns-in_ok-either-clause-told
returns-in_ok-either-clause-told c m x y a b = subst (λ any. Judges (binary (chain_operator any) m.ints x y) c.in_ok-either.either m) (sym c.if-any.true) (c.in_ok-either.ensures.told m x y a b)

pub returns-in_ok-both-clause-told : goal.returns-in_ok-both-clause-told
returns-in_ok-both-clause-told c m x y a b = subst (λ any. Judges (binary (chain_operator any) m.ints x y) c.in_ok-both.both m) (sym c.if-any.false) (c.in_ok-both.ensures.told m x y a b)
