use Rattle.std.proofs.Common.{arith}
use Rattle.cnf_core.proofs.ArenaLemmas.{piece_behind}
use Rattle.cnf_core.proofs.cnf.span.Goals as goal

pub returns-else-place-eq0-clause-rises : goal.returns-else-place-eq0-clause-rises
returns-else-place-eq0-clause-rises c =
    (piece_behind _ _ c.requires.rising c.args.place (omega arith) c.requires.within).rises

pub returns-else-place-eq0-clause-inside : goal.returns-else-place-eq0-clause-inside
returns-else-place-eq0-clause-inside c =
    (piece_behind _ _ c.requires.rising c.args.place (omega arith) c.requires.within).inside

pub returns-else-place-eq0-clause-value : goal.returns-else-place-eq0-clause-value
returns-else-place-eq0-clause-value c =
    (piece_behind _ _ c.requires.rising c.args.place (omega arith) c.requires.within).value
