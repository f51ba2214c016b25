use Rattle.std.proofs.Common.{length, ap, sym, ◌∙◌}
use Rattle.cnf_core.proofs.ArenaLemmas.{length-cut}
use Rattle.cnf_core.proofs.cnf.Cnf.clauses.Goals as goal

pub returns : goal.returns
returns c =
    ap length c.as_slice.ensures.value ∙ sym (length-cut 0 _ c.self.inside.lits.items) ∙ ap (λ v. length v.clauses) c.self.view_is
