use Rattle.std.proofs.Common.{◌≡◌, ℕ, ◌==◌, ◌&&◌, length, ap, subst, ◌∙◌, arith}
use Rattle.std.proofs.lemmas.Result.{err_from_is_err_and}
use Rattle.derivation.specs.Entry.{IsWithin}
use Rattle.derivation.proofs.Bodies.{at_start, entry_missed, so_far_put}
use Rattle.derivation.proofs.cnf_reader.fill.Goals as goal

pub returns-in_err-entry-clause-fault : goal.returns-in_err-entry-clause-fault
returns-in_err-entry-clause-fault c =
    let e = err_from_is_err_and c.from_residual.result c.from_residual.ensures.1 in
    let first : c.is_at_start-first.result ≡ at_start c.loop-cnf.cnf.clauses c.loop-cnf.pending.items =
    c.is_at_start-first.ensures ∙ ap (λ ns. (length c.loop-cnf.cnf.clauses == 0) && (length ns == 0)) c.as_slice.ensures.value in
    rw (e.1, e.2)
    (entry_missed c.loop-cnf.cnf.clauses c.loop-cnf.pending.items c.loop-cnf.invariant.0 c.vars.result c.args.end c.is_at_start-first.result _
    (c.vars.ensures.value ∙ c.loop-cnf.invariant.1) (omega (arith, c.clauses.ensures)) first c.in_err-entry.ensures.fault)

pub loop-cnf-preserved : goal.loop-cnf-preserved
loop-cnf-preserved c =
    let first : c.is_at_start-first.result ≡ at_start c.loop-cnf.cnf.clauses c.loop-cnf.pending.items =
    c.is_at_start-first.ensures ∙ ap (λ ns. (length c.loop-cnf.cnf.clauses == 0) && (length ns == 0)) c.as_slice.ensures.value in
    let found = c.in_ok-entry.ensures.found in (
      so_far_put c.loop-cnf.cnf.clauses c.loop-cnf.pending.items c.loop-cnf.invariant.0 c.take_entry.new.words found.0 c.in_ok-entry.entry c.put.new.cnf.clauses c.put.new.pending.items
          found.1 found.2 (subst (λ (n : ℕ). IsWithin n c.in_ok-entry.entry) (c.vars.ensures.value ∙ c.loop-cnf.invariant.1) c.in_ok-entry.ensures.over)
          (omega (arith, c.clauses.ensures)) (λ start. found.3 (first ∙ start)) c.in_ok-put.ensures.put,
      c.in_ok-put.ensures.vars ∙ c.loop-cnf.invariant.1,
    )
