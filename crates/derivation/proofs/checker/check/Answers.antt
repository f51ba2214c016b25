use Rattle.std.proofs.Common.{◌≡◌, ◌+◌, ◌++◌, true, false, take, ap, sym, ◌∙◌, arith}
use Rattle.std.proofs.lemmas.List.{take_all}
use Rattle.derivation.specs.Propagation.{follows}
use Rattle.derivation.specs.Logs.{clauses_of, valid}
use Rattle.derivation.proofs.LogLemmas.{bad_at, none_bad, valid_more}
use Rattle.derivation.proofs.Sound.{refutes_sound}
use Rattle.derivation.proofs.checker.check.Goals as goal

pub loop-place-preserved : goal.loop-place-preserved
loop-place-preserved c =
    let followed : follows (c.args.cnf.now.clauses ++ clauses_of (take c.loop-place.place c.lines-lines.result.now)) c.index-lines-place.result ≡ true =
    rw (← c.split_at.ensures.front) (sym c.in_ok-does_follow.ensures.right ∙ c.if-not-branch.false) in (
      c.in_ok-does_follow.ensures.cleared,
      valid_more _ _ c.loop-place.place c.index-lines-place.result (omega arith) c.index-lines-place.is c.loop-place.invariant.1 followed,
    )

pub returns-clause-unsatisfiable : goal.returns-clause-unsatisfiable
returns-clause-unsatisfiable c =
    λ ended. refutes_sound c.args.cnf.now.clauses c.lines-lines.result.now
    (ap (valid c.args.cnf.now.clauses) (sym (take_all c.loop-place.place c.lines-lines.result.now (omega arith))) ∙ c.loop-place.invariant.1)
    (sym c.is_last_empty.ensures ∙ ended)

pub returns-then-not-branch-clause-only : goal.returns-then-not-branch-clause-only
returns-then-not-branch-clause-only c =
    let refused : follows (c.args.cnf.now.clauses ++ clauses_of (take c.loop-place.place c.lines-lines.result.now)) c.index-lines-place.result ≡ false =
    rw (← c.split_at.ensures.front) (sym c.in_ok-does_follow.ensures.right ∙ c.if-not-branch.true) in
    λ is_valid. absurd (none_bad c.args.cnf.now.clauses c.lines-lines.result.now (c.loop-place.place + 1)
    (ap (valid c.args.cnf.now.clauses) c.lines-lines.ensures.value ∙ is_valid)
    (bad_at _ _ c.loop-place.place c.index-lines-place.result (omega arith) c.index-lines-place.is c.loop-place.invariant.1 refused))
