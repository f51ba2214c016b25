use Rattle.std.proofs.Common.{◌≡◌, ◌+◌, ◌∙◌, List, ℕ, length, ap, sym, subst, arith, []}
use Rattle.std.proofs.lemmas.List.{get_or_default}
use Rattle.sat_watch.specs.Trail.{literals}
use Rattle.sat_watch.specs.Watching.{Right}
use Rattle.sat_watch.specs.Propagation.{IsQuiet, Grows}
use Rattle.sat_watch.proofs.VisitLemmas.{grown_more, grown_passed, quiet_clause}
use Rattle.sat_watch.proofs.watches.Watches.propagate.Goals as goal

pub returns-in-Some-clause-grows : goal.returns-in-Some-clause-grows
returns-in-Some-clause-grows c =
    grown_more c.visit.new.self.clauses c.args.trail.now c.entries.trail c.visit.new.trail
    (subst (λ (cs : List (List ℕ)). Grows cs c.args.trail.now c.entries.trail) (sym c.visit.ensures.clauses) c.entries.invariant.grows) c.visit.ensures.grows

pub entries-preserved : goal.entries-preserved
entries-preserved c =
    let grown : Grows c.visit.new.self.clauses c.args.trail.now c.visit.new.trail = grown_more c.visit.new.self.clauses c.args.trail.now c.entries.trail c.visit.new.trail
    (subst (λ (cs : List (List ℕ)). Grows cs c.args.trail.now c.entries.trail) (sym c.visit.ensures.clauses) c.entries.invariant.grows) c.visit.ensures.grows in
    record {
      right = subst (Right c.visit.new.self) (sym c.pass.ensures) c.in_default.ensures.none;
      grows = subst (Grows c.visit.new.self.clauses c.args.trail.now) (sym c.pass.ensures) (grown_passed c.visit.new.self.clauses c.args.trail.now c.visit.new.trail (c.visit.new.trail.passed + 1) grown);
      vars = c.visit.ensures.vars ∙ c.entries.invariant.vars;
      clauses = c.visit.ensures.clauses ∙ c.entries.invariant.clauses;
    }

pub returns-clause-quiet : goal.returns-clause-quiet
returns-clause-quiet c = λ k d h.
    let all : c.entries.trail.passed ≡ length c.entries.trail.entries =
    let count : length c.entries-in-entries.result.now ≡ length c.entries.trail.entries = ap length c.entries-in-entries.ensures.value in
    omega (arith, c.entries-test.false, c.passed.ensures, c.entries-in-entries.ensures.sound.within) in
    subst (IsQuiet (literals c.entries.trail.entries)) (get_or_default c.entries.self.clauses k [] d h)
    (quiet_clause c.entries.self c.entries.trail k c.entries.invariant.right c.entries-in-entries.ensures.sound all h)
