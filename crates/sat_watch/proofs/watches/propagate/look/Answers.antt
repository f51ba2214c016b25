use Rattle.std.proofs.Common.{◌≡◌, ◌≢◌, ◌<◌, ◌+◌, ◌-◌, ◌/◌, ◌∙◌, ℕ, true, length, get_or, ap, sym, subst, arith, []}
use Rattle.cnf_core.specs.Literal.{negated, IsOver}
use Rattle.cnf_core.specs.Trues.{is_true}
use Rattle.sat_watch.specs.Literals.{has}
use Rattle.sat_watch.specs.Trail.{literals}
use Rattle.sat_watch.specs.Watching.{twin, clause_of}
use Rattle.sat_watch.specs.Propagation.{Forces}
use Rattle.sat_watch.specs.Visit.{state}
use Rattle.sat_watch.proofs.LiteralLemmas.{over_negated}
use Rattle.sat_watch.proofs.VisitLemmas.{other_of, if_none, grown_one}
use Rattle.sat_watch.proofs.watches.propagate.look.Goals as goal

pub from_number-other-requires : goal.from_number-other-requires
from_number-other-requires c =
    let other = other_of c.args.clauses.now c.args.watched.now c.args.at c.requires.set c.requires.clause in
    rw c.twin_of.ensures (omega (arith, other.1))

pub is_true-requires : goal.is_true-requires
is_true-requires c =
    let other = other_of c.args.clauses.now c.args.watched.now c.args.at c.requires.set c.requires.clause in
    let over : IsOver c.args.trail.now.vars (get_or c.args.watched.now (twin c.args.at) 0) = subst (λ v. IsOver v (get_or c.args.watched.now (twin c.args.at) 0)) (sym c.requires.vars) other.1 in
    rw (c.from_number-other.ensures, c.twin_of.ensures) over

pub is_true-requires-2 : goal.is_true-requires-2
is_true-requires-2 c =
    let other = other_of c.args.clauses.now c.args.watched.now c.args.at c.requires.set c.requires.clause in
    let over : IsOver c.args.trail.now.vars (get_or c.args.watched.now (twin c.args.at) 0) = subst (λ v. IsOver v (get_or c.args.watched.now (twin c.args.at) 0)) (sym c.requires.vars) other.1 in
    rw (c.negated.ensures, c.from_number-other.ensures, c.twin_of.ensures) (over_negated c.args.trail.now.vars (get_or c.args.watched.now (twin c.args.at) 0) over)

pub set-requires-clause-over : goal.set-requires-clause-over
set-requires-clause-over c =
    let other = other_of c.args.clauses.now c.args.watched.now c.args.at c.requires.set c.requires.clause in
    let over : IsOver c.args.trail.now.vars (get_or c.args.watched.now (twin c.args.at) 0) = subst (λ v. IsOver v (get_or c.args.watched.now (twin c.args.at) 0)) (sym c.requires.vars) other.1 in
    rw (c.from_number-other.ensures, c.twin_of.ensures) over

pub returns-clause-finds : goal.returns-clause-finds
returns-clause-finds c =
    let is : c.from_number-other.result ≡ get_or c.args.watched.now (twin c.args.at) 0 = c.from_number-other.ensures ∙ ap (λ k. get_or c.args.watched.now k 0) c.twin_of.ensures in
    let number : c.args.at / 2 - (c.vars.result + 1) ≡ c.args.at / 2 - (c.args.clauses.now.vars + 1) = ap (λ v. c.args.at / 2 - (v + 1)) c.vars.ensures.value in
    let known : c.args.at / 2 - (c.vars.result + 1) < length c.args.clauses.now.clauses = omega (arith, number, c.requires.watch) in
    let lits : c.clause.result.now ≡ get_or c.args.clauses.now.clauses (c.args.at / 2 - (c.vars.result + 1)) [] = c.clause.ensures.value in
    let other = other_of c.args.clauses.now c.args.watched.now c.args.at c.requires.set c.requires.clause in
    let forces : Forces (literals c.args.trail.now.entries) (get_or c.args.clauses.now.clauses (c.args.at / 2 - (c.vars.result + 1)) []) c.from_number-other.result = record {
      inside = ap (λ k. has (get_or c.args.clauses.now.clauses k []) c.from_number-other.result) number ∙ ap (has (clause_of (state c.args.clauses.now c.args.watched.now) c.args.at)) is ∙ other.0;
      unset = (sym c.is_true.ensures.value ∙ c.if-is_true.false, ap (is_true (literals c.args.trail.now.entries)) (sym c.negated.ensures) ∙ sym c.is_true-2.ensures.value ∙ c.if-is_true-2.false);
      others = subst (λ xs. (lit : ℕ) → has xs lit ≡ true → lit ≢ c.from_number-other.result → is_true (literals c.args.trail.now.entries) (negated lit) ≡ true) lits
          (if_none c.replacement.result c.in_default.not-Some c.replacement.ensures.none);
    } in
    let grown = grown_one c.args.clauses.now.clauses c.args.trail.now c.set.new.self c.from_number-other.result (c.args.at / 2 - (c.vars.result + 1)) known forces c.set.ensures.adds in
    (grown.0, ap (is_true (literals c.set.new.self.entries)) (sym is) ∙ grown.1)
