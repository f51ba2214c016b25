use Rattle.std.proofs.Common.{◌≡◌, true, ◌<◌, [], length, get_or, subst, sym, ap, ◌∙◌, inr, arith, All}
use Rattle.std.proofs.lemmas.List.{get_or_read, take_all}
use Rattle.cnf_core.specs.Literal.{IsOver}
use Rattle.sat_watch.specs.Literals.{has}
use Rattle.sat_watch.specs.Propagation.{IsFalse}
use Rattle.sat_watch.specs.Trail.{literals}
use Rattle.sat_analysis.specs.Reasons.{IsNumberOf}
use Rattle.sat_analysis.specs.Walk.{IsAt, marked_at}
use Rattle.sat_analysis.proofs.Levels.{some_late}
use Rattle.sat_analysis.proofs.learn.first_point.Goals as goal

pub start-requires : goal.start-requires
start-requires g c =
    let noted = c.requires.0 in
    let clause : c.lits-lits.result.now ≡ get_or c.args.watches.now.clauses c.args.clause [] = c.lits-lits.ensures.value in
    let over : All (IsOver c.args.trail.now.vars) c.lits-lits.result.now = subst (λ v. All (IsOver v) c.lits-lits.result.now) noted.vars c.lits-lits.ensures.watchable.over in
    let in_numbers : c.args.clause < length c.args.notes.now.numbers.items = omega (arith, noted.numbers, c.requires.1.1.1.1.0) in
    let num : get_or c.args.notes.now.numbers.items c.args.clause 0 ≡ c.index-number.result.now = sym (get_or_read c.args.notes.now.numbers.items c.args.clause c.index-number.result.now in_numbers c.index-number.ensures 0) in
    let number : IsNumberOf g.known c.lits-lits.result.now c.index-number.result.now =
    subst (λ cl. IsNumberOf g.known cl c.index-number.result.now) (sym clause)
    (subst (IsNumberOf g.known (get_or c.args.watches.now.clauses c.args.clause [])) num (noted.numbered c.args.clause c.requires.1.1.1.1.0)) in
    (c.entries-left.ensures.sound, (noted.levels, (noted.leveled, (c.requires.1.0, (c.requires.1.1.0, (over, (number, subst (IsFalse (literals c.args.trail.now.entries)) (sym clause) c.requires.1.1.1.1.1.0)))))))

pub go_back-requires : goal.go_back-requires
go_back-requires g c =
    let noted = c.requires.0 in
    let clause : c.lits-lits.result.now ≡ get_or c.args.watches.now.clauses c.args.clause [] = c.lits-lits.ensures.value in
    let at : IsAt g.known c.args.trail.now.entries c.start.new.marks.lits c.start.new.hints.items c.args.trail.now.level c.in_ok-pending.pending (length c.args.trail.now.entries) = c.in_ok-pending.ensures.at in
    let some : 0 < marked_at c.start.new.marks.lits c.args.trail.now.level c.args.trail.now.entries =
    some_late c.args.notes.now.levels.items c.args.trail.now.entries c.start.new.marks.lits (get_or c.args.watches.now.clauses c.args.clause []) c.args.trail.now.level noted.leveled c.entries-left.ensures.sound.rises c.requires.1.1.1.0
    c.requires.1.1.1.1.1.0 (λ lit h. c.in_ok-pending.ensures.marked lit (subst (λ cl. has cl lit ≡ true) (sym clause) h)) c.requires.1.1.1.1.1.1 in
    let all : c.in_ok-pending.pending ≡ marked_at c.start.new.marks.lits c.args.trail.now.level c.args.trail.now.entries =
    at.counted ∙ ap (marked_at c.start.new.marks.lits c.args.trail.now.level) (take_all (length c.args.trail.now.entries) c.args.trail.now.entries (omega arith)) in (
      noted,
      (
        c.in_ok-pending.ensures.places,
        (
          omega (arith, all, some),
          (
            inr (omega arith),
            subst (IsAt g.known c.args.trail.now.entries c.start.new.marks.lits c.start.new.hints.items c.args.trail.now.level c.in_ok-pending.pending) (ap length (sym c.entries-left.ensures.value)) at,
          ),
        ),
      ),
    )

pub returns-clause-at : goal.returns-clause-at
returns-clause-at g c = c.last_marked.ensures.at g.known c.go_back.new.hints.items c.in_ok-left.ensures.at

pub returns-clause-visited : goal.returns-clause-visited
returns-clause-visited g c = c.in_ok-left.ensures.at.are_false
