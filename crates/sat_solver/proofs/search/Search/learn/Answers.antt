use Rattle.std.proofs.Common.{◌≡◌, ◌/◌, ◌-◌, ◌<◌, false, true, [], length, subst, sym, ap, ◌∙◌, arith, All}
use Rattle.cnf_core.specs.Literal.{IsOver}
use Rattle.sat_order.specs.Order.{is_free}
use Rattle.sat_watch.specs.Literals.{has}
use Rattle.sat_analysis.specs.Learnt.{IsLearnt}
use Rattle.sat_analysis.specs.Noted.{IsNoted}
use Rattle.sat_analysis.specs.declared.notes.Notes.{Notes}
use Rattle.sat_watch.specs.Trail.{literals}
use Rattle.sat_analysis.proofs.Lits.{once_false}
use Rattle.sat_analysis.proofs.Order.{All_has}
use Rattle.sat_analysis.specs.Settled.{HasRoom}
use Rattle.sat_solver.specs.Search.{known_by}
use Rattle.sat_solver.specs.Steps.{IsAsserting, unmarked}
use Rattle.sat_solver.proofs.Holding.{asserting_back, asserting_same, visited_set}
use Rattle.sat_solver.proofs.search.Search.learn.Goals as goal

pub of-requires : goal.of-requires
of-requires g c =
    let s = c.args.self.now in
    let b = c.requires.1.0.built in
    let level : s.trail.level - 1 < s.trail.level = omega (arith, c.requires.1.1.0) in (
      subst (λ k. IsNoted k s.watches s.trail s.notes) (sym c.requires.0) b.running.noted,
      (
        subst (λ v. HasRoom v s.minimiser) (sym b.vars) b.minimiser,
        (
          b.marks ∙ ap unmarked (sym b.vars),
          (
            c.requires.1.1.0,
            (
              c.requires.1.1.1.0,
              (
                c.requires.1.1.1.1,
                (b.running.quiet (s.trail.level - 1) level c.args.clause [] c.requires.1.1.1.0).not_false,
              ),
            ),
          ),
        ),
      ),
    )

pub bump_all-requires-clause-over : goal.bump_all-requires-clause-over
bump_all-requires-clause-over g c =
    let s = c.args.self.now in
    let b = c.requires.1.0.built in
    let size : length c.deref.result.now ≡ s.trail.vars = ap length c.deref.ensures.value ∙ b.running.room in
    subst (λ n. All (IsOver n) c.lits.result.now) (sym size)
    (All_has (IsOver s.trail.vars) c.lits.result.now (λ lit h. (visited_set s.trail s.set.items c.of.new.marks.lits c.in_ok-line.ensures.sound b.running.marked c.in_ok-line.ensures.marked lit (subst (λ ms. has ms lit ≡ true) c.lits.ensures.value h)).0))

pub bump_all-requires-clause-have_values : goal.bump_all-requires-clause-have_values
bump_all-requires-clause-have_values g c =
    let s = c.args.self.now in
    let b = c.requires.1.0.built in
    subst (λ vs. All (λ lit. is_free vs (lit / 2) ≡ false) c.lits.result.now) (sym c.deref.ensures.value)
    (All_has (λ lit. is_free s.set.items (lit / 2) ≡ false) c.lits.result.now (λ lit h. (visited_set s.trail s.set.items c.of.new.marks.lits c.in_ok-line.ensures.sound b.running.marked c.in_ok-line.ensures.marked lit (subst (λ ms. has ms lit ≡ true) c.lits.ensures.value h)).1))

pub bump_all-requires-clause-apart : goal.bump_all-requires-clause-apart
bump_all-requires-clause-apart g c =
    once_false (literals c.args.self.now.trail.entries) c.lits.result.now c.in_ok-line.ensures.sound.apart c.lits.ensures.once
    (λ lit h. c.in_ok-line.ensures.marked lit (subst (λ ms. has ms lit ≡ true) c.lits.ensures.value h))

pub hold_one-requires-clause-asserting : goal.hold_one-requires-clause-asserting
hold_one-requires-clause-asserting g c =
    let s = c.args.self.now in
    let b = c.requires.1.0.built in
    let known = known_by s.cnf s.log in
    let l = c.in_ok-line.field-0 in
    let learnt : IsLearnt known s.trail s.notes.levels.items l.line l.lits.items l.level = subst (λ k. IsLearnt k s.trail s.notes.levels.items l.line l.lits.items l.level) c.requires.0 c.in_ok-line.ensures.learnt in
    let a : IsAsserting known c.back_to.new.self.trail s.notes.levels.items l.line l.lits.items =
    asserting_back known s.watches s.trail c.back_to.new.self.trail s.notes s.set.items l.lits.items l.line l.level b.running c.in_ok-line.ensures.sound learnt c.back_to.ensures.entries c.back_to.ensures.level c.back_to.ensures.vars in
    let cnf_is : c.back_to.new.self.cnf ≡ s.cnf = c.back_to.ensures.cnf in
    let log_is : c.back_to.new.self.log ≡ s.log = c.back_to.ensures.log in
    asserting_same known (known_by c.back_to.new.self.cnf c.back_to.new.self.log) c.back_to.new.self.trail s.notes.levels.items c.back_to.new.self.notes.levels.items l.line l.lits.items c.deref-then-len-eq1.result.now
    (ap (λ f. known_by f c.back_to.new.self.log) cnf_is ∙ ap (known_by s.cnf) log_is) (ap (λ (n : Notes). n.levels.items) c.back_to.ensures.notes) c.deref-then-len-eq1.ensures.value a

pub hold_many-requires-clause-asserting : goal.hold_many-requires-clause-asserting
hold_many-requires-clause-asserting g c =
    let s = c.args.self.now in
    let b = c.requires.1.0.built in
    let known = known_by s.cnf s.log in
    let l = c.in_ok-line.field-0 in
    let learnt : IsLearnt known s.trail s.notes.levels.items l.line l.lits.items l.level = subst (λ k. IsLearnt k s.trail s.notes.levels.items l.line l.lits.items l.level) c.requires.0 c.in_ok-line.ensures.learnt in
    let a : IsAsserting known c.back_to.new.self.trail s.notes.levels.items l.line l.lits.items =
    asserting_back known s.watches s.trail c.back_to.new.self.trail s.notes s.set.items l.lits.items l.line l.level b.running c.in_ok-line.ensures.sound learnt c.back_to.ensures.entries c.back_to.ensures.level c.back_to.ensures.vars in
    let cnf_is : c.back_to.new.self.cnf ≡ s.cnf = c.back_to.ensures.cnf in
    let log_is : c.back_to.new.self.log ≡ s.log = c.back_to.ensures.log in
    asserting_same known (known_by c.back_to.new.self.cnf c.back_to.new.self.log) c.back_to.new.self.trail s.notes.levels.items c.back_to.new.self.notes.levels.items l.line l.lits.items c.deref-else-len-eq1.result.now
    (ap (λ f. known_by f c.back_to.new.self.log) cnf_is ∙ ap (known_by s.cnf) log_is) (ap (λ (n : Notes). n.levels.items) c.back_to.ensures.notes) c.deref-else-len-eq1.ensures.value a
