use Rattle.std.proofs.Common.{◌≡◌, ◌+◌, ◌^◌, ◌<◌, ◌≤◌, length, refl, subst, ap, arith}
use Rattle.sat_solver.proofs.Turning.{answer_spent, rank_learnt, rank_same, lines_few}
use Rattle.sat_solver.proofs.search.Search.turn_back.Goals as goal
use Rattle.sat_solver.proofs.search.Search.turn_back.Goals.{else-budget-gt0-via-then-budget-gt0+else-lines-budget, else-budget-gt0-via-else-budget-gt0}

pub returns-then-lines-budget-clause-answers : goal.returns-then-lines-budget-clause-answers
returns-then-lines-budget-clause-answers c =
    let s = c.args.self.now in
    let b = c.requires.search.built in
    let above : 0 < s.trail.level = omega (arith, c.if-level-eq0.false, c.level.ensures) in
    let lines : length c.lines.result.now ≡ length s.log = ap length c.lines.ensures.value in
    let most : length s.log ≤ c.args.budget = c.requires.within c.if-budget-gt0.true in
    answer_spent s.cnf s.log c.args.budget s.watches.clauses s.trail c.requires.search.logged c.requires.sound b.running.held b.running.quiet above c.if-budget-gt0.true (omega (arith, most, lines, c.if-lines-budget.true))

pub returns-clause-goes_on : goal.returns-clause-goes_on
returns-clause-goes_on c =
    let s = c.args.self.now in
    let new = c.learn_in_time.new.self in
    let search = c.in_ok-learn_in_time.ensures.search in
    let longer : length new.log ≡ length s.log + 1 = c.in_ok-learn_in_time.ensures.longer in
    let vars : new.cnf.vars ≡ s.cnf.vars = ap (λ f. f.vars) c.in_ok-learn_in_time.ensures.cnf in
    let few : length new.log ≤ 3 ^ new.cnf.vars = lines_few new.cnf new.log search.logged in
    let few' : length s.log + 1 ≤ 3 ^ s.cnf.vars = subst (λ n. n ≤ 3 ^ s.cnf.vars) longer (subst (λ v. length new.log ≤ 3 ^ v) vars few) in
    record {
      search = search;
      within = λ some. elim c.else-budget-gt0.branch [
        | else-budget-gt0-via-then-budget-gt0+else-lines-budget w ↦ omega (arith, longer, ap length w.lines.ensures.value, w.if-lines-budget.false)
        | else-budget-gt0-via-else-budget-gt0 w ↦ absurd (omega (arith, w.if-budget-gt0.false, some))
      ];
      falls = rank_same s.cnf.vars new.cnf.vars (length s.log + 1) (length new.log) new.trail.level new.trail.level _ vars longer refl (rank_learnt s.cnf.vars (length s.log) s.trail.level new.trail.level few');
    }
