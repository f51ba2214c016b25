use Rattle.std.proofs.Common.{◌≡◌, ℕ, ◌+◌, ◌-◌, ◌<◌, ◌≤◌, Bool, true, false, List, length, refl, subst, sym, ap, ◌∙◌, arith, All}
use Rattle.std.specs.Prelude.{IsTrue}
use Rattle.cnf_core.specs.Truth.{assigned, Satisfies}
use Rattle.sat_watch.specs.Trail.{literals}
use Rattle.sat_analysis.proofs.Levels.{up_to_true}
use Rattle.sat_solver.specs.Answers.{IsWithin}
use Rattle.sat_solver.specs.Search.{has_value}
use Rattle.sat_solver.proofs.Turning.{free_var, rank_decided, rank_same, kept_logged, answer_satisfied}
use Rattle.sat_solver.proofs.search.Search.go_on.Goals as goal

pub decide-requires-clause-from_one : goal.decide-requires-clause-from_one
decide-requires-clause-from_one c = let s = c.args.self.now in (free_var s.cnf.vars s.queue s.set.items c.deref.result.now c.in-Some.var c.requires.search.built.queued c.deref.ensures.value c.in-Some.ensures.first).from_one

pub decide-requires-clause-within : goal.decide-requires-clause-within
decide-requires-clause-within c = let s = c.args.self.now in subst (λ n. c.in-Some.var ≤ n) (sym c.requires.search.built.vars) (free_var s.cnf.vars s.queue s.set.items c.deref.result.now c.in-Some.var c.requires.search.built.queued c.deref.ensures.value c.in-Some.ensures.first).within

pub decide-requires-clause-free : goal.decide-requires-clause-free
decide-requires-clause-free c = let s = c.args.self.now in (free_var s.cnf.vars s.queue s.set.items c.deref.result.now c.in-Some.var c.requires.search.built.queued c.deref.ensures.value c.in-Some.ensures.first).free

pub returns-in-Some-clause-goes_on : goal.returns-in-Some-clause-goes_on
returns-in-Some-clause-goes_on c =
    let s = c.args.self.now in
    let new = c.decide.new.self in
    let room : s.trail.level < s.cnf.vars = subst (λ v. s.trail.level < v) c.requires.search.built.vars c.decide.ensures.room in
    record {
      search = c.decide.ensures.search;
      within = subst (IsWithin c.args.budget) (sym c.decide.ensures.log) c.requires.within;
      falls = rank_same s.cnf.vars new.cnf.vars (length s.log) (length new.log) (s.trail.level + 1) new.trail.level _ (ap (λ f. f.vars) c.decide.ensures.cnf) (ap length c.decide.ensures.log) c.decide.ensures.level
          (rank_decided s.cnf.vars (length s.log) s.trail.level room);
    }

pub returns-in_ok-values-in-None-clause-answers : goal.returns-in_ok-values-in-None-clause-answers
returns-in_ok-values-in-None-clause-answers c =
    let s = c.args.self.now in
    let b = c.requires.search.built in
    let values : List Bool = c.in_ok-values-in-None.values.items in
    let all_set : All (λ x. IsTrue x) s.set.items = subst (All (λ x. IsTrue x)) c.deref.ensures.value (c.in-None.ensures.none.0 refl) in
    let all : (var : ℕ) → 0 < var → var ≤ s.cnf.vars → has_value (literals s.trail.entries) var ≡ true =
    λ var one most. sym (b.running.marked var one) ∙ all_set (var - 1) false (omega (arith, one, most, b.running.room, b.vars)) in
    let satisfies : Satisfies (assigned values) s.cnf.clauses =
    answer_satisfied s.cnf s.log c.args.budget s.watches.clauses s.trail values c.requires.sound b.vars c.requires.search.over b.running.held
    (λ lit h. (up_to_true s.notes.levels.items s.trail.entries 0 lit b.running.noted.leveled h).0) c.requires.quiet all c.in_ok-values-in-None.ensures.values in
    record { right = (satisfies, c.in_ok-values-in-None.ensures.all ∙ b.vars); kept = kept_logged s.cnf s.log c.args.budget c.requires.search.logged c.requires.within }
