-- A search that has taken up nothing.
use Rattle.std.proofs.Common.{◌≡◌, ℕ, ◌+◌, ◌-◌, ◌^◌, ◌<◌, false, List, [], length, replicate, get_or, sym, ap, ◌∙◌, subst, inl, inr, arith}
use Rattle.std.proofs.lemmas.Bool.{cases_lt, false≢true}
use Rattle.std.proofs.lemmas.List.{get_or-replicate, get_or_past, length-replicate}
use Rattle.sat_order.specs.Lists.{holds, first_of, before}
use Rattle.sat_order.specs.Order.{passed, IsOrder}
use Rattle.sat_order.proofs.ListLemmas.{before_first}
use Rattle.sat_watch.specs.Trail.{TrailState}
use Rattle.sat_watch.specs.Watching.{WatchState, IsPending, Right}
use Rattle.sat_analysis.specs.declared.notes.Notes.{Notes}
use Rattle.sat_analysis.specs.Settled.{HasRoom}
use Rattle.sat_solver.specs.Loading.{IsLoading}
use Rattle.sat_solver.specs.Search.{known_by, IsRunning}
use Rattle.sat_solver.specs.Steps.{unmarked}
use Rattle.sat_solver.specs.declared.search.Search.{Search}

-- nothing is set in a table of false
none_set : (n k : ℕ) → get_or (replicate n false) k false ≡ false
none_set n k = elim (cases_lt k n) [
  | inl within ↦ get_or-replicate n k false false within
  | inr past ↦ get_or_past (replicate n false) k false (omega (arith, past, length-replicate n false))
]

-- the trail with no entry
abbrev pub start_of : ℕ → TrailState
start_of vars = record { vars = vars; entries = []; level = 0; passed = 0 }

running_new : (known : List (List ℕ)) (w : WatchState) (vars : ℕ) (notes : Notes) → w.vars ≡ vars → w.clauses ≡ [] → ((t : TrailState) → IsPending t → Right w t) → notes.numbers.items ≡ [] → length notes.units.items ≡ vars + 1
    → length notes.levels.items ≡ vars + 1 → IsRunning known [] w (start_of vars) notes (replicate vars false)
running_new known w vars notes wv wc right numbers units levels = record {
  noted = record {
    vars = wv;
    numbers = ap length numbers ∙ sym (ap length wc);
    units = units;
    levels = levels;
    numbered = λ c l. absurd (let none : length w.clauses ≡ 0 = ap length wc in omega arith);
    leveled = λ k d l. absurd (omega arith);
    backed = λ i d l. absurd (omega arith);
  };
  held = λ k l. absurd (omega arith);
  quiet = λ level l. absurd (omega arith);
  right = right (start_of vars) (λ i a b. absurd (omega arith));
  marked = λ var z. none_set vars (var - 1);
  room = length-replicate vars false;
}

pub loading_new : (s : Search) → s.cnf.vars < 2 ^ 31 → s.log ≡ [] → s.watches.vars ≡ s.cnf.vars → s.watches.clauses ≡ [] → ((t : TrailState) → IsPending t → Right s.watches t)
    → s.trail ≡ record { vars = s.cnf.vars; entries = []; level = 0; passed = 0 } → s.notes.numbers.items ≡ [] → length s.notes.units.items ≡ s.cnf.vars + 1 → length s.notes.levels.items ≡ s.cnf.vars + 1
    → s.marks ≡ unmarked s.cnf.vars → HasRoom s.cnf.vars s.minimiser → IsOrder s.queue.vars → length s.queue.vars ≡ s.cnf.vars → s.queue.cursor ≡ first_of s.queue.vars → s.set.items ≡ replicate s.cnf.vars false → length s.phases.items ≡ s.cnf.vars → IsLoading 0 s
loading_new s small log wv wc right trail numbers units levels marks minimiser order all cursor set phases =
    record {
      built = record {
        small = small;
        vars = ap (λ (t : TrailState). t.vars) trail;
        running = subst (λ (t : TrailState). IsRunning (known_by s.cnf s.log) [] s.watches t s.notes s.set.items) (sym trail)
            (subst (λ vs. IsRunning (known_by s.cnf s.log) [] s.watches (start_of s.cnf.vars) s.notes vs) (sym set) (running_new (known_by s.cnf s.log) s.watches s.cnf.vars s.notes wv wc right numbers units levels));
        queued = record {
          order = order;
          all = all;
          passed = λ var h. absurd (
              let none : passed s.queue ≡ [] = ap (λ k. before k s.queue.vars) cursor ∙ before_first s.queue.vars in
              false≢true (sym (ap (λ xs. holds xs var) none) ∙ h));
        };
        phases = phases;
        marks = marks;
        minimiser = minimiser;
      };
      over = λ k d l. absurd (omega arith);
      log = log;
      root = ap (λ (t : TrailState). t.level) trail;
      start = ap (λ (t : TrailState). t.passed) trail;
    }
