-- What a turn of the search comes to: less is left, or an answer.
use Rattle.std.proofs.Common.{◌≡◌, ℕ, suc, ◌+◌, ◌-◌, ◌*◌, ◌/◌, ◌%◌, ◌^◌, ◌<◌, ◌≤◌, Bool, true, false, eqb, not, Some, None, List, [], ◌∷◌, ◌++◌, length, get_or, slice_get, refl, sym, ap, ◌∙◌, subst, inl, inr, arith, All, length-append}
use Rattle.std.specs.Prelude.{find}
use Rattle.std.specs.Option.{option_map_or}
use Rattle.std.proofs.lemmas.Bool.{or_cases, or_left, or_right, and_from, false≢true, false_from_ne_true, eq-eqb, not-true}
use Rattle.std.proofs.lemmas.List.{append-nil, length_push, get_or_append_left, map-append}
use Rattle.std.proofs.lemmas.List.Elements.{All-push, All-weaker, filter-append}
use Rattle.std.proofs.lemmas.List.Sums.{count_by-le-length, length-filter}
use Rattle.cnf_core.specs.Clauses.{Clauses}
use Rattle.cnf_core.specs.Literal.{negated, is_negative, IsOver}
use Rattle.cnf_core.specs.Truth.{lit_holds, clause_holds, clauses_hold, assigned, Satisfies}
use Rattle.derivation.specs.LogText.{IsClause, IsLine}
use Rattle.derivation.specs.Logs.{clauses_of, is_new, fresh, valid, ends_empty}
use Rattle.derivation.specs.Step.{Step, HintsFit}
use Rattle.derivation.specs.Propagation.{Follows}
use Rattle.derivation.proofs.LogHints.{line_follows}
use Rattle.derivation.proofs.LogLemmas.{each_line-append, valid_push}
use Rattle.derivation.proofs.Sound.{refutes_sound}
use Rattle.sat_order.specs.Lists.{holds}
use Rattle.sat_order.specs.Order.{Order, is_free}
use Rattle.sat_solver.specs.Queued.{IsQueued}
use Rattle.sat_watch.specs.declared.trail.Entry.{Entry}
use Rattle.cnf_core.specs.Trues.{is_true}
use Rattle.sat_watch.specs.Literals.{has, AreApart}
use Rattle.sat_watch.specs.Propagation.{IsFalse, IsQuiet}
use Rattle.sat_watch.specs.Trail.{TrailState, literals, up_to, IsSound}
use Rattle.sat_watch.proofs.LiteralLemmas.{tested, equal, unequal, halves, negated-negated}
use Rattle.sat_watch.proofs.VisitLemmas.{apart_both}
use Rattle.sat_watch.proofs.WatchLemmas.{over_has}
use Rattle.sat_watch.proofs.RightLemmas.{front_up_to}
use Rattle.sat_watch.proofs.LiteralLemmas as L
use Rattle.sat_solver.specs.Answers.{IsAnswer, IsKept, IsWithin, learnt_lines, rank}
use Rattle.sat_solver.specs.Search.{known_by, IsLogged, AreHeld, AreQuietBelow, has_value}
use Rattle.sat_solver.specs.declared.answer.SatAnswer.TheVariants.{Refuted, Spent}
use Rattle.sat_solver.proofs.Count.{fresh_bound}
use Rattle.sat_solver.proofs.Quiet.{quiet_same, quiet_root, never_ends}

-- a level more leaves less
pub rank_decided : (vars lines level : ℕ) → level < vars → rank vars lines (level + 1) < rank vars lines level
unfolding rank
rank_decided vars lines level l = omega arith

-- and so does a line more, whatever the level
pub rank_learnt : (vars lines level level' : ℕ) → lines + 1 ≤ 3 ^ vars → rank vars (lines + 1) level' < rank vars lines level
unfolding rank
rank_learnt vars lines level level' l = go (3 ^ vars) l
  where
    go : (most : ℕ) → lines + 1 ≤ most → (most - (lines + 1)) * (vars + 1) + (vars - level') < (most - lines) * (vars + 1) + (vars - level)
    go most h =
        let more : most - lines ≡ (most - (lines + 1)) + 1 = omega arith in
        subst (λ k. (most - (lines + 1)) * (vars + 1) + (vars - level') < k * (vars + 1) + (vars - level)) (sym more) (omega arith)

-- what is found stands there and passes
pub found_there : (p : ℕ → Bool) (xs : List ℕ) (x : ℕ) → find p xs ≡ Some x → (holds xs x ≡ true) × (p x ≡ true)
found_there p [] x e = absurd (let h : None ≡ Some x = e in cc)
found_there p (y ∷ ys) x e = elim (tested (p y)) [
  | inl passes ↦
      let h : Some y ≡ Some x = rw passes at e in
      let same : y ≡ x = cc in
      ((let here : eqb y x ≡ true = grind (arith, same) in or_left (eqb y x) _ here), ap p (sym same) ∙ passes)
  | inr fails ↦ let q = found_there p ys x (rw fails at e) in (or_right (eqb y x) _ q.0, q.1)
]

-- under the entries up to a level at which all watched clauses are quiet, all known ones are
pub known_quiet : (known : List (List ℕ)) (clauses : List (List ℕ)) (entries front : List Entry) → AreApart (literals front) → ((lit : ℕ) → is_true (literals (up_to 0 entries)) lit ≡ true → is_true (literals front) lit ≡ true)
    → AreHeld known clauses entries → All (IsQuiet (literals front)) clauses → (place : ℕ) → place < length known → IsQuiet (literals front) (get_or known place [])
known_quiet known clauses entries front a roots held q place l = elim (held place l) [
  | inl w ↦ quiet_same (literals front) (get_or clauses w.place []) (get_or known place []) w.same (q w.place [] w.within)
  | inr r ↦ quiet_root (literals front) (get_or known place []) r.lit a r.inside r.only (roots r.lit r.root)
]

few_lines : (log : List Step) → length (learnt_lines log) ≤ length log
few_lines log = omega (arith, count_by-le-length (λ (s : Step). not (eqb (length s.clause) 0)) log, length-filter (λ (s : Step). not (eqb (length s.clause) 0)) log)

pub kept_logged : (cnf : Clauses) (log : List Step) (budget : ℕ) → IsLogged cnf log → IsWithin budget log → IsKept cnf log budget
kept_logged cnf log budget g w = record { valid = g.valid; fresh = g.fresh; lines = g.lines; few = λ some. let a : length log ≤ budget = w some in omega (arith, few_lines log, a) }

-- the budget is spent
pub answer_spent : (cnf : Clauses) (log : List Step) (budget : ℕ) (clauses : List (List ℕ)) (t : TrailState) → IsLogged cnf log → IsSound t → AreHeld (known_by cnf log) clauses t.entries → AreQuietBelow clauses t → 0 < t.level → 0 < budget
    → length log ≡ budget → IsAnswer cnf log budget Spent
answer_spent cnf log budget clauses t g s held quiet above some whole = record {
  right = record {
    some = some;
    valid = g.valid;
    fresh = g.fresh;
    whole = whole;
    none_empty = g.none_empty;
    over = All-weaker (IsLine cnf.vars) (λ (step : Step). All (IsOver cnf.vars) step.clause) (λ step h. h.clause.over) log g.lines;
    stuck = λ hints f. never_ends (known_by cnf log) (literals (up_to 0 t.entries)) hints []
        (known_quiet (known_by cnf log) clauses t.entries (up_to 0 t.entries) apart (λ lit h. h) held (quiet 0 above)) (λ lit h. absurd (false≢true h)) f;
  };
  kept = kept_logged cnf log budget g (λ some'. omega (arith, whole));
}
  where
    apart : AreApart (literals (up_to 0 t.entries))
    apart =
        let f = front_up_to t.level 0 t.entries (up_to 0 t.entries) s.rises refl in
        L.apart-front (literals (up_to 0 t.entries)) (literals f.rest) (subst AreApart (ap literals f.is ∙ map-append (λ (x : Entry). x.lit) (up_to 0 t.entries) f.rest) s.apart)

-- the last of some lines
last_line : (log : List Step) (line : Step) → slice_get (log ++ line ∷ []) (length log) ≡ Some line
last_line [] line = refl
last_line (s ∷ ss) line = last_line ss line

-- the empty line refutes
pub answer_refuted : (cnf : Clauses) (log : List Step) (budget : ℕ) (line : Step) → IsLogged cnf log → IsWithin budget log
    → Follows (known_by cnf log) line → line.clause ≡ [] → HintsFit line → IsAnswer cnf (log ++ line ∷ []) budget Refuted
answer_refuted cnf log budget line g w f e fit =
    let none : eqb (length line.clause) 0 ≡ true = eq-eqb (length line.clause) 0 (ap length e) in
    let valid_all : valid cnf.clauses (log ++ line ∷ []) ≡ true = valid_push cnf.clauses log line g.valid f in
    let at : length (log ++ line ∷ []) - 1 ≡ length log = omega (arith, length_push log line) in
    let ends : ends_empty (log ++ line ∷ []) ≡ true =
    ap (λ k. option_map_or (λ (s : Step). eqb (length s.clause) 0) (slice_get (log ++ line ∷ []) k) false) at ∙ ap (λ o. option_map_or (λ (s : Step). eqb (length s.clause) 0) o false) (last_line log line) ∙ none in
    record {
      right = ((valid_all, ends), refutes_sound cnf.clauses (log ++ line ∷ []) valid_all ends);
      kept = record {
        valid = valid_all;
        fresh = each_line-append is_new cnf.clauses log (line ∷ []) ∙ and_from (fresh cnf.clauses log) _ g.fresh (and_from (is_new (known_by cnf log) line) _ (or_left (eqb (length line.clause) 0) _ none) refl);
        lines = All-push (IsLine cnf.vars) log line g.lines
            (line_follows cnf.vars (known_by cnf log) line f (subst (IsClause cnf.vars) (sym e) (record { rising = λ k l. absurd (omega arith); over = λ k d l. absurd (omega arith) })) fit);
        few = λ some.
            let a : length log ≤ budget = w some in
            let same : learnt_lines (log ++ line ∷ []) ≡ learnt_lines log =
            filter-append (λ (s : Step). not (eqb (length s.clause) 0)) log (line ∷ []) ∙ (rw none (append-nil (learnt_lines log))) in
            omega (arith, few_lines log, a, ap length same);
      };
    }

-- a true literal holds under the values
true_holds : (trues : List ℕ) (values : List Bool) (vars lit : ℕ) → AreApart trues → IsOver vars lit → ((var : ℕ) → 0 < var → var ≤ vars → get_or values (var - 1) false ≡ is_true trues (2 * var)) → is_true trues lit ≡ true
    → lit_holds (assigned values) lit ≡ true
true_holds trues values vars lit a over v on = elim (halves lit) [
  | inl even ↦
      let positive : is_negative lit ≡ false = false_from_ne_true (is_negative lit) (λ h. let odd : lit % 2 ≡ 1 = equal (lit % 2) 1 h in omega (arith, odd, even.0)) in
      let same : 2 * (lit / 2) ≡ lit = omega (arith, even.0) in
      rw positive (v (lit / 2) over.0 over.1 ∙ ap (is_true trues) same ∙ on)
  | inr odd ↦
      let negative : is_negative lit ≡ true = eq-eqb (lit % 2) 1 odd.0 in
      let same : 2 * (lit / 2) ≡ negated lit = omega (arith, odd.0, odd.1) in
      let off : is_true trues (negated lit) ≡ false = false_from_ne_true (is_true trues (negated lit)) (λ h. apart_both trues lit a on h) in
      rw negative (ap not (v (lit / 2) over.0 over.1 ∙ ap (is_true trues) same ∙ off))
]

-- A literal of the clause is true.
record HasTrue (trues clause : List ℕ) : Type 0 where
  lit : ℕ
  inside : has clause lit ≡ true
  on : is_true trues lit ≡ true

-- a clause that is not false has a true literal, where all of its variables have values
true_in : (trues clause : List ℕ) → ((lit : ℕ) → has clause lit ≡ true → has_value trues (lit / 2) ≡ true) → (IsFalse trues clause → ⊥) → HasTrue trues clause
true_in trues [] v n = absurd (n (λ lit h. absurd (false≢true h)))
true_in trues (x ∷ xs) v n = elim (tested (is_true trues x)) [
  | inl on ↦ record { lit = x; inside = grind arith; on = on }
  | inr off ↦
      let x_false : is_true trues (negated x) ≡ true = other_true x off (v x (grind arith)) in
      let rest : HasTrue trues xs = true_in trues xs (λ lit h. v lit (grind (arith, h))) (λ f. n (λ lit h. elim (tested (eqb x lit)) [
        | inl same ↦ ap (λ k. is_true trues (negated k)) (sym (equal x lit same)) ∙ x_false
        | inr away ↦ f lit (grind (arith, h, away))
      ])) in
      record { lit = rest.lit; inside = grind (arith, rest.inside); on = rest.on }
]
  where
    other_true : (y : ℕ) → is_true trues y ≡ false → has_value trues (y / 2) ≡ true → is_true trues (negated y) ≡ true
    other_true y off h = elim (halves y) [
      | inl even ↦
          let one : 2 * (y / 2) ≡ y = omega (arith, even.0) in
          let two : 2 * (y / 2) + 1 ≡ negated y = omega (arith, even.0, even.1) in
          elim (or_cases (is_true trues (2 * (y / 2))) (is_true trues (2 * (y / 2) + 1)) h) [
            | inl a ↦ absurd (false≢true (sym off ∙ ap (is_true trues) (sym one) ∙ a))
            | inr b ↦ ap (is_true trues) (sym two) ∙ b
          ]
      | inr odd ↦
          let one : 2 * (y / 2) + 1 ≡ y = omega (arith, odd.0) in
          let two : 2 * (y / 2) ≡ negated y = omega (arith, odd.0, odd.1) in
          elim (or_cases (is_true trues (2 * (y / 2))) (is_true trues (2 * (y / 2) + 1)) h) [
            | inl a ↦ ap (is_true trues) (sym two) ∙ a
            | inr b ↦ absurd (false≢true (sym off ∙ ap (is_true trues) (sym one) ∙ b))
          ]
    ]

holds_in : (values : ℕ → Bool) (xs : List ℕ) (lit : ℕ) → has xs lit ≡ true → lit_holds values lit ≡ true → clause_holds values xs ≡ true
holds_in values [] lit h on = h
holds_in values (x ∷ xs) lit h on = elim (tested (eqb x lit)) [
  | inl same ↦ or_left (lit_holds values x) _ (ap (lit_holds values) (equal x lit same) ∙ on)
  | inr other ↦ or_right (lit_holds values x) _ (holds_in values xs lit (grind (arith, h, other)) on)
]

each_holds : (values : ℕ → Bool) (clauses : List (List ℕ)) → ((k : ℕ) → k < length clauses → clause_holds values (get_or clauses k []) ≡ true) → clauses_hold values clauses ≡ true
each_holds values [] h = refl
each_holds values (c ∷ cs) h = and_from (clause_holds values c) _ (h 0 (omega arith)) (each_holds values cs (λ k l. h (suc k) (omega arith)))

-- where all variables have values and no clause is unit or false, the values satisfy the formula
pub answer_satisfied : (cnf : Clauses) (log : List Step) (budget : ℕ) (clauses : List (List ℕ)) (t : TrailState) (values : List Bool) → IsSound t → t.vars ≡ cnf.vars → All (λ clause. All (IsOver cnf.vars) clause) cnf.clauses
    → AreHeld (known_by cnf log) clauses t.entries → ((lit : ℕ) → is_true (literals (up_to 0 t.entries)) lit ≡ true → is_true (literals t.entries) lit ≡ true) → All (IsQuiet (literals t.entries)) clauses
    → ((var : ℕ) → 0 < var → var ≤ cnf.vars → has_value (literals t.entries) var ≡ true) → ((var : ℕ) → 0 < var → var ≤ t.vars → get_or values (var - 1) false ≡ is_true (literals t.entries) (2 * var))
    → Satisfies (assigned values) cnf.clauses
answer_satisfied cnf log budget clauses t values s vars over held roots quiet all v =
    each_holds (assigned values) cnf.clauses (λ k l.
    let clause = get_or cnf.clauses k [] in
    let here : get_or (known_by cnf log) k [] ≡ clause = get_or_append_left cnf.clauses (clauses_of log) [] k l in
    let q : IsQuiet (literals t.entries) clause = subst (IsQuiet (literals t.entries)) here
    (known_quiet (known_by cnf log) clauses t.entries t.entries s.apart roots held quiet k (omega (arith, l, length-append cnf.clauses (clauses_of log)))) in
    let some : HasTrue (literals t.entries) clause = true_in (literals t.entries) clause (λ lit h. let o : IsOver cnf.vars lit = over_has cnf.vars clause lit (over k [] l) h in all (lit / 2) o.0 o.1) q.not_false in
    holds_in (assigned values) clause some.lit some.inside
    (true_holds (literals t.entries) values t.vars some.lit s.apart (over_has t.vars (literals t.entries) some.lit s.over some.on) v some.on))

-- a log of the search has no more lines than its measure allows
pub lines_few : (cnf : Clauses) (log : List Step) → IsLogged cnf log → length log ≤ 3 ^ cnf.vars
lines_few cnf log g =
    fresh_bound cnf.vars cnf.clauses log g.fresh g.none_empty (All-weaker (IsLine cnf.vars) (λ (step : Step). IsClause cnf.vars step.clause) (λ step h. h.clause) log g.lines) g.valid

pub rank_same : (vars vars' lines lines' level level' most : ℕ) → vars' ≡ vars → lines' ≡ lines → level' ≡ level → rank vars lines level < most → rank vars' lines' level' < most
rank_same vars vars' lines lines' level level' most v n l h =
    subst (λ k. rank k lines' level' < most) (sym v) (subst (λ k. rank vars k level' < most) (sym n) (subst (λ k. rank vars lines k < most) (sym l) h))

-- The variable can be decided.
pub record IsFree (vars : ℕ) (values : List Bool) (var : ℕ) : Type 0 where
  pub from_one : 0 < var
  pub within : var ≤ vars
  pub free : get_or values (var - 1) false ≡ false

-- what the queue finds can be
pub free_var : (vars : ℕ) (queue : Order) (values values' : List Bool) (var : ℕ) → IsQueued vars queue values → values' ≡ values → Some var ≡ find (is_free values') queue.vars → IsFree vars values var
free_var vars queue values values' var q same e =
    let f = found_there (is_free values) queue.vars var (ap (λ vs. find (is_free vs) queue.vars) (sym same) ∙ sym e) in
    let range = (q.order.each var).0 f.0 in
    record { from_one = range.0; within = omega (arith, range.1, q.all); free = not-true (get_or values (var - 1) false) f.1 }
