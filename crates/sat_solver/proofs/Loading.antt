-- What a search keeps when it takes up a clause of the formula.
use Rattle.std.proofs.Common.{◌≡◌, ℕ, ◌+◌, ◌/◌, ◌<◌, Bool, true, None, List, [], ◌∷◌, ◌++◌, length, take, get_or, set, refl, sym, ap, ◌∙◌, subst, inl, inr, arith, All, length-append, length-set, get_or-set_same}
use Rattle.std.proofs.lemmas.Bool.{cases_lt, or_right}
use Rattle.std.proofs.lemmas.List.{append-nil, map-append, length_push, get_or_push, get_or_append_left, nil_from_length}
use Rattle.cnf_core.specs.Clauses.{Clauses}
use Rattle.cnf_core.specs.Literal.{IsOver}
use Rattle.derivation.specs.Logs.{clauses_of}
use Rattle.derivation.specs.Step.{Step}
use Rattle.sat_watch.specs.declared.trail.Entry.{Entry}
use Rattle.cnf_core.specs.Trues.{is_true}
use Rattle.sat_watch.specs.Literals.{has, IsOpen}
use Rattle.sat_watch.specs.Trail.{TrailState, literals, up_to}
use Rattle.sat_watch.specs.Watching.{WatchState, Right, CanPair}
use Rattle.sat_watch.proofs.LiteralLemmas.{equal, is_true-append}
use Rattle.sat_watch.proofs.WatchLemmas.{over_has}
use Rattle.sat_analysis.specs.declared.notes.Notes.{Notes}
use Rattle.sat_analysis.specs.Reasons.{IsNumberOf, AreNumbered, IsBacked, AreBacked}
use Rattle.sat_analysis.specs.Walk.{AreLeveled}
use Rattle.sat_analysis.proofs.Bridge.{front_has}
use Rattle.sat_analysis.proofs.Order.{All_has}
use Rattle.sat_solver.specs.Loading.{AreOnce}
use Rattle.sat_solver.specs.Search.{known_by, IsLogged, IsRootOf, AreHeld, AreQuietBelow, AreSet, IsRunning}
use Rattle.sat_solver.proofs.Running.{number_at, backed_known, backed_push, backed_units, held_more, held_push}

-- a log with no line
pub logged_nil : (cnf : Clauses) (log : List Step) → log ≡ [] → IsLogged cnf log
logged_nil cnf log e = subst (IsLogged cnf) (sym e) (record { valid = refl; fresh = refl; none_empty = λ k d l. absurd (omega arith); lines = λ k d l. absurd (omega arith) })

pub quiet_root_level : (clauses : List (List ℕ)) (t : TrailState) → t.level ≡ 0 → AreQuietBelow clauses t
quiet_root_level clauses t root level below = absurd (omega arith)

pub can_pair_start : (t : TrailState) (first second : ℕ) → t.passed ≡ 0 → CanPair t first second
can_pair_start t first second start = record { one = λ i l is. absurd (omega arith); other = λ i l is. absurd (omega arith) }

-- the number of a clause of the formula
pub number_loaded : (cnf : Clauses) (log : List Step) (lits : List ℕ) (place : ℕ) → place < length cnf.clauses → AreOnce (get_or cnf.clauses place []) lits → IsNumberOf (known_by cnf log) lits (place + 1)
number_loaded cnf log lits place l a =
    number_at (known_by cnf log) lits place (omega (arith, l, length-append cnf.clauses (clauses_of log)))
    (λ lit. ap (λ cl. has cl lit) (get_or_append_left cnf.clauses (clauses_of log) [] place l) ∙ sym (a.same lit))

-- the literals of a clause, each once, are over the variables
pub over_once : (vars : ℕ) (clause lits : List ℕ) → All (IsOver vars) clause → AreOnce clause lits → All (IsOver vars) lits
over_once vars clause lits o a = All_has (IsOver vars) lits (λ lit h. over_has vars clause lit o (sym (a.same lit) ∙ h))

numbered_add : (known clauses : List (List ℕ)) (numbers lits : List ℕ) (number : ℕ) → length numbers ≡ length clauses → AreNumbered known clauses numbers → IsNumberOf known lits number
    → AreNumbered known (clauses ++ lits ∷ []) (numbers ++ number ∷ [])
numbered_add known clauses numbers lits number size all new c l = elim (cases_lt c (length clauses)) [
  | inl old ↦
      subst (λ cl. IsNumberOf known cl (get_or (numbers ++ number ∷ []) c 0)) (sym (get_or_append_left clauses (lits ∷ []) [] c old))
      (subst (IsNumberOf known (get_or clauses c [])) (sym (get_or_append_left numbers (number ∷ []) 0 c (omega (arith, old, size)))) (all c old))
  | inr at ↦
      let is : length clauses ≡ c = omega (arith, l, at, length_push clauses lits) in
      subst (λ cl. IsNumberOf known cl (get_or (numbers ++ number ∷ []) c 0)) (sym (get_or_push clauses lits [] c is))
      (subst (IsNumberOf known lits) (sym (get_or_push numbers number 0 c (size ∙ is))) new)
]

only_one : (xs : List ℕ) → length xs ≡ 1 → xs ≡ get_or xs 0 0 ∷ []
only_one [] h = absurd (omega arith)
only_one (x ∷ xs) h = ap (λ ys. x ∷ ys) (nil_from_length xs (omega arith))

root_of : (entries : List Entry) (clause lits : List ℕ) → up_to 0 entries ≡ entries → AreOnce clause lits → length lits ≡ 1 → is_true (literals entries) (get_or lits 0 0) ≡ true → IsRootOf entries clause
root_of entries clause lits all a one on =
    let single : (lit : ℕ) → has (get_or lits 0 0 ∷ []) lit ≡ has clause lit = λ lit. ap (λ ls. has ls lit) (sym (only_one lits one)) ∙ a.same lit in
    record {
      lit = get_or lits 0 0;
      inside = sym (single (get_or lits 0 0)) ∙ front_has (get_or lits 0 0) [];
      only = λ other h. sym (equal (get_or lits 0 0) other (let g : has (get_or lits 0 0 ∷ []) other ≡ true = single other ∙ h in grind (arith, g)));
      root = ap (λ es. is_true (literals es) (get_or lits 0 0)) all ∙ on;
    }

-- a clause of two literals at least is watched
pub running_loaded_many : (known done : List (List ℕ)) (w w' : WatchState) (t : TrailState) (notes new : Notes) (values : List Bool) (clause lits : List ℕ) (number : ℕ) → IsRunning known done w t notes values → t.level ≡ 0
    → AreOnce clause lits → w'.vars ≡ w.vars → w'.clauses ≡ w.clauses ++ lits ∷ [] → Right w' t → new.numbers.items ≡ notes.numbers.items ++ number ∷ [] → new.units.items ≡ notes.units.items → new.levels.items ≡ notes.levels.items
    → IsNumberOf known lits number → IsRunning known (done ++ clause ∷ []) w' t new values
running_loaded_many known done w w' t notes new values clause lits number r root a wv wc right numbers units levels n =
    let backed : AreBacked known (w.clauses ++ lits ∷ []) notes.units.items t.entries =
    λ i d l. subst (λ k. IsBacked k (w.clauses ++ lits ∷ []) notes.units.items (take i t.entries) (get_or t.entries i d)) (append-nil known) (backed_known known [] w.clauses (lits ∷ []) notes.units.items (take i t.entries) (get_or t.entries i d) (r.noted.backed i d l)) in
    let held : AreHeld (done ++ clause ∷ []) (w.clauses ++ lits ∷ []) t.entries =
    held_push done (w.clauses ++ lits ∷ []) t.entries clause (subst (AreHeld done (w.clauses ++ lits ∷ [])) (append-nil t.entries) (held_more done w.clauses (lits ∷ []) t.entries [] r.held))
    (inl (record { place = length w.clauses; within = omega (arith, length_push w.clauses lits); same = λ lit. ap (λ cl. has cl lit) (get_or_push w.clauses lits [] (length w.clauses) refl) ∙ a.same lit })) in
    record {
      noted = record {
        vars = wv ∙ r.noted.vars;
        numbers = ap length numbers ∙ length_push notes.numbers.items number ∙ ap (λ k. k + 1) r.noted.numbers ∙ sym (ap length wc ∙ length_push w.clauses lits);
        units = ap length units ∙ r.noted.units;
        levels = ap length levels ∙ r.noted.levels;
        numbered = subst (AreNumbered known w'.clauses) (sym numbers) (subst (λ cs. AreNumbered known cs (notes.numbers.items ++ number ∷ [])) (sym wc)
            (numbered_add known w.clauses notes.numbers.items lits number r.noted.numbers r.noted.numbered n));
        leveled = subst (λ ls. AreLeveled ls t.entries) (sym levels) r.noted.leveled;
        backed = subst (λ us. AreBacked known w'.clauses us t.entries) (sym units) (subst (λ cs. AreBacked known cs notes.units.items t.entries) (sym wc) backed);
      };
      held = subst (λ cs. AreHeld (done ++ clause ∷ []) cs t.entries) (sym wc) held;
      quiet = quiet_root_level w'.clauses t root;
      right = right;
      marked = r.marked;
      room = r.room;
    }

-- a clause of one literal is held, which is true
pub running_loaded_true : (known done : List (List ℕ)) (w : WatchState) (t : TrailState) (notes : Notes) (values : List Bool) (clause lits : List ℕ) → IsRunning known done w t notes values → up_to 0 t.entries ≡ t.entries
    → AreOnce clause lits → length lits ≡ 1 → is_true (literals t.entries) (get_or lits 0 0) ≡ true → IsRunning known (done ++ clause ∷ []) w t notes values
running_loaded_true known done w t notes values clause lits r all a one on = record {
  noted = r.noted;
  held = held_push done w.clauses t.entries clause r.held (inr (root_of t.entries clause lits all a one on));
  quiet = r.quiet;
  right = r.right;
  marked = r.marked;
  room = r.room;
}

-- a clause of one literal becomes true
pub running_loaded_one : (known done : List (List ℕ)) (w : WatchState) (t t' : TrailState) (notes new : Notes) (values values' : List Bool) (clause lits : List ℕ) (number : ℕ) → IsRunning known done w t notes values → t.level ≡ 0
    → AreOnce clause lits → length lits ≡ 1 → IsOver t.vars (get_or lits 0 0) → IsOpen (literals t.entries) (get_or lits 0 0)
    → t' ≡ record t { entries = t.entries ++ record { lit = get_or lits 0 0; level = t.level; reason = None } ∷ [] } → Right w t' → up_to 0 t'.entries ≡ t'.entries
    → new.numbers.items ≡ notes.numbers.items → new.units.items ≡ set notes.units.items (get_or lits 0 0 / 2) number → length new.levels.items ≡ t'.vars + 1 → AreLeveled new.levels.items t'.entries → AreSet values' (literals t'.entries)
    → length values' ≡ t'.vars → IsNumberOf known lits number → IsRunning known (done ++ clause ∷ []) w t' new values'
running_loaded_one known done w t t' notes new values values' clause lits number r root a one over unset is right all numbers units size leveled marked room n =
    let first = get_or lits 0 0 in
    let e : Entry = record { lit = first; level = t.level; reason = None } in
    let entries : t'.entries ≡ t.entries ++ e ∷ [] = ap (λ (x : TrailState). x.entries) is in
    let level : t'.level ≡ t.level = ap (λ (x : TrailState). x.level) is in
    let vars : t'.vars ≡ t.vars = ap (λ (x : TrailState). x.vars) is in
    let on : is_true (literals t'.entries) first ≡ true =
    ap (λ es. is_true (literals es) first) entries ∙ ap (λ ls. is_true ls first) (map-append (λ (x : Entry). x.lit) t.entries (e ∷ [])) ∙ is_true-append (literals t.entries) (first ∷ []) first ∙ or_right (is_true (literals t.entries) first) _ (front_has first []) in
    let unit : IsNumberOf known (first ∷ []) (get_or (set notes.units.items (first / 2) number) (first / 2) 0) =
    subst (IsNumberOf known (first ∷ [])) (sym (get_or-set_same notes.units.items (first / 2) number 0 (omega (arith, over, r.noted.units)))) (subst (λ ls. IsNumberOf known ls number) (only_one lits one) n) in
    let backed : AreBacked known w.clauses (set notes.units.items (first / 2) number) (t.entries ++ e ∷ []) =
    backed_push known w.clauses (set notes.units.items (first / 2) number) t.entries e (backed_units known w.clauses notes.units.items t.entries first number unset r.noted.backed) (inl (record { root = root; number = unit })) in
    let held : AreHeld done w.clauses t'.entries =
    subst (AreHeld done w.clauses) (sym entries) (subst (λ cs. AreHeld done cs (t.entries ++ e ∷ [])) (append-nil w.clauses) (held_more done w.clauses [] t.entries (e ∷ []) r.held)) in
    record {
      noted = record {
        vars = r.noted.vars ∙ sym vars;
        numbers = ap length numbers ∙ r.noted.numbers;
        units = ap length units ∙ length-set notes.units.items (first / 2) number ∙ r.noted.units ∙ ap (λ k. k + 1) (sym vars);
        levels = size;
        numbered = subst (AreNumbered known w.clauses) (sym numbers) r.noted.numbered;
        leveled = leveled;
        backed = subst (λ us. AreBacked known w.clauses us t'.entries) (sym units) (subst (AreBacked known w.clauses (set notes.units.items (first / 2) number)) (sym entries) backed);
      };
      held = held_push done w.clauses t'.entries clause held (inr (root_of t'.entries clause lits all a one on));
      quiet = quiet_root_level w.clauses t' (level ∙ root);
      right = right;
      marked = marked;
      room = room;
    }
