-- What a search keeps when it takes up a line.
use Rattle.std.proofs.Common.{◌≡◌, ◌≢◌, ℕ, ◌+◌, ◌-◌, ◌*◌, ◌/◌, ◌<◌, Bool, true, false, Some, None, List, [], ◌∷◌, ◌++◌, length, take, get_or, set, refl, sym, ap, ◌∙◌, subst, inl, inr, arith, All, get_or-set_same, length-set}
use Rattle.std.proofs.lemmas.Bool.{or_left, or_right, cases_lt, and_from, false≢true, le-leb, not_from_true}
use Rattle.std.specs.Prelude.{nat_le}
use Rattle.std.proofs.lemmas.List.{append-nil, append_assoc, map-append, get_or-map, length-map, length_push, get_or_push, get_or_append_left, take_at, nil_from_length}
use Rattle.std.proofs.lemmas.List.Elements.{All-push, All-cons, All-nil}
use Rattle.cnf_core.specs.Clauses.{Clauses}
use Rattle.cnf_core.specs.Literal.{negated, IsOver}
use Rattle.derivation.specs.LogText.{IsClause, IsLine}
use Rattle.derivation.specs.Logs.{clauses_of, is_new, fresh}
use Rattle.derivation.specs.Step.{Step, HintsFit}
use Rattle.derivation.proofs.LogHints.{line_follows}
use Rattle.derivation.proofs.LogLemmas.{each_line-append, valid_push}
use Rattle.sat_watch.specs.declared.trail.Entry.{Entry}
use Rattle.cnf_core.specs.Trues.{is_true}
use Rattle.sat_watch.specs.Literals.{has, IsOpen}
use Rattle.sat_watch.specs.Propagation.{IsFalse, IsQuiet, Forces}
use Rattle.sat_watch.specs.Trail.{TrailState, literals, levels, up_to, IsSound}
use Rattle.sat_watch.specs.Watching.{WatchState, CanPair, Right}
use Rattle.sat_watch.proofs.LiteralLemmas.{equal, is_true-append, negated-half, negated-negated, halves, over_negated}
use Rattle.sat_watch.proofs.WatchLemmas.{over_has}
use Rattle.sat_order.specs.Order.{is_free}
use Rattle.sat_watch.proofs.TrailLemmas.{up_to-append}
use Rattle.sat_watch.proofs.VisitLemmas.{place_true}
use Rattle.sat_analysis.proofs.Bridge.{front_has}
use Rattle.sat_analysis.specs.Learnt.{level_of, IsLearnt}
use Rattle.sat_analysis.specs.declared.notes.Notes.{Notes}
use Rattle.sat_analysis.specs.Reasons.{IsNumberOf, AreNumbered, IsBacked, AreBacked}
use Rattle.sat_analysis.specs.Walk.{AreLeveled}
use Rattle.sat_analysis.proofs.Order.{place_has}
use Rattle.sat_solver.specs.Search.{known_by, IsLogged, AreHeld, AreQuietBelow, AreSet, has_value, IsRunning}
use Rattle.sat_solver.specs.Steps.{IsAsserting}
use Rattle.sat_solver.proofs.Quiet.{learnt_false, learnt_open, learnt_new, learnt_quiet}
use Rattle.sat_solver.proofs.Running.{up_to_more, up_to_twice, number_more, number_new, backed_known, backed_push, backed_units, held_more, held_push}

-- what was learnt asserts its first literal once the search is back at its level
pub asserting_back : (known : List (List ℕ)) (w : WatchState) (t t' : TrailState) (notes : Notes) (values : List Bool) (lits : List ℕ) (line : Step) (back : ℕ) → IsRunning known known w t notes values → IsSound t
    → IsLearnt known t notes.levels.items line lits back → t'.entries ≡ up_to back t.entries → t'.level ≡ back → t'.vars ≡ t.vars → IsAsserting known t' notes.levels.items line lits
asserting_back known w t t' notes values lits line back r s l entries level vars =
    let leveled = r.noted.leveled in
    record {
      follows = l.follows;
      is_new = learnt_new known w.clauses t notes.levels.items lits line back l leveled s.apart r.quiet r.held;
      clause = subst (λ v. IsClause v line.clause) (sym vars) l.clause;
      same = l.same;
      some = l.some;
      over = subst (λ v. All (IsOver v) lits) (sym vars) l.over;
      once = l.once;
      first = subst (λ es. IsOpen (literals es) (get_or lits 0 0)) (sym entries) (learnt_open known t notes.levels.items lits line back l leveled s.apart);
      others = λ lit h d. ap (λ es. is_true (literals es) (negated lit)) entries ∙ learnt_false known t notes.levels.items lits line back lit l leveled h d;
      second = λ m. l.second m ∙ sym level;
      quiet = λ k below.
          let low : k < back = omega (arith, below, level) in
          subst (λ es. IsQuiet (literals es) lits) (sym (ap (up_to k) entries ∙ up_to_twice k back t.entries (omega (arith, low)))) (learnt_quiet known t notes.levels.items lits line back k l leveled low);
      alone = λ e. level ∙ l.alone e;
    }

pub known_push : (cnf : Clauses) (log : List Step) (line : Step) → known_by cnf (log ++ line ∷ []) ≡ known_by cnf log ++ line.clause ∷ []
known_push cnf log line = ap (λ cs. cnf.clauses ++ cs) (map-append (λ (s : Step). s.clause) log (line ∷ [])) ∙ sym (append_assoc cnf.clauses (clauses_of log) (line.clause ∷ []))

-- the log stays one of the search
pub logged_push : (cnf : Clauses) (log : List Step) (t : TrailState) (table lits : List ℕ) (line : Step) → IsLogged cnf log → t.vars ≡ cnf.vars
    → IsAsserting (known_by cnf log) t table line lits → HintsFit line → IsLogged cnf (log ++ line ∷ [])
logged_push cnf log t table lits line g vars a fit = record {
  valid = valid_push cnf.clauses log line g.valid a.follows;
  fresh = each_line-append is_new cnf.clauses log (line ∷ []) ∙ and_from (fresh cnf.clauses log) _ g.fresh (and_from (is_new (known_by cnf log) line) _ a.is_new refl);
  none_empty = All-push (λ (s : Step). s.clause ≢ []) log line g.none_empty
      (λ e. false≢true (ap (λ cl. has cl (get_or lits 0 0)) (sym e) ∙ a.same (get_or lits 0 0) ∙ place_has lits 0 0 a.some));
  lines = All-push (IsLine cnf.vars) log line g.lines (line_follows cnf.vars (known_by cnf log) line a.follows (subst (λ v. IsClause v line.clause) vars a.clause) fit);
}

-- one entry more at the present level, under which the old ones stay quiet
quiet_pushed : (clauses : List (List ℕ)) (t t' : TrailState) (e : Entry) → t'.entries ≡ t.entries ++ e ∷ [] → t'.level ≡ t.level → e.level ≡ t.level → AreQuietBelow clauses t → AreQuietBelow clauses t'
quiet_pushed clauses t t' e entries level at q k below =
    let under : k < t.level = omega (arith, below, level) in
    let same : up_to k t'.entries ≡ up_to k t.entries =
    ap (up_to k) entries ∙ up_to_more k t.entries (e ∷ []) (All-cons (λ (x : Entry). k < x.level) e [] (omega (arith, under, at)) (All-nil (λ (x : Entry). k < x.level))) in
    subst (λ es. All (IsQuiet (literals es)) clauses) (sym same) (q k under)

backed_all : (known more : List (List ℕ)) (clauses more' : List (List ℕ)) (units : List ℕ) (entries : List Entry) → AreBacked known clauses units entries → AreBacked (known ++ more) (clauses ++ more') units entries
backed_all known more clauses more' units entries b i d lt = backed_known known more clauses more' units (take i entries) (get_or entries i d) (b i d lt)

numbered_push : (known : List (List ℕ)) (clauses : List (List ℕ)) (numbers : List ℕ) (line lits : List ℕ) (number : ℕ) → length numbers ≡ length clauses → AreNumbered known clauses numbers → IsNumberOf (known ++ line ∷ []) lits number
    → AreNumbered (known ++ line ∷ []) (clauses ++ lits ∷ []) (numbers ++ number ∷ [])
numbered_push known clauses numbers line lits number size all new c l = elim (cases_lt c (length clauses)) [
  | inl old ↦
      subst (λ cl. IsNumberOf (known ++ line ∷ []) cl (get_or (numbers ++ number ∷ []) c 0)) (sym (get_or_append_left clauses (lits ∷ []) [] c old))
      (subst (IsNumberOf (known ++ line ∷ []) (get_or clauses c [])) (sym (get_or_append_left numbers (number ∷ []) 0 c (omega (arith, old, size)))) (number_more known (line ∷ []) (get_or clauses c []) (get_or numbers c 0) (all c old)))
  | inr at ↦
      let is : length clauses ≡ c = omega (arith, l, at, length_push clauses lits) in
      subst (λ cl. IsNumberOf (known ++ line ∷ []) cl (get_or (numbers ++ number ∷ []) c 0)) (sym (get_or_push clauses lits [] c is))
      (subst (IsNumberOf (known ++ line ∷ []) lits) (sym (get_or_push numbers number 0 c (size ∙ is))) new)
]

-- the first literal is true now, at the level at which the second one became false
pub can_pair : (known : List (List ℕ)) (t t' : TrailState) (table lits : List ℕ) (line : Step) (e : Entry) → IsSound t → AreLeveled table t.entries → IsAsserting known t table line lits → 1 < length lits
    → t'.entries ≡ t.entries ++ e ∷ [] → t'.passed ≡ t.passed → e.lit ≡ get_or lits 0 0 → e.level ≡ t.level → CanPair t' (get_or lits 0 0) (get_or lits 1 0)
can_pair known t t' table lits line e s leveled a many entries passed first at =
    let count : length (literals t.entries) ≡ length t.entries = length-map t.entries (λ (x : Entry). x.lit) in
    let count' : length (levels t.entries) ≡ length t.entries = length-map t.entries (λ (x : Entry). x.level) in
    let lits_are : literals t'.entries ≡ literals t.entries ++ e.lit ∷ [] = ap literals entries ∙ map-append (λ (x : Entry). x.lit) t.entries (e ∷ []) in
    let levels_are : levels t'.entries ≡ levels t.entries ++ e.level ∷ [] = ap levels entries ∙ map-append (λ (x : Entry). x.level) t.entries (e ∷ []) in
    record {
      one = λ i lt is.
          let here : i < length (literals t.entries) = omega (arith, lt, passed, s.within, count) in
          let old : get_or (literals t.entries) i 0 ≡ negated (get_or lits 0 0) = sym (get_or_append_left (literals t.entries) (e.lit ∷ []) 0 i here) ∙ ap (λ ls. get_or ls i 0) (sym lits_are) ∙ is in
          absurd (let on : is_true (literals t.entries) (negated (get_or lits 0 0)) ≡ true = ap (is_true (literals t.entries)) (sym old) ∙ place_true (literals t.entries) i here in false≢true (sym a.first.1 ∙ on));
      other = λ i lt is.
          let here : i < length t.entries = omega (arith, lt, passed, s.within) in
          let here' : i < length (literals t.entries) = omega (arith, here, count) in
          let old : get_or (literals t.entries) i 0 ≡ negated (get_or lits 1 0) = sym (get_or_append_left (literals t.entries) (e.lit ∷ []) 0 i here') ∙ ap (λ ls. get_or ls i 0) (sym lits_are) ∙ is in
          let level_is : get_or (levels t'.entries) i 0 ≡ t.level =
          ap (λ ls. get_or ls i 0) levels_are ∙ get_or_append_left (levels t.entries) (e.level ∷ []) 0 i (omega (arith, here, count')) ∙ level_at i here old ∙ a.second many in
          record {
            place = length t.entries;
            within = omega (arith, ap length lits_are, length_push (literals t.entries) e.lit, count);
            is = ap (λ ls. get_or ls (length t.entries) 0) lits_are ∙ get_or_push (literals t.entries) e.lit 0 (length t.entries) count ∙ first;
            below = omega (arith, level_is, ap (λ ls. get_or ls (length t.entries) 0) levels_are ∙ get_or_push (levels t.entries) e.level 0 (length t.entries) count', at);
          };
    }
  where
    level_at : (i : ℕ) → i < length t.entries → get_or (literals t.entries) i 0 ≡ negated (get_or lits 1 0) → get_or (levels t.entries) i 0 ≡ level_of table (get_or lits 1 0)
    level_at i here old =
        let x : Entry = get_or t.entries i e in
        let lit_is : x.lit ≡ negated (get_or lits 1 0) = sym (get_or-map (λ (y : Entry). y.lit) t.entries i e 0 here) ∙ old in
        get_or-map (λ (y : Entry). y.level) t.entries i e 0 here ∙ sym (leveled i e here) ∙ ap (λ n. get_or table (n / 2) 0) lit_is ∙ ap (λ k. get_or table k 0) (negated-half (get_or lits 1 0))

-- a line with two literals at least is taken up, and its first one is true by it
pub running_held_many : (known : List (List ℕ)) (w w' : WatchState) (t t' : TrailState) (notes new : Notes) (values values' : List Bool) (line : Step) (lits : List ℕ) (number : ℕ) → IsRunning known known w t notes values
    → IsAsserting known t notes.levels.items line lits → w'.vars ≡ w.vars → w'.clauses ≡ w.clauses ++ lits ∷ []
    → t' ≡ record t { entries = t.entries ++ record { lit = get_or lits 0 0; level = t.level; reason = Some (length w.clauses) } ∷ [] } → Right w' t'
    → new.numbers.items ≡ notes.numbers.items ++ number ∷ [] → new.units.items ≡ notes.units.items → length new.levels.items ≡ t'.vars + 1 → AreLeveled new.levels.items t'.entries → AreSet values' (literals t'.entries) → length values' ≡ t'.vars
    → number ≡ length known + 1 → IsRunning (known ++ line.clause ∷ []) (known ++ line.clause ∷ []) w' t' new values'
running_held_many known w w' t t' notes new values values' line lits number r a wv wc is right numbers units size leveled marked room n =
    let first = get_or lits 0 0 in
    let e : Entry = record { lit = first; level = t.level; reason = Some (length w.clauses) } in
    let entries : t'.entries ≡ t.entries ++ e ∷ [] = ap (λ (x : TrailState). x.entries) is in
    let level : t'.level ≡ t.level = ap (λ (x : TrailState). x.level) is in
    let vars : t'.vars ≡ t.vars = ap (λ (x : TrailState). x.vars) is in
    let forces : Forces (literals t.entries) (get_or (w.clauses ++ lits ∷ []) (length w.clauses) []) first =
    subst (λ cl. Forces (literals t.entries) cl first) (sym (get_or_push w.clauses lits [] (length w.clauses) refl)) (record { inside = place_has lits 0 0 a.some; unset = a.first; others = a.others }) in
    let backed : AreBacked (known ++ line.clause ∷ []) (w.clauses ++ lits ∷ []) notes.units.items (t.entries ++ e ∷ []) =
    backed_push (known ++ line.clause ∷ []) (w.clauses ++ lits ∷ []) notes.units.items t.entries e (backed_all known (line.clause ∷ []) w.clauses (lits ∷ []) notes.units.items t.entries r.noted.backed)
    ((omega (arith, length_push w.clauses lits), forces)) in
    let held : AreHeld (known ++ line.clause ∷ []) (w.clauses ++ lits ∷ []) (t.entries ++ e ∷ []) =
    held_push known (w.clauses ++ lits ∷ []) (t.entries ++ e ∷ []) line.clause (held_more known w.clauses (lits ∷ []) t.entries (e ∷ []) r.held)
    (inl (record { place = length w.clauses; within = omega (arith, length_push w.clauses lits); same = λ lit. ap (λ cl. has cl lit) (get_or_push w.clauses lits [] (length w.clauses) refl) ∙ sym (a.same lit) })) in
    record {
      noted = record {
        vars = wv ∙ r.noted.vars ∙ sym vars;
        numbers = ap length numbers ∙ length_push notes.numbers.items number ∙ ap (λ k. k + 1) r.noted.numbers ∙ sym (ap length wc ∙ length_push w.clauses lits);
        units = ap length units ∙ r.noted.units ∙ ap (λ k. k + 1) (sym vars);
        levels = size;
        numbered = subst (AreNumbered (known ++ line.clause ∷ []) w'.clauses) (sym numbers) (subst (λ cs. AreNumbered (known ++ line.clause ∷ []) cs (notes.numbers.items ++ number ∷ [])) (sym wc)
            (numbered_push known w.clauses notes.numbers.items line.clause lits number r.noted.numbers r.noted.numbered (number_new known lits line.clause number n a.same)));
        leveled = leveled;
        backed = subst (λ us. AreBacked (known ++ line.clause ∷ []) w'.clauses us t'.entries) (sym units)
            (subst (AreBacked (known ++ line.clause ∷ []) w'.clauses notes.units.items) (sym entries) (subst (λ cs. AreBacked (known ++ line.clause ∷ []) cs notes.units.items (t.entries ++ e ∷ [])) (sym wc) backed));
      };
      held = subst (AreHeld (known ++ line.clause ∷ []) w'.clauses) (sym entries) (subst (λ cs. AreHeld (known ++ line.clause ∷ []) cs (t.entries ++ e ∷ [])) (sym wc) held);
      quiet = subst (λ cs. AreQuietBelow cs t') (sym wc) (quiet_pushed (w.clauses ++ lits ∷ []) t t' e entries level refl
          (λ k below. All-push (IsQuiet (literals (up_to k t.entries))) w.clauses lits (r.quiet k below) (a.quiet k below)));
      right = right;
      marked = marked;
      room = room;
    }

-- a line with one literal is taken up, which is true at level 0
pub running_held_one : (known : List (List ℕ)) (w : WatchState) (t t' : TrailState) (notes new : Notes) (values values' : List Bool) (line : Step) (lits : List ℕ) (number : ℕ) → IsRunning known known w t notes values
    → IsAsserting known t notes.levels.items line lits → length lits ≡ 1
    → t' ≡ record t { entries = t.entries ++ record { lit = get_or lits 0 0; level = t.level; reason = None } ∷ [] } → Right w t'
    → new.numbers.items ≡ notes.numbers.items → new.units.items ≡ set notes.units.items (get_or lits 0 0 / 2) number → length new.levels.items ≡ t'.vars + 1 → AreLeveled new.levels.items t'.entries → AreSet values' (literals t'.entries)
    → length values' ≡ t'.vars → number ≡ length known + 1 → IsRunning (known ++ line.clause ∷ []) (known ++ line.clause ∷ []) w t' new values'
running_held_one known w t t' notes new values values' line lits number r a one is right numbers units size leveled marked room n =
    let first = get_or lits 0 0 in
    let e : Entry = record { lit = first; level = t.level; reason = None } in
    let entries : t'.entries ≡ t.entries ++ e ∷ [] = ap (λ (x : TrailState). x.entries) is in
    let level : t'.level ≡ t.level = ap (λ (x : TrailState). x.level) is in
    let vars : t'.vars ≡ t.vars = ap (λ (x : TrailState). x.vars) is in
    let root : t.level ≡ 0 = a.alone one in
    let single : (lit : ℕ) → has line.clause lit ≡ has (first ∷ []) lit = λ lit. a.same lit ∙ ap (λ ls. has ls lit) (only_one lits one) in
    let over : IsOver t.vars first = over_first lits a.some a.over in
    let unit : IsNumberOf (known ++ line.clause ∷ []) (first ∷ []) (get_or (set notes.units.items (first / 2) number) (first / 2) 0) =
    subst (IsNumberOf (known ++ line.clause ∷ []) (first ∷ [])) (sym (get_or-set_same notes.units.items (first / 2) number 0 (omega (arith, over, r.noted.units)))) (number_new known (first ∷ []) line.clause number n single) in
    let widened : (i : ℕ) (d : Entry) → i < length t.entries → IsBacked (known ++ line.clause ∷ []) w.clauses (set notes.units.items (first / 2) number) (take i t.entries) (get_or t.entries i d) =
    subst (λ cs. AreBacked (known ++ line.clause ∷ []) cs (set notes.units.items (first / 2) number) t.entries) (append-nil w.clauses)
    (backed_all known (line.clause ∷ []) w.clauses [] (set notes.units.items (first / 2) number) t.entries (backed_units known w.clauses notes.units.items t.entries first number a.first r.noted.backed)) in
    let backed : AreBacked (known ++ line.clause ∷ []) w.clauses (set notes.units.items (first / 2) number) (t.entries ++ e ∷ []) =
    backed_push (known ++ line.clause ∷ []) w.clauses (set notes.units.items (first / 2) number) t.entries e widened (inl (record { root = root; number = unit })) in
    let at_root : up_to 0 (t.entries ++ e ∷ []) ≡ up_to 0 t.entries ++ e ∷ [] = up_to-append 0 t.entries (e ∷ []) ∙ ap (λ xs. up_to 0 t.entries ++ xs) (low_one e root) in
    let held : AreHeld (known ++ line.clause ∷ []) w.clauses (t.entries ++ e ∷ []) =
    held_push known w.clauses (t.entries ++ e ∷ []) line.clause (subst (λ cs. AreHeld known cs (t.entries ++ e ∷ [])) (append-nil w.clauses) (held_more known w.clauses [] t.entries (e ∷ []) r.held))
    (inr (record {
      lit = first;
      inside = single first ∙ front_has first [];
      only = λ other h. sym (equal first other (let g : has (first ∷ []) other ≡ true = sym (single other) ∙ h in grind (arith, g)));
      root = ap (λ es. is_true (literals es) first) at_root ∙ ap (λ ls. is_true ls first) (map-append (λ (x : Entry). x.lit) (up_to 0 t.entries) (e ∷ [])) ∙ is_true-append (literals (up_to 0 t.entries)) (first ∷ []) first
          ∙ or_right (is_true (literals (up_to 0 t.entries)) first) _ (front_has first []);
    })) in
    record {
      noted = record {
        vars = r.noted.vars ∙ sym vars;
        numbers = ap length numbers ∙ r.noted.numbers;
        units = ap length units ∙ length-set notes.units.items (first / 2) number ∙ r.noted.units ∙ ap (λ k. k + 1) (sym vars);
        levels = size;
        numbered = subst (AreNumbered (known ++ line.clause ∷ []) w.clauses) (sym numbers) (λ c l. number_more known (line.clause ∷ []) (get_or w.clauses c []) (get_or notes.numbers.items c 0) (r.noted.numbered c l));
        leveled = leveled;
        backed = subst (λ us. AreBacked (known ++ line.clause ∷ []) w.clauses us t'.entries) (sym units) (subst (AreBacked (known ++ line.clause ∷ []) w.clauses (set notes.units.items (first / 2) number)) (sym entries) backed);
      };
      held = subst (AreHeld (known ++ line.clause ∷ []) w.clauses) (sym entries) held;
      quiet = quiet_pushed w.clauses t t' e entries level refl r.quiet;
      right = right;
      marked = marked;
      room = room;
    }
  where
    only_one : (xs : List ℕ) → length xs ≡ 1 → xs ≡ get_or xs 0 0 ∷ []
    only_one [] h = absurd (omega arith)
    only_one (x ∷ xs) h = ap (λ ys. x ∷ ys) (nil_from_length xs (omega arith))

    over_first : (xs : List ℕ) → 0 < length xs → All (IsOver t.vars) xs → IsOver t.vars (get_or xs 0 0)
    over_first xs l o = o 0 0 l

    low_one : (e : Entry) → e.level ≡ 0 → up_to 0 (e ∷ []) ≡ e ∷ []
    low_one e h = let low : nat_le e.level 0 ≡ true = le-leb e.level 0 (omega arith) in rw low refl

-- the entries before one more
pub front_same : (t t' : TrailState) (e : Entry) (from : ℕ) → t'.entries ≡ t.entries ++ e ∷ [] → from ≡ length t.entries → take from t'.entries ≡ t.entries
front_same t t' e from is at = ap (λ k. take k t'.entries) at ∙ ap (take (length t.entries)) is ∙ take_at t.entries (e ∷ []) (length t.entries) refl

-- the variable of a false literal has a value
pub false_value : (trues : List ℕ) (lit : ℕ) → is_true trues (negated lit) ≡ true → has_value trues (lit / 2) ≡ true
false_value trues lit h = elim (halves lit) [
  | inl even ↦ or_right (is_true trues (2 * (lit / 2))) _ (let q : 2 * (lit / 2) + 1 ≡ negated lit = omega (arith, even.0, even.1) in ap (is_true trues) q ∙ h)
  | inr odd ↦ or_left (is_true trues (2 * (lit / 2))) _ (let q : 2 * (lit / 2) ≡ negated lit = omega (arith, odd.0, odd.1) in ap (is_true trues) q ∙ h)
]

-- so none of what was visited is free
pub visited_set : (t : TrailState) (values : List Bool) (marks : List ℕ) → IsSound t → AreSet values (literals t.entries) → IsFalse (literals t.entries) marks → (lit : ℕ) → has marks lit ≡ true → IsOver t.vars lit × (is_free values (lit / 2) ≡ false)
visited_set t values marks s set f lit h =
    let over : IsOver t.vars lit = subst (IsOver t.vars) (negated-negated lit) (over_negated t.vars (negated lit) (over_has t.vars (literals t.entries) (negated lit) s.over (f lit h))) in
    (over, not_from_true (get_or values (lit / 2 - 1) false) (set (lit / 2) over.0 ∙ false_value (literals t.entries) lit (f lit h)))

pub asserting_same : (known known' : List (List ℕ)) (t : TrailState) (table table' : List ℕ) (line : Step) (lits lits' : List ℕ) → known' ≡ known → table' ≡ table → lits' ≡ lits → IsAsserting known t table line lits → IsAsserting known' t table' line lits'
asserting_same known known' t table table' line lits lits' k ta li a =
    subst (λ x. IsAsserting x t table' line lits') (sym k) (subst (λ x. IsAsserting known t x line lits') (sym ta) (subst (λ x. IsAsserting known t table line x) (sym li) a))
