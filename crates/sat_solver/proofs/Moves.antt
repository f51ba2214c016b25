-- What a search keeps by propagation, a decision and going back.
use Rattle.std.proofs.Common.{◌≡◌, ℕ, ◌+◌, ◌-◌, ◌*◌, ◌<◌, ◌≤◌, Bool, true, false, None, List, [], ◌∷◌, ◌++◌, length, get_or, refl, sym, ap, ◌∙◌, subst, inl, inr, arith, All}
use Rattle.std.proofs.lemmas.Bool.{or_cases, or_left, or_right, cases_lt, not-false, not_from_true}
use Rattle.std.proofs.lemmas.List.{append-nil, map-append, get_or-map, length-map}
use Rattle.std.proofs.lemmas.List.Elements.{All-cons, All-nil, All-weaker}
use Rattle.sat_order.specs.Order.{Order}
use Rattle.sat_watch.specs.declared.trail.Entry.{Entry}
use Rattle.cnf_core.specs.Trues.{is_true}
use Rattle.sat_watch.specs.Propagation.{IsQuiet, Grows}
use Rattle.sat_watch.specs.Trail.{TrailState, literals, levels, up_to, IsSound}
use Rattle.sat_watch.specs.Watching.{WatchState, Right}
use Rattle.sat_watch.proofs.LiteralLemmas.{is_true-append}
use Rattle.sat_watch.proofs.TrailLemmas.{up_to_all}
use Rattle.sat_watch.proofs.VisitLemmas.{rises_below}
use Rattle.sat_analysis.specs.Noted.{IsNoted}
use Rattle.sat_analysis.specs.declared.notes.Notes.{Notes}
use Rattle.sat_analysis.specs.Reasons.{AreNumbered, IsDecision, AreBacked}
use Rattle.sat_analysis.specs.Walk.{AreLeveled}
use Rattle.sat_solver.specs.Search.{AreHeld, has_value, AreSet, IsRunning}
use Rattle.sat_solver.specs.Queued.{IsQueued}
use Rattle.sat_solver.proofs.Running.{up_to_more, up_to_twice, backed_front, backed_push, backed_forced, forced_present, held_more, held_back}
use Rattle.sat_solver.proofs.TableLemmas.{before_holds}

-- The notes are others, but for the numbers and the units, and fit the trail.
pub record AreFit (t : TrailState) (notes new : Notes) (values : List Bool) : Type 0 where
  pub numbers : new.numbers.items ≡ notes.numbers.items
  pub units : new.units.items ≡ notes.units.items
  pub size : length new.levels.items ≡ t.vars + 1
  pub leveled : AreLeveled new.levels.items t.entries
  pub marked : AreSet values (literals t.entries)
  pub room : length values ≡ t.vars

noted_by : (known : List (List ℕ)) (w w' : WatchState) (t t' : TrailState) (notes new : Notes) (values : List Bool) → IsNoted known w t notes → w'.vars ≡ w.vars → w'.clauses ≡ w.clauses → t'.vars ≡ t.vars
    → AreFit t' notes new values → AreBacked known w'.clauses notes.units.items t'.entries → IsNoted known w' t' new
noted_by known w w' t t' notes new values n wv wc tv f b = record {
  vars = wv ∙ n.vars ∙ sym tv;
  numbers = ap length f.numbers ∙ n.numbers ∙ ap length (sym wc);
  units = ap length f.units ∙ n.units ∙ ap (λ v. v + 1) (sym tv);
  levels = f.size;
  numbered = subst (AreNumbered known w'.clauses) (sym f.numbers) (subst (λ cs. AreNumbered known cs notes.numbers.items) (sym wc) n.numbered);
  leveled = f.leveled;
  backed = subst (λ us. AreBacked known w'.clauses us t'.entries) (sym f.units) b;
}

-- forced entries come behind
pub running_grown : (known done : List (List ℕ)) (w w' : WatchState) (t t' : TrailState) (notes new : Notes) (values values' : List Bool) → IsRunning known done w t notes values → w'.vars ≡ w.vars → w'.clauses ≡ w.clauses
    → Grows w'.clauses t t' → Right w' t' → AreFit t' notes new values' → IsRunning known done w' t' new values'
running_grown known done w w' t t' notes new values values' r wv wc g right f =
    let present : All (λ (e : Entry). e.level ≡ t.level) g.added = forced_present w'.clauses (literals t.entries) t.level g.added g.forced in
    record {
      noted = noted_by known w w' t t' notes new values' r.noted wv wc g.vars f
          (subst (AreBacked known w'.clauses notes.units.items) (sym g.is)
          (backed_forced known w'.clauses notes.units.items t.entries g.added t.level (subst (λ cs. AreBacked known cs notes.units.items t.entries) (sym wc) r.noted.backed) g.forced));
      held = subst (AreHeld done w'.clauses) (sym g.is)
          (subst (λ cs. AreHeld done cs (t.entries ++ g.added)) (append-nil w'.clauses) (held_more done w'.clauses [] t.entries g.added (subst (λ cs. AreHeld done cs t.entries) (sym wc) r.held)));
      quiet = λ level below.
          let under : level < t.level = omega (arith, below, g.level) in
          let same : up_to level t'.entries ≡ up_to level t.entries =
          ap (up_to level) g.is ∙ up_to_more level t.entries g.added (All-weaker (λ (e : Entry). e.level ≡ t.level) (λ (e : Entry). level < e.level) (λ e q. omega (arith, under, q)) g.added present) in
          subst (λ es. All (IsQuiet (literals es)) w'.clauses) (sym same) (subst (All (IsQuiet (literals (up_to level t.entries)))) (sym wc) (r.quiet level under));
      right = right;
      marked = f.marked;
      room = f.room;
    }

-- no level is above the present one
pub levels_within : (t : TrailState) → IsSound t → All (λ (e : Entry). e.level ≤ t.level) t.entries
levels_within t s k d l =
    let count : length (levels t.entries) ≡ length t.entries = length-map t.entries (λ (x : Entry). x.level) in
    subst (λ n. n ≤ t.level) (get_or-map (λ (x : Entry). x.level) t.entries k d 0 l) (rises_below 0 t.level (levels t.entries) k s.rises (omega (arith, l)))

-- a level is opened
pub running_decided : (known done : List (List ℕ)) (w : WatchState) (t t' : TrailState) (notes new : Notes) (values values' : List Bool) (lit : ℕ) → IsRunning known done w t notes values → IsSound t
    → All (IsQuiet (literals t.entries)) w.clauses → t' ≡ record t { entries = t.entries ++ record { lit = lit; level = t.level + 1; reason = None } ∷ []; level = t.level + 1 } → Right w t' → AreFit t' notes new values'
    → IsRunning known done w t' new values'
running_decided known done w t t' notes new values values' lit r s q is right f =
    let e : Entry = record { lit = lit; level = t.level + 1; reason = None } in
    let entries : t'.entries ≡ t.entries ++ e ∷ [] = ap (λ (x : TrailState). x.entries) is in
    let level : t'.level ≡ t.level + 1 = ap (λ (x : TrailState). x.level) is in
    let vars : t'.vars ≡ t.vars = ap (λ (x : TrailState). x.vars) is in
    let decision : IsDecision t.entries e = record { above = omega arith; opens = All-weaker (λ (x : Entry). x.level ≤ t.level) (λ (x : Entry). x.level < t.level + 1) (λ x h. omega (arith, h)) t.entries (levels_within t s) } in
    record {
      noted = noted_by known w w t t' notes new values' r.noted refl refl vars f
          (subst (AreBacked known w.clauses notes.units.items) (sym entries) (backed_push known w.clauses notes.units.items t.entries e r.noted.backed (inr decision)));
      held = subst (AreHeld done w.clauses) (sym entries)
          (subst (λ cs. AreHeld done cs (t.entries ++ e ∷ [])) (append-nil w.clauses) (held_more done w.clauses [] t.entries (e ∷ []) r.held));
      quiet = λ k below.
          let under : k < t.level + 1 = omega (arith, below, level) in
          let same : up_to k t'.entries ≡ up_to k t.entries =
          ap (up_to k) entries ∙ up_to_more k t.entries (e ∷ []) (All-cons (λ (x : Entry). k < x.level) e [] under (All-nil (λ (x : Entry). k < x.level))) in
          subst (λ es. All (IsQuiet (literals es)) w.clauses) (sym same) (elim (cases_lt k t.level) [
            | inl low ↦ r.quiet k low
            | inr top ↦ subst (λ es. All (IsQuiet (literals es)) w.clauses) (sym (up_to_all 0 t.level k t.entries s.rises top)) q
          ]);
      right = right;
      marked = f.marked;
      room = f.room;
    }

-- the entries above a level go
pub running_back : (known done : List (List ℕ)) (w : WatchState) (t t' : TrailState) (notes : Notes) (values values' : List Bool) (level : ℕ) (rest : List Entry) → IsRunning known done w t notes values
    → t'.entries ≡ up_to level t.entries → t.entries ≡ t'.entries ++ rest → t'.level ≡ level → t'.vars ≡ t.vars → level ≤ t.level → Right w t' → AreLeveled notes.levels.items t'.entries → AreSet values' (literals t'.entries) → length values' ≡ t.vars
    → IsRunning known done w t' notes values'
running_back known done w t t' notes values values' level rest r entries split at vars below right leveled marked room =
    record {
      noted = noted_by known w w t t' notes notes values' r.noted refl refl vars
          (record { numbers = refl; units = refl; size = r.noted.levels ∙ ap (λ v. v + 1) (sym vars); leveled = leveled; marked = marked; room = room ∙ sym vars })
          (backed_front known w.clauses notes.units.items t.entries t'.entries rest split r.noted.backed);
      held = subst (AreHeld done w.clauses) (sym entries) (held_back done w.clauses t.entries level r.held);
      quiet = λ k under.
          let low : k < level = omega (arith, under, at) in
          let same : up_to k t'.entries ≡ up_to k t.entries = ap (up_to k) entries ∙ up_to_twice k level t.entries (omega (arith, low)) in
          subst (λ es. All (IsQuiet (literals es)) w.clauses) (sym same) (r.quiet k (omega (arith, low, below)));
      right = right;
      marked = marked;
      room = room ∙ sym vars;
    }

-- who had a value still has one
pub value_more : (xs ys : List ℕ) (var : ℕ) → has_value xs var ≡ true → has_value (xs ++ ys) var ≡ true
value_more xs ys var h = elim (or_cases (is_true xs (2 * var)) (is_true xs (2 * var + 1)) h) [
  | inl a ↦ or_left (is_true (xs ++ ys) (2 * var)) _ (is_true-append xs ys (2 * var) ∙ or_left _ (is_true ys (2 * var)) a)
  | inr b ↦ or_right (is_true (xs ++ ys) (2 * var)) _ (is_true-append xs ys (2 * var + 1) ∙ or_left _ (is_true ys (2 * var + 1)) b)
]

pub queued_more : (vars : ℕ) (queue : Order) (values values' : List Bool) (entries added : List Entry) → IsQueued vars queue values → AreSet values (literals entries) → AreSet values' (literals (entries ++ added))
    → IsQueued vars queue values'
queued_more vars queue values values' entries added q a b = record {
  order = q.order;
  all = q.all;
  passed = λ var h.
      let positive : 0 < var = ((q.order.each var).0 (before_holds queue.cursor queue.vars var h)).0 in
      let was : has_value (literals entries) var ≡ true = sym (a var positive) ∙ not-false (get_or values (var - 1) false) (q.passed var h) in
      let now : has_value (literals (entries ++ added)) var ≡ true = ap (λ ls. has_value ls var) (map-append (λ (x : Entry). x.lit) entries added) ∙ value_more (literals entries) (literals added) var was in
      not_from_true (get_or values' (var - 1) false) (b var positive ∙ now);
}
