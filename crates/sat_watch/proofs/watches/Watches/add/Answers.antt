use Rattle.std.proofs.Common.{◌≡◌, ◌+◌, ℕ, length, ap, subst, sym, refl, ◌∙◌, arith, ◌++◌, ◌∷◌, [], append_assoc, get_or, ◌≤◌, ◌*◌}
use Rattle.std.proofs.lemmas.List.{get_or_past}
use Rattle.sat_watch.specs.Threads.{CanWatch}
use Rattle.sat_watch.specs.Visit.{state}
use Rattle.sat_watch.specs.Watching.{Right, RightBut}
use Rattle.sat_watch.proofs.RightLemmas.{right_added, get_two}
use Rattle.sat_watch.proofs.WatchLemmas.{watches_more}
use Rattle.sat_watch.proofs.watches.Watches.add.Goals as goal

pub invariant_of-self-2 : goal.invariant_of-self-2
invariant_of-self-2 c =
    let pushed : c.push_clause.new.self ≡ record c.self.inside.clauses { clauses = c.self.inside.clauses.clauses ++ c.args.lits.now ∷ [] } = c.in_ok-push_clause.ensures.ok in
    let can : CanWatch c.self.inside.clauses.vars c.args.lits.now = subst (λ w. CanWatch w.vars c.args.lits.now) (sym c.self.view_is) c.requires in
    let links : c.push_reserved-2.new.self.items ≡ (c.self.inside.links.items ++ 0 ∷ []) ++ 0 ∷ [] =
    c.push_reserved-2.ensures.items ∙ ap (λ xs. xs ++ 0 ∷ []) c.push_reserved.ensures.items ∙ ap (λ xs. (xs ++ 0 ∷ []) ++ 0 ∷ []) c.reserve.ensures.items in
    let watched : c.push_reserved-4.new.self.items ≡ (c.self.inside.watched.items ++ 0 ∷ []) ++ 0 ∷ [] =
    c.push_reserved-4.ensures.items ∙ ap (λ xs. xs ++ 0 ∷ []) c.push_reserved-3.ensures.items ∙ ap (λ xs. (xs ++ 0 ∷ []) ++ 0 ∷ []) c.reserve-2.ensures.items in
    rw pushed (watches_more c.self.inside.clauses.vars c.self.inside.clauses.clauses (c.self.inside.clauses.clauses ++ c.args.lits.now ∷ []) c.self.inside.links.items c.self.inside.watched.items
    c.push_reserved-2.new.self.items c.push_reserved-4.new.self.items c.args.lits.now c.self.invariant can
    (omega (arith, c.clauses-clause.ensures, c.vars.ensures.value, c.if-vars-clause-ge-MOST.false)) refl links watched)

pub returns-clause-right : goal.returns-clause-right
returns-clause-right c = λ t r.
    let pushed : c.push_clause.new.self ≡ record c.self.inside.clauses { clauses = c.self.inside.clauses.clauses ++ c.args.lits.now ∷ [] } = c.in_ok-push_clause.ensures.ok in
    let watched : c.push_reserved-4.new.self.items ≡ c.self.inside.watched.items ++ 0 ∷ 0 ∷ [] =
    c.push_reserved-4.ensures.items ∙ ap (λ xs. xs ++ 0 ∷ []) c.push_reserved-3.ensures.items ∙ ap (λ xs. (xs ++ 0 ∷ []) ++ 0 ∷ []) c.reserve-2.ensures.items ∙ append_assoc c.self.inside.watched.items (0 ∷ []) (0 ∷ []) in
    let added = right_added (state c.self.inside.clauses c.self.inside.watched.items) t c.args.lits.now (subst (λ w. Right w t) (sym c.self.view_is) r) in
    let here : RightBut (length c.self.inside.clauses.clauses) (state c.push_clause.new.self c.push_reserved-4.new.self.items) t = rw (pushed, watched) added in
    subst (λ w. RightBut (length w.clauses) (state c.push_clause.new.self c.push_reserved-4.new.self.items) t) c.self.view_is here

pub returns-clause-free : goal.returns-clause-free
returns-clause-free c =
    let watched : c.push_reserved-4.new.self.items ≡ c.self.inside.watched.items ++ 0 ∷ 0 ∷ [] =
    c.push_reserved-4.ensures.items ∙ ap (λ xs. xs ++ 0 ∷ []) c.push_reserved-3.ensures.items ∙ ap (λ xs. (xs ++ 0 ∷ []) ++ 0 ∷ []) c.reserve-2.ensures.items ∙ append_assoc c.self.inside.watched.items (0 ∷ []) (0 ∷ []) in
    let pushed : c.push_clause.new.self ≡ record c.self.inside.clauses { clauses = c.self.inside.clauses.clauses ++ c.args.lits.now ∷ [] } = c.in_ok-push_clause.ensures.ok in
    let free : (s : ℕ) → length c.self.inside.watched.items ≤ s → get_or c.push_reserved-4.new.self.items s 0 ≡ 0 =
    λ s l. ap (λ ws. get_or ws s 0) watched ∙ get_two c.self.inside.watched.items s ∙ get_or_past c.self.inside.watched.items s 0 l in
    let vars : c.push_clause.new.self.vars ≡ c.self.inside.clauses.vars = ap (λ cs. cs.vars) pushed in
    let wide : length c.self.inside.watched.items ≡ 2 * (c.self.inside.clauses.vars + 1 + length c.self.inside.clauses.clauses) = c.self.invariant.paired ∙ c.self.invariant.linked in
    (free _ (omega (arith, c.clauses-clause.ensures)), free _ (omega (arith, c.clauses-clause.ensures)))
