use Rattle.std.proofs.Common.{◌≡◌, ◌∙◌, ℕ, List, true, length, set, refl, ap, sym, subst, arith}
use Rattle.std.proofs.lemmas.List.{get_or_read}
use Rattle.cnf_core.specs.Literal.{negated, IsOver}
use Rattle.cnf_core.specs.Trues.{is_true}
use Rattle.sat_watch.specs.Literals.{has}
use Rattle.sat_watch.specs.Trail.{TrailState, literals}
use Rattle.sat_watch.specs.Watching.{twin, clause_of, IsSet, Right}
use Rattle.sat_watch.specs.Visit.{state, read, Finds}
use Rattle.sat_watch.specs.declared.watches.propagate.Finding.TheVariants.{Stays, Moves}
use Rattle.sat_watch.proofs.WatchLemmas.{over_has}
use Rattle.sat_watch.proofs.VisitLemmas.{visit_start, visit_from, visit_turn, visit_stays, visit_moves, visit_ends, IsTurned}
use Rattle.sat_watch.proofs.watches.Watches.visit.Goals as goal

pub list-init : goal.list-init
list-init c = record {
  visit = rw c.number-previous.ensures.value
      (visit_start c.self.inside.clauses c.self.inside.links.items c.self.inside.watched.items c.args.trail.now c.args.falsified c.self.invariant
      (subst (λ w. Right w c.args.trail.now) (sym c.self.view_is) c.requires.right) c.requires.sound (c.requires.vars ∙ ap (λ w. w.vars) (sym c.self.view_is)) c.requires.within c.requires.next);
  same = refl;
}

pub index-requires : goal.index-requires
index-requires c =
    let from = visit_from c.list.self-inside.clauses c.list.self-inside.links.items c.list.self-inside.watched.items c.args.trail.now c.list.trail c.args.falsified c.list.previous c.list.invariant.visit in
    omega (arith, from)

pub index-at-requires : goal.index-at-requires
index-at-requires c =
    let from = visit_from c.list.self-inside.clauses c.list.self-inside.links.items c.list.self-inside.watched.items c.args.trail.now c.list.trail c.args.falsified c.list.previous c.list.invariant.visit in
    omega (arith, from)

-- the link is read twice, and is no end
pub look-requires-clause-watch : goal.look-requires-clause-watch
look-requires-clause-watch c =
    let from = visit_from c.list.self-inside.clauses c.list.self-inside.links.items c.list.self-inside.watched.items c.args.trail.now c.list.trail c.args.falsified c.list.previous c.list.invariant.visit in
    let again : c.index-at.result.now ≡ c.index.result.now =
    get_or_read c.list.self-inside.links.items c.list.previous c.index-at.result.now from c.index-at.ensures 0 ∙ sym (get_or_read c.list.self-inside.links.items c.list.previous c.index.result.now from c.index.ensures 0) in
    let t = visit_turn c.list.self-inside.clauses c.list.self-inside.links.items c.list.self-inside.watched.items c.args.trail.now c.list.trail c.args.falsified c.list.previous c.index-at.result.now
    c.list.invariant.visit c.index-at.ensures (λ q. c.list-test.true (sym again ∙ q)) in
    t.watch

pub look-requires-clause-set : goal.look-requires-clause-set
look-requires-clause-set c =
    let from = visit_from c.list.self-inside.clauses c.list.self-inside.links.items c.list.self-inside.watched.items c.args.trail.now c.list.trail c.args.falsified c.list.previous c.list.invariant.visit in
    let again : c.index-at.result.now ≡ c.index.result.now =
    get_or_read c.list.self-inside.links.items c.list.previous c.index-at.result.now from c.index-at.ensures 0 ∙ sym (get_or_read c.list.self-inside.links.items c.list.previous c.index.result.now from c.index.ensures 0) in
    let t = visit_turn c.list.self-inside.clauses c.list.self-inside.links.items c.list.self-inside.watched.items c.args.trail.now c.list.trail c.args.falsified c.list.previous c.index-at.result.now
    c.list.invariant.visit c.index-at.ensures (λ q. c.list-test.true (sym again ∙ q)) in
    subst (λ (ws : List ℕ). IsSet (state c.list.self-inside.clauses ws) (twin c.index-at.result.now)) (sym c.deref.ensures.value) t.twin_set

pub look-requires-clause-clause : goal.look-requires-clause-clause
look-requires-clause-clause c =
    let from = visit_from c.list.self-inside.clauses c.list.self-inside.links.items c.list.self-inside.watched.items c.args.trail.now c.list.trail c.args.falsified c.list.previous c.list.invariant.visit in
    let again : c.index-at.result.now ≡ c.index.result.now =
    get_or_read c.list.self-inside.links.items c.list.previous c.index-at.result.now from c.index-at.ensures 0 ∙ sym (get_or_read c.list.self-inside.links.items c.list.previous c.index.result.now from c.index.ensures 0) in
    let t = visit_turn c.list.self-inside.clauses c.list.self-inside.links.items c.list.self-inside.watched.items c.args.trail.now c.list.trail c.args.falsified c.list.previous c.index-at.result.now
    c.list.invariant.visit c.index-at.ensures (λ q. c.list-test.true (sym again ∙ q)) in
    t.clause

-- a watch that stays
stays : (c : goal.In-Stays) → IsTurned c.list.self-inside.clauses c.list.self-inside.links.items c.list.self-inside.watched.items c.args.trail.now c.look.new.trail c.args.falsified c.index-at.result.now
    (length (read c.list.self-inside.links.items (length c.list.self-inside.links.items) c.list.previous))
stays c =
    let from = visit_from c.list.self-inside.clauses c.list.self-inside.links.items c.list.self-inside.watched.items c.args.trail.now c.list.trail c.args.falsified c.list.previous c.list.invariant.visit in
    let again : c.index-at.result.now ≡ c.index.result.now =
    get_or_read c.list.self-inside.links.items c.list.previous c.index-at.result.now from c.index-at.ensures 0 ∙ sym (get_or_read c.list.self-inside.links.items c.list.previous c.index.result.now from c.index.ensures 0) in
    let finds : Finds c.list.self-inside.clauses c.list.self-inside.watched.items c.index-at.result.now c.list.trail c.look.new.trail Stays =
    subst (λ (ws : List ℕ). Finds c.list.self-inside.clauses ws c.index-at.result.now c.list.trail c.look.new.trail Stays) c.deref.ensures.value c.in-Stays.ensures.finds in
    visit_stays c.list.self-inside.clauses c.list.self-inside.links.items c.list.self-inside.watched.items c.args.trail.now c.list.trail c.look.new.trail c.args.falsified c.list.previous c.index-at.result.now
    c.list.invariant.visit c.index-at.ensures (λ q. c.list-test.true (sym again ∙ q)) finds.0 finds.1
    (c.in-Stays.ensures.right (state c.list.self-inside.clauses c.list.self-inside.watched.items) c.list.invariant.visit.right) c.in-Stays.ensures.sound c.in-Stays.ensures.vars c.in-Stays.ensures.passed

pub list-smaller-in-Stays : goal.list-smaller-in-Stays
list-smaller-in-Stays c = (stays c).shorter

pub list-preserved-in-Stays : goal.list-preserved-in-Stays
list-preserved-in-Stays c = record { visit = (stays c).visit; same = c.list.invariant.same }

pub rethread-requires-clause-previous_place : goal.rethread-requires-clause-previous_place
rethread-requires-clause-previous_place c =
    visit_from c.list.self-inside.clauses c.list.self-inside.links.items c.list.self-inside.watched.items c.args.trail.now c.list.trail c.args.falsified c.list.previous c.list.invariant.visit

pub rethread-requires-clause-lit_place : goal.rethread-requires-clause-lit_place
rethread-requires-clause-lit_place c =
    let from = visit_from c.list.self-inside.clauses c.list.self-inside.links.items c.list.self-inside.watched.items c.args.trail.now c.list.trail c.args.falsified c.list.previous c.list.invariant.visit in
    let again : c.index-at.result.now ≡ c.index.result.now =
    get_or_read c.list.self-inside.links.items c.list.previous c.index-at.result.now from c.index-at.ensures 0 ∙ sym (get_or_read c.list.self-inside.links.items c.list.previous c.index.result.now from c.index.ensures 0) in
    let t = visit_turn c.list.self-inside.clauses c.list.self-inside.links.items c.list.self-inside.watched.items c.args.trail.now c.list.trail c.args.falsified c.list.previous c.index-at.result.now
    c.list.invariant.visit c.index-at.ensures (λ q. c.list-test.true (sym again ∙ q)) in
    let inside : has (clause_of (state c.list.self-inside.clauses c.list.self-inside.watched.items) c.index-at.result.now) c.in-Moves.lit ≡ true = c.in-Moves.ensures.finds.1 in
    let over : IsOver c.list.self-inside.clauses.vars c.in-Moves.lit = over_has c.list.self-inside.clauses.vars _ c.in-Moves.lit t.clause.over inside in
    omega (arith, c.number.ensures.value, c.list.invariant.visit.whole.linked)

-- a watch that moves
moves : (c : goal.After-rethread) → IsTurned c.list.self-inside.clauses c.rethread.new.links.items c.rethread.new.watched.items c.args.trail.now c.look.new.trail c.args.falsified c.list.previous
    (length (read c.list.self-inside.links.items (length c.list.self-inside.links.items) c.list.previous))
moves c =
    let from = visit_from c.list.self-inside.clauses c.list.self-inside.links.items c.list.self-inside.watched.items c.args.trail.now c.list.trail c.args.falsified c.list.previous c.list.invariant.visit in
    let again : c.index-at.result.now ≡ c.index.result.now =
    get_or_read c.list.self-inside.links.items c.list.previous c.index-at.result.now from c.index-at.ensures 0 ∙ sym (get_or_read c.list.self-inside.links.items c.list.previous c.index.result.now from c.index.ensures 0) in
    let finds : Finds c.list.self-inside.clauses c.list.self-inside.watched.items c.index-at.result.now c.list.trail c.look.new.trail (Moves c.in-Moves.lit) =
    subst (λ (ws : List ℕ). Finds c.list.self-inside.clauses ws c.index-at.result.now c.list.trail c.look.new.trail (Moves c.in-Moves.lit)) c.deref.ensures.value c.in-Moves.ensures.finds in
    let turned = visit_moves c.list.self-inside.clauses c.list.self-inside.links.items c.list.self-inside.watched.items c.rethread.new.links.items c.args.trail.now c.list.trail c.args.falsified c.list.previous c.index-at.result.now c.number.result
    c.list.invariant.visit c.index-at.ensures (λ q. c.list-test.true (sym again ∙ q))
    (ap (has (clause_of (state c.list.self-inside.clauses c.list.self-inside.watched.items) c.index-at.result.now)) c.number.ensures.value ∙ finds.1)
    (λ q. finds.2 (sym c.number.ensures.value ∙ q)) (ap (λ k. is_true (literals c.list.trail.entries) (negated k)) c.number.ensures.value ∙ finds.3) c.rethread.ensures.links in
    subst (λ (ws : List ℕ). IsTurned c.list.self-inside.clauses c.rethread.new.links.items ws c.args.trail.now c.look.new.trail c.args.falsified c.list.previous
    (length (read c.list.self-inside.links.items (length c.list.self-inside.links.items) c.list.previous))) (sym c.rethread.ensures.watched)
    (subst (λ (t : TrailState). IsTurned c.list.self-inside.clauses c.rethread.new.links.items (set c.list.self-inside.watched.items c.index-at.result.now c.number.result) c.args.trail.now t c.args.falsified c.list.previous
    (length (read c.list.self-inside.links.items (length c.list.self-inside.links.items) c.list.previous))) (sym finds.0) turned)

pub list-smaller : goal.list-smaller
list-smaller c = (moves c).shorter

pub list-preserved : goal.list-preserved
list-preserved c = record { visit = (moves c).visit; same = c.list.invariant.same }

pub returns-in-Conflict-clause-clauses : goal.returns-in-Conflict-clause-clauses
returns-in-Conflict-clause-clauses c = ap (λ w. w.clauses) c.list.invariant.same ∙ ap (λ w. w.clauses) c.self.view_is

pub returns-clause-clauses : goal.returns-clause-clauses
returns-clause-clauses c = ap (λ w. w.clauses) c.list.invariant.same ∙ ap (λ w. w.clauses) c.self.view_is

pub returns-clause-none : goal.returns-clause-none
returns-clause-none c =
    let from = visit_from c.list.self-inside.clauses c.list.self-inside.links.items c.list.self-inside.watched.items c.args.trail.now c.list.trail c.args.falsified c.list.previous c.list.invariant.visit in
    visit_ends c.list.self-inside.clauses c.list.self-inside.links.items c.list.self-inside.watched.items c.args.trail.now c.list.trail c.args.falsified c.list.previous c.list.invariant.visit
    (sym (get_or_read c.list.self-inside.links.items c.list.previous c.index.result.now from c.index.ensures 0) ∙ c.list-test.false)
