use Rattle.std.proofs.Common.{◌≡◌, None, [], ◌∷◌, ◌++◌, subst, ap, ◌∙◌}
use Rattle.sat_analysis.specs.Walk.{Adds}
use Rattle.sat_analysis.proofs.Marking.{adds_same}
use Rattle.sat_analysis.proofs.Steps.{at_first}
use Rattle.sat_analysis.proofs.walk.start.Goals as goal

pub returns-clause-at : goal.returns-clause-at
returns-clause-at g c =
    let adds : Adds c.args.notes.now.levels.items c.args.clause.now None c.args.trail.now.level c.args.marks.now.lits c.mark_clause.new.marks.lits c.in_ok-pending.pending =
    adds_same c.deref.result.now c.args.notes.now.levels.items c.args.clause.now c.args.clause.now None c.level.result c.args.trail.now.level c.args.marks.now.lits
    c.mark_clause.new.marks.lits c.in_ok-pending.pending c.deref.ensures.value (λ i. c.args.clause.now) c.level.ensures c.in_ok-pending.ensures.adds in
    let unmarked = c.requires.1.1.1.0 in
    let hints : c.push.new.self.items ≡ c.args.number ∷ [] = c.in_ok-push.ensures.items ∙ ap (λ xs. xs ++ c.args.number ∷ []) c.requires.1.1.1.1.0 in
    rw hints
    (at_first g.known c.args.trail.now.entries c.args.notes.now.levels.items c.args.clause.now c.mark_clause.new.marks.lits c.args.number c.args.trail.now.level c.in_ok-pending.pending
    c.requires.1.1.1.1.1.1.0 c.requires.1.1.1.1.1.1.1 c.requires.0.apart c.requires.1.1.0 c.in_ok-pending.ensures.once
    (subst (λ m. Adds c.args.notes.now.levels.items c.args.clause.now None c.args.trail.now.level m.lits c.mark_clause.new.marks.lits c.in_ok-pending.pending) unmarked adds))
