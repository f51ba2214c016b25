use Rattle.std.proofs.Common.{◌≡◌, ◌+◌, true, false, cond, take, subst, sym, ap, ◌∙◌, arith, ◌∷◌, [], ◌++◌}
use Rattle.std.proofs.lemmas.List.{take_more}
use Rattle.sat_analysis.specs.Walk.{Adds}
use Rattle.sat_analysis.proofs.Marking.{adds_more}
use Rattle.sat_analysis.proofs.walk.mark_clause.Goals as goal
use Rattle.sat_analysis.proofs.walk.mark_clause.Goals.{then-branch, else-branch}

pub loop-lit-preserved : goal.loop-lit-preserved
loop-lit-preserved c =
    let lit = c.lit-item.result in
    let front : take (c.loop-lit.lit-index + 1) c.args.clause.now ≡ take c.loop-lit.lit-index c.args.clause.now ++ lit ∷ [] =
    take_more c.args.clause.now c.loop-lit.lit-index lit c.loop-lit-test.true ∙ ap (λ x. take c.loop-lit.lit-index c.args.clause.now ++ x ∷ []) (sym c.lit-item.is) in
    let more = adds_more c.args.levels.now (take c.loop-lit.lit-index c.args.clause.now) c.args.implied.now c.args.level c.args.marks.now.lits c.loop-lit.marks.lits c.mark_literal.new.marks.lits
    c.loop-lit.count lit c.in_ok-mark_literal.field-0 c.loop-lit.invariant.adds c.in_ok-mark_literal.ensures.lits c.in_ok-mark_literal.ensures.counts in
    let count : c.if-branch.count ≡ cond c.in_ok-mark_literal.field-0 (c.loop-lit.count + 1) c.loop-lit.count = elim c.if-branch.branch [
      | then-branch w ↦ let yes : c.in_ok-mark_literal.field-0 ≡ true = w.if-branch.true in rw yes w.count-is
      | else-branch w ↦ let no : c.in_ok-mark_literal.field-0 ≡ false = w.if-branch.false in rw no w.count-is
    ] in
    record {
      places = c.in_ok-mark_literal.ensures.places ∙ c.loop-lit.invariant.places;
      once = c.in_ok-mark_literal.ensures.once;
      few = elim c.if-branch.branch [ then-branch w ↦ omega (arith, w.count-is, c.loop-lit.invariant.few) | else-branch w ↦ omega (arith, w.count-is, c.loop-lit.invariant.few) ];
      adds = subst (λ cl. Adds c.args.levels.now cl c.args.implied.now c.args.level c.args.marks.now.lits c.mark_literal.new.marks.lits c.if-branch.count) (sym front)
          (subst (Adds c.args.levels.now (take c.loop-lit.lit-index c.args.clause.now ++ lit ∷ []) c.args.implied.now c.args.level c.args.marks.now.lits c.mark_literal.new.marks.lits) (sym count) more);
    }
