use Rattle.std.proofs.Common.{◌≤◌, length, map, ap, sym, ◌∙◌, arith}
use Rattle.std.proofs.lemmas.List.{drop_all}
use Rattle.java_tree.specs.Seen.{clause_tree}
use Rattle.typed_core.specs.Reported.{clauses_told}
use Rattle.typed_core.proofs.Parts.{told-clauses}
use Rattle.typed_core.proofs.members.clauses.Goals as goal

pub returns : goal.returns
returns c =
    let past : length c.args.spec.now ≤ c.loop-tree.tree-index = omega arith in
    sym (ap (λ cs. clauses_told c.args.world.now c.args.here.now c.loop-tree.needs c.loop-tree.gives c.loop-tree.done (map clause_tree cs)) (drop_all c.loop-tree.tree-index c.args.spec.now past))
    ∙ c.loop-tree.invariant
    ∙ sym (told-clauses c.args.world.now c.args.here.now (map clause_tree c.args.spec.now))
