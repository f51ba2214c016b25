use Rattle.std.proofs.Common.{◌≤◌, length, map, ap, sym, ◌∙◌, arith}
use Rattle.std.proofs.lemmas.List.{drop_all}
use Rattle.java_tree.specs.Seen.{class_tree}
use Rattle.typed_core.specs.Members.{no_counts}
use Rattle.typed_core.specs.Reported.{classes_told}
use Rattle.typed_core.proofs.Parts.{told-classes}
use Rattle.typed_core.proofs.classes.classes.Goals as goal

pub returns : goal.returns
returns c =
    let past : length c.args.trees.now ≤ c.loop-tree.tree-index = omega arith in
    sym (ap (λ cs. classes_told c.args.world.now c.loop-tree.number c.loop-tree.counts c.loop-tree.done (map class_tree cs)) (drop_all c.loop-tree.tree-index c.args.trees.now past))
    ∙ c.loop-tree.invariant
    ∙ sym (told-classes c.args.world.now 0 no_counts (map class_tree c.args.trees.now))
