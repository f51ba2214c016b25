use Rattle.std.proofs.Common.{◌≤◌, length, map, ap, sym, ◌∙◌, arith}
use Rattle.std.proofs.lemmas.List.{drop_all}
use Rattle.java_tree.specs.Seen.{part_tree}
use Rattle.typed_core.specs.Members.{counted_parts}
use Rattle.typed_core.specs.Reported.{parts_told}
use Rattle.typed_core.proofs.Parts.{told-parts}
use Rattle.typed_core.proofs.members.all_members.Goals as goal

pub returns : goal.returns
returns c =
    let past : length c.args.trees.now ≤ c.loop-tree.tree-index = omega arith in
    let none_left = drop_all c.loop-tree.tree-index c.args.trees.now past in (
      sym (ap (λ ps. parts_told c.args.world.now c.args.owner c.args.default c.loop-tree.so_far c.loop-tree.done (map part_tree ps)) none_left)
          ∙ c.loop-tree.invariant.0
          ∙ sym (told-parts c.args.world.now c.args.owner c.args.default c.args.counts (map part_tree c.args.trees.now)),
      sym (ap (λ ps. counted_parts c.loop-tree.so_far (map part_tree ps)) none_left) ∙ c.loop-tree.invariant.1,
    )
