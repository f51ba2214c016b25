use Rattle.std.proofs.Common.{◌≡◌, ◌++◌, map}
use Rattle.java_tree.specs.Trees.{field}
use Rattle.java_tree.specs.Seen.{part_tree}
use Rattle.java_reader.proofs.classes.push_fields.Given as goal

abbrev pub invariant-loop-name : goal.invariant-loop-name
invariant-loop-name l = map part_tree l.members.items ≡ map part_tree l.initial.members.items ++ map (field l.mods l.kind) l.yielded
