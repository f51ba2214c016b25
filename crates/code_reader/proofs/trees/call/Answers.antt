use Rattle.java_tree.proofs.Rows.{java_call}
use Rattle.code_reader.proofs.trees.call.Goals as goal

pub returns : goal.returns
returns c = java_call _ _ _
