-- A vector of trees, seen as a list of trees.
use Rattle.std.proofs.Common.{◌≡◌, ℕ, Vec, Box, Global, refl, ap, rules}
use Rattle.java_tree.specs.declared.expressions.JavaTree.{JavaTree}
use Rattle.java_tree.specs.declared.expressions.JavaNode.TheBlock as block
use Rattle.java_tree.specs.declared.expressions.JavaNode.TheBlock.{items-the_row-JavaTree}
use Rattle.java_tree.specs.declared.expressions.JavaNode.TheViews.{the_lemmas}
use Rattle.java_tree.specs.declared.expressions.JavaNode.TheVariants.{Call, CallOn}
use Rattle.java_tree.specs.declared.names.Ident.{Ident}
use Rattle.java_tree.specs.Seen.{java_node, java_tree, java_row, java_trees, stmt_tree, stmt_row, stmt_trees}
use Rattle.java_tree.specs.Trees.{also, call, call_on, block, next}
use Rattle.java_tree.specs.declared.statements.StmtTree.{StmtTree}
use Rattle.java_tree.specs.declared.statements.StmtTree.TheBlock as blocks
use Rattle.java_tree.specs.declared.statements.StmtTree.TheBlock.{items-the_row-StmtTree}
use Rattle.java_tree.specs.declared.statements.StmtTree.TheViews.{the_lemmas as stmt_lemmas}
use Rattle.java_tree.specs.declared.statements.StmtTree.TheVariants.{Block}
use mathlib.Core.Former.{Count}

pub java_list : {n : Count} (row : block.Row_of-JavaTree n) → java_row row ≡ java_trees (items-the_row-JavaTree n row)
java_list block.end_of-JavaTree = refl
java_list (block.more_of-JavaTree at node rest) = ap (also (java_node at node)) (java_list rest)

pub java_call : (at : ℕ) (name : Ident) (args : Vec JavaTree Global) → java_node at (Call name args) ≡ call at name (java_trees args.items)
java_call at name args = search (rules, the_lemmas, java_list)

pub java_call_on : (at : ℕ) (a : Box JavaTree Global) (name : Ident) (args : Vec JavaTree Global) → java_node at (CallOn a name args) ≡ call_on at (java_tree a.value) name (java_trees args.items)
java_call_on at a name args = search (rules, the_lemmas, java_list)

pub stmt_list : {n : Count} (row : blocks.Row_of-StmtTree n) → stmt_row row ≡ stmt_trees (items-the_row-StmtTree n row)
stmt_list blocks.end_of-StmtTree = refl
stmt_list (blocks.more_of-StmtTree s rest) = ap (next (stmt_tree s)) (stmt_list rest)

pub stmt_block : (ss : Vec StmtTree Global) → stmt_tree (Block ss) ≡ block (stmt_trees ss.items)
stmt_block ss = search (rules, stmt_lemmas, stmt_list)
