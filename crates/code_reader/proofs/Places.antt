-- The place of a tree of the code.
use Rattle.std.proofs.Common.{◌≡◌, ℕ, Vec, Box, Global, refl, sym, ◌∙◌, ap}
use Rattle.java_tree.specs.declared.expressions.JavaNode.{JavaNode}
use Rattle.java_tree.specs.declared.expressions.JavaNode.TheBlock as block
use Rattle.java_tree.specs.declared.expressions.JavaNode.TheVariants.{CallOn}
use Rattle.java_tree.specs.declared.expressions.JavaTree.{JavaTree}
use Rattle.java_tree.specs.declared.names.Ident.{Ident}
use Rattle.java_tree.specs.Trees.{call_on}
use Rattle.java_tree.specs.Expressions.{place}
use Rattle.java_tree.specs.Seen.{java_node, java_tree, java_trees}
use Rattle.java_tree.proofs.Rows.{java_call_on}

-- it is its first token's
pub place_node : (at : ℕ) (node : JavaNode) → place (java_node at node) ≡ at
place_node at (block.Num n) = refl
place_node at (block.Flag b) = refl
place_node at block.Null = refl
place_node at block.This = refl
place_node at (block.New name) = refl
place_node at (block.Named name) = refl
place_node at (block.Call' name vec row) = refl
place_node at (block.Read' p at_a a name) = refl
place_node at (block.CallOn' p at_a a name vec row) = refl
place_node at (block.Paren' p at_a a) = refl
place_node at (block.Not' p at_a a) = refl
place_node at (block.Neg' p at_a a) = refl
place_node at (block.Bin' sign p at_a a q at_b b) = refl

-- a call behind a `.`, by the box that has what stands before it
pub call_on_is : (target : JavaTree) (a : Box JavaTree Global) (name : Ident) (args : Vec JavaTree Global) → a.value ≡ target
    → java_node target.at (CallOn a name args) ≡ call_on (place (java_tree target)) (java_tree target) name (java_trees args.items)
call_on_is target a name args is =
    java_call_on target.at a name args ∙ ap (λ e. call_on target.at e name (java_trees args.items)) (ap java_tree is) ∙ ap (λ at. call_on at (java_tree target) name (java_trees args.items)) (sym (place_node target.at target.node))
