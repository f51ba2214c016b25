-- The trees of the code, seen as trees of the grammar.
use Rattle.std.specs.Prelude.{ℕ, List, [], ◌∷◌, option_map, map}
use Rattle.java_tree.specs.declared.expressions.JavaNode.{JavaNode}
use Rattle.java_tree.specs.declared.expressions.JavaTree.{JavaTree}
use Rattle.java_tree.specs.declared.expressions.JavaNode.TheBlock as block
use Rattle.java_tree.specs.declared.clauses.JmlNode.{JmlNode}
use Rattle.java_tree.specs.declared.clauses.JmlTree.{JmlTree}
use Rattle.java_tree.specs.declared.clauses.ReachTree.{ReachTree}
use Rattle.java_tree.specs.declared.clauses.JmlNode.TheBlock as clause
use Rattle.java_tree.specs.declared.names.Ident.{Ident}
use Rattle.java_tree.specs.Trees.{Expr, num, flag, null, this, outcome, make, named, call, read, call_on, paren, negation, minus, bin, old, quant, quant_in, has, size, Exprs, none, also}
use Rattle.java_tree.specs.declared.statements.DeclTree.{DeclTree}
use Rattle.java_tree.specs.declared.statements.StmtTree.{StmtTree}
use Rattle.java_tree.specs.declared.statements.StmtTree.TheBlock as stmt
use Rattle.java_tree.specs.declared.members.SpecTree.{SpecTree}
use Rattle.java_tree.specs.declared.members.SpecTree.TheVariants.{Requires, Ensures}
use Rattle.java_tree.specs.declared.members.ParamTree.{ParamTree}
use Rattle.java_tree.specs.declared.members.MethodTree.{MethodTree}
use Rattle.java_tree.specs.declared.members.Member.{Member}
use Rattle.java_tree.specs.declared.members.Member.TheVariants.{Invariant, Field, Method as Method_}
use Rattle.java_tree.specs.declared.members.ClassTree.{ClassTree}
use Rattle.java_tree.specs.declared.members.Tree.{Tree}
use Rattle.java_tree.specs.Trees.{Decl, Stmt, block, blank, if_only, if_else, loops, gives_back, local, set, step, run, Stmts, done, next, Clause, needs, gives, Param, Method, Part, invariant, field, method, Class, Classes}
use mathlib.Core.Former.{Count}

-- an expression of code
abbrev mutual
  pub java_node : ℕ → JavaNode → Expr
  java_node at (block.Num n) = num at n
  java_node at (block.Flag b) = flag at b
  java_node at block.Null = null at
  java_node at block.This = this at
  java_node at (block.New name) = make at name
  java_node at (block.Named name) = named at name
  java_node at (block.Call' name vec row) = call at name (java_row row)
  java_node at (block.Read' p at_a a name) = read at (java_node at_a a) name
  java_node at (block.CallOn' p at_a a name vec row) = call_on at (java_node at_a a) name (java_row row)
  java_node at (block.Paren' p at_a a) = paren at (java_node at_a a)
  java_node at (block.Not' p at_a a) = negation at (java_node at_a a)
  java_node at (block.Neg' p at_a a) = minus at (java_node at_a a)
  java_node at (block.Bin' sign p at_a a q at_b b) = bin at sign (java_node at_a a) (java_node at_b b)

  pub java_row : {n : Count} → block.Row_of-JavaTree n → Exprs
  java_row block.end_of-JavaTree = none
  java_row (block.more_of-JavaTree at node rest) = also (java_node at node) (java_row rest)

abbrev pub java_tree : JavaTree → Expr
java_tree t = java_node t.at t.node

-- a list of them
abbrev pub java_trees : List JavaTree → Exprs
java_trees [] = none
java_trees (t ∷ ts) = also (java_tree t) (java_trees ts)

-- an expression of a clause
abbrev mutual
  pub jml_node : ℕ → JmlNode → Expr
  jml_node at (clause.Num n) = num at n
  jml_node at (clause.Flag b) = flag at b
  jml_node at clause.Null = null at
  jml_node at clause.This = this at
  jml_node at clause.Result = outcome at
  jml_node at (clause.Named name) = named at name
  jml_node at (clause.Read' p at_a a name) = read at (jml_node at_a a) name
  jml_node at (clause.Paren' p at_a a) = paren at (jml_node at_a a)
  jml_node at (clause.Not' p at_a a) = negation at (jml_node at_a a)
  jml_node at (clause.Neg' p at_a a) = minus at (jml_node at_a a)
  jml_node at (clause.Bin' sign p at_a a q at_b b) = bin at sign (jml_node at_a a) (jml_node at_b b)
  jml_node at (clause.Old' p at_a a) = old at (jml_node at_a a)
  jml_node at (clause.Quant' all kind name clause.None' q at_b b) = quant at all kind name (jml_node at_b b)
  jml_node at (clause.Quant' all kind name (clause.Some' p at_a a) q at_b b) = quant_in at all kind name (jml_node at_a a) (jml_node at_b b)
  jml_node at (clause.Has' (clause.struct-ReachTree p at_a a kind fields) q at_b b) = has at (jml_node at_a a) kind fields.items (jml_node at_b b)
  jml_node at (clause.Size (clause.struct-ReachTree p at_a a kind fields)) = size at (jml_node at_a a) kind fields.items

-- the start of a reach, its class and its fields
abbrev pub reach_root : ReachTree → Expr
reach_root (clause.struct-ReachTree p at_a a kind fields) = jml_node at_a a

abbrev pub reach_class : ReachTree → Ident
reach_class (clause.struct-ReachTree p at_a a kind fields) = kind

abbrev pub reach_fields : ReachTree → List Ident
reach_fields (clause.struct-ReachTree p at_a a kind fields) = fields.items

abbrev pub jml_tree : JmlTree → Expr
jml_tree t = jml_node t.at t.node

abbrev pub decl_tree : DeclTree → Decl
decl_tree d = record { name = d.name; value = option_map java_tree d.value }

-- a statement
abbrev mutual
  pub stmt_tree : StmtTree → Stmt
  stmt_tree (stmt.Block' vec row) = block (stmt_row row)
  stmt_tree stmt.Empty = blank
  stmt_tree (stmt.If' c p a stmt.None') = if_only (java_tree c) (stmt_tree a)
  stmt_tree (stmt.If' c p a (stmt.Some' q b)) = if_else (java_tree c) (stmt_tree a) (stmt_tree b)
  stmt_tree (stmt.While' at c p a) = loops at (java_tree c) (stmt_tree a)
  stmt_tree (stmt.Return at e) = gives_back at (option_map java_tree e)
  stmt_tree (stmt.Local mods kind decls) = local mods.items kind (map decl_tree decls.items)
  stmt_tree (stmt.Set a e) = set (java_tree a) (java_tree e)
  stmt_tree (stmt.Step a up) = step (java_tree a) up
  stmt_tree (stmt.Run e) = run (java_tree e)

  pub stmt_row : {n : Count} → stmt.Row_of-StmtTree n → Stmts
  stmt_row stmt.end_of-StmtTree = done
  stmt_row (stmt.more_of-StmtTree s rest) = next (stmt_tree s) (stmt_row rest)

-- a list of them
abbrev pub stmt_trees : List StmtTree → Stmts
stmt_trees [] = done
stmt_trees (s ∷ ss) = next (stmt_tree s) (stmt_trees ss)

abbrev pub clause_tree : SpecTree → Clause
clause_tree (Requires at e) = needs at (jml_tree e)
clause_tree (Ensures at e) = gives at (jml_tree e)

abbrev pub param_tree : ParamTree → Param
param_tree p = record { mods = p.mods.items; kind = p.kind; name = p.name }

abbrev pub method_tree : MethodTree → Method
method_tree m = record {
  spec = map clause_tree m.spec.items;
  mods = m.mods.items;
  result = m.result;
  name = m.name;
  params = map param_tree m.params.items;
  body = stmt_trees m.body.items;
}

abbrev pub part_tree : Member → Part
part_tree (Invariant at e) = invariant at (jml_tree e)
part_tree (Field mods kind name) = field mods.items kind name
part_tree (Method_ m) = method (method_tree m)

abbrev pub class_tree : ClassTree → Class
class_tree c = record { mods = c.mods.items; name = c.name; members = map part_tree c.members.items }

-- the classes of a text
abbrev pub classes_tree : Tree → Classes
classes_tree t = map class_tree t.classes.items
