use Rattle.std.proofs.Common.{rules, ◌≡◌, ◌≤◌, OnOk, IfOk, subst, List, length, ap, sym, ◌∙◌, arith}
use Rattle.std.proofs.lemmas.List.{drop_all}
use Rattle.java_tree.specs.Trees.{Stmt as Tree}
use Rattle.java_tree.specs.Seen.{stmt_tree, stmt_trees}
use Rattle.java_tree.proofs.Rows.{stmt_block}
use Rattle.taco_unit.specs.declared.stmt.Stmt.{Stmt}
use Rattle.typed_statements.specs.Held.{state_of}
use Rattle.typed_statements.specs.Reported.{Turn, stmts_told}
use Rattle.declared_names.specs.Seen.{told}
use Rattle.typed_statements.specs.Statements.{seen_stmt}
use Rattle.typed_statements.proofs.Steps.{arms}
use Rattle.typed_statements.proofs.Forms.{stmts-state, stmts-is}
use Rattle.typed_statements.proofs.statements.+body.Goals as goal

pub stmts-returns-clause-state : goal.stmts-returns-clause-state
stmts-returns-clause-state t c =
    let past : length c.args.trees.now ≤ c.loop-tree.tree-index = omega arith in
    let whole =
    ap (λ ss. stmts_told c.args.world.now c.args.here.now c.args.depth (stmt_trees ss) (state_of c.loop-tree.locals) c.loop-tree.done) (drop_all c.loop-tree.tree-index c.args.trees.now past) in
    ap (λ (x : Turn (List Stmt)). x.state) (sym whole ∙ c.loop-tree.invariant) ∙ sym (stmts-state c.args.world.now c.args.here.now c.args.depth (stmt_trees c.args.trees.now) (state_of c.args.locals.now))

pub stmts-returns-clause-is : goal.stmts-returns-clause-is
stmts-returns-clause-is t c =
    let past : length c.args.trees.now ≤ c.loop-tree.tree-index = omega arith in
    let whole =
    ap (λ ss. stmts_told c.args.world.now c.args.here.now c.args.depth (stmt_trees ss) (state_of c.loop-tree.locals) c.loop-tree.done) (drop_all c.loop-tree.tree-index c.args.trees.now past) in
    ap (λ (x : Turn (List Stmt)). x.is) (sym whole ∙ c.loop-tree.invariant) ∙ sym (stmts-is c.args.world.now c.args.here.now c.args.depth (stmt_trees c.args.trees.now) (state_of c.args.locals.now))

pub stmt-returns-in-Block-clause-state : goal.stmt-returns-in-Block-clause-state
stmt-returns-in-Block-clause-state t c =
    let is = ap stmt_tree c.in-Block.is ∙ stmt_block c.in-Block.list in
    let P : Tree → Type 0 = λ a. OnOk c.block_stmt.result (state_of c.block_stmt.new.locals ≡ (seen_stmt c.args.world.now c.args.here.now c.args.depth a (state_of c.args.locals.now)).state) in
    subst P (sym is) (search (rules, arms))

pub stmt-returns-in-Block-clause-is : goal.stmt-returns-in-Block-clause-is
stmt-returns-in-Block-clause-is t c =
    let is = ap stmt_tree c.in-Block.is ∙ stmt_block c.in-Block.list in
    let P : Tree → Type 0 = λ a. IfOk c.block_stmt.result (λ r. r ≡ told (seen_stmt c.args.world.now c.args.here.now c.args.depth a (state_of c.args.locals.now)).is) in
    subst P (sym is) (search (rules, arms))
