use Rattle.std.proofs.Common.{rules, ◌≡◌, ◌++◌, OnOk, ap, sym, subst, ◌∙◌}
use Rattle.java_tree.specs.Trees.{Stmt}
use Rattle.java_tree.specs.Seen.{stmt_tree}
use Rattle.java_tree.specs.Print.{stmt_written}
use Rattle.java_tree.proofs.Rows.{stmt_block}
use Rattle.java_tree.proofs.print_statements.+statements.Goals as goal

pub push_stmt-returns-in-Block : goal.push_stmt-returns-in-Block
push_stmt-returns-in-Block t c =
    let is = ap stmt_tree c.in-Block.is ∙ stmt_block c.in-Block.stmts in
    let P : Stmt → Type 0 = λ s. OnOk c.push_block.result (c.push_block.new.words.items ≡ c.args.words.now.items ++ stmt_written s) in
    subst P (sym is) (search rules)
