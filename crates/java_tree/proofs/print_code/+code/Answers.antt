use Rattle.std.proofs.Common.{rules, arith, ◌≡◌, ◌++◌, false, OnOk, ap, sym, subst, ◌∙◌}
use Rattle.std.proofs.lemmas.Grind.{common_steps}
use Rattle.java_tree.specs.Trees.{Expr}
use Rattle.java_tree.specs.Seen.{java_node}
use Rattle.java_tree.specs.Print.{written}
use Rattle.java_tree.proofs.Rows.{java_call, java_call_on}
use Rattle.java_tree.proofs.print_code.+code.Goals as goal

pub push_java-returns-in-Call : goal.push_java-returns-in-Call
push_java-returns-in-Call t c =
    let is = ap (java_node c.args.tree.now.at) c.in-Call.is ∙ java_call c.args.tree.now.at c.in-Call.name c.in-Call.args in
    let P : Expr → Type 0 = λ e. OnOk c.push_call.result (c.push_call.new.words.items ≡ c.args.words.now.items ++ written e false) in
    subst P (sym is) (search rules)

pub push_java-returns-in_ok-push_symbol-in-CallOn : goal.push_java-returns-in_ok-push_symbol-in-CallOn
push_java-returns-in_ok-push_symbol-in-CallOn t c =
    let is = ap (java_node c.args.tree.now.at) c.in-CallOn.is ∙ java_call_on c.args.tree.now.at c.in-CallOn.a c.in-CallOn.name c.in-CallOn.args in
    let P : Expr → Type 0 = λ e. OnOk c.push_call-in-CallOn.result (c.push_call-in-CallOn.new.words.items ≡ c.args.words.now.items ++ written e false) in
    subst P (sym is) (grind (arith, common_steps))
