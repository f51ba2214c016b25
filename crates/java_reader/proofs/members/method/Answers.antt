use Rattle.std.proofs.Common.{List, map, ap, ◌∙◌}
use Rattle.java_tree.specs.Trees.{method, Param, Stmt, Stmts}
use Rattle.java_tree.specs.Members.{Written, one_part}
use Rattle.java_tree.specs.Seen.{clause_tree, param_tree}
use Rattle.reading_core.specs.Read.{Got}
use Rattle.java_reading.specs.Readers.{give}
use Rattle.java_reading.specs.StatementReading.{stmts_of}
use Rattle.java_reader.proofs.CodeLemmas.{list_stmts}
use Rattle.java_reader.proofs.members.method.Goals as goal

pub returns-clause-is : goal.returns-clause-is
returns-clause-is c =
    let made : List Param × Stmts → Written = λ x. one_part (method (record { spec = map clause_tree c.args.spec.items; mods = c.args.signature.mods.items; result = c.args.signature.outcome; name = c.args.signature.name; params = x.0; body = x.1 })) in
    ap (give (λ (x : List Param × List Stmt). made (x.0, stmts_of x.1))) c.in_ok-params.ensures.is
    ∙ ap (λ (s : Stmts). Got (made (map param_tree c.in_ok-params.params.items, s)) c.in_ok-params.rest.now) (list_stmts c.in_ok-params.body.items)
