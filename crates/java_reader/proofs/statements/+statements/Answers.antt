use Rattle.std.proofs.Common.{rules, ◌≡◌, List, [], sym, ap, ◌∙◌, subst, arith}
use Rattle.std.specs.Prelude.{Err}
use Rattle.java_lex.specs.declared.token.Token.{Token}
use Rattle.java_tree.specs.Trees.{Stmt, if_else}
use Rattle.java_tree.specs.Seen.{java_tree, stmt_tree}
use Rattle.reading_core.specs.Read.{Read, Got, Bad}
use Rattle.reading_core.specs.Gives.{Gives}
use Rattle.java_reading.specs.declared.form.Form.TheVariants as form
use Rattle.java_reading.specs.Readers.{give}
use Rattle.java_reading.specs.StatementReading.{block_in, else_in, if_in, local_in, returned_in, under_at, while_in}
use Rattle.text_reading.specs.Readers.{arguments_at, expression_at}
use Rattle.java_reader.proofs.Loops.{so_far_start, so_far_more, so_far_end, seen_more}
use Rattle.java_reader.proofs.StatementLemmas.{block_is, give_stops, if_else_is, no_statement, statement_form}
use Rattle.java_reader.proofs.statements.+statements.Goals as goal

pub block-returns-clause-is : goal.block-returns-clause-is
block-returns-clause-is t c =
    block_is c.args.left c.in-Some.less c.args.tokens.now c.in_ok-rest.rest.now c.in_ok-statements.statements.items c.in_ok-statements.rest.now c.in_ok-rest-2.rest.now (sym c.lower.ensures ∙ c.in-Some.is) c.in_ok-rest.ensures.is
    c.in_ok-statements.ensures.is c.in_ok-rest-2.ensures.is
    ∙ ap (λ (s : Stmt). Got s c.in_ok-rest-2.rest.now) (sym c.sequence.ensures)

pub conditional-returns-in_err-other-clause-is : goal.conditional-returns-in_err-other-clause-is
conditional-returns-in_err-other-clause-is t c =
    let same : c.from_residual-in_err-other.result ≡ Err c.in_err-other.field-0.0 = search rules in
    subst (λ (o : Read Stmt). Gives stmt_tree c.from_residual-in_err-other.result o)
    (sym (if_else_is c.args.left c.args.tokens.now c.in_ok-behind.behind.now c.in_ok-condition.rest.now (java_tree c.in_ok-condition.condition) (stmt_tree c.in_ok-condition.chosen) c.in_ok-behind.ensures.is c.in_ok-condition.ensures.is (sym c.next_is.ensures ∙ c.if-next_is.true)))
    (give_stops stmt_tree stmt_tree (if_else (java_tree c.in_ok-condition.condition) (stmt_tree c.in_ok-condition.chosen)) (else_in expression_at arguments_at c.args.left (under_at expression_at arguments_at c.args.left) c.in_ok-condition.rest.now)
    c.from_residual-in_err-other.result c.in_err-other.field-0.0 same c.in_err-other.ensures.is)

pub conditional-returns-in_ok-tree-clause-is : goal.conditional-returns-in_ok-tree-clause-is
conditional-returns-in_ok-tree-clause-is t c =
    if_else_is c.args.left c.args.tokens.now c.in_ok-behind.behind.now c.in_ok-condition.rest.now (java_tree c.in_ok-condition.condition) (stmt_tree c.in_ok-condition.chosen) c.in_ok-behind.ensures.is c.in_ok-condition.ensures.is
    (sym c.next_is.ensures ∙ c.if-next_is.true)
    ∙ ap (give (if_else (java_tree c.in_ok-condition.condition) (stmt_tree c.in_ok-condition.chosen))) c.in_ok-other.ensures.is
    ∙ ap (λ (s : Stmt). Got s c.in_ok-other.rest.now) (sym c.in_ok-tree.ensures)

pub statement-returns-in_default-clause-is : goal.statement-returns-in_default-clause-is
statement-returns-in_default-clause-is t c = let none : c.args.tokens.now ≡ [] = search rules in no_statement c.args.left c.args.tokens.now none

pub statement-returns-in-Blank-clause-is : goal.statement-returns-in-Blank-clause-is
statement-returns-in-Blank-clause-is t c = statement_form c.args.left c.args.tokens.now c.in-Some.token.now c.in-Some.rest.now c.form_at.result form.Blank c.in-Some.ensures c.form_at.ensures c.in-Blank.is

pub statement-returns-in-None-clause-is : goal.statement-returns-in-None-clause-is
statement-returns-in-None-clause-is t c =
    statement_form c.args.left c.args.tokens.now c.in-Some.token.now c.in-Some.rest.now c.form_at.result form.None c.in-Some.ensures c.form_at.ensures c.in-None.is ∙ ap (λ (us : List Token). Bad us) (sym c.in-Some.ensures)

pub statement-returns-in-Block-clause-is : goal.statement-returns-in-Block-clause-is
statement-returns-in-Block-clause-is t c =
    subst (λ (o : Read Stmt). Gives stmt_tree c.block.result o)
    (sym (statement_form c.args.left c.args.tokens.now c.in-Some.token.now c.in-Some.rest.now c.form_at.result form.Block c.in-Some.ensures c.form_at.ensures c.in-Block.is ∙ ap (λ (us : List Token). block_in expression_at arguments_at c.args.left (under_at expression_at arguments_at c.args.left) us) (sym c.in-Some.ensures)))
    c.block.ensures.is

pub statement-returns-in-If-clause-is : goal.statement-returns-in-If-clause-is
statement-returns-in-If-clause-is t c =
    subst (λ (o : Read Stmt). Gives stmt_tree c.conditional.result o)
    (sym (statement_form c.args.left c.args.tokens.now c.in-Some.token.now c.in-Some.rest.now c.form_at.result form.If c.in-Some.ensures c.form_at.ensures c.in-If.is ∙ ap (λ (us : List Token). if_in expression_at arguments_at c.args.left (under_at expression_at arguments_at c.args.left) us) (sym c.in-Some.ensures)))
    c.conditional.ensures.is

pub statement-returns-in-While-clause-is : goal.statement-returns-in-While-clause-is
statement-returns-in-While-clause-is t c =
    subst (λ (o : Read Stmt). Gives stmt_tree c.repeated.result o)
    (sym (statement_form c.args.left c.args.tokens.now c.in-Some.token.now c.in-Some.rest.now c.form_at.result form.While c.in-Some.ensures c.form_at.ensures c.in-While.is ∙ ap (λ (us : List Token). while_in expression_at arguments_at c.args.left (under_at expression_at arguments_at c.args.left) us) (sym c.in-Some.ensures)))
    c.repeated.ensures.is

pub statement-returns-in-Return-clause-is : goal.statement-returns-in-Return-clause-is
statement-returns-in-Return-clause-is t c =
    subst (λ (o : Read Stmt). Gives stmt_tree c.returned.result o)
    (sym (statement_form c.args.left c.args.tokens.now c.in-Some.token.now c.in-Some.rest.now c.form_at.result form.Return c.in-Some.ensures c.form_at.ensures c.in-Return.is ∙ ap (λ (us : List Token). returned_in expression_at arguments_at c.args.left us) (sym c.in-Some.ensures)))
    c.returned.ensures.is

pub statement-returns-in-Local-clause-is : goal.statement-returns-in-Local-clause-is
statement-returns-in-Local-clause-is t c =
    subst (λ (o : Read Stmt). Gives stmt_tree c.local.result o)
    (sym (statement_form c.args.left c.args.tokens.now c.in-Some.token.now c.in-Some.rest.now c.form_at.result form.Local c.in-Some.ensures c.form_at.ensures c.in-Local.is ∙ ap (λ (us : List Token). local_in expression_at arguments_at c.args.left us) (sym c.in-Some.ensures)))
    c.local.ensures.is

pub statement-returns-in-Name-clause-is : goal.statement-returns-in-Name-clause-is
statement-returns-in-Name-clause-is t c =
    subst (λ (o : Read Stmt). Gives stmt_tree c.behind_name.result o)
    (sym (statement_form c.args.left c.args.tokens.now c.in-Some.token.now c.in-Some.rest.now c.form_at.result form.Name c.in-Some.ensures c.form_at.ensures c.in-Name.is))
    c.behind_name.ensures.is

pub statement-returns-in-This-clause-is : goal.statement-returns-in-This-clause-is
statement-returns-in-This-clause-is t c =
    subst (λ (o : Read Stmt). Gives stmt_tree c.reached.result o)
    (sym (statement_form c.args.left c.args.tokens.now c.in-Some.token.now c.in-Some.rest.now c.form_at.result form.This c.in-Some.ensures c.form_at.ensures c.in-This.is))
    c.reached.ensures.is

pub statements-more-init : goal.statements-more-init
statements-more-init t c = record { reads = so_far_start _ _ _ _ (search rules); within = omega arith }

pub statements-more-preserved : goal.statements-more-preserved
statements-more-preserved t c = record {
  reads =
      so_far_more c.more.invariant.reads _ (stmt_tree c.in_ok-next.next) _ (sym c.next_is_statement.ensures ∙ c.more-test.true) c.in_ok-next.ensures.is c.in_ok-next.ensures.shorter
      (seen_more stmt_tree _ _ c.in_ok-next.next c.in_ok-push.ensures.items);
  within = omega (arith, c.in_ok-next.ensures.shorter, c.more.invariant.within);
}

pub statements-returns-clause-is : goal.statements-returns-clause-is
statements-returns-clause-is t c = so_far_end c.more.invariant.reads (sym c.next_is_statement.ensures ∙ c.more-test.false)
