use Rattle.std.proofs.Common.{rules, ◌≡◌, ◌≤◌, suc, false, List, [], ◌∷◌, map, Vec, Global, Bor, ap, arith, subst, sym, ◌∙◌}
use Rattle.std.proofs.lemmas.List.{map-append}
use Rattle.std.specs.Prelude.{Result, Err}
use Rattle.java_lex.specs.declared.token.Token.{Token}
use Rattle.java_tree.specs.declared.expressions.JavaTree.{JavaTree}
use Rattle.java_tree.specs.Trees.{Expr, Exprs}
use Rattle.java_tree.specs.Seen.{java_tree, java_trees}
use Rattle.reading_core.specs.declared.stop.Stop.{Stop}
use Rattle.reading_core.specs.Read.{Read, Got, is_comma, ◌>>=◌ as ◌⟫◌}
use Rattle.reading_core.specs.Gives.{Gives}
use Rattle.expression_reading.specs.Levels.{readers_of, within_left}
use Rattle.expression_reading.specs.Reading.{argument_in, arguments_in, exprs, first_is, steps_in}
use Rattle.expression_reading.proofs.Gathered.{gathered, gathered_end, gathered_more, gathered_stops, gives_bind}
use Rattle.expression_reading.proofs.Links.{right_link}
use Rattle.expression_reading.proofs.Shorter.{argument_fewer, got_fewer}
use Rattle.code_reader.specs.Descent.{step_of}
use Rattle.code_reader.proofs.Calls.{dot_is, exprs_trees, name_is}
use Rattle.expression_reading.proofs.Operands.{link_stops, links_end, links_more, links_start, minus_is, not_is, open_is, start_stops}
use Rattle.code_reader.proofs.descent.+descent.Goals as goal

pub operand-returns-in_err-tree : goal.operand-returns-in_err-tree
operand-returns-in_err-tree t c =
    let same : c.from_residual.result ≡ Err c.in_err-tree.field-0.0 = search rules in
    start_stops false (within_left false c.args.left) java_tree c.args.number c.args.tokens.now c.in_err-tree.field-0.0 c.from_residual.result same c.in_err-tree.ensures

pub operand-loop-link-init : goal.operand-loop-link-init
operand-loop-link-init t c = links_start false (within_left false c.args.left) c.args.number c.args.tokens.now (java_tree c.in_ok-tree.tree) c.in_ok-tree.rest.now c.in_ok-tree.ensures

pub operand-returns-in_err-longer : goal.operand-returns-in_err-longer
operand-returns-in_err-longer t c =
    let same : c.from_residual-in_err-longer.result ≡ Err c.in_err-longer.field-0.0 = search rules in
    link_stops false (within_left false c.args.left) java_tree c.args.number c.args.tokens.now c.loop-link.link (java_tree c.loop-link.tree) c.loop-link.rest.now c.in_err-longer.field-0.0 c.from_residual-in_err-longer.result same
    c.loop-link.invariant c.loop-link-test.true c.in_err-longer.ensures

pub operand-loop-link-preserved : goal.operand-loop-link-preserved
operand-loop-link-preserved t c =
    links_more false (within_left false c.args.left) c.args.number c.args.tokens.now c.loop-link.link (java_tree c.loop-link.tree) c.loop-link.rest.now (java_tree c.in_ok-longer.longer) c.in_ok-longer.behind.now
    c.loop-link.invariant c.loop-link-test.true c.in_ok-longer.ensures

pub operand-returns : goal.operand-returns
operand-returns t c = links_end false (within_left false c.args.left) c.args.number c.args.tokens.now c.loop-link.link (java_tree c.loop-link.tree) c.loop-link.rest.now c.loop-link.invariant c.loop-link-test.false

pub unary-returns-in-Not : goal.unary-returns-in-Not
unary-returns-in-Not t c =
    subst (λ (r : Read Expr). Gives java_tree c.negated.result r) (sym (not_is false c.args.left c.in-Some.token.now c.args.tokens.now c.in-Some.rest.now c.in-Some.ensures c.in-Not.ensures)) c.negated.ensures

pub unary-returns-in-Minus : goal.unary-returns-in-Minus
unary-returns-in-Minus t c =
    subst (λ (r : Read Expr). Gives java_tree c.subtracted.result r) (sym (minus_is false c.args.left c.in-Some.token.now c.args.tokens.now c.in-Some.rest.now c.in-Some.ensures c.in-Minus.ensures)) c.subtracted.ensures

pub unary-returns-in-OpenParen : goal.unary-returns-in-OpenParen
unary-returns-in-OpenParen t c =
    subst (λ (r : Read Expr). Gives java_tree c.group.result r) (sym (open_is false c.args.left c.in-Some.token.now c.args.tokens.now c.in-Some.rest.now c.in-Some.ensures c.in-OpenParen.ensures)) c.group.ensures

pub unary-returns-in-Name : goal.unary-returns-in-Name
unary-returns-in-Name t c =
    subst (λ (r : Read Expr). Gives java_tree c.named.result r) (sym (name_is c.args.left c.in-Some.token.now c.args.tokens.now c.in-Some.rest.now c.in-Some.ensures c.in-Name.ensures)) c.named.ensures

-- `==>` stands in clauses alone
pub chain-unreachable-requires : goal.chain-unreachable-requires
chain-unreachable-requires t c = let last : c.args.number ≡ 6 = (right_link false c.args.number c.in-Some.token.now (sym c.in-Right.ensures)).0 in omega arith

pub steps-returns-in_err-longer : goal.steps-returns-in_err-longer
steps-returns-in_err-longer t c =
    let same : c.from_residual.result ≡ Err c.in_err-longer.field-0.0 = search rules in
    subst (λ (r : Result (JavaTree × Bor (List Token)) Stop). Gives java_tree r (steps_in false (within_left false c.args.left) (java_tree c.args.start) c.args.tokens.now)) (sym same)
    (subst (λ (r : Read Expr). Gives {T = JavaTree} java_tree (Err c.in_err-longer.field-0.0) r)
    (sym (c.loop-token.invariant.0 ∙ dot_is c.loop-token.levels c.in-Some-deeper.less (java_tree c.loop-token.tree) c.in-Some.token.now c.loop-token.rest.now c.in-Some.behind.now c.in-Some.ensures c.in-Dot.ensures c.in-Some-deeper.ensures.code))
    (gives_bind java_tree java_tree (step_of c.in-Some-deeper.less (java_tree c.loop-token.tree) c.in-Some.behind.now) _ c.in_err-longer.field-0.0 c.in_err-longer.ensures))

pub steps-loop-token-preserved : goal.steps-loop-token-preserved
steps-loop-token-preserved t c =
    let fewer : c.loop-token.levels ≡ suc c.in-Some-deeper.less = c.in-Some-deeper.ensures.less in
    let low : c.loop-token.levels ≤ c.args.left = c.loop-token.invariant.1 in (
      c.loop-token.invariant.0 ∙ dot_is c.loop-token.levels c.in-Some-deeper.less (java_tree c.loop-token.tree) c.in-Some.token.now c.loop-token.rest.now c.in-Some.behind.now c.in-Some.ensures c.in-Dot.ensures c.in-Some-deeper.ensures.code
          ∙ ap (λ (r : Read Expr). r ⟫ (λ e rest. steps_in false (within_left false c.in-Some-deeper.less) e rest)) c.in_ok-longer.ensures,
      omega arith,
    )

pub inside-returns-in_err-tree-2 : goal.inside-returns-in_err-tree-2
inside-returns-in_err-tree-2 t c =
    let same : c.from_residual-in_err-tree-2.result ≡ Err c.in_err-tree-2.field-0.0 = search rules in
    subst (λ (r : Result (Vec JavaTree Global × Bor (List Token)) Stop). Gives (λ (v : Vec JavaTree Global). java_trees v.items) r (arguments_in (readers_of false c.args.less) c.args.tokens.now)) (sym same)
    (subst (λ (r : Read Exprs). Gives {T = Vec JavaTree Global} (λ v. java_trees v.items) (Err c.in_err-tree-2.field-0.0) r) (sym c.arguments.invariant)
    (gathered_stops exprs (first_is (is_comma false)) (argument_in (readers_of false c.args.less)) java_tree (λ (v : Vec JavaTree Global). java_trees v.items) (argument_fewer c.args.less) (map java_tree c.arguments.arguments.items)
    c.arguments.rest.now c.in_err-tree-2.field-0.0 (sym c.goes_on_by_comma.ensures ∙ c.arguments-test.true) c.in_err-tree-2.ensures))

pub inside-arguments-smaller : goal.inside-arguments-smaller
inside-arguments-smaller t c = got_fewer c.arguments.rest.now (argument_in (readers_of false c.args.less) c.arguments.rest.now) (java_tree c.in_ok-tree-2.tree) c.in_ok-tree-2.after.now c.in_ok-tree-2.ensures (argument_fewer c.args.less c.arguments.rest.now)

pub inside-arguments-preserved : goal.inside-arguments-preserved
inside-arguments-preserved t c =
    c.arguments.invariant
    ∙ gathered_more exprs (first_is (is_comma false)) (argument_in (readers_of false c.args.less)) (argument_fewer c.args.less) (map java_tree c.arguments.arguments.items) c.arguments.rest.now c.in_ok-tree-2.after.now
    (java_tree c.in_ok-tree-2.tree) (sym c.goes_on_by_comma.ensures ∙ c.arguments-test.true) c.in_ok-tree-2.ensures
    ∙ ap (λ us. gathered exprs (first_is (is_comma false)) (argument_in (readers_of false c.args.less)) us c.in_ok-tree-2.after.now)
    (sym (ap (map java_tree) c.in_ok-push-2.ensures.items ∙ map-append java_tree c.arguments.arguments.items (c.in_ok-tree-2.tree ∷ [])))

pub inside-returns : goal.inside-returns
inside-returns t c =
    c.arguments.invariant
    ∙ gathered_end exprs (first_is (is_comma false)) (argument_in (readers_of false c.args.less)) (map java_tree c.arguments.arguments.items) c.arguments.rest.now (sym c.goes_on_by_comma.ensures ∙ c.arguments-test.false)
    ∙ ap (λ es. Got es c.arguments.rest.now) (exprs_trees c.arguments.arguments.items)
