use Rattle.std.proofs.Common.{◌≡◌, ◌≤◌, ◌<◌, ◌+◌, true, List, ◌∷◌, length, drop, map, ap, sym, ◌∙◌, arith}
use Rattle.std.proofs.lemmas.List.{drop_all, drop_more}
use Rattle.java_tree.specs.Seen.{decl_tree}
use Rattle.taco_unit.specs.declared.stmt.Stmt.{Stmt}
use Rattle.typed_statements.specs.Held.{state_of}
use Rattle.typed_statements.specs.Statements.{is_full}
use Rattle.typed_statements.specs.Reported.{Turn, decls_told}
use Rattle.typed_statements.proofs.Forms.{decls_full, decls-state, decls-is}
use Rattle.typed_statements.proofs.statements.declarations.Goals as goal

pub returns-then-is_full-clause-state : goal.returns-then-is_full-clause-state
returns-then-is_full-clause-state c =
    let within : c.loop-decl.decl-index < length c.args.decls.now = omega arith in
    let left : drop c.loop-decl.decl-index c.args.decls.now ≡ c.decl-item.result ∷ drop (c.loop-decl.decl-index + 1) c.args.decls.now =
    drop_more c.args.decls.now c.loop-decl.decl-index c.decl-item.result within ∙ ap (λ d. d ∷ drop (c.loop-decl.decl-index + 1) c.args.decls.now) (sym c.decl-item.is) in
    let full : is_full (state_of c.loop-decl.locals) ≡ true = sym c.is_full.ensures ∙ c.if-is_full.true in
    let whole =
    ap (λ ds. decls_told c.args.world.now c.args.here.now c.args.sort (map decl_tree ds) (state_of c.loop-decl.locals) c.loop-decl.done) left
    ∙ decls_full c.args.world.now c.args.here.now c.args.sort (decl_tree c.decl-item.result) (map decl_tree (drop (c.loop-decl.decl-index + 1) c.args.decls.now)) (state_of c.loop-decl.locals) c.loop-decl.done full in
    ap (λ (t : Turn (List Stmt)). t.state) (sym whole ∙ c.loop-decl.invariant) ∙ sym (decls-state c.args.world.now c.args.here.now c.args.sort (map decl_tree c.args.decls.now) (state_of c.args.locals.now))

pub returns-then-is_full-clause-is : goal.returns-then-is_full-clause-is
returns-then-is_full-clause-is c =
    let within : c.loop-decl.decl-index < length c.args.decls.now = omega arith in
    let left : drop c.loop-decl.decl-index c.args.decls.now ≡ c.decl-item.result ∷ drop (c.loop-decl.decl-index + 1) c.args.decls.now =
    drop_more c.args.decls.now c.loop-decl.decl-index c.decl-item.result within ∙ ap (λ d. d ∷ drop (c.loop-decl.decl-index + 1) c.args.decls.now) (sym c.decl-item.is) in
    let full : is_full (state_of c.loop-decl.locals) ≡ true = sym c.is_full.ensures ∙ c.if-is_full.true in
    let whole =
    ap (λ ds. decls_told c.args.world.now c.args.here.now c.args.sort (map decl_tree ds) (state_of c.loop-decl.locals) c.loop-decl.done) left
    ∙ decls_full c.args.world.now c.args.here.now c.args.sort (decl_tree c.decl-item.result) (map decl_tree (drop (c.loop-decl.decl-index + 1) c.args.decls.now)) (state_of c.loop-decl.locals) c.loop-decl.done full in
    ap (λ (t : Turn (List Stmt)). t.is) (sym whole ∙ c.loop-decl.invariant) ∙ sym (decls-is c.args.world.now c.args.here.now c.args.sort (map decl_tree c.args.decls.now) (state_of c.args.locals.now))

pub returns-clause-state : goal.returns-clause-state
returns-clause-state c =
    let past : length c.args.decls.now ≤ c.loop-decl.decl-index = omega arith in
    let whole =
    ap (λ ds. decls_told c.args.world.now c.args.here.now c.args.sort (map decl_tree ds) (state_of c.loop-decl.locals) c.loop-decl.done) (drop_all c.loop-decl.decl-index c.args.decls.now past) in
    ap (λ (t : Turn (List Stmt)). t.state) (sym whole ∙ c.loop-decl.invariant) ∙ sym (decls-state c.args.world.now c.args.here.now c.args.sort (map decl_tree c.args.decls.now) (state_of c.args.locals.now))

pub returns-clause-is : goal.returns-clause-is
returns-clause-is c =
    let past : length c.args.decls.now ≤ c.loop-decl.decl-index = omega arith in
    let whole =
    ap (λ ds. decls_told c.args.world.now c.args.here.now c.args.sort (map decl_tree ds) (state_of c.loop-decl.locals) c.loop-decl.done) (drop_all c.loop-decl.decl-index c.args.decls.now past) in
    ap (λ (t : Turn (List Stmt)). t.is) (sym whole ∙ c.loop-decl.invariant) ∙ sym (decls-is c.args.world.now c.args.here.now c.args.sort (map decl_tree c.args.decls.now) (state_of c.args.locals.now))
