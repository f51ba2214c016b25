use Rattle.std.proofs.Common.{[], ◌∷◌, refl, ap, ◌∙◌}
use Rattle.std.proofs.lemmas.Result.{err_from_is_err_and}
use Rattle.derivation.proofs.Headers.{missed, head_first, head_second, head_third, head_fourth}
use Rattle.derivation.proofs.cnf_reader.header_of.Goals as goal

pub returns-in_err-take_named-clause-fault : goal.returns-in_err-take_named-clause-fault
returns-in_err-take_named-clause-fault c =
    let e = err_from_is_err_and c.from_residual.result c.from_residual.ensures.1 in
    rw (e.1, e.2) (missed _ [] c.args.words.now c.args.words.now c.args.end _ head_first refl c.in_err-take_named.ensures.fault)

pub returns-in_err-take_named-2-clause-fault : goal.returns-in_err-take_named-2-clause-fault
returns-in_err-take_named-2-clause-fault c =
    let e = err_from_is_err_and c.from_residual-in_err-take_named-2.result c.from_residual-in_err-take_named-2.ensures.1 in
    let p = c.in_ok-take_named.ensures.found in
    rw (e.1, e.2) (missed _ (p.0 ∷ []) c.take_named.new.words c.args.words.now c.args.end _ (head_second p.0 p.2.0) p.1 c.in_err-take_named-2.ensures.fault)

pub returns-in_err-vars-clause-fault : goal.returns-in_err-vars-clause-fault
returns-in_err-vars-clause-fault c =
    let e = err_from_is_err_and c.from_residual-in_err-vars.result c.from_residual-in_err-vars.ensures.1 in
    let p = c.in_ok-take_named.ensures.found in
    let n = c.in_ok-take_named-2.ensures.found in
    rw (e.1, e.2)
    (missed _ (p.0 ∷ n.0 ∷ []) c.take_named-2.new.words c.args.words.now c.args.end _ (head_third p.0 n.0 p.2.0 n.2.0 n.2.1) (p.1 ∙ ap (λ ws. p.0 ∷ ws) n.1)
    c.in_err-vars.ensures.fault)

pub returns-in_err-clauses-clause-fault : goal.returns-in_err-clauses-clause-fault
returns-in_err-clauses-clause-fault c =
    let e = err_from_is_err_and c.from_residual-in_err-clauses.result c.from_residual-in_err-clauses.ensures.1 in
    let p = c.in_ok-take_named.ensures.found in
    let n = c.in_ok-take_named-2.ensures.found in
    let v = c.in_ok-vars.ensures.found in
    rw (e.1, e.2)
    (missed _ (p.0 ∷ n.0 ∷ v.0 ∷ []) c.take_count.new.words c.args.words.now c.args.end _
    (head_fourth p.0 n.0 v.0 c.in_ok-vars.vars p.2.0 n.2.0 n.2.1 v.2 v.3 c.in_ok-vars.ensures.small)
    (p.1 ∙ ap (λ ws. p.0 ∷ ws) n.1 ∙ ap (λ ws. p.0 ∷ n.0 ∷ ws) v.1)
    c.in_err-clauses.ensures.fault)
