use Rattle.std.proofs.Common.{◌≡◌, ◌≤◌, ◌<◌, ◌+◌, ℕ, List, [], ◌∷◌, ◌++◌, length, drop, map, ap, sym, ◌∙◌, arith}
use Rattle.std.proofs.lemmas.List.{drop_all, drop_more}
use Rattle.java_tree.specs.Seen.{param_tree}
use Rattle.declared_names.specs.Faults.{soonest, earlier}
use Rattle.declared_names.proofs.Told.{next_fault, last_fault, none-earlier}
use Rattle.typed_statements.specs.Heads.{param_faults, params_faults}
use Rattle.typed_statements.proofs.heads.params_fault.Goals as goal

pub loop-param-init : goal.loop-param-init
loop-param-init c = none-earlier _ ∙ ap (λ b. soonest (params_faults c.args.classes.now b (map param_tree c.args.params.now))) c.new-before.ensures

pub loop-param-preserved : goal.loop-param-preserved
loop-param-preserved c =
    let within : c.loop-param.param-index < length c.args.params.now = omega arith in
    let key : List ℕ → ℕ × List ℕ = λ t. (0, t) in
    let left : drop c.loop-param.param-index c.args.params.now ≡ c.param-item.result ∷ drop (c.loop-param.param-index + 1) c.args.params.now =
    drop_more c.args.params.now c.loop-param.param-index c.param-item.result within ∙ ap (λ p. p ∷ drop (c.loop-param.param-index + 1) c.args.params.now) (sym c.param-item.is) in
    let before = c.in_ok-push.ensures.added ∙ ap (λ t. c.loop-param.before ++ key t ∷ []) c.bytes.ensures in
    ap (λ r. earlier r (soonest (params_faults c.args.classes.now c.push.new.self (map param_tree (drop (c.loop-param.param-index + 1) c.args.params.now))))) c.earlier-found.ensures
    ∙ ap (λ b. earlier (earlier c.loop-param.found c.param_fault.result) (soonest (params_faults c.args.classes.now b (map param_tree (drop (c.loop-param.param-index + 1) c.args.params.now))))) before
    ∙ next_fault c.loop-param.found c.param_fault.result (param_faults c.args.classes.now c.loop-param.before (param_tree c.param-item.result))
    (params_faults c.args.classes.now (c.loop-param.before ++ key c.param-item.result.name.text ∷ []) (map param_tree (drop (c.loop-param.param-index + 1) c.args.params.now))) c.param_fault.ensures
    ∙ ap (λ ps. earlier c.loop-param.found (soonest (params_faults c.args.classes.now c.loop-param.before (map param_tree ps)))) (sym left)
    ∙ c.loop-param.invariant

pub returns : goal.returns
returns c =
    let past : length c.args.params.now ≤ c.loop-param.param-index = omega arith in
    sym
    (ap (λ ps. earlier c.loop-param.found (soonest (params_faults c.args.classes.now c.loop-param.before (map param_tree ps)))) (drop_all c.loop-param.param-index c.args.params.now past)
    ∙ last_fault c.loop-param.found)
    ∙ c.loop-param.invariant
