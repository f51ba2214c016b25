use Rattle.std.proofs.Common.{◌≡◌, ℕ, List, Some, refl, sym, ap, ◌∙◌, subst, length, arith}
use Rattle.std.specs.Prelude.{slice_get}
use Rattle.std.proofs.lemmas.Option.{slice_get_read, slice_get_within}
use Rattle.taco_unit.specs.declared.unit.ParamDef.{ParamDef}
use Rattle.taco_report.specs.Texts.{argument_line, params_of}
use Rattle.taco_report.specs.States.{NoLine, is_given}
use Rattle.taco_report.proofs.StateLines.{arguments_more, no_argument_lines}
use Rattle.taco_report.proofs.state_reader.argument_lines.Goals as goal

pub loop-params-init : goal.loop-params-init
loop-params-init c = rw c.new-args.ensures (refl, no_argument_lines c.args.problem.now c.args.text.now, omega arith, c.params_in-params.ensures)

pub returns-in_default-clause-none : goal.returns-in_default-clause-none
returns-in_default-clause-none c =
    λ q is.
    let none = rw c.in_default.is at c.in_ok-value.ensures.none in
    let params : c.params_in-params.result.now ≡ params_of c.args.problem.now = c.loop-params.invariant.3 in
    let at : slice_get c.params_in-params.result.now c.len-in-loop-params.result ≡ Some c.index-params-len.result =
    slice_get_read c.params_in-params.result.now (length c.params_in-params.result.now) c.len-in-loop-params.result c.index-params-len.result refl (omega (arith, c.len-in-loop-params.ensures, c.len.ensures)) c.index-params-len.is in
    let there : slice_get (params_of c.args.problem.now) (length c.loop-params.args) ≡ Some c.index-params-len.result =
    ap (λ (ps : List ParamDef). slice_get ps (length c.loop-params.args)) (sym params) ∙ ap (λ (i : ℕ). slice_get c.params_in-params.result.now i) (sym c.len-in-loop-params.ensures) ∙ at in
    let both : Some c.index-params-len.result ≡ Some q = sym there ∙ is in
    let same : c.index-params-len.result ≡ q = cc in
    subst (λ (s : ParamDef). NoLine (is_given c.args.count s) (λ v. argument_line (s, v)) c.loop-params.rest.now) same none

pub loop-params-preserved : goal.loop-params-preserved
loop-params-preserved c =
    let found = rw c.in-Some.is at c.in_ok-value.ensures.found in
    let params : c.params_in-params.result.now ≡ params_of c.args.problem.now = c.loop-params.invariant.3 in
    let at : slice_get c.params_in-params.result.now c.len-in-loop-params.result ≡ Some c.index-params-len.result =
    slice_get_read c.params_in-params.result.now (length c.params_in-params.result.now) c.len-in-loop-params.result c.index-params-len.result refl (omega (arith, c.len-in-loop-params.ensures, c.len.ensures)) c.index-params-len.is in
    let there : slice_get (params_of c.args.problem.now) (length c.loop-params.args) ≡ Some c.index-params-len.result =
    ap (λ (ps : List ParamDef). slice_get ps (length c.loop-params.args)) (sym params) ∙ ap (λ (i : ℕ). slice_get c.params_in-params.result.now i) (sym c.len-in-loop-params.ensures) ∙ at in
    rw c.in_ok-push.ensures.ok
    (let h = arguments_more c.args.problem.now c.args.count c.loop-params.args c.index-params-len.result c.in-Some.value c.args.text.now c.loop-params.rest.now c.in-Some.behind.now
    c.loop-params.invariant.0 there found.0 c.loop-params.invariant.1 found.1 (slice_get_within (params_of c.args.problem.now) (length c.loop-params.args) c.index-params-len.result there) in
    (h.0, h.1, h.2, params))

pub returns-clause-none : goal.returns-clause-none
returns-clause-none c =
    λ q there. absurd (omega (arith, slice_get_within (params_of c.args.problem.now) (length c.loop-params.args) q there, ap length c.loop-params.invariant.3))
