use Rattle.std.proofs.Common.{◌≡◌, All, length, take, subst, sym, ap, ◌∙◌, arith}
use Rattle.std.proofs.lemmas.List.{take_all}
use Rattle.derivation.specs.LogText.{text_of_log}
use Rattle.derivation.specs.Step.{HintsFit}
use Rattle.derivation.proofs.LogHints.{line_in_order}
use Rattle.derivation.proofs.writer.log_text.Goals as goal

pub returns-clause-again : goal.returns-clause-again
returns-clause-again c = λ vars order.
    let fit : All HintsFit c.args.log.now = subst (All HintsFit) c.lines-line-items.ensures.value c.lines-line-items.ensures.fit in
    record {
      lines = λ k d within. line_in_order vars _ (order k d within) (fit k d within);
      text_is = c.loop-line.invariant ∙ ap text_of_log (take_all c.loop-line.line-index c.lines-line-items.result.now (omega (arith, c.loop-line-test.false)) ∙ c.lines-line-items.ensures.value);
    }
