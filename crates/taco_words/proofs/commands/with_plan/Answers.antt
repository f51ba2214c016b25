use Rattle.std.proofs.Common.{rules, ap₂, ◌∙◌}
use Rattle.std.proofs.lemmas.Result.{IfOk-weaker}
use Rattle.clap.specs.Words.{with_rule}
use Rattle.taco_words.proofs.commands.with_plan.Goals as goal

pub returns : goal.returns
returns c =
    IfOk-weaker c.with-3.result _ _ (λ made is. is ∙ ap₂ with_rule (c.in_ok-command-2.ensures ∙ ap₂ with_rule (c.in_ok-command.ensures ∙ ap₂ with_rule (search rules) c.option_arg.ensures.rule) c.option_arg-2.ensures.rule) c.option_arg-3.ensures.rule) c.with-3.ensures
