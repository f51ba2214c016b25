use Rattle.std.proofs.lemmas.Result.{IfOk-weaker}
use Rattle.taco_report.specs.declared.status.Status.TheVariants as status
use Rattle.taco_report.specs.RefusalLines.{refusal_line}
use Rattle.replay_command.specs.Replaying.{IsShown, ReplaysText, shown, refused}
use Rattle.command_files.specs.Outcomes.{IsOutcome}
use Rattle.replay_command.proofs.Answering.{not_state}
use Rattle.replay_command.proofs.command.replay_of.Goals as goal

pub returns-in-Ok : goal.returns-in-Ok
returns-in-Ok c =
    let p = c.args.problem.now in
    let read = c.in-Ok.ensures.read in
    IfOk-weaker c.shown.result (IsShown p c.in-Ok.start) (ReplaysText p c.args.text.now)
    (λ o is. shown c.in-Ok.start (record { short = c.requires; fits = read.0; text = read.1.text_is }) is) c.shown.ensures

pub returns-in-Err-BadState : goal.returns-in-Err-BadState
returns-in-Err-BadState c =
    let p = c.args.problem.now in
    let at = c.in-Err-BadState.at in
    let fault = c.in-Err-BadState.ensures in
    IfOk-weaker c.refusal.result (IsOutcome (status.BadState at) (refusal_line (status.BadState at))) (ReplaysText p c.args.text.now)
    (λ o is. refused at (not_state p c.args.text.now c.in-Err-BadState.field-0 at c.in-Err-BadState.field-0-is c.requires fault.fault fault.whole) is) c.refusal.ensures
