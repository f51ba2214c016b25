use Rattle.rel_core.specs.Meaning.{leads}
use Rattle.rel_core.specs.Views.{read, is_marked}
use Rattle.rel_core.proofs.MarkedSets.{rounds_more}
use Rattle.rel_core.proofs.holds.sets.closed.Goals as goal

pub loop-round-preserved : goal.loop-round-preserved
loop-round-preserved c =
    let edge = leads (read c.args.view) c.args.relations.now in
    let begin = is_marked c.args.begin in
    let now = is_marked c.loop-round.marks in
    let wider = is_marked c.widened-marks.result in
    rounds_more c.loop-round._round edge c.args.view.objects begin now wider c.loop-round.invariant c.widened-marks.ensures
