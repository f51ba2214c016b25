use Rattle.std.proofs.Common.{◌≡◌, sym, ◌∙◌}
use Rattle.std.specs.List.{list_all}
use Rattle.heap_core.specs.Stages.{is_done}
use Rattle.heap_core.proofs.Reached.{all_done}
use Rattle.heap_core.proofs.visit.reaches_all.Goals as goal

pub returns : goal.returns
returns c =
    let both = all_done c.args.start.now c.visit.new.stages c.visit.ensures.sized c.visit.ensures.done in
    let same : c.are_done.result ≡ list_all is_done c.visit.new.stages = c.are_done.ensures in
    (λ is. both.0 (sym same ∙ is), λ all. same ∙ both.1 all)
