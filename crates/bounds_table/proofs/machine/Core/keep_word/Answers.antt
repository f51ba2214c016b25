use Rattle.std.proofs.Common.{arith, ◌≡◌, set, subst, sym}
use Rattle.std.proofs.lemmas.Grind.{common_steps}
use Rattle.bounds_table.specs.declared.event.Event.TheVariants.{KeepWord}
use Rattle.bounds_table.specs.State.{State, IsSound}
use Rattle.bounds_table.specs.Core.{IsLawful, after}
use Rattle.bounds_table.proofs.Runs.{sound_after}
use Rattle.bounds_table.proofs.machine.Core.keep_word.Goals as goal

pub invariant_of-self : goal.invariant_of-self
invariant_of-self c =
    let i = c.self.inside in
    let s : State = record { problem = i.problem.value; table = i.table; kept = i.kept; claimed = i.claimed; workers = i.workers.items } in
    let event = KeepWord c.args.worker c.args.word c.args.bits in
    let ok : IsLawful s event = subst (λ (n : State). IsLawful n event) (sym c.self.view_is) c.requires in
    let same : after s event ≡ record s { kept = c.set.new.self; workers = set i.workers.items c.args.worker c.saw_kept.new.worker } = grind (arith, common_steps) in
    (c.self.invariant.0, subst IsSound same (sound_after s event c.self.invariant.1 ok))
