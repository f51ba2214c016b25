use Rattle.std.proofs.Common.{◌≡◌, set, ap, subst, sym, ◌∙◌}
use Rattle.bounds_table.specs.declared.event.Event.TheVariants.{Join}
use Rattle.bounds_table.specs.State.{State, IsSound}
use Rattle.bounds_table.specs.Core.{IsLawful, after}
use Rattle.bounds_table.proofs.Runs.{sound_after}
use Rattle.bounds_table.proofs.Joining.{same_words, joined_is}
use Rattle.bounds_table.proofs.machine.Core.join.Goals as goal

pub took_in-requires-clause-words : goal.took_in-requires-clause-words
took_in-requires-clause-words c =
    let i = c.self.inside in
    let s : State = record { problem = i.problem.value; table = i.table; kept = i.kept; claimed = i.claimed; workers = i.workers.items } in
    let ok : IsLawful s (Join c.args.worker c.args.other) = subst (λ (n : State). IsLawful n (Join c.args.worker c.args.other)) (sym c.self.view_is) c.requires in
    same_words s c.args.worker c.args.other c.index_mut.result.now c.index_mut-2.result.now c.take.new.self c.in-Some.theirs c.self.invariant.1 ok c.index_mut.ensures.value c.in-Some.ensures.value c.take.ensures.after c.index_mut-2.ensures.value

pub invariant_of-self : goal.invariant_of-self
invariant_of-self c =
    let i = c.self.inside in
    let s : State = record { problem = i.problem.value; table = i.table; kept = i.kept; claimed = i.claimed; workers = i.workers.items } in
    let event = Join c.args.worker c.args.other in
    let ok : IsLawful s event = subst (λ (n : State). IsLawful n event) (sym c.self.view_is) c.requires in
    let same : after s event ≡ record s { workers = set (set i.workers.items c.args.other c.take.new.self) c.args.worker c.took_in.new.worker } =
    joined_is s c.args.worker c.args.other c.index_mut.result.now c.index_mut-2.result.now c.take.new.self c.in-Some.theirs c.self.invariant.1 ok c.index_mut.ensures.value c.in-Some.ensures.value c.take.ensures.after c.index_mut-2.ensures.value c.took_in.new.worker c.took_in.ensures
    in
    (c.self.invariant.0, subst IsSound same (sound_after s event c.self.invariant.1 ok))

pub returns : goal.returns
returns c =
    let i = c.self.inside in
    let s : State = record { problem = i.problem.value; table = i.table; kept = i.kept; claimed = i.claimed; workers = i.workers.items } in
    let event = Join c.args.worker c.args.other in
    let ok : IsLawful s event = subst (λ (n : State). IsLawful n event) (sym c.self.view_is) c.requires in
    let same : after s event ≡ record s { workers = set (set i.workers.items c.args.other c.take.new.self) c.args.worker c.took_in.new.worker } =
    joined_is s c.args.worker c.args.other c.index_mut.result.now c.index_mut-2.result.now c.take.new.self c.in-Some.theirs c.self.invariant.1 ok c.index_mut.ensures.value c.in-Some.ensures.value c.take.ensures.after c.index_mut-2.ensures.value c.took_in.new.worker c.took_in.ensures
    in
    sym same ∙ ap {A = State} {B = State} (λ n. after n event) c.self.view_is
