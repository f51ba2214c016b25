use Rattle.std.proofs.Common.{Bool, ◌≡◌, get_or, bit_and, set, ap, subst, sym, ◌∙◌, eqb}
use Rattle.bounds_table.specs.declared.event.Event.TheVariants.{Claim}
use Rattle.bounds_table.specs.State.{State, IsSound, pair}
use Rattle.bounds_table.specs.Core.{IsLawful, is_free, after}
use Rattle.bounds_table.proofs.Runs.{sound_after}
use Rattle.bounds_table.proofs.Claiming.{in_claimed, in_claims, free_is, claimed_is}
use Rattle.bounds_table.proofs.machine.Core.claim.Goals as goal

pub asked-requires-clause-claimed : goal.asked-requires-clause-claimed
asked-requires-clause-claimed c =
    let i = c.self.inside in
    let s : State = record { problem = i.problem.value; table = i.table; kept = i.kept; claimed = i.claimed; workers = i.workers.items } in
    let event = Claim c.args.worker c.args.round c.args.tuple in
    let ok : IsLawful s event = subst (λ (n : State). IsLawful n event) (sym c.self.view_is) c.requires in
    in_claimed s c.args.worker c.args.round c.args.tuple c.word_of-at.result c.mask_of-mask.result c.len.result c.index_mut.result.now c.self.invariant.1 ok c.len.ensures c.word_of-at.ensures c.mask_of-mask.ensures c.index_mut.ensures.value

pub asked-requires-clause-claims : goal.asked-requires-clause-claims
asked-requires-clause-claims c =
    let i = c.self.inside in
    let s : State = record { problem = i.problem.value; table = i.table; kept = i.kept; claimed = i.claimed; workers = i.workers.items } in
    let event = Claim c.args.worker c.args.round c.args.tuple in
    let ok : IsLawful s event = subst (λ (n : State). IsLawful n event) (sym c.self.view_is) c.requires in
    in_claims s c.args.worker c.args.round c.args.tuple c.word_of-at.result c.mask_of-mask.result c.len.result c.index_mut.result.now c.self.invariant.1 ok c.len.ensures c.word_of-at.ensures c.mask_of-mask.ensures c.index_mut.ensures.value

pub invariant_of-self : goal.invariant_of-self
invariant_of-self c =
    let i = c.self.inside in
    let s : State = record { problem = i.problem.value; table = i.table; kept = i.kept; claimed = i.claimed; workers = i.workers.items } in
    let event = Claim c.args.worker c.args.round c.args.tuple in
    let ok : IsLawful s event = subst (λ (n : State). IsLawful n event) (sym c.self.view_is) c.requires in
    let found : eqb (bit_and (get_or c.as_slice.result.now c.word_of-at.result 0) c.mask_of-mask.result) 0 ≡ is_free s.claimed (pair s.problem c.args.round c.args.tuple) =
    ap (λ l. eqb (bit_and (get_or l c.word_of-at.result 0) c.mask_of-mask.result) 0) c.as_slice.ensures ∙ free_is s c.args.worker c.args.round c.args.tuple c.word_of-at.result c.mask_of-mask.result c.len.result c.index_mut.result.now c.self.invariant.1 ok c.len.ensures c.word_of-at.ensures c.mask_of-mask.ensures c.index_mut.ensures.value
    in
    let same : after s event ≡ record s { claimed = c.add_bits.new.set; workers = set i.workers.items c.args.worker c.asked.new.worker } =
    claimed_is s c.args.worker c.args.round c.args.tuple c.word_of-at.result c.mask_of-mask.result c.len.result c.index_mut.result.now c.self.invariant.1 ok c.len.ensures c.word_of-at.ensures c.mask_of-mask.ensures c.index_mut.ensures.value (eqb (bit_and (get_or c.as_slice.result.now c.word_of-at.result 0) c.mask_of-mask.result) 0) c.add_bits.new.set c.asked.new.worker found c.add_bits.ensures c.asked.ensures
    in
    (c.self.invariant.0, subst IsSound same (sound_after s event c.self.invariant.1 ok))

pub returns-clause-effect : goal.returns-clause-effect
returns-clause-effect c =
    let i = c.self.inside in
    let s : State = record { problem = i.problem.value; table = i.table; kept = i.kept; claimed = i.claimed; workers = i.workers.items } in
    let event = Claim c.args.worker c.args.round c.args.tuple in
    let ok : IsLawful s event = subst (λ (n : State). IsLawful n event) (sym c.self.view_is) c.requires in
    let found : eqb (bit_and (get_or c.as_slice.result.now c.word_of-at.result 0) c.mask_of-mask.result) 0 ≡ is_free s.claimed (pair s.problem c.args.round c.args.tuple) =
    ap (λ l. eqb (bit_and (get_or l c.word_of-at.result 0) c.mask_of-mask.result) 0) c.as_slice.ensures ∙ free_is s c.args.worker c.args.round c.args.tuple c.word_of-at.result c.mask_of-mask.result c.len.result c.index_mut.result.now c.self.invariant.1 ok c.len.ensures c.word_of-at.ensures c.mask_of-mask.ensures c.index_mut.ensures.value
    in
    let same : after s event ≡ record s { claimed = c.add_bits.new.set; workers = set i.workers.items c.args.worker c.asked.new.worker } =
    claimed_is s c.args.worker c.args.round c.args.tuple c.word_of-at.result c.mask_of-mask.result c.len.result c.index_mut.result.now c.self.invariant.1 ok c.len.ensures c.word_of-at.ensures c.mask_of-mask.ensures c.index_mut.ensures.value (eqb (bit_and (get_or c.as_slice.result.now c.word_of-at.result 0) c.mask_of-mask.result) 0) c.add_bits.new.set c.asked.new.worker found c.add_bits.ensures c.asked.ensures
    in
    sym same ∙ ap {A = State} {B = State} (λ n. after n event) c.self.view_is

pub returns-clause-free : goal.returns-clause-free
returns-clause-free c =
    let i = c.self.inside in
    let s : State = record { problem = i.problem.value; table = i.table; kept = i.kept; claimed = i.claimed; workers = i.workers.items } in
    let event = Claim c.args.worker c.args.round c.args.tuple in
    let ok : IsLawful s event = subst (λ (n : State). IsLawful n event) (sym c.self.view_is) c.requires in
    let found : eqb (bit_and (get_or c.as_slice.result.now c.word_of-at.result 0) c.mask_of-mask.result) 0 ≡ is_free s.claimed (pair s.problem c.args.round c.args.tuple) =
    ap (λ l. eqb (bit_and (get_or l c.word_of-at.result 0) c.mask_of-mask.result) 0) c.as_slice.ensures ∙ free_is s c.args.worker c.args.round c.args.tuple c.word_of-at.result c.mask_of-mask.result c.len.result c.index_mut.result.now c.self.invariant.1 ok c.len.ensures c.word_of-at.ensures c.mask_of-mask.ensures c.index_mut.ensures.value
    in
    found ∙ ap {A = State} {B = Bool} (λ n. is_free n.claimed (pair n.problem c.args.round c.args.tuple)) c.self.view_is
