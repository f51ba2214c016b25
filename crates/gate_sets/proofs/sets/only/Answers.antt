-- One place more.
use Rattle.std.proofs.Common.{ℕ, ◌+◌, ◌<◌, Bool, not, ◌&&◌, length, All, sym, subst, ap, ◌∙◌, arith}
use Rattle.std.proofs.lemmas.List.Elements.{All-drop}
use Rattle.gate_core.specs.Circuit.{value, IsOf, Keeps}
use Rattle.gate_core.proofs.Values.{keeps_twice}
use Rattle.gate_sets.specs.Lists.{at, AreTruths}
use Rattle.gate_sets.specs.Shapes.{is_only}
use Rattle.gate_sets.proofs.Standing.{read_kept}
use Rattle.gate_sets.proofs.Places.{truths_more}
use Rattle.gate_sets.proofs.Several.{only_is}
use Rattle.gate_sets.proofs.sets.only.Goals as goal

pub loop-place-preserved : goal.loop-place-preserved
loop-place-preserved c =
    let old = c.args.gates.now in
    let first = c.many.new.gates in
    let middle = c.loop-place.gates in
    let new = c.both.new.gates in
    let list = c.split_at.result.1.now in
    let several = c.in_ok-several.several in
    let x = c.index-list-place.result in
    let place = c.loop-place.place in
    let inv = c.loop-place.invariant in
    let of_list : All (IsOf old) list = subst (λ gs. All (IsOf old) gs) (sym c.split_at.ensures.back) (All-drop (IsOf old) 1 c.args.set.now c.requires.set) in
    let within : place < length list = omega arith in
    let kept : Keeps old middle = keeps_twice old first middle c.in_ok-several.ensures.keeps inv.keeps in
    record {
      keeps = keeps_twice first middle new inv.keeps c.in_ok-gate.ensures.keeps;
      so_far = subst (λ gs. AreTruths new (place + 1) (λ (inputs : ℕ → Bool) (o : ℕ). is_only (length list) (at old list inputs) o) gs) (sym c.in_ok-push.ensures.items)
          (truths_more middle new place (λ (inputs : ℕ
          → Bool) (o : ℕ). is_only (length list) (at old list inputs) o) c.loop-place.only.items c.in_ok-gate.gate inv.so_far c.in_ok-gate.ensures.keeps
          (record {
            of = c.in_ok-gate.ensures.truth.of;
            value_is = λ inputs.
                c.in_ok-gate.ensures.truth.value_is inputs
                ∙ ap (λ v. v && value inputs middle c.not.result) (read_kept old middle list inputs place x kept of_list within c.index-list-place.is)
                ∙ ap (λ v. at old list inputs place && v)
                (c.not.ensures.value inputs middle ∙ ap not (inv.keeps.values inputs several c.in_ok-several.ensures.many.of ∙ c.in_ok-several.ensures.many.value_is inputs))
                ∙ only_is (length list) (at old list inputs) place within;
          }));
    }
