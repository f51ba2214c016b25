-- One place more.
use Rattle.std.proofs.Common.{ℕ, ◌+◌, ◌<◌, Bool, ◌&&◌, length, ap, ◌∙◌, arith}
use Rattle.std.specs.List.{list_any, range_with_len}
use Rattle.gate_core.specs.Circuit.{value, Keeps}
use Rattle.gate_core.proofs.Values.{keeps_twice, of_more}
use Rattle.gate_sets.specs.Lists.{at}
use Rattle.gate_sets.specs.Shapes.{are_many}
use Rattle.gate_sets.proofs.Standing.{read_kept, read_of, truth_kept, truth_alike}
use Rattle.gate_sets.proofs.Places.{any_more}
use Rattle.gate_sets.proofs.sets.many.Goals as goal

pub loop-place-preserved : goal.loop-place-preserved
loop-place-preserved c =
    let old = c.args.gates.now in
    let middle = c.loop-place.gates in
    let second = c.both.new.gates in
    let third = c.either.new.gates in
    let new = c.either-in-loop-place.new.gates in
    let list = c.args.list.now in
    let x = c.index-list-place.result in
    let place = c.loop-place.place in
    let inv = c.loop-place.invariant in
    let within : place < length list = omega arith in
    let grown : Keeps middle third = keeps_twice middle second third c.in_ok-again.ensures.keeps c.in_ok-many.ensures.keeps in
    let kept : Keeps old third = keeps_twice old middle third inv.keeps grown in
    record {
      keeps = keeps_twice old third new kept c.in_ok-some.ensures.keeps;
      some = any_more middle third new (λ (inputs : ℕ → Bool). at old list inputs) place c.loop-place.some x c.in_ok-some.some inv.some grown
          (record {
            of = of_more old third x kept (read_of old list place x c.requires within c.index-list-place.is);
            value_is = λ inputs. read_kept old third list inputs
                place x kept c.requires within c.index-list-place.is;
          })
          c.in_ok-some.ensures.truth;
      many = truth_kept third new (λ inputs. are_many (place + 1) (at old list inputs)) c.in_ok-many.many
          (any_more middle second third (λ (inputs : ℕ
          → Bool) (j : ℕ). at old list inputs j && list_any (at old list inputs) (range_with_len 0 j)) place c.loop-place.many c.in_ok-again.again c.in_ok-many.many inv.many
          c.in_ok-again.ensures.keeps
          (truth_alike second (λ inputs. value inputs middle x && value inputs middle c.loop-place.some) (λ inputs. at old list inputs place && list_any (at old list
          inputs) (range_with_len 0 place)) c.in_ok-again.again c.in_ok-again.ensures.truth
          (λ inputs. ap (λ v. v && value inputs middle c.loop-place.some) (read_kept old middle list inputs place x inv.keeps c.requires within c.index-list-place.is)
          ∙ ap (λ v. at old list inputs place && v) (inv.some.value_is inputs)))
          c.in_ok-many.ensures.truth)
          c.in_ok-some.ensures.keeps;
    }

pub returns-in_err-some-clause-keeps : goal.returns-in_err-some-clause-keeps
returns-in_err-some-clause-keeps c =
    let old = c.args.gates.now in
    let middle = c.loop-place.gates in
    let second = c.both.new.gates in
    let third = c.either.new.gates in
    keeps_twice old third c.either-in-loop-place.new.gates
    (keeps_twice old middle third c.loop-place.invariant.keeps (keeps_twice middle second third c.in_ok-again.ensures.keeps c.in_ok-many.ensures.keeps)) c.either-in-loop-place.ensures.keeps
