-- One place more.
use Rattle.std.proofs.Common.{ℕ, ◌<◌, Bool, not, length, ap, ◌∙◌, arith}
use Rattle.gate_core.proofs.Values.{keeps_twice}
use Rattle.gate_arith.specs.Numbers.{differ}
use Rattle.gate_sets.specs.Lists.{at}
use Rattle.gate_sets.proofs.Standing.{both_read}
use Rattle.gate_sets.proofs.Places.{every_more}
use Rattle.gate_sets.proofs.choices.same_places.Goals as goal

pub loop-place-preserved : goal.loop-place-preserved
loop-place-preserved c =
    let old = c.args.gates.now in
    let middle = c.loop-place.gates in
    let third = c.exclusive_or.new.gates in
    let new = c.both.new.gates in
    let a = c.args.a.now in
    let b = c.args.b.now in
    let x = c.index-a-place.result in
    let y = c.index-b-place.result in
    let apart = c.in_ok-apart.apart in
    let place = c.loop-place.place in
    let inv = c.loop-place.invariant in
    let in_a : place < length a = omega arith in
    let in_b : place < length b = omega (arith, c.requires.wide) in
    let read = both_read (λ s t. differ s t) old middle third a b place place x y apart inv.keeps c.requires.left c.requires.right in_a in_b c.index-a-place.is
    c.index-b-place.is c.in_ok-apart.ensures.truth in
    record {
      keeps = keeps_twice old third new (keeps_twice old middle third inv.keeps c.in_ok-apart.ensures.keeps) c.in_ok-same.ensures.keeps;
      same = every_more middle third new (λ (inputs : ℕ → Bool) (i : ℕ). not (differ (at old a inputs i) (at old b inputs i))) place c.loop-place.same c.not.result c.in_ok-same.same
          inv.same c.in_ok-apart.ensures.keeps
          (record { of = c.not.ensures.of third read.of; value_is = λ inputs. c.not.ensures.value inputs third ∙ ap not (read.value_is inputs) })
          c.in_ok-same.ensures.truth;
    }
