-- One place more.
use Rattle.std.proofs.Common.{ℕ, ◌<◌, Bool, not, ◌||◌, length, ap, arith}
use Rattle.gate_core.specs.Circuit.{value}
use Rattle.gate_core.proofs.Values.{keeps_twice}
use Rattle.gate_sets.specs.Lists.{at}
use Rattle.gate_sets.proofs.Standing.{both_read, truth_alike}
use Rattle.gate_sets.proofs.Places.{every_more}
use Rattle.gate_sets.proofs.rows.within.Goals as goal

pub loop-place-preserved : goal.loop-place-preserved
loop-place-preserved c =
    let old = c.args.gates.now in
    let middle = c.loop-place.gates in
    let third = c.either.new.gates in
    let new = c.both.new.gates in
    let a = c.args.a.now in
    let b = c.args.b.now in
    let x = c.index-a-place.result in
    let y = c.index-b-place.result in
    let place = c.loop-place.place in
    let inv = c.loop-place.invariant in
    let in_a : place < length a = omega arith in
    let in_b : place < length b = omega (arith, c.requires.wide) in
    record {
      keeps = keeps_twice old third new (keeps_twice old middle third inv.keeps c.in_ok-here.ensures.keeps) c.in_ok-every.ensures.keeps;
      every = every_more middle third new (λ (inputs : ℕ → Bool) (i : ℕ). not (at old a inputs i) || at old b inputs i) place c.loop-place.every c.in_ok-here.here c.in_ok-every.every
          inv.every c.in_ok-here.ensures.keeps
          (both_read (λ s t. not s || t) old middle third a b place place x y c.in_ok-here.here inv.keeps c.requires.left c.requires.right in_a in_b c.index-a-place.is c.index-b-place.is
          (truth_alike third (λ inputs. value inputs middle c.not.result || value inputs middle y) (λ inputs. not (value inputs middle x) || value inputs middle y)
          c.in_ok-here.here c.in_ok-here.ensures.truth
          (λ inputs. ap (λ v. v || value inputs middle y) (c.not.ensures.value inputs middle))))
          c.in_ok-every.ensures.truth;
    }
