-- One place more.
use Rattle.std.proofs.Common.{ℕ, ◌+◌, ◌<◌, Bool, ◌||◌, length, sym, subst, arith}
use Rattle.gate_core.proofs.Values.{keeps_twice}
use Rattle.gate_sets.specs.Lists.{at, AreTruths}
use Rattle.gate_sets.proofs.Standing.{both_read}
use Rattle.gate_sets.proofs.Places.{truths_more}
use Rattle.gate_sets.proofs.graphs.either_place.Goals as goal

pub loop-place-preserved : goal.loop-place-preserved
loop-place-preserved c =
    let old = c.args.gates.now in
    let middle = c.loop-place.gates in
    let new = c.either.new.gates in
    let a = c.args.a.now in
    let b = c.args.b.now in
    let place = c.loop-place.place in
    let inv = c.loop-place.invariant in
    let in_a : place < length a = omega arith in
    let in_b : place < length b = omega (arith, c.requires.wide) in
    record {
      keeps = keeps_twice old middle new inv.keeps c.in_ok-gate.ensures.keeps;
      so_far = subst (λ gs. AreTruths new (place + 1) (λ (inputs : ℕ → Bool) (i : ℕ). at old a inputs i || at old b inputs i) gs) (sym c.in_ok-push.ensures.items)
          (truths_more middle new place (λ (inputs : ℕ
          → Bool) (i : ℕ). at old a inputs i || at old b inputs i) c.loop-place.places.items c.in_ok-gate.gate inv.so_far c.in_ok-gate.ensures.keeps
          (both_read (λ s t. s || t) old middle new a b place place c.index-a-place.result c.index-b-place.result c.in_ok-gate.gate inv.keeps c.requires.left c.requires.right in_a in_b
          c.index-a-place.is c.index-b-place.is c.in_ok-gate.ensures.truth));
    }
