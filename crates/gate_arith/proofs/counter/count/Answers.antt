-- One bit more, and at the end the sign.
use Rattle.std.proofs.Common.{◌≡◌, ℕ, suc, ◌-◌, ◌<◌, length, sym, subst, ◌∙◌, arith, pos}
use Rattle.std.specs.Prelude.{replicate}
use Rattle.gate_core.specs.Circuit.{IsOf}
use Rattle.gate_arith.specs.Numbers.{how_many}
use Rattle.gate_arith.specs.Operations.{bits as bits_of, IsNumber}
use Rattle.gate_arith.specs.Ripple.{IsPartial}
use Rattle.gate_arith.specs.Counting.{IsCounted}
use Rattle.gate_arith.proofs.Counts.{counted_none, counted_more, counted_all}
use Rattle.gate_arith.proofs.counter.count.Goals as goal

pub loop-place-init : goal.loop-place-init
loop-place-init c =
    subst (λ gs. IsCounted c.args.gates.now c.args.gates.now c.args.bits.now (c.from-places.result - 1) 0 gs c.constant-none.result) (sym c.in_ok-low.ensures)
    (counted_none c.args.gates.now c.args.bits.now (c.from-places.result - 1) c.constant-none.result c.constant-none.ensures.of c.constant-none.ensures.value)

pub loop-place-preserved : goal.loop-place-preserved
loop-place-preserved c =
    let old = c.args.gates.now in
    let middle = c.loop-place.gates in
    let third = c.ripple.new.gates in
    let bits = c.args.bits.now in
    let place = c.loop-place.place in
    let none = c.constant-none.result in
    let places : ℕ = c.from-places.result - 1 in
    let x = c.index-bits-place.result in
    let in_bits : place < length bits = omega arith in
    let of_x : IsOf old x = grind (arith, c.requires.bits place x in_bits, c.index-bits-place.is) in
    let zeros : c.deref-in-loop-place.result.now ≡ replicate places none = c.deref-in-loop-place.ensures.value ∙ c.in_ok-zeros.ensures in
    let sum : IsPartial middle third c.loop-place.low.items (replicate places none) x (length c.loop-place.low.items) c.in_ok-next.next.items c.in_ok-next.carry =
    subst (λ gs. IsPartial middle third c.loop-place.low.items gs x (length c.loop-place.low.items) c.in_ok-next.next.items c.in_ok-next.carry) zeros
    (subst (λ gs. IsPartial middle third gs c.deref-in-loop-place.result.now x (length gs) c.in_ok-next.next.items c.in_ok-next.carry) c.deref.ensures.value c.in_ok-next.ensures.sum) in
    counted_more old middle third c.either.new.gates bits places place x none c.loop-place.over c.in_ok-over.over c.in_ok-next.carry c.loop-place.low.items c.in_ok-next.next.items
    c.loop-place.invariant c.constant-none.ensures.of c.constant-none.ensures.value in_bits c.index-bits-place.is of_x sum c.in_ok-over.ensures.truth c.in_ok-over.ensures.keeps

pub returns-clause-count : goal.returns-clause-count
returns-clause-count c =
    let old = c.args.gates.now in
    let bits = c.args.bits.now in
    let places : ℕ = c.from-places.result - 1 in
    let all : c.loop-place.place ≡ length bits = omega arith in
    let width : c.args.width ≡ suc places = grind (arith, c.from-places.ensures, c.requires.width) in
    subst (λ gs. IsNumber c.loop-place.gates c.args.width (λ inputs. pos (how_many (bits_of inputs old bits))) gs c.not.result) (sym c.in_ok-push.ensures.items)
    (counted_all old c.loop-place.gates bits places c.args.width c.constant-none.result c.loop-place.over c.not.result c.loop-place.low.items width
    (subst (λ n. IsCounted old c.loop-place.gates bits places n c.loop-place.low.items c.loop-place.over) all c.loop-place.invariant)
    c.constant-none.ensures.of c.constant-none.ensures.value (c.not.ensures.of c.loop-place.gates c.loop-place.invariant.over_of) (λ inputs. c.not.ensures.value inputs c.loop-place.gates))
