-- One bit more of the second factor, from the sign down.
use Rattle.std.proofs.Common.{◌≡◌, ℕ, ◌+◌, ◌-◌, ◌<◌, length, sym, subst, arith, ◌*ℤ◌, Bool}
use Rattle.gate_core.specs.Circuit.{IsOf}
use Rattle.gate_arith.specs.Operations.{shown, high, doubled_with, IsNumber}
use Rattle.gate_core.proofs.Values.{keeps_twice}
use Rattle.gate_arith.proofs.Factors.{product_more}
use Rattle.gate_arith.proofs.multiplier.product.Goals as goal

pub loop-place-preserved : goal.loop-place-preserved
loop-place-preserved c =
    let old = c.args.gates.now in
    let middle = c.loop-place.gates in
    let a = c.args.a.now in
    let b = c.args.b.now in
    let place : ℕ = c.loop-place.place - 1 in
    let x = c.index-b-place.result in
    let number = c.loop-place.number.items in
    let inv = c.loop-place.invariant in
    let next : place + 1 ≡ c.loop-place.place = omega arith in
    let in_b : place + 1 < length b = omega (arith, inv.before, c.requires.wide) in
    let of_x : IsOf old x = grind (arith, c.requires.right place x (omega (arith, inv.before, c.requires.wide)), c.index-b-place.is) in
    let before : IsNumber middle (length a) (λ (inputs : ℕ → Bool). shown old a inputs *ℤ high old b (place + 1) inputs) number c.loop-place.within =
    subst (λ n. IsNumber middle (length a) (λ (inputs : ℕ → Bool). shown old a inputs *ℤ high old b n inputs) number c.loop-place.within) (sym next) inv.number in
    let step : IsNumber c.step.new.gates (length a) (doubled_with middle x a number) c.in_ok-next.next.items c.in_ok-next.fits =
    subst (λ gs. IsNumber c.step.new.gates (length a) (doubled_with middle x a gs) c.in_ok-next.next.items c.in_ok-next.fits) c.deref.ensures.value c.in_ok-next.ensures.step in
    record {
      before = omega (arith, inv.before);
      keeps = keeps_twice old middle c.both.new.gates inv.keeps (keeps_twice middle c.step.new.gates c.both.new.gates c.in_ok-next.ensures.keeps c.in_ok-within.ensures.keeps);
      number = product_more old middle c.step.new.gates c.both.new.gates a b place x c.loop-place.within c.in_ok-next.fits c.in_ok-within.within (length a) number c.in_ok-next.next.items
          in_b c.index-b-place.is of_x c.requires.left inv.keeps before step c.in_ok-next.ensures.keeps c.in_ok-within.ensures.truth c.in_ok-within.ensures.keeps;
    }

pub returns-clause-product : goal.returns-clause-product
returns-clause-product c =
    let old = c.args.gates.now in
    let a = c.args.a.now in
    let b = c.args.b.now in
    let none_left : c.loop-place.place ≡ 0 = omega arith in
    subst (λ n. IsNumber c.loop-place.gates (length a) (λ (inputs : ℕ → Bool). shown old a inputs *ℤ high old b n inputs) c.loop-place.number.items c.loop-place.within) none_left c.loop-place.invariant.number
