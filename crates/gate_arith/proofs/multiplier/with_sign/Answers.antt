-- The factor, negated, where the sign is set.
use Rattle.std.proofs.Common.{◌≡◌, ℕ, suc, ◌-◌, length, sym, subst, arith, ◌-ℤ◌, All}
use Rattle.gate_core.specs.Circuit.{IsOf}
use Rattle.gate_arith.specs.Operations.{shown, IsNumber, IsSelected}
use Rattle.gate_arith.proofs.Counts.{zeros_of}
use Rattle.gate_arith.proofs.Factors.{product_first}
use Rattle.gate_arith.proofs.multiplier.with_sign.Goals as goal

pub returns-clause-number : goal.returns-clause-number
returns-clause-number c =
    let old = c.args.gates.now in
    let middle = c.select.new.gates in
    let a = c.args.a.now in
    let b = c.args.b.now in
    let none = c.constant-none.result in
    let zeros = c.in_ok-zeros.zeros.items in
    let masked = c.in_ok-masked.masked.items in
    let top : ℕ = length a - 1 in
    let long_a : length a ≡ suc top = omega (arith, c.requires.some) in
    let long_b : length b ≡ suc top = omega (arith, c.requires.some, c.requires.wide) in
    let chosen : IsSelected old middle c.index-b-a.result a zeros masked =
    subst (λ gs. IsSelected old middle c.index-b-a.result a gs masked) c.deref.ensures.value c.in_ok-masked.ensures.selected in
    let is : IsNumber c.difference.new.gates (length zeros) (λ inputs. shown middle zeros inputs -ℤ shown middle masked inputs) c.in_ok-number.number.0.items c.in_ok-number.number.1 =
    subst (λ gs. IsNumber c.difference.new.gates (length gs) (λ inputs. shown middle gs inputs -ℤ shown middle masked inputs) c.in_ok-number.number.0.items c.in_ok-number.number.1) c.deref-2.ensures.value
    (subst (λ gs. IsNumber c.difference.new.gates (length c.deref-2.result.now) (λ inputs. shown middle c.deref-2.result.now inputs -ℤ shown middle gs inputs) c.in_ok-number.number.0.items c.in_ok-number.number.1) c.deref-3.ensures.value
    c.in_ok-number.ensures.difference) in
    product_first old middle c.difference.new.gates a b masked zeros none c.index-b-a.result top c.in_ok-number.number.1 c.in_ok-number.number.0.items
    c.constant-none.ensures.value c.constant-none.ensures.of long_a long_b c.index-b-a.is c.in_ok-zeros.ensures chosen c.in_ok-masked.ensures.keeps
    (subst (λ gs. All (IsOf old) gs) (sym c.in_ok-zeros.ensures) (zeros_of old none (length a) c.constant-none.ensures.of)) is
