-- The opposite bits are added with a carry.
use Rattle.std.proofs.Common.{◌≡◌, length, map, sym, subst, arith, All, ◌∙◌, pos, ◌+ℤ◌}
use Rattle.gate_core.specs.Circuit.{value, negation, IsOf}
use Rattle.gate_arith.specs.Numbers.{bit}
use Rattle.gate_arith.specs.Operations.{shown, IsNumber}
use Rattle.gate_arith.proofs.Differences.{opposites_of, difference_of}
use Rattle.gate_arith.proofs.adder.difference.Goals as goal

pub add-requires-clause-right : goal.add-requires-clause-right
add-requires-clause-right c =
    let same : c.deref.result.now ≡ map negation c.args.b.now = c.deref.ensures.value ∙ c.in_ok-opposite.ensures in
    subst (λ gs. All (IsOf c.args.gates.now) gs) (sym same) (opposites_of c.args.gates.now c.args.b.now c.requires.right)

pub returns-clause-difference : goal.returns-clause-difference
returns-clause-difference c =
    let same : c.deref.result.now ≡ map negation c.args.b.now = c.deref.ensures.value ∙ c.in_ok-opposite.ensures in
    difference_of c.args.gates.now c.add.new.gates c.args.a.now c.args.b.now c.constant-one.result (length c.args.a.now) c.in_ok-number.number.0.items c.in_ok-number.number.1
    c.constant-one.ensures.value (omega (arith, c.requires.some, c.requires.wide))
    (subst (λ gs. IsNumber c.add.new.gates (length c.args.a.now) (λ inputs. shown c.args.gates.now c.args.a.now inputs +ℤ shown c.args.gates.now gs inputs +ℤ pos (bit (value inputs c.args.gates.now c.constant-one.result))) c.in_ok-number.number.0.items c.in_ok-number.number.1) same c.in_ok-number.ensures.sum)
