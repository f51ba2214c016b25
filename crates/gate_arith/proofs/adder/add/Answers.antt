-- The sum of the lower places, and of the signs.
use Rattle.std.proofs.Common.{◌≡◌, ℕ, ◌-◌, suc, [], ◌∷◌, ◌++◌, length, take, sym, subst, arith, pos, ◌+ℤ◌}
use Rattle.gate_core.specs.Circuit.{value, IsOf}
use Rattle.gate_arith.specs.Numbers.{bit}
use Rattle.gate_arith.specs.Operations.{shown, IsNumber}
use Rattle.gate_arith.specs.Ripple.{IsPartial}
use Rattle.gate_arith.proofs.Sums.{sum_number}
use Rattle.gate_arith.proofs.adder.add.Goals as goal

pub returns-clause-sum : goal.returns-clause-sum
returns-clause-sum c =
    let old = c.args.gates.now in
    let a = c.args.a.now in
    let b = c.args.b.now in
    let top : ℕ = length a - 1 in
    let long_a : length a ≡ suc top = omega (arith, c.requires.some) in
    let long_b : length b ≡ suc top = omega (arith, c.requires.some, c.requires.wide) in
    let x = c.index-a-top.result in
    let y = c.index-b-top.result in
    let of_x : IsOf old x = grind (arith, c.requires.left top x (omega arith), c.index-a-top.is) in
    let of_y : IsOf old y = grind (arith, c.requires.right top y (omega arith), c.index-b-top.is) in
    let low_a : c.split_at.result.0.now ≡ take top a = c.split_at.ensures.front in
    let low_b : c.split_at-2.result.0.now ≡ take top b = c.split_at-2.ensures.front in
    let count : length c.split_at.result.0.now ≡ top = c.split_at.ensures.front_len in
    let part : IsPartial old c.ripple.new.gates (take top a) (take top b) c.args.carry top c.in_ok-sum.sum.items c.in_ok-sum.into =
    subst (λ xs. IsPartial old c.ripple.new.gates xs (take top b) c.args.carry top c.in_ok-sum.sum.items c.in_ok-sum.into) low_a
    (subst (λ ys. IsPartial old c.ripple.new.gates c.split_at.result.0.now ys c.args.carry top c.in_ok-sum.sum.items c.in_ok-sum.into) low_b
    (subst (λ n. IsPartial old c.ripple.new.gates c.split_at.result.0.now c.split_at-2.result.0.now c.args.carry n c.in_ok-sum.sum.items c.in_ok-sum.into) count c.in_ok-sum.ensures.sum)) in
    subst (λ s. IsNumber c.exclusive_or.new.gates (length a) (λ inputs. shown old a inputs +ℤ shown old b inputs +ℤ pos (bit (value inputs old c.args.carry))) s c.not.result) (sym c.in_ok-push.ensures.items)
    (subst (λ n. IsNumber c.exclusive_or.new.gates n (λ inputs. shown old a inputs +ℤ shown old b inputs +ℤ pos (bit (value inputs old c.args.carry))) (c.in_ok-sum.sum.items ++ c.in_ok-sign.sign ∷ []) c.not.result) (sym long_a)
    (sum_number old c.ripple.new.gates c.full_add.new.gates c.exclusive_or.new.gates a b top c.args.carry x y c.in_ok-sum.into c.in_ok-sign.sign c.in_ok-sign.out c.in_ok-wraps.wraps c.not.result
    c.in_ok-sum.sum.items long_a long_b c.index-a-top.is c.index-b-top.is of_x of_y part c.in_ok-sign.ensures.sum c.in_ok-sign.ensures.keeps
    c.in_ok-wraps.ensures.truth c.in_ok-wraps.ensures.keeps (c.not.ensures.of c.exclusive_or.new.gates c.in_ok-wraps.ensures.truth.of)
    (λ inputs. c.not.ensures.value inputs c.exclusive_or.new.gates)))
