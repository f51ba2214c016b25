-- The sum of the number doubled and the factor where its bit is set.
use Rattle.std.proofs.Common.{◌≡◌, ◌+◌, [], ◌∷◌, ◌++◌, length, subst, ap, ◌∙◌, arith, pos, ◌+ℤ◌, false}
use Rattle.std.specs.Prelude.{replicate, if◌then◌else◌}
use Rattle.std.proofs.Math.IntN.{+ℤ_comm}
use Rattle.gate_core.specs.Circuit.{value}
use Rattle.gate_arith.specs.Operations.{shown, doubled_with, IsNumber, IsSelected}
use Rattle.gate_arith.proofs.Differences.{number_same}
use Rattle.gate_arith.proofs.Ripple.{shown_keep}
use Rattle.gate_arith.proofs.Steps.{shown_addend, shown_double}
use Rattle.gate_arith.proofs.multiplier.double_and_add.Goals as goal

pub returns-clause-sum : goal.returns-clause-sum
returns-clause-sum c =
    let old = c.args.gates.now in
    let middle = c.select.new.gates in
    let a = c.args.a.now in
    let number = c.args.number.now in
    let none = c.constant-none.result in
    let x = c.index-sign.result.now in
    let addend0 = c.in_ok-addend.addend.items in
    let zeros : c.deref.result.now ≡ replicate (length a) none = c.deref.ensures.value ∙ c.in_ok-zeros.ensures in
    let chosen : IsSelected old middle c.args.bit a (replicate (length a) none) addend0 =
    subst (λ gs. IsSelected old middle c.args.bit a gs addend0) zeros c.in_ok-addend.ensures.selected in
    let double : c.deref-2.result.now ≡ none ∷ number = c.deref-2.ensures.value ∙ c.in_ok-double.ensures in
    let addend : c.deref-3.result.now ≡ addend0 ++ x ∷ [] = c.deref-3.ensures.value ∙ c.in_ok-push.ensures.items in
    let width : length c.deref-2.result.now ≡ length a + 1 = ap length double ∙ (let w = c.requires.wide in omega arith) in
    let is : IsNumber c.sum.new.gates (length a + 1) (λ inputs. shown middle (none ∷ number) inputs +ℤ shown middle (addend0 ++ x ∷ []) inputs) c.in_ok-total.total.0.items c.in_ok-total.total.1 =
    subst (λ n. IsNumber c.sum.new.gates n (λ inputs. shown middle (none ∷ number) inputs +ℤ shown middle (addend0 ++ x ∷ []) inputs) c.in_ok-total.total.0.items c.in_ok-total.total.1) width
    (subst (λ gs. IsNumber c.sum.new.gates (length c.deref-2.result.now) (λ inputs. shown middle gs inputs +ℤ shown middle (addend0 ++ x ∷ []) inputs) c.in_ok-total.total.0.items c.in_ok-total.total.1) double
    (subst (λ gs. IsNumber c.sum.new.gates (length c.deref-2.result.now) (λ inputs. shown middle c.deref-2.result.now inputs +ℤ shown middle gs inputs) c.in_ok-total.total.0.items c.in_ok-total.total.1) addend c.in_ok-total.ensures.sum)) in
    number_same c.sum.new.gates (length a + 1) (λ inputs. shown middle (none ∷ number) inputs +ℤ shown middle (addend0 ++ x ∷ []) inputs) (doubled_with old c.args.bit a number) c.in_ok-total.total.0.items c.in_ok-total.total.1
    (λ inputs.
    let is_false : value inputs old none ≡ false = c.constant-none.ensures.value inputs in
    ap (λ z. z +ℤ shown middle (addend0 ++ x ∷ []) inputs)
    (shown_double inputs middle none number (c.in_ok-addend.ensures.keeps.values inputs none c.constant-none.ensures.of ∙ is_false) (let s = c.requires.some in let w = c.requires.wide in omega arith)
    ∙ ap (λ z. z +ℤ z) (shown_keep inputs old middle number c.in_ok-addend.ensures.keeps c.requires.number))
    ∙ ap (λ z. (shown old number inputs +ℤ shown old number inputs) +ℤ z)
    (shown_addend inputs old middle c.args.bit none a addend0 x is_false chosen c.requires.some c.index-sign.ensures)
    ∙ +ℤ_comm (shown old number inputs +ℤ shown old number inputs) (if value inputs old c.args.bit then shown old a inputs else pos 0)) is
