-- The bits below the sign, and the sign.
use Rattle.std.proofs.Common.{◌≡◌, ℕ, suc, ◌-◌, Bool, Option, Some, None, sym, subst, ap, ◌∙◌, arith, w32}
use Rattle.std.proofs.lemmas.Int.{to_z-of_z}
use Rattle.std.specs.Prelude.{if◌then◌else◌, int_lt, pos, unwrap_or}
use Rattle.gate_sets.specs.Lists.{AreTruths}
use Rattle.heap_core.specs.Posed.{Posed}
use Rattle.heap_core.specs.Outcomes.{in_bits}
use Rattle.rel_core.specs.declared.numbers.NumExpr.TheVariants.{Const}
use Rattle.rel_gates.specs.Constants.{digit}
use Rattle.rel_gates.specs.Counted.{low_part, IsNumberOf}
use Rattle.rel_gates.proofs.NumberForms.{constant_number_is, below_zero}
use Rattle.rel_gates.proofs.numbers.constant_number.Goals as goal

pub returns : goal.returns
returns c =
    let p = c.args.problem.now in
    let nodes = c.args.gates.now in
    let z = c.args.number in
    let top = p.scope.ints - 1 in
    let low : Option ℕ = c.low_part-low.result in
    let constants = c.in_ok-bits.bits.items in
    let ints_low = c.well_posed.ensures.scope.scope.ints_low in
    let wide : p.scope.ints ≡ suc top = omega (arith, ints_low) in
    let low_is : low ≡ (if in_bits p.scope.ints z then Some (low_part top z) else None) =
    subst (λ (q : Posed). low ≡ (if in_bits q.scope.ints z then Some (low_part (q.scope.ints - 1) z) else None)) c.problem.view_is
    (subst (λ y. low ≡ (if in_bits c.problem.inside.scope.ints y then Some (low_part (c.problem.inside.scope.ints - 1) y) else None)) (to_z-of_z w32 z c.ranges.number) c.low_part-low.ensures) in
    let ints_is : c.from-places.result ≡ p.scope.ints = c.from-places.ensures ∙ ap (λ (q : Posed). q.scope.ints) c.problem.view_is in
    let truths : AreTruths nodes top (λ (inputs : ℕ → Bool) (i : ℕ). digit (unwrap_or low 0) i) constants =
    subst (λ n. AreTruths nodes top (λ (inputs : ℕ → Bool) (i : ℕ). digit n i) constants) c.unwrap_or.ensures
    (subst (λ w. AreTruths nodes (w - 1) (λ (inputs : ℕ → Bool) (i : ℕ). digit c.unwrap_or.result i) constants) ints_is c.in_ok-bits.ensures) in
    subst (λ gs. IsNumberOf p c.args.relations.now nodes (Const z) gs c.constant-2.result) (sym c.in_ok-push.ensures.items)
    (constant_number_is p c.args.relations.now nodes z low top constants c.constant.result c.constant-2.result wide low_is truths
    (record { of = c.constant.ensures.of; value_is = λ inputs. c.constant.ensures.value inputs ∙ ap (λ y. int_lt y (pos 0)) (to_z-of_z w32 z c.ranges.number) ∙ below_zero z })
    (record { of = c.constant-2.ensures.of; value_is = λ inputs. c.constant-2.ensures.value inputs ∙ c.is_some.ensures }))
