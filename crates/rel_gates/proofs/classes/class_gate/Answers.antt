-- Object by object.
use Rattle.std.proofs.Common.{ℕ, ◌+◌, ◌<◌, Bool, not, ◌||◌, length, get_or, ap, ◌∙◌, arith}
use Rattle.gate_core.specs.Circuit.{value}
use Rattle.gate_sets.specs.Lists.{at}
use Rattle.gate_sets.specs.Shapes.{has_object, is_within}
use Rattle.gate_sets.proofs.Standing.{truth_alike}
use Rattle.rel_gates.specs.Limits.{is_class_at}
use Rattle.rel_gates.proofs.Inclusions.{all_alike}
use Rattle.rel_gates.proofs.classes.class_gate.Goals as goal

pub returns-clause-class : goal.returns-clause-class
returns-clause-class c =
    let p = c.args.problem.now in
    let objects = p.scope.objects in
    let old = c.args.gates.now in
    let middle = c.class_gates.new.gates in
    let set = c.args.set.now in
    let passing = c.in_ok-passing.passing.items in
    let seen = c.deref.result.now in
    truth_alike c.all_pass.new.gates (λ (inputs : ℕ → Bool). is_within (length seen) (has_object (at middle set inputs)) (at middle seen inputs))
    (λ (inputs : ℕ → Bool). is_within objects (has_object (at old set inputs)) (is_class_at p (value inputs old) c.args.rows.now c.args.class)) c.in_ok-gate.gate
    c.in_ok-gate.ensures.within (λ inputs.
    ap (λ gs. is_within (length gs) (has_object (at middle set inputs)) (at middle gs inputs)) c.deref.ensures.value
    ∙ ap (λ n. is_within n (has_object (at middle set inputs)) (at middle passing inputs)) c.in_ok-passing.ensures.classes.wide
    ∙ all_alike (λ o. not (at middle set inputs (o + 1)) || at middle passing inputs o) (λ o. not (at old set inputs (o + 1)) || is_class_at p (value inputs old)
    c.args.rows.now c.args.class o) 0 objects (λ o below.
    let inside : o < objects = omega (arith, below) in
    ap (λ b. not b || at middle passing inputs o) (c.in_ok-passing.ensures.keeps.values inputs (get_or set (o + 1) 0) (c.requires.set (o + 1) 0 (omega (arith, inside, c.requires.wide))))
    ∙ ap (λ b. not (at old set inputs (o + 1)) || b) (c.in_ok-passing.ensures.classes.values inputs o inside)))
