-- Place by place, null's first.
use Rattle.std.proofs.Common.{arith}
use Rattle.gate_core.specs.Circuit.{IsOf}
use Rattle.rel_gates.proofs.Inclusions.{subset_truth}
use Rattle.rel_gates.proofs.truths.subset_gate.Goals as goal

pub returns-clause-subset : goal.returns-clause-subset
returns-clause-subset c = λ d e inner outer.
    let old = c.args.gates.now in
    let first = c.requires.inner 0 0 (omega (arith, c.requires.wide)) in
    let some : IsOf old 0 = omega (arith, first) in
    subset_truth c.args.problem.now c.args.relations.now old c.within.new.gates d e c.args.inner.now c.args.outer.now c.in_ok-gate.gate inner outer c.requires.stand some
    c.in_ok-gate.ensures.keeps c.in_ok-gate.ensures.within
