-- The steps are doubled until there are as many as objects.
use Rattle.std.proofs.Common.{◌≡◌, ◌*◌, ◌≤◌, refl, subst, arith}
use Rattle.std.specs.Prelude.{◌==◌}
use Rattle.gate_core.proofs.Values.{keeps_twice, keeps_same}
use Rattle.gate_sets.specs.Lists.{in_row, AreRows}
use Rattle.gate_sets.specs.Shapes.{any_row, edges}
use Rattle.heap_core.specs.Closure.{closure}
use Rattle.gate_sets.proofs.Paths.{first_paths, more_paths, all_paths}
use Rattle.gate_sets.proofs.graphs.closed.Goals as goal

pub loop-steps-init : goal.loop-steps-init
loop-steps-init c = record {
  keeps = keeps_same c.args.gates.now c.args.gates.now refl;
  steps = omega arith;
  few = omega arith;
  paths = first_paths c.args.gates.now c.from-count.result c.args.graph.now c.in_ok-paths.paths.items c.in_ok-paths.ensures;
}

pub loop-steps-preserved : goal.loop-steps-preserved
loop-steps-preserved c =
    let old = c.args.gates.now in
    let middle = c.loop-steps.gates in
    let new = c.squared.new.gates in
    let graph = c.args.graph.now in
    let count = c.from-count.result in
    let steps = c.loop-steps.steps in
    let paths = c.loop-steps.paths.items in
    let next = c.in_ok-paths-2.paths.items in
    let inv = c.loop-steps.invariant in
    record {
      keeps = keeps_twice old middle new inv.keeps c.in_ok-paths-2.ensures.keeps;
      steps = omega (arith, inv.steps);
      few = (let same : c.from-count.result ≡ c.args.objects = c.from-count.ensures in omega (arith, c.ranges.objects.fits));
      paths = more_paths old middle new count steps (steps * 2) graph paths next inv.paths (omega arith)
          (subst (λ gs. AreRows new count count (λ inputs p o. any_row count (in_row count middle gs inputs p) (in_row count middle gs inputs) o) next)
          c.deref.ensures.value c.in_ok-paths-2.ensures.squared);
    }

pub returns-clause-closed : goal.returns-clause-closed
returns-clause-closed c =
    let old = c.args.gates.now in
    let new = c.loop-steps.gates in
    let graph = c.args.graph.now in
    let count = c.from-count.result in
    let paths = c.loop-steps.paths.items in
    let enough : count ≤ c.loop-steps.steps = omega arith in
    subst (λ n. AreRows new n n (λ inputs p o. closure (edges n old graph inputs) n (λ q. q == p) o) paths) c.from-count.ensures
    (all_paths old new count c.loop-steps.steps graph paths c.loop-steps.invariant.paths enough)
