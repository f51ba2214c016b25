use Rattle.std.proofs.Common.{◌≡◌, ◌++◌, List, [], ℕ, drop, flat_map, sym, ap, ◌∙◌, arith, append-nil}
use Rattle.std.specs.Prelude.{zip}
use Rattle.heap_core.specs.declared.value.Value.{Value}
use Rattle.taco_report.specs.Texts.{cell_text}
use Rattle.heap_replay.proofs.Pairs.{no_pairs}
use Rattle.taco_report.proofs.state.add_cells.Goals as goal

pub returns : goal.returns
returns c =
    let left : List (ℕ × Value) = zip (drop c.loop-i.i c.args.fields.now) (drop c.loop-i.i c.args.cells.now) in
    let none : left ≡ [] = no_pairs c.args.fields.now c.args.cells.now c.loop-i.i (omega (arith, c.min-count.ensures)) in
    let texts : List (ℕ × Value) → List ℕ = λ pairs. c.loop-i.out.items ++ flat_map (cell_text c.args.problem.now) pairs in
    sym (ap texts none ∙ append-nil c.loop-i.out.items) ∙ c.loop-i.invariant
