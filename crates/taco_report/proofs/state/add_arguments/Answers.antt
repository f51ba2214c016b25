use Rattle.std.proofs.Common.{◌≡◌, ◌++◌, List, [], ℕ, drop, flat_map, sym, ap, ◌∙◌, arith, append-nil}
use Rattle.std.specs.Prelude.{zip}
use Rattle.taco_unit.specs.declared.unit.ParamDef.{ParamDef}
use Rattle.heap_core.specs.declared.value.Value.{Value}
use Rattle.taco_report.specs.Texts.{argument_line}
use Rattle.heap_replay.proofs.Pairs.{no_pairs}
use Rattle.taco_report.proofs.state.add_arguments.Goals as goal

pub returns : goal.returns
returns c =
    let left : List (ParamDef × Value) = zip (drop c.loop-i.i c.args.params.now) (drop c.loop-i.i c.args.values.now) in
    let none : left ≡ [] = no_pairs c.args.params.now c.args.values.now c.loop-i.i (omega (arith, c.min-count.ensures)) in
    let lines : List (ParamDef × Value) → List ℕ = λ pairs. c.loop-i.out.items ++ flat_map argument_line pairs in
    sym (ap lines none ∙ append-nil c.loop-i.out.items) ∙ c.loop-i.invariant
