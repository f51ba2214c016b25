use Rattle.std.proofs.Common.{◌≡◌, Bool, List, [], drop, sym, ap, ◌∙◌, arith}
use Rattle.std.specs.Prelude.{◌&&◌, zip}
use Rattle.std.specs.List.{list_any}
use Rattle.taco_unit.specs.declared.unit.ParamDef.{ParamDef}
use Rattle.heap_core.specs.declared.value.Value.{Value}
use Rattle.heap_core.specs.Outcomes.{is_null}
use Rattle.heap_core.specs.Judge.{must_be_there}
use Rattle.heap_replay.proofs.Pairs.{no_pairs}
use Rattle.heap_replay.proofs.good.lacks_one.Goals as goal

pub returns : goal.returns
returns c =
    let lacks : ParamDef × Value → Bool = λ e. must_be_there e.0.kind e.0.nullable && is_null e.1 in
    let left : List (ParamDef × Value) = zip (drop c.loop-i.i c.args.params.now) (drop c.loop-i.i c.args.args.now) in
    let none : left ≡ [] = no_pairs c.args.params.now c.args.args.now c.loop-i.i (omega (arith, c.min-count.ensures)) in
    sym (c.loop-i.invariant ∙ ap (list_any lacks) none)
