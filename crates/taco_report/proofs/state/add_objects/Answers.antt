use Rattle.std.proofs.Common.{◌≡◌, ◌++◌, List, [], ℕ, drop, flat_map, sym, ap, ◌∙◌, arith, append-nil}
use Rattle.std.proofs.Math.ListN.{drop_of_length-le}
use Rattle.std.specs.List.{enumerate_from}
use Rattle.heap_core.specs.declared.value.Object.{Object}
use Rattle.taco_report.specs.Texts.{object_line}
use Rattle.taco_report.proofs.state.add_objects.Goals as goal

pub returns : goal.returns
returns c =
    let none : drop c.loop-i.i c.args.objects.now ≡ [] = drop_of_length-le c.args.objects.now (omega arith) in
    let texts : List Object → List ℕ = λ objects. c.loop-i.out.items ++ flat_map (object_line c.args.problem.now) (enumerate_from c.loop-i.i objects) in
    sym (ap texts none ∙ append-nil c.loop-i.out.items) ∙ c.loop-i.invariant
