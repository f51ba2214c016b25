use Rattle.std.proofs.Common.{◌≡◌, ◌+◌, ◌/◌, ◌%◌, ◌<◌, Some, sym, ap, ◌∙◌, arith}
use Rattle.std.specs.Prelude.{slice_get}
use Rattle.std.proofs.Math.Nat.{mod-lt}
use Rattle.canonical_order.specs.Tuples.{targets, roots_of}
use Rattle.canonical_order.proofs.TupleOrder.{root_tuple_is}
use Rattle.canonical_order.proofs.tuple.root_tuple.Goals as goal

pub returns : goal.returns
returns c =
    let objects = c.args.objects in
    let at = c.args.at in
    let roots = roots_of c.args.method.now in
    let width : c.from-width.result ≡ objects = c.from-width.ensures in
    let there : slice_get roots (at / (objects + 1)) ≡ Some c.in-Some.root =
    ap (λ w. slice_get roots (at / (w + 1))) (sym width) ∙ sym c.in-Some.ensures.value
    in
    let below : at % (c.from-width.result + 1) < c.from-width.result + 1 = mod-lt at (omega arith) in
    let value : slice_get (targets objects) (at % (objects + 1)) ≡ Some c.target-value.result =
    ap (λ w. slice_get (targets objects) (at % (w + 1))) (sym width) ∙ c.target-value.ensures objects (omega (arith, width, below))
    in
    root_tuple_is objects roots at c.in-Some.root c.target-value.result there value
