use Rattle.std.proofs.Common.{◌≡◌, ◌+◌, ◌*◌, ◌/◌, ◌%◌, ◌<◌, Some, sym, ap, ◌∙◌, arith}
use Rattle.std.specs.Prelude.{slice_get}
use Rattle.std.proofs.Math.Nat.{mod-lt}
use Rattle.canonical_order.specs.declared.tuple.Tuple.TheVariants.{Field}
use Rattle.canonical_order.specs.Tuples.{targets, links_of, tuples_of_links}
use Rattle.canonical_order.proofs.TupleOrder.{field_tuple_is, link_there}
use Rattle.canonical_order.proofs.tuple.field_tuple.Goals as goal

pub unreachable-requires : goal.unreachable-requires
unreachable-requires c =
    let objects = c.args.objects in
    let at = c.args.at in
    let links = links_of c.args.unit.now in
    let same : c.from.result * (c.from-width.result + 1) ≡ objects * (objects + 1) = cc in
    link_there objects at links c.requires.some c.requires.within (ap (λ n. slice_get links (at / n)) (sym same) ∙ sym c.in-None.ensures.value)

pub returns : goal.returns
returns c =
    let objects = c.args.objects in
    let at = c.args.at in
    let links = links_of c.args.unit.now in
    let width : c.from-width.result ≡ objects = c.from-width.ensures in
    let each : c.from.result * (c.from-width.result + 1) ≡ objects * (objects + 1) = cc in
    let there : slice_get links (at / (objects * (objects + 1))) ≡ Some c.in-Some.field =
    ap (λ n. slice_get links (at / n)) (sym each) ∙ sym c.in-Some.ensures.value
    in
    let rest : at % (c.from.result * (c.from-width.result + 1)) ≡ at % (objects * (objects + 1)) = ap (λ n. at % n) each in
    let below : at % (c.from.result * (c.from-width.result + 1)) % (c.from-width.result + 1) < c.from-width.result + 1 =
    mod-lt (at % (c.from.result * (c.from-width.result + 1))) (omega arith)
    in
    let value' : slice_get (targets objects) (at % (c.from.result * (c.from-width.result + 1)) % (c.from-width.result + 1)) ≡ Some c.target-value.result =
    c.target-value.ensures objects (omega (arith, width, below))
    in
    let value : slice_get (targets objects) (at % (objects * (objects + 1)) % (objects + 1)) ≡ Some c.target-value.result =
    sym (ap (λ n. slice_get (targets objects) (n % (objects + 1))) rest) ∙ ap (λ w. slice_get (targets objects) (at % (c.from.result * (c.from-width.result + 1)) % (w + 1))) (sym width) ∙ value'
    in
    let here : slice_get (tuples_of_links objects links) at ≡ Some (Field c.in-Some.field (at % (objects * (objects + 1)) / (objects + 1)) c.target-value.result) =
    field_tuple_is objects links at c.in-Some.field c.target-value.result c.requires.some there value
    in
    let row : at % (objects * (objects + 1)) / (objects + 1) ≡ at % (c.from.result * (c.from-width.result + 1)) / (c.from-width.result + 1) =
    sym (ap (λ n. n / (objects + 1)) rest) ∙ ap (λ w. at % (c.from.result * (c.from-width.result + 1)) / (w + 1)) (sym width)
    in
    here ∙ ap (λ o. Some (Field c.in-Some.field o c.target-value.result)) row
