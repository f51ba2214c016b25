use Rattle.std.proofs.Common.{◌≡◌, ◌+◌, ◌*◌, ◌-◌, ◌<◌, ◌≤◌, length, Some, sym, ap, subst, ◌∙◌, arith}
use Rattle.std.specs.Prelude.{slice_get}
use Rattle.heap_core.specs.Posed.{Posed}
use Rattle.heap_core.specs.Start.{method_of}
use Rattle.canonical_order.specs.Tuples.{roots_of, links_of, tuples, tuples_of_links}
use Rattle.canonical_order.proofs.TupleOrder.{tuple_left, tuple_right, right_within}
use Rattle.canonical_order.proofs.tuple.tuple_at.Goals as goal

pub field_tuple-requires-clause-within : goal.field_tuple-requires-clause-within
field_tuple-requires-clause-within c =
    let p : Posed = record { unit = c.problem.inside.unit; method = c.problem.inside.method; scope = c.problem.inside.scope } in
    let m = c.method_in-method.result.now in
    let there : method_of p ≡ Some m = subst (λ (q : Posed). method_of q ≡ Some m) (sym c.problem.view_is) c.method_in-method.ensures.there in
    let roots : c.root_count.result * (c.from.result + 1) ≡ length (roots_of m) * (p.scope.objects + 1) = cc in
    let within : c.args.tuple < length (tuples p) = subst (λ (q : Posed). c.args.tuple < length (tuples q)) (sym c.problem.view_is) c.requires in
    let behind : length (roots_of m) * (p.scope.objects + 1) ≤ c.args.tuple = omega (arith, roots, c.if-at-roots.false) in
    subst (λ n. c.args.tuple - n < length (links_of p.unit) * (p.scope.objects * (p.scope.objects + 1))) (sym roots) (right_within p m c.args.tuple there within behind)

pub returns-then-at-roots : goal.returns-then-at-roots
returns-then-at-roots c =
    let p : Posed = record { unit = c.problem.inside.unit; method = c.problem.inside.method; scope = c.problem.inside.scope } in
    let m = c.method_in-method.result.now in
    let there : method_of p ≡ Some m = subst (λ (q : Posed). method_of q ≡ Some m) (sym c.problem.view_is) c.method_in-method.ensures.there in
    let roots : c.root_count.result * (c.from.result + 1) ≡ length (roots_of m) * (p.scope.objects + 1) = cc in
    let before : c.args.tuple < length (roots_of m) * (p.scope.objects + 1) = omega (arith, roots, c.if-at-roots.true) in
    subst (λ (q : Posed). slice_get (tuples q) c.args.tuple ≡ Some c.root_tuple.result) c.problem.view_is (tuple_left p m c.args.tuple c.root_tuple.result there before c.root_tuple.ensures)

pub returns-else-at-roots : goal.returns-else-at-roots
returns-else-at-roots c =
    let p : Posed = record { unit = c.problem.inside.unit; method = c.problem.inside.method; scope = c.problem.inside.scope } in
    let m = c.method_in-method.result.now in
    let there : method_of p ≡ Some m = subst (λ (q : Posed). method_of q ≡ Some m) (sym c.problem.view_is) c.method_in-method.ensures.there in
    let roots : c.root_count.result * (c.from.result + 1) ≡ length (roots_of m) * (p.scope.objects + 1) = cc in
    let behind : length (roots_of m) * (p.scope.objects + 1) ≤ c.args.tuple = omega (arith, roots, c.if-at-roots.false) in
    let here : slice_get (tuples_of_links p.scope.objects (links_of p.unit)) (c.args.tuple - length (roots_of m) * (p.scope.objects + 1)) ≡ Some c.field_tuple.result =
    ap (λ n. slice_get (tuples_of_links p.scope.objects (links_of p.unit)) (c.args.tuple - n)) (sym roots) ∙ c.field_tuple.ensures
    in
    subst (λ (q : Posed). slice_get (tuples q) c.args.tuple ≡ Some c.field_tuple.result) c.problem.view_is (tuple_right p m c.args.tuple c.field_tuple.result there behind here)
