use Rattle.std.proofs.Common.{◌≡◌, ◌+◌, ◌*◌, length, Some, sym, subst}
use Rattle.heap_core.specs.Posed.{Posed}
use Rattle.heap_core.specs.Start.{method_of}
use Rattle.canonical_order.specs.Tuples.{tuples, roots_of, links_of}
use Rattle.canonical_order.proofs.TupleOrder.{length-tuples}
use Rattle.canonical_order.proofs.tuple.tuple_count.Goals as goal

pub returns-clause-value : goal.returns-clause-value
returns-clause-value c =
    let p : Posed = record { unit = c.problem.inside.unit; method = c.problem.inside.method; scope = c.problem.inside.scope } in
    let m = c.method_in.result.now in
    let there : method_of p ≡ Some m = subst (λ (q : Posed). method_of q ≡ Some m) (sym c.problem.view_is) c.method_in.ensures.there in
    let long : length (tuples p) ≡ (length (roots_of m) + length (links_of p.unit) * p.scope.objects) * (p.scope.objects + 1) = length-tuples p m there in
    let here : c.product_of.result ≡ length (tuples p) = cc in
    subst (λ (q : Posed). c.product_of.result ≡ length (tuples q)) c.problem.view_is here
