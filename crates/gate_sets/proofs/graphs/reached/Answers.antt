-- The closure of each object of the set, and null in front.
use Rattle.std.proofs.Common.{◌≡◌, ℕ, ◌+◌, ◌<◌, Bool, [], ◌∷◌, ◌++◌, length, drop, sym, subst, ap, ◌∙◌, arith, length-drop}
use Rattle.gate_sets.specs.Lists.{at, in_row, AreTruths}
use Rattle.gate_sets.specs.Shapes.{has_object, any_row, edges, objects_only}
use Rattle.heap_core.specs.Closure.{closure}
use Rattle.gate_sets.proofs.Standing.{at_keeps, after_first}
use Rattle.gate_sets.proofs.Paths.{reached_from, with_null}
use Rattle.gate_sets.proofs.graphs.reached.Goals as goal

pub returns-clause-reached : goal.returns-clause-reached
returns-clause-reached c =
    let old = c.args.gates.now in
    let middle = c.closed.new.gates in
    let new = c.joined.new.gates in
    let set = c.args.set.now in
    let graph = c.args.graph.now in
    let count = c.args.objects in
    let paths = c.in_ok-paths.paths.items in
    let found = c.in_ok-found.found.items in
    let none = c.constant.result in
    let wide : length (drop 1 set) ≡ count = omega (arith, length-drop 1 set, c.requires.wide) in
    let truths : AreTruths new count (λ inputs o. any_row count (at middle (drop 1 set) inputs) (in_row count middle paths inputs) o) found =
    subst (λ n. AreTruths new count (λ inputs o. any_row n (at middle (drop 1 set) inputs) (in_row count middle paths inputs) o) found) wide
    (subst (λ n. AreTruths new n (λ inputs o. any_row (length (drop 1 set)) (at middle (drop 1 set) inputs) (in_row n middle paths inputs) o) found) c.from.ensures
    (subst (λ gs. AreTruths new c.from.result (λ inputs o. any_row (length gs) (at middle gs inputs) (in_row c.from.result middle paths inputs) o) found) c.split_at.ensures.back
    (subst (λ gs. AreTruths new c.from.result (λ inputs o. any_row (length c.split_at.result.1.now) (at middle c.split_at.result.1.now inputs) (in_row c.from.result
    middle gs inputs) o) found) c.deref.ensures.value
    c.in_ok-found.ensures.joined))) in
    let members : (inputs : ℕ → Bool) (o : ℕ) → o < count → at middle (drop 1 set) inputs o ≡ has_object (at old set inputs) o =
    λ inputs o below. after_first middle set inputs o ∙ at_keeps old middle set inputs (o + 1) c.in_ok-paths.ensures.keeps c.requires.set (omega (arith, c.requires.wide, below)) in
    let objects : AreTruths new count (λ inputs o. closure (edges count old graph inputs) count (has_object (at old set inputs)) o) found =
    reached_from old middle new count set graph paths found members c.in_ok-paths.ensures.closed truths in
    subst (λ gs. AreTruths new (count + 1) (λ inputs i. objects_only (closure (edges count old graph inputs) count (has_object (at old set inputs))) i) gs)
    (sym (c.in_ok-extend_from_slice.ensures.items
    ∙ ap (λ gs. gs ++ c.deref-2.result.now) (c.in_ok-push.ensures.items ∙ ap (λ gs. gs ++ none ∷ []) c.in_ok-places.ensures.items) ∙ ap (λ gs. none ∷ gs) c.deref-2.ensures.value))
    (with_null new count none (λ inputs. closure (edges count old graph inputs) count (has_object (at old set inputs))) found c.constant.ensures.of c.constant.ensures.value objects)
