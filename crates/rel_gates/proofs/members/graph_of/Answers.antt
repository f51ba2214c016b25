-- One relation more.
use Rattle.std.proofs.Common.{◌≡◌, ◌+◌, false, [], ◌∷◌, ◌++◌, All, length, take, refl, sym, subst, ap, ◌∙◌, arith}
use Rattle.std.proofs.lemmas.List.{take_more, take_all}
use Rattle.std.proofs.lemmas.List.Folds.{list_all-map}
use Rattle.std.proofs.lemmas.Option.{get_or_from_slice_get}
use Rattle.gate_core.specs.Circuit.{IsOf}
use Rattle.gate_core.proofs.Values.{keeps_same, keeps_twice}
use Rattle.gate_sets.specs.Lists.{AreRows}
use Rattle.heap_core.specs.Posed.{Posed}
use Rattle.heap_core.proofs.Lists.{all_at}
use Rattle.rel_core.specs.Uses.{AsSet}
use Rattle.rel_gates.specs.Naming.{is_named_for, wanted_each}
use Rattle.rel_gates.specs.Meant.{AreEdges}
use Rattle.rel_gates.proofs.OfGraphs.{stand_more, edges_none}
use Rattle.rel_gates.proofs.members.graph_of.Goals as goal

pub loop-place-init : goal.loop-place-init
loop-place-init c = record {
  keeps = keeps_same c.args.gates.now c.args.gates.now refl;
  edges = edges_none c.args.problem.now c.args.relations.now c.args.gates.now c.in_ok-graph.graph.items
      (subst (λ (q : Posed). AreRows c.args.gates.now q.scope.objects q.scope.objects (λ inputs a o. false) c.in_ok-graph.graph.items) c.problem.view_is c.in_ok-graph.ensures);
}

pub led_once-requires-clause-stand : goal.led_once-requires-clause-stand
led_once-requires-clause-stand c = stand_more c.args.gates.now c.loop-place.gates c.args.relations.now c.loop-place.invariant.keeps c.requires.stand

pub led_once-requires-clause-graph : goal.led_once-requires-clause-graph
led_once-requires-clause-graph c = subst (λ gs. All (IsOf c.loop-place.gates) gs) (sym c.deref.ensures.value) c.loop-place.invariant.edges.of

pub led_once-requires-clause-square : goal.led_once-requires-clause-square
led_once-requires-clause-square c = ap length c.deref.ensures.value ∙ c.loop-place.invariant.edges.long

pub led_once-requires-clause-named : goal.led_once-requires-clause-named
led_once-requires-clause-named c =
    let p = c.args.problem.now in
    let es = c.args.relations.now in
    all_at (λ r. is_named_for es (wanted_each p AsSet r)) c.args.list.now c.loop-place.place c.relation_at-relation.result
    (sym (list_all-map (is_named_for es) (wanted_each p AsSet) c.args.list.now) ∙ c.requires.named) c.relation_at-relation.ensures

pub loop-place-preserved : goal.loop-place-preserved
loop-place-preserved c =
    let p = c.args.problem.now in
    let es = c.args.relations.now in
    let middle = c.loop-place.gates in
    let new = c.led_once.new.gates in
    let list = c.args.list.now in
    let place = c.loop-place.place in
    let r = c.relation_at-relation.result in
    let next = c.in_ok-graph-2.graph.items in
    let inv = c.loop-place.invariant in
    let longer : take (place + 1) list ≡ take place list ++ r ∷ [] =
    take_more list place r (omega arith) ∙ ap (λ x. take place list ++ x ∷ []) (get_or_from_slice_get list place r r c.relation_at-relation.ensures) in
    record {
      keeps = keeps_twice c.args.gates.now middle new inv.keeps c.in_ok-graph-2.ensures.keeps;
      edges = subst (λ rs. AreEdges p es new rs next) (sym longer)
          (c.in_ok-graph-2.ensures.led (take place list) (subst (λ gs. AreEdges p es middle (take place list) gs) (sym c.deref.ensures.value) inv.edges));
    }

pub returns-clause-graph : goal.returns-clause-graph
returns-clause-graph c =
    let list = c.args.list.now in
    let all : c.loop-place.place ≡ length list = omega arith in
    subst (λ rs. AreEdges c.args.problem.now c.args.relations.now c.loop-place.gates rs c.loop-place.graph.items)
    (ap (λ n. take n list) all ∙ take_all (length list) list (omega arith)) c.loop-place.invariant.edges
