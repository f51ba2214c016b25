use Rattle.std.proofs.Common.{◌≡◌, ◌≢◌, ◌<◌, ◌+◌, ◌*◌, ◌∙◌, true, length, get_or, ap, sym, subst, arith, []}
use Rattle.std.proofs.lemmas.List.{get_or_read}
use Rattle.cnf_core.specs.Literal.{IsOver}
use Rattle.sat_watch.specs.Watching.{side_of}
use Rattle.sat_watch.specs.Literals.{has}
use Rattle.sat_watch.proofs.WatchLemmas.{leads_start, leads_step, leads_on, leads_at, over_has, side_apart}
use Rattle.sat_watch.proofs.watches.Watches.move_watch.Goals as goal

pub loop-self-init : goal.loop-self-init
loop-self-init c =
    let is : get_or c.self.inside.watched.items c.side_of-at.result 0 ≡ c.args.old =
    ap (λ k. get_or c.self.inside.watched.items k 0) c.side_of-at.ensures.value ∙ ap (λ w. get_or w.watched (side_of c.args.self.now c.args.clause c.args.old) 0) c.self.view_is ∙ c.requires.watches in
    let small : c.args.old < 2 * (c.self.inside.clauses.vars + 1) = subst (λ n. n < 2 * (c.self.inside.clauses.vars + 1)) is (c.self.invariant.over c.side_of-at.result) in
    let positive : 0 < c.args.old = omega (arith, c.number-previous.ensures.value, c.number-previous.ensures.from_two) in
    record {
      leads = rw c.number-previous.ensures.value
          (leads_start c.self.inside.clauses.vars c.self.inside.clauses.clauses c.self.inside.links.items c.self.inside.watched.items c.args.old c.side_of-at.result c.self.invariant positive small is);
      positive = positive;
      small = small;
    }

pub index-requires : goal.index-requires
index-requires c =
    let s = leads_step c.self.inside.clauses.vars c.self.inside.clauses.clauses c.self.inside.links.items c.self.inside.watched.items c.args.old c.loop-self.previous c.side_of-at.result
    c.self.invariant c.loop-self.invariant.positive c.loop-self.invariant.small c.loop-self.invariant.leads in
    omega (arith, s.known.from)

pub index-previous-requires : goal.index-previous-requires
index-previous-requires c =
    let s = leads_step c.self.inside.clauses.vars c.self.inside.clauses.clauses c.self.inside.links.items c.self.inside.watched.items c.args.old c.loop-self.previous c.side_of-at.result
    c.self.invariant c.loop-self.invariant.positive c.loop-self.invariant.small c.loop-self.invariant.leads in
    omega (arith, s.known.from)

pub loop-self-smaller : goal.loop-self-smaller
loop-self-smaller c =
    let step = leads_step c.self.inside.clauses.vars c.self.inside.clauses.clauses c.self.inside.links.items c.self.inside.watched.items c.args.old c.loop-self.previous c.side_of-at.result
    c.self.invariant c.loop-self.invariant.positive c.loop-self.invariant.small c.loop-self.invariant.leads in
    let same : c.index-previous.result.now ≡ c.index.result.now =
    get_or_read c.self.inside.links.items c.loop-self.previous c.index-previous.result.now step.known.from c.index-previous.ensures 0
    ∙ sym (get_or_read c.self.inside.links.items c.loop-self.previous c.index.result.now step.known.from c.index.ensures 0) in
    let s = leads_on c.self.inside.clauses.vars c.self.inside.clauses.clauses c.self.inside.links.items c.self.inside.watched.items c.args.old c.loop-self.previous c.side_of-at.result c.index-previous.result.now
    c.self.invariant c.loop-self.invariant.positive c.loop-self.invariant.small c.loop-self.invariant.leads c.index-previous.ensures (λ q. c.loop-self-test.true (sym same ∙ q)) in
    s.1

pub loop-self-preserved : goal.loop-self-preserved
loop-self-preserved c =
    let step = leads_step c.self.inside.clauses.vars c.self.inside.clauses.clauses c.self.inside.links.items c.self.inside.watched.items c.args.old c.loop-self.previous c.side_of-at.result
    c.self.invariant c.loop-self.invariant.positive c.loop-self.invariant.small c.loop-self.invariant.leads in
    let same : c.index-previous.result.now ≡ c.index.result.now =
    get_or_read c.self.inside.links.items c.loop-self.previous c.index-previous.result.now step.known.from c.index-previous.ensures 0
    ∙ sym (get_or_read c.self.inside.links.items c.loop-self.previous c.index.result.now step.known.from c.index.ensures 0) in
    let s = leads_on c.self.inside.clauses.vars c.self.inside.clauses.clauses c.self.inside.links.items c.self.inside.watched.items c.args.old c.loop-self.previous c.side_of-at.result c.index-previous.result.now
    c.self.invariant c.loop-self.invariant.positive c.loop-self.invariant.small c.loop-self.invariant.leads c.index-previous.ensures (λ q. c.loop-self-test.true (sym same ∙ q)) in
    record { leads = s.0; positive = c.loop-self.invariant.positive; small = c.loop-self.invariant.small }

pub rethread-requires-clause-previous_place : goal.rethread-requires-clause-previous_place
rethread-requires-clause-previous_place c =
    let s = leads_step c.self.inside.clauses.vars c.self.inside.clauses.clauses c.self.inside.links.items c.self.inside.watched.items c.args.old c.loop-self.previous c.side_of-at.result
    c.self.invariant c.loop-self.invariant.positive c.loop-self.invariant.small c.loop-self.invariant.leads in
    s.known.from

pub rethread-requires-clause-lit_place : goal.rethread-requires-clause-lit_place
rethread-requires-clause-lit_place c =
    let added : c.args.clause < length c.self.inside.clauses.clauses = subst (λ w. c.args.clause < length w.clauses) (sym c.self.view_is) c.requires.added in
    let inside : has (get_or c.self.inside.clauses.clauses c.args.clause []) c.args.new ≡ true = ap (λ w. has (get_or w.clauses c.args.clause []) c.args.new) c.self.view_is ∙ c.requires.holds in
    let over : IsOver c.self.inside.clauses.vars c.args.new = over_has c.self.inside.clauses.vars _ c.args.new (c.self.invariant.clauses c.args.clause added).over inside in
    omega (arith, c.number.ensures.value, c.self.invariant.linked)

pub invariant_of-self : goal.invariant_of-self
invariant_of-self c =
    let added : c.args.clause < length c.self.inside.clauses.clauses = subst (λ w. c.args.clause < length w.clauses) (sym c.self.view_is) c.requires.added in
    let inside : has (get_or c.self.inside.clauses.clauses c.args.clause []) c.args.new ≡ true = ap (λ w. has (get_or w.clauses c.args.clause []) c.args.new) c.self.view_is ∙ c.requires.holds in
    let over : IsOver c.self.inside.clauses.vars c.args.new = over_has c.self.inside.clauses.vars _ c.args.new (c.self.invariant.clauses c.args.clause added).over inside in
    let apart : c.args.new ≢ c.args.old = side_apart c.args.self.now c.args.clause c.args.old c.args.new c.requires.watches c.requires.apart_first c.requires.apart_second in
    rw (c.rethread.ensures.links, c.rethread.ensures.watched, c.number.ensures.value)
    (leads_at c.self.inside.clauses.vars c.self.inside.clauses.clauses c.self.inside.links.items c.self.inside.watched.items c.args.old c.loop-self.previous c.side_of-at.result c.index.result.now c.args.new
    c.self.invariant c.loop-self.invariant.positive c.loop-self.invariant.small c.loop-self.invariant.leads c.index.ensures c.loop-self-test.false (omega arith) (omega arith) apart)
