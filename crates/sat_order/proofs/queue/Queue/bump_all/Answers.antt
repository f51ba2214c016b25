use Rattle.std.proofs.Common.{◌∷◌, ◌++◌, ℕ, [], refl, ap, sym, ◌∙◌, arith}
use Rattle.std.proofs.lemmas.List.{map-append, append-nil, append_assoc}
use Rattle.sat_order.specs.Lists.{holds, without}
use Rattle.sat_order.specs.Order.{passed}
use Rattle.sat_order.proofs.BumpLemmas.{led_none, led_more, vars_of, none_left, IsNext, next_up, all_up, passed_up, passed_named}
use Rattle.sat_order.proofs.queue.Queue.bump_all.Goals as goal

pub loop-next-init : goal.loop-next-init
loop-next-init c = record {
  done = [];
  parts = sym (append-nil (vars_of c.into_iter-next-iterator.result.iter.rest.now)
      ∙ ap (λ i. vars_of i.iter.rest.now) c.into_iter-next-iterator.ensures.into_iter_gives
      ∙ ap (λ i. vars_of i.rest.now) c.rev-next-items.ensures.source
      ∙ ap vars_of c.iter.ensures.rest
      ∙ ap vars_of c.deref.ensures.value
      ∙ c.in_ok-aged.ensures.vars);
  vars = sym (led_none c.args.self.now.vars);
  passed = λ v h. h;
  each = c.in_ok-aged.ensures.each;
  count = refl;
}

-- the variable at hand, and those before it
next : (c : goal.After-bump-arg-1) → IsNext c.args.vars.now c.args.self.now.vars (vars_of c.next.new.self.iter.rest.now) c.loop-next.invariant.done c.in-Some.next.now.var
next c = next_up c.args.vars.now c.args.self.now.vars (vars_of c.next.new.self.iter.rest.now) c.loop-next.invariant.done c.in-Some.next.now.var c.in_ok-aged.ensures.each.once
    (c.loop-next.invariant.parts ∙ ap (λ l. l ++ c.loop-next.invariant.done) (ap vars_of c.in-Some.ensures.steps ∙ map-append (λ a. a.var) c.next.new.self.iter.rest.now (c.in-Some.next.now ∷ []))
    ∙ append_assoc (vars_of c.next.new.self.iter.rest.now) (c.in-Some.next.now.var ∷ []) c.loop-next.invariant.done)

pub bump-requires-clause-from_one : goal.bump-requires-clause-from_one
bump-requires-clause-from_one c = ((c.in_ok-aged.ensures.each.each c.in-Some.next.now.var).0 (next c).inside).0

pub bump-requires-clause-within : goal.bump-requires-clause-within
bump-requires-clause-within c = omega (arith, ((c.in_ok-aged.ensures.each.each c.in-Some.next.now.var).0 (next c).inside).1, c.loop-next.invariant.count)

pub loop-next-preserved : goal.loop-next-preserved
loop-next-preserved c =
    let i = c.loop-next.invariant in
    let v : ℕ = c.in-Some.next.now.var in
    let n : IsNext c.args.vars.now c.args.self.now.vars (vars_of c.next.new.self.iter.rest.now) i.done v =
    next_up c.args.vars.now c.args.self.now.vars (vars_of c.next.new.self.iter.rest.now) i.done v c.in_ok-aged.ensures.each.once
    (i.parts ∙ ap (λ l. l ++ i.done) (ap vars_of c.in-Some.ensures.steps ∙ map-append (λ a. a.var) c.next.new.self.iter.rest.now (c.in-Some.next.now ∷ []))
    ∙ append_assoc (vars_of c.next.new.self.iter.rest.now) (v ∷ []) i.done) in
    record {
      done = v ∷ i.done;
      parts = n.parts;
      vars = c.bump.ensures.vars ∙ ap (λ l. v ∷ without v l) i.vars ∙ led_more v i.done c.args.self.now.vars n.apart;
      passed = λ w h. passed_up (passed c.args.self.now) (passed c.loop-next.self) (passed c.bump.new.self) i.done v w c.bump.ensures.passed i.passed h;
      each = c.bump.ensures.each;
      count = c.bump.ensures.count ∙ i.count;
    }

pub returns-clause-vars : goal.returns-clause-vars
returns-clause-vars c =
    let i = c.loop-next.invariant in
    i.vars ∙ all_up c.args.vars.now c.args.self.now.vars i.done (none_left (holds c.args.vars.now) c.args.self.now.vars c.loop-next.next-iterator.iter.rest.now i.done i.parts c.in-None.ensures.steps.0)

pub returns-clause-passed : goal.returns-clause-passed
returns-clause-passed c = λ v h.
    let i = c.loop-next.invariant in
    passed_named c.args.vars.now c.args.self.now.vars i.done (passed c.args.self.now) v
    (none_left (holds c.args.vars.now) c.args.self.now.vars c.loop-next.next-iterator.iter.rest.now i.done i.parts c.in-None.ensures.steps.0) (i.passed v h)
