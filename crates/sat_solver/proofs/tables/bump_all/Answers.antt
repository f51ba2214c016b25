use Rattle.std.proofs.Common.{◌≡◌, ◌<◌, ◌≤◌, length, All, ◌∙◌, ap, subst, sym, arith}
use Rattle.std.proofs.lemmas.List.{take_all}
use Rattle.sat_order.specs.Lists.{EachOnce}
use Rattle.derivation.proofs.Rising.{vars_of}
use Rattle.sat_solver.proofs.TableLemmas.{variables_from_one, variables_within, variables_once, queued_bumped}
use Rattle.sat_solver.proofs.tables.bump_all.Goals as goal

-- the variables of the literals
all : (c : goal.After-deref) → c.deref.result.now ≡ vars_of c.args.lits.now
all c = c.deref.ensures.value ∙ c.loop-lit.invariant ∙ ap vars_of (take_all c.loop-lit.lit-index c.args.lits.now (omega (arith, c.loop-lit-test.false)))

pub bump_all-requires-clause-from_one : goal.bump_all-requires-clause-from_one
bump_all-requires-clause-from_one c = subst (All (λ var. 0 < var)) (sym (all c)) (variables_from_one (length c.args.set.now) c.args.lits.now c.requires.over)

pub bump_all-requires-clause-within : goal.bump_all-requires-clause-within
bump_all-requires-clause-within c = subst (All (λ var. var ≤ length c.args.queue.now.vars)) (sym (all c)) (variables_within (length c.args.set.now) (length c.args.queue.now.vars) c.args.lits.now c.requires.over (sym c.requires.queued.all))

pub bump_all-requires-clause-once : goal.bump_all-requires-clause-once
bump_all-requires-clause-once c = subst EachOnce (sym (all c)) (variables_once c.args.lits.now c.requires.apart)

pub returns : goal.returns
returns c =
    let e = c.in_ok-bump_all.ensures in
    let vars : c.deref.result.now ≡ vars_of c.args.lits.now = c.deref.ensures.value ∙ c.loop-lit.invariant ∙ ap vars_of (take_all c.loop-lit.lit-index c.args.lits.now (omega (arith, c.loop-lit-test.false))) in
    queued_bumped (length c.args.set.now) c.args.queue.now c.bump_all.new.self c.args.set.now c.args.lits.now c.deref.result.now c.requires.queued c.requires.have_values vars e.passed e.count e.each
