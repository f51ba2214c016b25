use Rattle.std.proofs.Common.{rules, arith, ◌≡◌, true, false, ◌++◌, ◌∷◌, [], refl, sym, ap, ◌∙◌, subst}
use Rattle.std.specs.Prelude.{nat_lt, slice_get}
use Rattle.std.proofs.lemmas.Bool.{lt-ltb}
use Rattle.taco_unit.specs.declared.expr.Expr.TheVariants as e
use Rattle.taco_unit.specs.declared.expr.Op.TheVariants as o
use Rattle.heap_core.specs.declared.value.Value.TheVariants.{Null}
use Rattle.heap_core.specs.declared.value.Seen.TheVariants.{Is, Out}
use Rattle.heap_core.specs.Posed.{Posed}
use Rattle.heap_core.specs.Outcomes.{flag, value_in, with_value, negative, opposite}
use Rattle.heap_core.specs.Heap.{field, is_of}
use Rattle.heap_core.specs.Eval.{eval, binary, before, bind, over, has, size}
use Rattle.heap_core.proofs.EvalForms.{eval_flag, eval_null, eval_this, eval_result, eval_local, eval_bound, eval_read, eval_neg, eval_not, eval_bin}
use Rattle.heap_core.proofs.EvalForms.{eval_quant, eval_old, eval_has, eval_size, eval_new, eval_call}
use Rattle.rel_core.proofs.Read.{heaps_are_read}
use Rattle.clause_terms.specs.Terms.{Tells}
use Rattle.clause_terms.proofs.Settled.{flags_settle}
use Rattle.jml_rel.specs.Parts.{chain_operator, instance_at, quantified_at}
use Rattle.jml_rel.specs.Places.{ShowsVariable, SortsVariable}
use Rattle.jml_rel.specs.Points.{point_of}
use Rattle.jml_rel.proofs.Forms.{as_form, as_part, chain_step, instance_none, instance_some, instance_settled}
use Rattle.jml_rel.proofs.Shown.{shows_past, shows_bound, sorts_past, sorts_bound}
use Rattle.jml_rel.proofs.walk.+walk.Goals as goal

pub walk-returns-in_ok-term-in-Flag-clause-told : goal.walk-returns-in_ok-term-in-Flag-clause-told
walk-returns-in_ok-term-in-Flag-clause-told t c env m shown = as_form c.args.expr.now (e.Flag c.in-Flag.truth) env (flag c.in-Flag.truth) c.in_ok-term-in-Flag.term m c.in-Flag.is
    (eval_flag c.in-Flag.truth env) (c.in_ok-term-in-Flag.ensures.told m)

pub walk-returns-in_ok-term-in-Null-clause-told : goal.walk-returns-in_ok-term-in-Null-clause-told
walk-returns-in_ok-term-in-Null-clause-told t c env m shown = as_form c.args.expr.now e.Null env (Is Null) c.in_ok-term-in-Null.term m c.in-Null.is (eval_null env)
    (c.in_ok-term-in-Null.ensures.told m)

pub walk-returns-in_ok-term-in-This-clause-told : goal.walk-returns-in_ok-term-in-This-clause-told
walk-returns-in_ok-term-in-This-clause-told t c env m shown = as_form c.args.expr.now e.This env (Is env.this) c.in_ok-term-in-This.term m c.in-This.is (eval_this env)
    (c.in_ok-term-in-This.ensures.told m env.this shown.this)

pub walk-returns-in_ok-term-in-Result-clause-told : goal.walk-returns-in_ok-term-in-Result-clause-told
walk-returns-in_ok-term-in-Result-clause-told t c env m shown = as_form c.args.expr.now e.Result env (value_in env.result) c.in_ok-term-in-Result.term m c.in-Result.is (eval_result env)
    (c.in_ok-term-in-Result.ensures.told m env.result shown.result)

pub walk-returns-in_ok-term-in-Local-clause-told : goal.walk-returns-in_ok-term-in-Local-clause-told
walk-returns-in_ok-term-in-Local-clause-told t c env m shown = as_form c.args.expr.now (e.Local c.in-Local.number) env
    (value_in (slice_get env.locals c.in-Local.number)) c.in_ok-term-in-Local.term m c.in-Local.is (eval_local c.in-Local.number env)
    (c.in_ok-term-in-Local.ensures.told m (slice_get env.locals c.in-Local.number)
    (subst (λ x. ShowsVariable m x (slice_get env.locals c.in-Local.number)) (sym c.parameter.ensures) (shown.locals c.in-Local.number)))

pub walk-returns-in_ok-term-in-Bound-clause-told : goal.walk-returns-in_ok-term-in-Bound-clause-told
walk-returns-in_ok-term-in-Bound-clause-told t c env m shown = as_form c.args.expr.now (e.Bound c.in-Bound.number) env
    (value_in (slice_get env.bound c.in-Bound.number)) c.in_ok-term-in-Bound.term m c.in-Bound.is (eval_bound c.in-Bound.number env) (c.in_ok-term-in-Bound.ensures.told env m shown)

pub walk-returns-in_ok-term-in-Read-clause-told : goal.walk-returns-in_ok-term-in-Read-clause-told
walk-returns-in_ok-term-in-Read-clause-told t c env m shown = as_form c.args.expr.now (e.Read c.in-Read.a c.in-Read.number) env
    (with_value (eval c.in-Read.a env) (field env.classes env.heap c.in-Read.number)) c.in_ok-term-in-Read.term m c.in-Read.is (eval_read c.in-Read.a c.in-Read.number env)
    (c.in_ok-term-in-Read.ensures.told env m (eval c.in-Read.a env) shown
    (as_part c.get.result.now c.in-Read.a env c.in_ok-operand-in-Read.operand m c.get.ensures (c.in_ok-operand-in-Read.ensures.told env m shown)))

pub walk-returns-in_ok-term-in-Neg-clause-told : goal.walk-returns-in_ok-term-in-Neg-clause-told
walk-returns-in_ok-term-in-Neg-clause-told t c env m shown = as_form c.args.expr.now (e.Neg c.in-Neg.a) env
    (with_value (eval c.in-Neg.a env) (negative m.ints)) c.in_ok-term-in-Neg.term m c.in-Neg.is
    (eval_neg c.in-Neg.a env ∙ ap (λ w. with_value (eval c.in-Neg.a env) (negative w)) (sym shown.ints))
    (c.in_ok-term-in-Neg.ensures.told m (eval c.in-Neg.a env)
    (as_part c.get-in-Neg.result.now c.in-Neg.a env c.in_ok-operand-in-Neg.operand m c.get-in-Neg.ensures (c.in_ok-operand-in-Neg.ensures.told env m shown)))

pub walk-returns-in_ok-term-in-Not-clause-told : goal.walk-returns-in_ok-term-in-Not-clause-told
walk-returns-in_ok-term-in-Not-clause-told t c env m shown = as_form c.args.expr.now (e.Not c.in-Not.a) env (with_value (eval c.in-Not.a env) opposite) c.in_ok-term-in-Not.term m c.in-Not.is
    (eval_not c.in-Not.a env) (c.in_ok-term-in-Not.ensures.told m (eval c.in-Not.a env)
    (as_part c.get-in-Not.result.now c.in-Not.a env c.in_ok-operand-in-Not.operand m c.get-in-Not.ensures (c.in_ok-operand-in-Not.ensures.told env m shown)))

pub walk-returns-in_ok-term-in-Bin-clause-told : goal.walk-returns-in_ok-term-in-Bin-clause-told
walk-returns-in_ok-term-in-Bin-clause-told t c env m shown = as_form c.args.expr.now (e.Bin c.in-Bin.op c.in-Bin.a c.in-Bin.b) env
    (binary c.in-Bin.op m.ints (eval c.in-Bin.a env) (eval c.in-Bin.b env)) c.in_ok-term-in-Bin.term m c.in-Bin.is
    (eval_bin c.in-Bin.op c.in-Bin.a c.in-Bin.b env ∙ ap (λ w. binary c.in-Bin.op w (eval c.in-Bin.a env) (eval c.in-Bin.b env)) (sym shown.ints))
    (search (rules, c.in_ok-term-in-Bin.ensures.told env m (eval c.in-Bin.b env) shown (search (rules, c.in_ok-second-in-Bin.ensures.told env m shown))))

pub walk-returns-in_ok-term-in-Quant-clause-told : goal.walk-returns-in_ok-term-in-Quant-clause-told
walk-returns-in_ok-term-in-Quant-clause-told t c env m shown = as_form c.args.expr.now (e.Quant c.in-Quant.quant) env
    (quantified_at c.in-Quant.quant env) c.in_ok-term-in-Quant.term m c.in-Quant.is (eval_quant c.in-Quant.quant env) (c.in_ok-term-in-Quant.ensures.told env m shown)

pub walk-returns-in_ok-term-in-Old-clause-told : goal.walk-returns-in_ok-term-in-Old-clause-told
walk-returns-in_ok-term-in-Old-clause-told t c env m shown = as_form c.args.expr.now (e.Old c.in-Old.a) env (eval c.in-Old.a (before env)) c.in_ok-term-in-Old.term m c.in-Old.is
    (eval_old c.in-Old.a env) (as_part c.get-in-Old.result.now c.in-Old.a (before env) c.in_ok-term-in-Old.term m c.get-in-Old.ensures
    (c.in_ok-term-in-Old.ensures.told (before env) m (shows_past (point_of c.args.place) env m shown)))

pub walk-returns-in_ok-term-in-Has-clause-told : goal.walk-returns-in_ok-term-in-Has-clause-told
walk-returns-in_ok-term-in-Has-clause-told t c env m shown = as_form c.args.expr.now (e.Has c.in-Has.reach c.in-Has.a) env
    (with_value (eval c.in-Has.reach.from env) (λ v. with_value (eval c.in-Has.a env) (has env c.in-Has.reach.fields v))) c.in_ok-term-in-Has.term m c.in-Has.is
    (eval_has c.in-Has.reach c.in-Has.a env)
    (subst (λ fs. Tells (with_value (eval c.in-Has.reach.from env) (λ v. with_value (eval c.in-Has.a env) (has env fs v))) c.in_ok-term-in-Has.term m) c.as_slice.ensures
    (c.in_ok-term-in-Has.ensures.told env m (eval c.in-Has.reach.from env) (eval c.in-Has.a env) shown
    (as_part c.get-in-Has.result.now c.in-Has.reach.from env c.in_ok-root-in-Has.root m c.get-in-Has.ensures (c.in_ok-root-in-Has.ensures.told env m shown))
    (as_part c.get-in-Has-2.result.now c.in-Has.a env c.in_ok-member-in-Has.member m c.get-in-Has-2.ensures (c.in_ok-member-in-Has.ensures.told env m shown))))

pub walk-returns-in_ok-term-in-Size-clause-told : goal.walk-returns-in_ok-term-in-Size-clause-told
walk-returns-in_ok-term-in-Size-clause-told t c env m shown = as_form c.args.expr.now (e.Size c.in-Size.reach) env
    (with_value (eval c.in-Size.reach.from env) (size env c.in-Size.reach.fields)) c.in_ok-term-in-Size.term m c.in-Size.is (eval_size c.in-Size.reach env)
    (subst (λ fs. Tells (with_value (eval c.in-Size.reach.from env) (size env fs)) c.in_ok-term-in-Size.term m) c.as_slice-in-Size.ensures
    (c.in_ok-term-in-Size.ensures.told env m (eval c.in-Size.reach.from env) shown
    (as_part c.get-in-Size.result.now c.in-Size.reach.from env c.in_ok-root-in-Size.root m c.get-in-Size.ensures (c.in_ok-root-in-Size.ensures.told env m shown))))

pub walk-returns-in_ok-term-in-New-clause-told : goal.walk-returns-in_ok-term-in-New-clause-told
walk-returns-in_ok-term-in-New-clause-told t c env m shown = as_form c.args.expr.now (e.New c.in-New.field-0) env Out c.in_ok-term-in-New.term m c.in-New.is (eval_new c.in-New.field-0 env)
    (c.in_ok-term-in-New.ensures.told m)

pub walk-returns-in_ok-term-in-Call-clause-told : goal.walk-returns-in_ok-term-in-Call-clause-told
walk-returns-in_ok-term-in-Call-clause-told t c env m shown = as_form c.args.expr.now (e.Call c.in-Call.field-0) env Out c.in_ok-term-in-Call.term m c.in-Call.is
    (eval_call c.in-Call.field-0 env) (c.in_ok-term-in-Call.ensures.told m)

pub walk-returns-in_ok-term-in-Num-clause-sorted : goal.walk-returns-in_ok-term-in-Num-clause-sorted
walk-returns-in_ok-term-in-Num-clause-sorted t c kinds sorts = c.in_ok-term-in-Num.ensures.sorted c.args.place.problem.now kinds

pub walk-returns-in_ok-term-in-Flag-clause-sorted : goal.walk-returns-in_ok-term-in-Flag-clause-sorted
walk-returns-in_ok-term-in-Flag-clause-sorted t c kinds sorts = c.in_ok-term-in-Flag.ensures.sorted c.args.place.problem.now kinds

pub walk-returns-in_ok-term-in-Null-clause-sorted : goal.walk-returns-in_ok-term-in-Null-clause-sorted
walk-returns-in_ok-term-in-Null-clause-sorted t c kinds sorts = c.in_ok-term-in-Null.ensures.sorted c.args.place.problem.now kinds

pub walk-returns-in_ok-term-in-New-clause-sorted : goal.walk-returns-in_ok-term-in-New-clause-sorted
walk-returns-in_ok-term-in-New-clause-sorted t c kinds sorts = c.in_ok-term-in-New.ensures.sorted c.args.place.problem.now kinds

pub walk-returns-in_ok-term-in-Call-clause-sorted : goal.walk-returns-in_ok-term-in-Call-clause-sorted
walk-returns-in_ok-term-in-Call-clause-sorted t c kinds sorts = c.in_ok-term-in-Call.ensures.sorted c.args.place.problem.now kinds

pub walk-returns-in_ok-term-in-This-clause-sorted : goal.walk-returns-in_ok-term-in-This-clause-sorted
walk-returns-in_ok-term-in-This-clause-sorted t c kinds sorts = c.in_ok-term-in-This.ensures.sorted c.args.place.problem.now kinds sorts.this

pub walk-returns-in_ok-term-in-Result-clause-sorted : goal.walk-returns-in_ok-term-in-Result-clause-sorted
walk-returns-in_ok-term-in-Result-clause-sorted t c kinds sorts = c.in_ok-term-in-Result.ensures.sorted c.args.place.problem.now kinds sorts.result

pub walk-returns-in_ok-term-in-Local-clause-sorted : goal.walk-returns-in_ok-term-in-Local-clause-sorted
walk-returns-in_ok-term-in-Local-clause-sorted t c kinds sorts = c.in_ok-term-in-Local.ensures.sorted c.args.place.problem.now kinds
    (subst (SortsVariable c.args.place.problem.now kinds) (sym c.parameter.ensures) (sorts.locals c.in-Local.number))

pub walk-returns-in_ok-term-in-Bound-clause-sorted : goal.walk-returns-in_ok-term-in-Bound-clause-sorted
walk-returns-in_ok-term-in-Bound-clause-sorted t c kinds sorts = c.in_ok-term-in-Bound.ensures.sorted kinds sorts

pub walk-returns-in_ok-term-in-Quant-clause-sorted : goal.walk-returns-in_ok-term-in-Quant-clause-sorted
walk-returns-in_ok-term-in-Quant-clause-sorted t c kinds sorts = c.in_ok-term-in-Quant.ensures.sorted kinds sorts

pub walk-returns-in_ok-term-in-Read-clause-sorted : goal.walk-returns-in_ok-term-in-Read-clause-sorted
walk-returns-in_ok-term-in-Read-clause-sorted t c kinds sorts = c.in_ok-term-in-Read.ensures.sorted kinds (c.in_ok-operand-in-Read.ensures.sorted kinds sorts)

pub walk-returns-in_ok-term-in-Neg-clause-sorted : goal.walk-returns-in_ok-term-in-Neg-clause-sorted
walk-returns-in_ok-term-in-Neg-clause-sorted t c kinds sorts = c.in_ok-term-in-Neg.ensures.sorted c.args.place.problem.now kinds (c.in_ok-operand-in-Neg.ensures.sorted kinds sorts)

pub walk-returns-in_ok-term-in-Not-clause-sorted : goal.walk-returns-in_ok-term-in-Not-clause-sorted
walk-returns-in_ok-term-in-Not-clause-sorted t c kinds sorts = c.in_ok-term-in-Not.ensures.sorted c.args.place.problem.now kinds (c.in_ok-operand-in-Not.ensures.sorted kinds sorts)

pub walk-returns-in_ok-term-in-Bin-clause-sorted : goal.walk-returns-in_ok-term-in-Bin-clause-sorted
walk-returns-in_ok-term-in-Bin-clause-sorted t c kinds sorts = c.in_ok-term-in-Bin.ensures.sorted kinds sorts (c.in_ok-second-in-Bin.ensures.sorted kinds sorts)

pub walk-returns-in_ok-term-in-Old-clause-sorted : goal.walk-returns-in_ok-term-in-Old-clause-sorted
walk-returns-in_ok-term-in-Old-clause-sorted t c kinds sorts = c.in_ok-term-in-Old.ensures.sorted kinds (sorts_past (point_of c.args.place) kinds sorts)

pub walk-returns-in_ok-term-in-Has-clause-sorted : goal.walk-returns-in_ok-term-in-Has-clause-sorted
walk-returns-in_ok-term-in-Has-clause-sorted t c kinds sorts = c.in_ok-term-in-Has.ensures.sorted kinds (c.in_ok-root-in-Has.ensures.sorted kinds sorts)
    (c.in_ok-member-in-Has.ensures.sorted kinds sorts)

pub walk-returns-in_ok-term-in-Size-clause-sorted : goal.walk-returns-in_ok-term-in-Size-clause-sorted
walk-returns-in_ok-term-in-Size-clause-sorted t c kinds sorts = c.in_ok-term-in-Size.ensures.sorted kinds (c.in_ok-root-in-Size.ensures.sorted kinds sorts)

pub last-returns-clause-told : goal.last-returns-clause-told
last-returns-clause-told t c env m y shown rest = c.in_ok-chain.ensures.told m (eval c.args.expr.now env) y
    (c.in_ok-truth.ensures.told m (eval c.args.expr.now env) (c.in_ok-term.ensures.told env m shown)) rest

pub last-returns-clause-sorted : goal.last-returns-clause-sorted
last-returns-clause-sorted t c kinds sorts rest = c.in_ok-chain.ensures.sorted c.args.place.problem.now kinds
    (c.in_ok-truth.ensures.sorted c.args.place.problem.now kinds (c.in_ok-term.ensures.sorted kinds sorts)) rest

pub chained-returns-in_ok-chain-in-Bin-clause-told : goal.chained-returns-in_ok-chain-in-Bin-clause-told
chained-returns-in_ok-chain-in-Bin-clause-told t c env m y shown rest =
    chain_step c.args.any c.args.expr.now c.in-Bin.a c.in-Bin.b c.get-then-is_chain.result.now c.get.result.now c.in-Bin.op env y c.in_ok-chain-in-Bin.chain m c.in-Bin.is
    (c.is_chain.ensures c.if-is_chain.true) c.get-then-is_chain.ensures c.get.ensures shown.ints
    (c.in_ok-chain-in-Bin.ensures.told env m (binary (chain_operator c.args.any) m.ints (eval c.get.result.now env) y) shown (c.in_ok-behind-in-Bin.ensures.told env m y shown rest))

pub chained-returns-in_ok-chain-in-Bin-clause-sorted : goal.chained-returns-in_ok-chain-in-Bin-clause-sorted
chained-returns-in_ok-chain-in-Bin-clause-sorted t c kinds sorts rest = c.in_ok-chain-in-Bin.ensures.sorted kinds sorts (c.in_ok-behind-in-Bin.ensures.sorted kinds sorts rest)

pub operated-returns-in_ok-chain-in-And-clause-told : goal.operated-returns-in_ok-chain-in-And-clause-told
operated-returns-in_ok-chain-in-And-clause-told t c env m y shown told =
    let x = eval c.args.left.now env in
    subst (λ op. Tells (binary op m.ints x y) c.term.result m) (sym c.in-And.is)
    (subst (λ s. Tells s c.term.result m) (flags_settle.lazy_settled o.And m.ints x y refl)
    (c.term.ensures.told m (binary o.And m.ints x y) (c.in_ok-chain-in-And.ensures.told env m y shown (c.in_ok-rest-in-And.ensures.told m y told))))

pub operated-returns-in_ok-chain-in-And-clause-sorted : goal.operated-returns-in_ok-chain-in-And-clause-sorted
operated-returns-in_ok-chain-in-And-clause-sorted t c kinds sorts second = c.term.ensures.sorted c.args.place.problem.now kinds
    (c.in_ok-chain-in-And.ensures.sorted kinds sorts (c.in_ok-rest-in-And.ensures.sorted c.args.place.problem.now kinds second))

pub operated-returns-in_ok-chain-in-Or-clause-told : goal.operated-returns-in_ok-chain-in-Or-clause-told
operated-returns-in_ok-chain-in-Or-clause-told t c env m y shown told =
    let x = eval c.args.left.now env in
    subst (λ op. Tells (binary op m.ints x y) c.term-in-Or.result m) (sym c.in-Or.is)
    (subst (λ s. Tells s c.term-in-Or.result m) (flags_settle.lazy_settled o.Or m.ints x y refl)
    (c.term-in-Or.ensures.told m (binary o.Or m.ints x y) (c.in_ok-chain-in-Or.ensures.told env m y shown (c.in_ok-rest-in-Or.ensures.told m y told))))

pub operated-returns-in_ok-chain-in-Or-clause-sorted : goal.operated-returns-in_ok-chain-in-Or-clause-sorted
operated-returns-in_ok-chain-in-Or-clause-sorted t c kinds sorts second = c.term-in-Or.ensures.sorted c.args.place.problem.now kinds
    (c.in_ok-chain-in-Or.ensures.sorted kinds sorts (c.in_ok-rest-in-Or.ensures.sorted c.args.place.problem.now kinds second))

pub operated-returns-in_ok-term-in_default-clause-told : goal.operated-returns-in_ok-term-in_default-clause-told
operated-returns-in_ok-term-in_default-clause-told t c env m y shown told = c.in_ok-term-in_default.ensures.told m (eval c.args.left.now env) y (c.in_ok-first-in_default.ensures.told env m shown) told

pub operated-returns-in_ok-term-in_default-clause-sorted : goal.operated-returns-in_ok-term-in_default-clause-sorted
operated-returns-in_ok-term-in_default-clause-sorted t c kinds sorts second = c.in_ok-term-in_default.ensures.sorted c.args.place.problem.now kinds
    (c.in_ok-first-in_default.ensures.sorted kinds sorts) second

pub instance-returns-in-None-clause-told : goal.instance-returns-in-None-clause-told
instance-returns-in-None-clause-told t c env m shown = instance_none c.args.quant.now env c.in_ok-body-2.body m c.in-None.is
    (c.in_ok-body-2.ensures.told m (eval c.args.quant.now.body env) (as_part c.get.result.now c.args.quant.now.body env c.in_ok-body.body m c.get.ensures (c.in_ok-body.ensures.told env m shown)))

pub instance-returns-in-None-clause-sorted : goal.instance-returns-in-None-clause-sorted
instance-returns-in-None-clause-sorted t c kinds sorts = c.in_ok-body-2.ensures.sorted c.args.place.problem.now kinds (c.in_ok-body.ensures.sorted kinds sorts)

pub instance-returns-in_ok-instance-in-Some-clause-told : goal.instance-returns-in_ok-instance-in-Some-clause-told
instance-returns-in_ok-instance-in-Some-clause-told t c env m shown = instance_some c.args.quant.now env c.in-Some.range true c.in_ok-instance-in-Some.instance m c.in-Some.is c.if-quant.true
    shown.ints (c.in_ok-instance-in-Some.ensures.told m (eval c.in-Some.range env) (eval c.args.quant.now.body env)
    (c.in_ok-within-in-Some-2.ensures.told m (eval c.in-Some.range env)
    (as_part c.get-in-Some.result.now c.in-Some.range env c.in_ok-within-in-Some.within m c.get-in-Some.ensures (c.in_ok-within-in-Some.ensures.told env m shown)))
    (c.in_ok-body-2.ensures.told m (eval c.args.quant.now.body env) (as_part c.get.result.now c.args.quant.now.body env c.in_ok-body.body m c.get.ensures (c.in_ok-body.ensures.told env m shown))))

pub instance-returns-in_ok-instance-in-Some-clause-sorted : goal.instance-returns-in_ok-instance-in-Some-clause-sorted
instance-returns-in_ok-instance-in-Some-clause-sorted t c kinds sorts = c.in_ok-instance-in-Some.ensures.sorted c.args.place.problem.now kinds
    (c.in_ok-within-in-Some-2.ensures.sorted c.args.place.problem.now kinds (c.in_ok-within-in-Some.ensures.sorted kinds sorts))
    (c.in_ok-body-2.ensures.sorted c.args.place.problem.now kinds (c.in_ok-body.ensures.sorted kinds sorts))

pub instance-returns-in_ok-instance-in-Some-2-clause-told : goal.instance-returns-in_ok-instance-in-Some-2-clause-told
instance-returns-in_ok-instance-in-Some-2-clause-told t c env m shown = instance_some c.args.quant.now env c.in-Some.range false c.in_ok-instance-in-Some-2.instance m c.in-Some.is
    c.if-quant.false shown.ints (c.in_ok-instance-in-Some-2.ensures.told m (eval c.in-Some.range env) (eval c.args.quant.now.body env)
    (c.in_ok-within-in-Some-2.ensures.told m (eval c.in-Some.range env)
    (as_part c.get-in-Some.result.now c.in-Some.range env c.in_ok-within-in-Some.within m c.get-in-Some.ensures (c.in_ok-within-in-Some.ensures.told env m shown)))
    (c.in_ok-body-2.ensures.told m (eval c.args.quant.now.body env) (as_part c.get.result.now c.args.quant.now.body env c.in_ok-body.body m c.get.ensures (c.in_ok-body.ensures.told env m shown))))

pub instance-returns-in_ok-instance-in-Some-2-clause-sorted : goal.instance-returns-in_ok-instance-in-Some-2-clause-sorted
instance-returns-in_ok-instance-in-Some-2-clause-sorted t c kinds sorts = c.in_ok-instance-in-Some-2.ensures.sorted c.args.place.problem.now kinds
    (c.in_ok-within-in-Some-2.ensures.sorted c.args.place.problem.now kinds (c.in_ok-within-in-Some.ensures.sorted kinds sorts))
    (c.in_ok-body-2.ensures.sorted c.args.place.problem.now kinds (c.in_ok-body.ensures.sorted kinds sorts))

pub quantified-returns-clause-told : goal.quantified-returns-clause-told
quantified-returns-clause-told t c env m shown =
    let ends : c.loop-object.object ≡ env.objects = omega (arith, ap (λ (p : Posed). p.scope.objects) c.problem.view_is, shown.objects, c.loop-object-test.false, c.loop-object.auto.object-end) in
    subst (λ k. Tells (over c.args.quant.now.all (is_of env.heap c.args.quant.now.class) (λ o. instance_at c.args.quant.now (bind env o)) k) c.in_ok-term.term m) ends
    (c.in_ok-term.ensures.told m (is_of env.heap c.args.quant.now.class) (λ o. instance_at c.args.quant.now (bind env o)) c.loop-object.object
    (λ o. instance_settled c.args.quant.now (bind env o)) (c.loop-object.invariant.told env m shown))

pub quantified-returns-clause-sorted : goal.quantified-returns-clause-sorted
quantified-returns-clause-sorted t c kinds sorts = c.in_ok-term.ensures.sorted c.args.place.problem.now kinds (c.loop-object.invariant.sorted kinds sorts)

pub quantified-loop-object-init : goal.quantified-loop-object-init
quantified-loop-object-init t c = record {
  told = λ env m shown. c.new-instances.ensures.told m c.args.quant.now.all (is_of env.heap c.args.quant.now.class)
      (λ o. instance_at c.args.quant.now (bind env o));
  sorted = λ kinds sorts. c.new-instances.ensures.sorted c.args.place.problem.now kinds;
}

pub quantified-loop-object-preserved : goal.quantified-loop-object-preserved
quantified-loop-object-preserved t c =
    let small : nat_lt c.loop-object.object c.args.place.problem.now.scope.objects ≡ true = lt-ltb c.loop-object.object c.args.place.problem.now.scope.objects
    (omega (arith, ap (λ (p : Posed). p.scope.objects) c.problem.view_is, c.loop-object-test.true)) in
    let bound : c.as_slice.result.now ≡ c.args.place.bound.now ++ c.loop-object.object ∷ [] = search (rules, c.as_slice.ensures.value, c.in_ok-bound.ensures) in
    record {
      told = λ env m shown. c.in_ok-add.ensures.told m (is_of env.heap c.args.quant.now.class) (λ o. instance_at c.args.quant.now (bind env o)) c.loop-object.object
          (c.in_ok-there.ensures.meaning m (ap (nat_lt c.loop-object.object) (shown.numbers ∙ shown.objects) ∙ small)
          ∙ sym ((heaps_are_read c.args.place.problem.now.unit m c.args.place.heap.now env.heap c.well_posed.ensures.unit shown.heap).objects c.args.quant.now.class c.loop-object.object))
          (c.in_ok-truth.ensures.told (bind env c.loop-object.object) m (shows_bound (point_of c.args.place) env m c.loop-object.object c.as_slice.result.now bound small shown))
          (c.loop-object.invariant.told env m shown);
      sorted = λ kinds sorts. c.in_ok-add.ensures.sorted c.args.place.problem.now kinds (c.in_ok-there.ensures.sorted c.args.place.problem.now kinds small)
          (c.in_ok-truth.ensures.sorted kinds (sorts_bound (point_of c.args.place) kinds c.loop-object.object c.as_slice.result.now bound small sorts)) (c.loop-object.invariant.sorted kinds sorts);
    }
