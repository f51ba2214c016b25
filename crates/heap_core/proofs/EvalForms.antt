-- One equation for each form of a clause: what `eval` gives of it.
use Rattle.std.proofs.Common.{◌≡◌, ℕ, Bool, Option, Some, None, refl}
use Rattle.std.specs.Prelude.{ℤ, option_map, slice_get}
use Rattle.taco_unit.specs.declared.expr.Op.{Op}
use Rattle.taco_unit.specs.declared.expr.Expr.{Expr, fold_out-Expr}
use Rattle.taco_unit.specs.declared.expr.Quant.{Quant, fold-Quant, fold_out-Quant, out-Quant, map-Quant}
use Rattle.taco_unit.specs.declared.expr.Reach.{Reach, fold-Reach, fold_out-Reach, out-Reach}
use Rattle.taco_unit.specs.declared.expr.Call.{Call, fold-Call}
use Rattle.taco_unit.specs.declared.expr.Expr.TheVariants as e
use Rattle.heap_core.specs.declared.value.Value.TheVariants.{Null}
use Rattle.heap_core.specs.declared.value.Seen.TheVariants.{Is, Out}
use Rattle.heap_core.specs.Outcomes.{number, flag, value_in, with_value, opposite, negative}
use Rattle.heap_core.specs.Heap.{field, is_of}
use Rattle.heap_core.specs.Eval.{Env, Meaning, Source, eval, step_expr, step_call, step_reach, quantified, binary, before, bind, has, size, over, instance_of}

pub eval_num : (z : ℤ) (env : Env) → eval (e.Num z) env ≡ number env.ints z
eval_num z env = rw (fold_out-Expr Meaning (Unit {0}) Meaning Source step_expr step_call quantified step_reach (e.Num z), e.outs-Num z) refl

pub eval_flag : (b : Bool) (env : Env) → eval (e.Flag b) env ≡ flag b
eval_flag b env = rw (fold_out-Expr Meaning (Unit {0}) Meaning Source step_expr step_call quantified step_reach (e.Flag b), e.outs-Flag b) refl

pub eval_null : (env : Env) → eval e.Null env ≡ Is Null
eval_null env = rw (fold_out-Expr Meaning (Unit {0}) Meaning Source step_expr step_call quantified step_reach e.Null, e.outs-Null) refl

pub eval_this : (env : Env) → eval e.This env ≡ Is env.this
eval_this env = rw (fold_out-Expr Meaning (Unit {0}) Meaning Source step_expr step_call quantified step_reach e.This, e.outs-This) refl

pub eval_result : (env : Env) → eval e.Result env ≡ value_in env.result
eval_result env = rw (fold_out-Expr Meaning (Unit {0}) Meaning Source step_expr step_call quantified step_reach e.Result, e.outs-Result) refl

pub eval_local : (i : ℕ) (env : Env) → eval (e.Local i) env ≡ value_in (slice_get env.locals i)
eval_local i env = rw (fold_out-Expr Meaning (Unit {0}) Meaning Source step_expr step_call quantified step_reach (e.Local i), e.outs-Local i) refl

pub eval_bound : (i : ℕ) (env : Env) → eval (e.Bound i) env ≡ value_in (slice_get env.bound i)
eval_bound i env = rw (fold_out-Expr Meaning (Unit {0}) Meaning Source step_expr step_call quantified step_reach (e.Bound i), e.outs-Bound i) refl

pub eval_read : (a : Expr) (f : ℕ) (env : Env) → eval (e.Read a f) env ≡ with_value (eval a env) (field env.classes env.heap f)
eval_read a f env = rw (fold_out-Expr Meaning (Unit {0}) Meaning Source step_expr step_call quantified step_reach (e.Read a f), e.outs-Read a f) refl

pub eval_neg : (a : Expr) (env : Env) → eval (e.Neg a) env ≡ with_value (eval a env) (negative env.ints)
eval_neg a env = rw (fold_out-Expr Meaning (Unit {0}) Meaning Source step_expr step_call quantified step_reach (e.Neg a), e.outs-Neg a) refl

pub eval_not : (a : Expr) (env : Env) → eval (e.Not a) env ≡ with_value (eval a env) opposite
eval_not a env = rw (fold_out-Expr Meaning (Unit {0}) Meaning Source step_expr step_call quantified step_reach (e.Not a), e.outs-Not a) refl

pub eval_bin : (o : Op) (a b : Expr) (env : Env) → eval (e.Bin o a b) env ≡ binary o env.ints (eval a env) (eval b env)
eval_bin o a b env = rw (fold_out-Expr Meaning (Unit {0}) Meaning Source step_expr step_call quantified step_reach (e.Bin o a b), e.outs-Bin o a b) refl

-- a quantifier by its parts
quant_layer : (all : Bool) (class bound : ℕ) (range : Option Expr) (body : Expr) (env : Env) → quantified (map-Quant Expr Call Quant Reach Meaning (Unit {0}) Meaning Source eval (fold-Call Meaning (Unit {0}) Meaning Source step_expr step_call quantified step_reach) (fold-Quant Meaning (Unit {0}) Meaning Source step_expr step_call quantified step_reach) (fold-Reach Meaning (Unit {0}) Meaning Source step_expr step_call quantified step_reach) (record { all = all; class = class; bound = bound; range = range; body = body })) env ≡ over all (is_of env.heap class) (λ o. instance_of all (option_map eval range) (eval body) (bind env o)) env.objects
quant_layer all class bound None body env = refl
quant_layer all class bound (Some r) body env = refl

pub eval_quant : (q : Quant) (env : Env) → eval (e.Quant q) env ≡ over (out-Quant q).all (is_of env.heap (out-Quant q).class) (λ o. instance_of (out-Quant q).all (option_map eval (out-Quant q).range) (eval (out-Quant q).body) (bind env o)) env.objects
eval_quant q env = rw (fold_out-Expr Meaning (Unit {0}) Meaning Source step_expr step_call quantified step_reach (e.Quant q), e.outs-Quant q, fold_out-Quant Meaning (Unit {0}) Meaning Source step_expr step_call quantified step_reach q) (quant_layer (out-Quant q).all (out-Quant q).class (out-Quant q).bound (out-Quant q).range (out-Quant q).body env)

pub eval_old : (a : Expr) (env : Env) → eval (e.Old a) env ≡ eval a (before env)
eval_old a env = rw (fold_out-Expr Meaning (Unit {0}) Meaning Source step_expr step_call quantified step_reach (e.Old a), e.outs-Old a) refl

pub eval_has : (r : Reach) (a : Expr) (env : Env) → eval (e.Has r a) env ≡ with_value (eval (out-Reach r).from env) (λ v. with_value (eval a env) (has env (out-Reach r).fields v))
eval_has r a env = rw (fold_out-Expr Meaning (Unit {0}) Meaning Source step_expr step_call quantified step_reach (e.Has r a), e.outs-Has r a, fold_out-Reach Meaning (Unit {0}) Meaning Source step_expr step_call quantified step_reach r) refl

pub eval_size : (r : Reach) (env : Env) → eval (e.Size r) env ≡ with_value (eval (out-Reach r).from env) (size env (out-Reach r).fields)
eval_size r env = rw (fold_out-Expr Meaning (Unit {0}) Meaning Source step_expr step_call quantified step_reach (e.Size r), e.outs-Size r, fold_out-Reach Meaning (Unit {0}) Meaning Source step_expr step_call quantified step_reach r) refl

pub eval_new : (c : ℕ) (env : Env) → eval (e.New c) env ≡ Out
eval_new c env = rw (fold_out-Expr Meaning (Unit {0}) Meaning Source step_expr step_call quantified step_reach (e.New c), e.outs-New c) refl

pub eval_call : (c : Call) (env : Env) → eval (e.Call c) env ≡ Out
eval_call c env = rw (fold_out-Expr Meaning (Unit {0}) Meaning Source step_expr step_call quantified step_reach (e.Call c), e.outs-Call c) refl

-- all of them
pub ruleset eval_forms = (eval_num, eval_flag, eval_null, eval_this, eval_result, eval_local, eval_bound, eval_read, eval_neg, eval_not, eval_bin, eval_quant, eval_old, eval_has, eval_size, eval_new, eval_call)
