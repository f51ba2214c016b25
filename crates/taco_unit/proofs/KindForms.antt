-- One equation for each form: what `sort_of` gives of an expression, and `is_fitting` of a statement.
use Rattle.std.proofs.Common.{◌≡◌, ℕ, Bool, true, ◌&&◌, ◌==◌, List, length, Option, Some, None, refl}
use Rattle.std.specs.Prelude.{ℤ, map, option_map, slice_get, nat_lt}
use Rattle.std.specs.List.{list_all}
use Rattle.std.specs.Option.{option_map_or}
use Rattle.taco_unit.specs.declared.kind.Kind.TheVariants.{Int, Flag, Ref}
use Rattle.taco_unit.specs.declared.expr.Op.{Op}
use Rattle.taco_unit.specs.declared.expr.Expr.{Expr, fold_out-Expr}
use Rattle.taco_unit.specs.declared.expr.Call.{Call, fold-Call, fold_out-Call, out-Call, map-Call}
use Rattle.taco_unit.specs.declared.expr.Quant.{Quant, fold-Quant, fold_out-Quant, out-Quant, map-Quant}
use Rattle.taco_unit.specs.declared.expr.Reach.{Reach, fold-Reach, fold_out-Reach, out-Reach}
use Rattle.taco_unit.specs.declared.expr.Expr.TheVariants as e
use Rattle.taco_unit.specs.declared.stmt.Stmt.{Stmt, fold_out-Stmt}
use Rattle.taco_unit.specs.declared.stmt.Stmt.TheVariants as s
use Rattle.taco_unit.specs.declared.unit.MethodDef.{MethodDef}
use Rattle.taco_unit.specs.Kinds.{Sort, Of, NullOnly, Faulty, Around, Sorted, suits, where_, sort_of_kind, sort_of_class, field_sort, binary_sort, operator_sort, past, with_bound, is_link, is_object_of, is_target, are_arguments, result_sort, called_sort, in_clause, in_code, in_exit, has_sort, size_sort, sort_step, call_sort, quant_sort, reach_sort, sort_of, is_condition}
use Rattle.taco_unit.specs.Bodies.{takes, place_sort, is_call, returns, Fitting, fitting_step, is_fitting}

-- the sort of a `\reach`, and of a call
abbrev pub sort_of_reach : Reach → Sorted
sort_of_reach = fold-Reach Sorted Sorted Sorted Sorted sort_step call_sort quant_sort reach_sort

abbrev pub sort_of_call : Call → Sorted
sort_of_call = fold-Call Sorted Sorted Sorted Sorted sort_step call_sort quant_sort reach_sort

abbrev sort_of_quant : Quant → Sorted
sort_of_quant = fold-Quant Sorted Sorted Sorted Sorted sort_step call_sort quant_sort reach_sort

pub sort_num : (z : ℤ) (k : Around) → sort_of (e.Num z) k ≡ Of Int
sort_num z k = rw (fold_out-Expr Sorted Sorted Sorted Sorted sort_step call_sort quant_sort reach_sort (e.Num z), e.outs-Num z) refl

pub sort_flag : (b : Bool) (k : Around) → sort_of (e.Flag b) k ≡ Of Flag
sort_flag b k = rw (fold_out-Expr Sorted Sorted Sorted Sorted sort_step call_sort quant_sort reach_sort (e.Flag b), e.outs-Flag b) refl

pub sort_null : (k : Around) → sort_of e.Null k ≡ NullOnly
sort_null k = rw (fold_out-Expr Sorted Sorted Sorted Sorted sort_step call_sort quant_sort reach_sort e.Null, e.outs-Null) refl

pub sort_this : (k : Around) → sort_of e.This k ≡ sort_of_class k.this
sort_this k = rw (fold_out-Expr Sorted Sorted Sorted Sorted sort_step call_sort quant_sort reach_sort e.This, e.outs-This) refl

pub sort_result : (k : Around) → sort_of e.Result k ≡ in_exit k.form (sort_of_kind k.result)
sort_result k = rw (fold_out-Expr Sorted Sorted Sorted Sorted sort_step call_sort quant_sort reach_sort e.Result, e.outs-Result) refl

pub sort_local : (i : ℕ) (k : Around) → sort_of (e.Local i) k ≡ sort_of_kind (slice_get k.locals i)
sort_local i k = rw (fold_out-Expr Sorted Sorted Sorted Sorted sort_step call_sort quant_sort reach_sort (e.Local i), e.outs-Local i) refl

pub sort_bound : (i : ℕ) (k : Around) → sort_of (e.Bound i) k ≡ sort_of_class (slice_get k.bound i)
sort_bound i k = rw (fold_out-Expr Sorted Sorted Sorted Sorted sort_step call_sort quant_sort reach_sort (e.Bound i), e.outs-Bound i) refl

pub sort_read : (a : Expr) (f : ℕ) (k : Around) → sort_of (e.Read a f) k ≡ field_sort (slice_get k.unit.fields f) (sort_of a k)
sort_read a f k = rw (fold_out-Expr Sorted Sorted Sorted Sorted sort_step call_sort quant_sort reach_sort (e.Read a f), e.outs-Read a f) refl

pub sort_neg : (a : Expr) (k : Around) → sort_of (e.Neg a) k ≡ where_ (suits Int (sort_of a k)) (Of Int)
sort_neg a k = rw (fold_out-Expr Sorted Sorted Sorted Sorted sort_step call_sort quant_sort reach_sort (e.Neg a), e.outs-Neg a) refl

pub sort_not : (a : Expr) (k : Around) → sort_of (e.Not a) k ≡ where_ (suits Flag (sort_of a k)) (Of Flag)
sort_not a k = rw (fold_out-Expr Sorted Sorted Sorted Sorted sort_step call_sort quant_sort reach_sort (e.Not a), e.outs-Not a) refl

pub sort_bin : (o : Op) (a : Expr) (b : Expr) (k : Around) → sort_of (e.Bin o a b) k ≡ operator_sort o k.form (binary_sort o (sort_of a k) (sort_of b k))
sort_bin o a b k = rw (fold_out-Expr Sorted Sorted Sorted Sorted sort_step call_sort quant_sort reach_sort (e.Bin o a b), e.outs-Bin o a b) refl

-- a quantifier by its parts
quant_layer : (all : Bool) (class bound : ℕ) (range : Option Expr) (body : Expr) (k : Around) → quant_sort (map-Quant Expr Call Quant Reach Sorted Sorted Sorted Sorted sort_of sort_of_call sort_of_quant sort_of_reach (record { all = all; class = class; bound = bound; range = range; body = body })) k ≡ where_ (nat_lt class (length k.unit.classes) && bound == length k.bound && option_map_or (λ r. is_condition (with_bound k class) r) range true && is_condition (with_bound k class) body) (Of Flag)
quant_layer all class bound None body k = refl
quant_layer all class bound (Some r) body k = refl

pub sort_quant : (q : Quant) (k : Around) → sort_of (e.Quant q) k ≡ in_clause k.form (where_ (nat_lt (out-Quant q).class (length k.unit.classes) && (out-Quant q).bound == length k.bound && option_map_or (λ r. is_condition (with_bound k (out-Quant q).class) r) (out-Quant q).range true && is_condition (with_bound k (out-Quant q).class) (out-Quant q).body) (Of Flag))
sort_quant q k = rw (fold_out-Expr Sorted Sorted Sorted Sorted sort_step call_sort quant_sort reach_sort (e.Quant q), e.outs-Quant q, fold_out-Quant Sorted Sorted Sorted Sorted sort_step call_sort quant_sort reach_sort q, quant_layer (out-Quant q).all (out-Quant q).class (out-Quant q).bound (out-Quant q).range (out-Quant q).body k) refl

pub sort_old : (a : Expr) (k : Around) → sort_of (e.Old a) k ≡ in_exit k.form (sort_of a (past k))
sort_old a k = rw (fold_out-Expr Sorted Sorted Sorted Sorted sort_step call_sort quant_sort reach_sort (e.Old a), e.outs-Old a) refl

pub reach_form : (r : Reach) (k : Around) → sort_of_reach r k ≡ where_ (nat_lt (out-Reach r).class (length k.unit.classes) && is_object_of (out-Reach r).class (sort_of (out-Reach r).from k) && list_all (is_link k.unit (out-Reach r).class) (out-Reach r).fields) (Of (Ref (out-Reach r).class))
reach_form r k = rw (fold_out-Reach Sorted Sorted Sorted Sorted sort_step call_sort quant_sort reach_sort r) refl

pub sort_has : (r : Reach) (a : Expr) (k : Around) → sort_of (e.Has r a) k ≡ in_clause k.form (has_sort (sort_of_reach r k) (sort_of a k))
sort_has r a k = rw (fold_out-Expr Sorted Sorted Sorted Sorted sort_step call_sort quant_sort reach_sort (e.Has r a), e.outs-Has r a) refl

pub sort_size : (r : Reach) (k : Around) → sort_of (e.Size r) k ≡ in_clause k.form (size_sort (sort_of_reach r k))
sort_size r k = rw (fold_out-Expr Sorted Sorted Sorted Sorted sort_step call_sort quant_sort reach_sort (e.Size r), e.outs-Size r) refl

pub sort_new : (c : ℕ) (k : Around) → sort_of (e.New c) k ≡ in_code k.form (where_ (nat_lt c (length k.unit.classes)) (Of (Ref c)))
sort_new c k = rw (fold_out-Expr Sorted Sorted Sorted Sorted sort_step call_sort quant_sort reach_sort (e.New c), e.outs-New c) refl

-- the target of a call by its parts
abbrev pub is_target_of : Around → MethodDef → Option Expr → Bool
is_target_of k m target = is_target k m (option_map sort_of target)

-- the sort of a call of this method by its parts
abbrev pub called_as : Around → Option Expr → List Expr → Option MethodDef → Sort
called_as k target args (Some m) = where_ (is_target_of k m target && are_arguments k m.params (map sort_of args)) (result_sort m.result)
called_as k target args None = Faulty

call_layer : (method : ℕ) (target : Option Expr) (args : List Expr) (k : Around) (d : Option MethodDef) → called_sort (map-Call Expr Call Quant Reach Sorted Sorted Sorted Sorted sort_of sort_of_call sort_of_quant sort_of_reach (record { method = method; target = target; args = args })) k d ≡ called_as k target args d
call_layer method target args k None = refl
call_layer method None args k (Some m) = refl
call_layer method (Some t) args k (Some m) = refl

pub call_form : (c : Call) (k : Around) → sort_of_call c k ≡ called_as k (out-Call c).target (out-Call c).args (slice_get k.unit.methods (out-Call c).method)
call_form c k = rw (fold_out-Call Sorted Sorted Sorted Sorted sort_step call_sort quant_sort reach_sort c) (call_layer (out-Call c).method (out-Call c).target (out-Call c).args k (slice_get k.unit.methods (out-Call c).method))

pub sort_call : (c : Call) (k : Around) → sort_of (e.Call c) k ≡ in_code k.form (sort_of_call c k)
sort_call c k = rw (fold_out-Expr Sorted Sorted Sorted Sorted sort_step call_sort quant_sort reach_sort (e.Call c), e.outs-Call c) refl

-- all forms of expressions
pub ruleset sort_forms = (sort_num, sort_flag, sort_null, sort_this, sort_result, sort_local, sort_bound, sort_read, sort_neg, sort_not, sort_bin, sort_quant, sort_old, sort_has, sort_size, sort_new, sort_call, reach_form, call_form)

pub fitting_block : (parts : List Stmt) (k : Around) → is_fitting (s.Block parts) k ≡ list_all (λ p. p k) (map is_fitting parts)
fitting_block parts k = rw (fold_out-Stmt Fitting fitting_step (s.Block parts), s.outs-Block parts) refl

pub fitting_set : (i : ℕ) (a : Expr) (k : Around) → is_fitting (s.Set i a) k ≡ takes (sort_of_kind (slice_get k.locals i)) (sort_of a k)
fitting_set i a k = rw (fold_out-Stmt Fitting fitting_step (s.Set i a), s.outs-Set i a) refl

pub fitting_write : (a : Expr) (f : ℕ) (b : Expr) (k : Around) → is_fitting (s.Write a f b) k ≡ takes (place_sort k a f) (sort_of b k)
fitting_write a f b k = rw (fold_out-Stmt Fitting fitting_step (s.Write a f b), s.outs-Write a f b) refl

pub fitting_step_local : (i : ℕ) (up : Bool) (k : Around) → is_fitting (s.StepLocal i up) k ≡ takes (sort_of_kind (slice_get k.locals i)) (Of Int)
fitting_step_local i up k = rw (fold_out-Stmt Fitting fitting_step (s.StepLocal i up), s.outs-StepLocal i up) refl

pub fitting_step_field : (a : Expr) (f : ℕ) (up : Bool) (k : Around) → is_fitting (s.StepField a f up) k ≡ takes (place_sort k a f) (Of Int)
fitting_step_field a f up k = rw (fold_out-Stmt Fitting fitting_step (s.StepField a f up), s.outs-StepField a f up) refl

pub fitting_if : (a : Expr) (t : Stmt) (u : Stmt) (k : Around) → is_fitting (s.If a t u) k ≡ is_condition k a && is_fitting t k && is_fitting u k
fitting_if a t u k = rw (fold_out-Stmt Fitting fitting_step (s.If a t u), s.outs-If a t u) refl

pub fitting_while : (a : Expr) (t : Stmt) (k : Around) → is_fitting (s.While a t) k ≡ is_condition k a && is_fitting t k
fitting_while a t k = rw (fold_out-Stmt Fitting fitting_step (s.While a t), s.outs-While a t) refl

pub fitting_return : (a : Option Expr) (k : Around) → is_fitting (s.Return a) k ≡ returns k a
fitting_return a k = rw (fold_out-Stmt Fitting fitting_step (s.Return a), s.outs-Return a) refl

pub fitting_run : (c : Call) (k : Around) → is_fitting (s.Run c) k ≡ is_call (sort_of (e.Call c) k)
fitting_run c k = rw (fold_out-Stmt Fitting fitting_step (s.Run c), s.outs-Run c) refl

-- all forms of statements
pub ruleset fitting_forms = (fitting_block, fitting_set, fitting_write, fitting_step_local, fitting_step_field, fitting_if, fitting_while, fitting_return, fitting_run)
