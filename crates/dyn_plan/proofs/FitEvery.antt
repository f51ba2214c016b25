-- The kinds of every lowered expression of code, calls and all, where inlined methods fit.
use Rattle.std.proofs.Common.{◌≡◌, ℕ, Bool, true, false, List, [], ◌∷◌, length, Option, Some, None, refl, sym, ◌∙◌, ap, subst}
use Rattle.std.specs.Prelude.{◌&&◌, ◌==◌, nat_lt, map, slice_get, option_map}
use Rattle.std.specs.Option.{option_map_or}
use Rattle.std.proofs.lemmas.Bool.{false≢true}
use Rattle.taco_unit.specs.declared.kind.Kind.{Kind}
use Rattle.taco_unit.specs.declared.kind.Kind.TheVariants as kind
use Rattle.taco_unit.specs.declared.expr.Expr.{Expr, ind-Expr, roll-Expr, map-Expr}
use Rattle.taco_unit.specs.declared.expr.Expr.TheOpen.{Expr-F, Call-F}
use Rattle.taco_unit.specs.declared.expr.Expr.TheVariants as e
use Rattle.taco_unit.specs.declared.expr.Call.{Call, out-Call, map-Call}
use Rattle.taco_unit.specs.declared.expr.Quant.{Quant, out-Quant}
use Rattle.taco_unit.specs.declared.expr.Reach.{Reach}
use Rattle.taco_unit.specs.declared.unit.MethodDef.{MethodDef}
use Rattle.taco_unit.specs.Kinds.{Sort, Of, Faulty, Around, Form, Code as InCode, suits, where_, is_kind_of, sort_of, sort_of_kind, sort_of_class, binary_sort, operator_sort}
use Rattle.taco_unit.specs.Kinds.{in_code, in_clause, in_exit, past, has_sort, size_sort, are_arguments, result_sort, with_bound, is_condition}
use Rattle.taco_unit.specs.Well.{IsWell, result_kind}
use Rattle.taco_unit.proofs.KindForms.{sort_of_call, sort_of_reach, called_as, is_target_of, sort_bin, sort_call, sort_result, sort_bound, sort_quant, sort_old, sort_has}
use Rattle.taco_unit.proofs.KindForms.{sort_size, call_form as call_sorted}
use Rattle.heap_core.specs.Posed.{Posed}
use Rattle.dyn_plan.specs.Places.{Ground, Spots}
use Rattle.dyn_plan.specs.Expressions.{Inline, kind_or, kind_of_result, expr_step, low_expr, low_call}
use Rattle.dyn_plan.specs.Frames.{result_of}
use Rattle.dyn_plan.proofs.LowForms.{is_bin, is_call, kind_called}
use Rattle.dyn_plan.proofs.FitPlaces.{FrameFits}
use Rattle.dyn_plan.proofs.FitExprs.{Agrees, ExprFits, binary_agrees}
use Rattle.dyn_plan.proofs.FitCalls.{as_wanted, InlineFits, EachFits, MaybeFits, combined_fits}
use Rattle.dyn_plan.proofs.FitAll.{call_fits, result_known}
use Rattle.dyn_plan.proofs.FitForms.{formed, never, code_agrees, num_fits, flag_fits, null_form, this_form, local_form, read_form, neg_form, not_form, new_form}
use Rattle.dyn_plan.proofs.EndParts.{kinds_same, in_code_suits}
use Rattle.dyn_plan.proofs.EndCalls.{called_suits}

never_clause : (f : Form) (s : Sort) → f ≡ InCode → in_clause f s ≡ Faulty
never_clause f s is = ap (λ z. in_clause z s) is

never_exit : (f : Form) (s : Sort) → f ≡ InCode → in_exit f s ≡ Faulty
never_exit f s is = ap (λ z. in_exit z s) is

quant_faulty : (q : Quant) (k : Around) → k.form ≡ InCode → sort_of (e.Quant q) k ≡ Faulty
quant_faulty q k form =
    let x = out-Quant q in
    let inner : Around = with_bound k x.class in
    let s : Sort = where_ (nat_lt x.class (length k.unit.classes) && x.bound == length k.bound && option_map_or (λ r. is_condition inner r) x.range true && is_condition inner x.body)
    (Of kind.Flag) in
    sort_quant q k ∙ never_clause k.form s form

result_suits : (w : Kind) (r : Option (Kind × Bool)) → suits w (result_sort r) ≡ true → w ≡ kind_or (option_map (λ r. r.0) r) kind.Int
result_suits w None is = absurd (false≢true is)
result_suits w (Some r) is = kinds_same w r.0 is

module _ (p : Posed) (args : List Kind) (g : Ground) (well : IsWell g.unit) (same : p.unit ≡ g.unit) (inline : Inline) (inlines : InlineFits p args g inline) where
  pub record PartsFit (c : Call-F Expr Call Quant Reach) : Type 0 where
    pub target : MaybeFits p args g well same inline c.target
    pub values : EachFits p args g well same inline c.args

  called_agrees : (k : Around) (t : Option Expr) (as_ : List Expr) (o : Option MethodDef) → ((d : MethodDef) → o ≡ Some d → is_kind_of g.unit (result_of d) ≡ true)
      → Agrees g.unit (called_as k t as_ o) (option_map_or result_kind o None)
  called_agrees k t as_ None known = tt
  called_agrees k t as_ (Some d) known = by (is_target_of k d t && are_arguments k d.params (map sort_of as_)) d.result (known d refl)
    where
      by : (b : Bool) (r : Option (Kind × Bool)) → is_kind_of g.unit (kind_or (option_map (λ r. r.0) r) kind.Int) ≡ true → Agrees g.unit (where_ b (result_sort r)) (option_map (λ r. r.0) r)
      by true None is = tt
      by true (Some r) is = (refl, is)
      by false r is = tt

  call_agrees : (c : Call) (k : Around) (f : Spots) → FrameFits args g k f → Agrees g.unit (in_code k.form (sort_of_call c k)) (low_call g inline c).kind
  call_agrees c k f frame =
      let x = out-Call c in
      code_agrees p args g k.form (sort_of_call c k) (low_call g inline c).kind
      (subst (λ z. Agrees g.unit (sort_of_call c k) z) (sym (kind_called g inline c)) (subst (λ s. Agrees g.unit s (kind_of_result g x.method)) (sym (call_sorted c k))
      (subst (λ u. Agrees g.unit (called_as k x.target x.args (slice_get u.methods x.method)) (kind_of_result g x.method)) (sym frame.unit)
      (called_agrees k x.target x.args (slice_get g.unit.methods x.method) (λ d there. result_known p args g well same x.method d there)))))

  call_form : (c : Call) → PartsFit (out-Call c) → ExprFits p args g (sort_of (e.Call c)) (low_expr g inline (e.Call c))
  call_form c parts =
      formed p args g (sort_of (e.Call c)) (λ k. in_code k.form (sort_of_call c k)) (low_expr g inline (e.Call c)) (expr_step g (Expr-F.Call (low_call g inline c))) (sort_call c)
      (is_call g inline c) (record {
        kind = λ k f frame. call_agrees c k f frame;
        fits = λ w k f b frame row known is.
            let x = out-Call c in
            let in_form = in_code_suits k.form (sort_of_call c k) w frame.form is in
            let sorted = called_suits k x.target x.args (slice_get k.unit.methods x.method) w (subst (λ s. suits w s ≡ true) (call_sorted c k) in_form) in
            let d = sorted.0.method in
            let there : slice_get g.unit.methods x.method ≡ Some d = ap (λ u. slice_get u.methods x.method) (sym frame.unit) ∙ sorted.0.there in
            as_wanted p args g ((low_call g inline c).low true f b) w (result_of d) (result_suits w d.result sorted.1)
            (call_fits p args g well same inline inlines c d true k f b parts.target parts.values there frame row sorted.0.fits);
      })

  abbrev E : Type 0
  E = (a : Expr) × ExprFits p args g (sort_of a) (low_expr g inline a)

  abbrev C : Type 0
  C = (c : Call) × PartsFit (out-Call c)

  abbrev Q : Type 0
  Q = (q : Quant) × Unit {0}

  abbrev R : Type 0
  R = (r : Reach) × Unit {0}

  abbrev shaped : Expr-F E C Q R → Expr
  shaped y = roll-Expr (map-Expr E C Q R Expr Call Quant Reach (λ a. a.0) (λ c. c.0) (λ q. q.0) (λ q. q.0) y)

  layer : (y : Expr-F E C Q R) → ExprFits p args g (sort_of (shaped y)) (low_expr g inline (shaped y))
  layer (Expr-F.Num z) = rw (e.rolls-Num z) (num_fits p args g well same inline z)
  layer (Expr-F.Flag b) = rw (e.rolls-Flag b) (flag_fits p args g well same inline b)
  layer Expr-F.Null = rw e.rolls-Null (null_form p args g well same inline)
  layer Expr-F.This = rw e.rolls-This (this_form p args g well same inline)
  layer Expr-F.Result = rw e.rolls-Result
      (never p args g (sort_of e.Result) (low_expr g inline e.Result) (λ k f frame. sort_result k ∙ never_exit k.form (sort_of_kind k.result) frame.form))
  layer (Expr-F.Local i) = rw (e.rolls-Local i) (local_form p args g well same inline i)
  layer (Expr-F.Bound i) = rw (e.rolls-Bound i)
      (never p args g (sort_of (e.Bound i)) (low_expr g inline (e.Bound i)) (λ k f frame. sort_bound i k ∙ ap (λ xs. sort_of_class (slice_get xs i)) frame.bound))
  layer (Expr-F.Read a f) = rw (e.rolls-Read a.0 f) (read_form p args g well same inline a.0 f a.1)
  layer (Expr-F.Neg a) = rw (e.rolls-Neg a.0) (neg_form p args g well same inline a.0 a.1)
  layer (Expr-F.Not a) = rw (e.rolls-Not a.0) (not_form p args g well same inline a.0 a.1)
  layer (Expr-F.Bin o a c) = rw (e.rolls-Bin o a.0 c.0)
      (formed p args g (sort_of (e.Bin o a.0 c.0)) (λ k. operator_sort o k.form (binary_sort o (sort_of a.0 k) (sort_of c.0 k))) (low_expr g inline (e.Bin o a.0 c.0))
      (expr_step g (Expr-F.Bin o (low_expr g inline a.0) (low_expr g inline c.0))) (sort_bin o a.0 c.0) (is_bin g inline o a.0 c.0) (record {
        kind = λ k f frame. binary_agrees g.unit o k.form (sort_of a.0 k) (sort_of c.0 k);
        fits = λ w k f b frame row known is.
            combined_fits p args g well same o (sort_of a.0) (sort_of c.0) (low_expr g inline a.0) (low_expr g inline c.0) w k f b a.1 c.1 frame row is;
      }))
  layer (Expr-F.Quant q) = rw (e.rolls-Quant q.0)
      (never p args g (sort_of (e.Quant q.0)) (low_expr g inline (e.Quant q.0)) (λ k f frame. quant_faulty q.0 k frame.form))
  layer (Expr-F.Old a) = rw (e.rolls-Old a.0) (never p args g (sort_of (e.Old a.0)) (low_expr g inline (e.Old a.0)) (λ k f frame. sort_old a.0 k ∙ never_exit k.form (sort_of a.0
      (past k)) frame.form))
  layer (Expr-F.Has q a) = rw (e.rolls-Has q.0 a.0)
      (never p args g (sort_of (e.Has q.0 a.0)) (low_expr g inline (e.Has q.0 a.0)) (λ k f frame. sort_has q.0 a.0 k ∙ never_clause k.form (has_sort (sort_of_reach q.0 k)
      (sort_of a.0 k)) frame.form))
  layer (Expr-F.Size q) = rw (e.rolls-Size q.0) (never p args g (sort_of (e.Size q.0)) (low_expr g inline (e.Size q.0)) (λ k f frame. sort_size q.0 k ∙ never_clause k.form (size_sort
      (sort_of_reach q.0 k)) frame.form))
  layer (Expr-F.New c) = rw (e.rolls-New c) (new_form p args g well same inline c)
  layer (Expr-F.Call c) = rw (e.rolls-Call c.0) (call_form c.0 c.1)

  each_of : (as_ : List E) → EachFits p args g well same inline (map (λ a. a.0) as_)
  each_of [] = tt
  each_of (a ∷ as_) = (a.1, each_of as_)

  call_parts : (method : ℕ) (target : Option E) (values : List E)
      → PartsFit (map-Call E C Q R Expr Call Quant Reach (λ a. a.0) (λ c. c.0) (λ q. q.0) (λ q. q.0) (record { method = method; target = target; args = values }))
  call_parts method None values = record { target = tt; values = each_of values }
  call_parts method (Some t) values = record { target = t.1; values = each_of values }

  pub expr_fits : (a : Expr) → ExprFits p args g (sort_of a) (low_expr g inline a)
  expr_fits =
      ind-Expr (λ a. ExprFits p args g (sort_of a) (low_expr g inline a)) (λ c. PartsFit (out-Call c)) (λ q. Unit {0}) (λ r. Unit {0})
      (λ x y is. subst (λ z. ExprFits p args g (sort_of (roll-Expr z)) (low_expr g inline (roll-Expr z))) is (layer y))
      (λ x y is. subst PartsFit is (call_parts y.method y.target y.args))
      (λ x y is. tt) (λ x y is. tt)
