-- The kinds of every lowered expression and call of code, where inlined methods fit.
use Rattle.std.proofs.Common.{◌≡◌, ℕ, ◌+◌, Bool, true, List, [], ◌++◌, length, Option, Some, None, refl, sym, ◌∙◌, ap, subst}
use Rattle.std.specs.Prelude.{◌&&◌, nat_lt, map, slice_get, option_map}
use Rattle.std.specs.List.{list_all}
use Rattle.std.specs.Option.{option_map_or}
use Rattle.std.proofs.lemmas.Bool.{and_parts, lt-ltb}
use Rattle.std.proofs.lemmas.List.Folds.{list_all-append}
use Rattle.taco_unit.specs.declared.kind.Kind.{Kind}
use Rattle.taco_unit.specs.declared.kind.Kind.TheVariants as kind
use Rattle.taco_unit.specs.declared.expr.Expr.{Expr}
use Rattle.taco_unit.specs.declared.expr.Call.{Call, out-Call}
use Rattle.taco_unit.specs.declared.unit.MethodDef.{MethodDef}
use Rattle.taco_unit.specs.Kinds.{Around, sort_of, is_kind_of, are_arguments}
use Rattle.taco_unit.specs.Well.{IsWell, result_kind, param_kinds}
use Rattle.taco_unit.proofs.KindForms.{is_target_of}
use Rattle.heap_core.specs.Posed.{Posed}
use Rattle.dyn_plan.specs.declared.plan.Plan.{Plan}
use Rattle.dyn_plan.specs.Places.{Ground, Spots, slot}
use Rattle.dyn_plan.specs.Guards.{Lowered, guarded}
use Rattle.dyn_plan.specs.Expressions.{Low, Inline, Arguments, Target, kind_or, class_of_method, kinds_of_params, kind_of_result, arguments_low, target_low, entered_low}
use Rattle.dyn_plan.specs.Expressions.{with_value_at, with_target, low_expr, low_call}
use Rattle.dyn_plan.specs.Frames.{result_of}
use Rattle.dyn_plan.proofs.LowForms.{is_called}
use Rattle.dyn_plan.proofs.FitSteps.{Fit, fit_append}
use Rattle.dyn_plan.proofs.FitPlaces.{IsRow, Spot, at_slot, FrameFits, FitsAt, guarded_fits}
use Rattle.dyn_plan.proofs.FitCalls.{InlineFits, ArgumentsFit, TargetFits, EachFits, MaybeFits, arguments_fit, target_fits, receiver_at, value_fits, entered_fits}

module _ (p : Posed) (args : List Kind) (g : Ground) (well : IsWell g.unit) (same : p.unit ≡ g.unit) where
  -- ## what a well method has

  pub params_known : (m : ℕ) (d : MethodDef) → slice_get g.unit.methods m ≡ Some d → list_all (is_kind_of g.unit) (param_kinds d) ≡ true
  params_known m d there =
      let all = (well.methods m d there).kinds_there in
      (and_parts (list_all (is_kind_of g.unit) (param_kinds d)) (list_all (is_kind_of g.unit) d.locals) (sym (list_all-append (is_kind_of g.unit) (param_kinds d) d.locals) ∙ all)).0

  pub class_there : (m : ℕ) (d : MethodDef) → slice_get g.unit.methods m ≡ Some d → nat_lt d.class (length g.unit.classes) ≡ true
  class_there m d there = lt-ltb d.class (length g.unit.classes) (well.methods m d there).in_class

  pub result_known : (m : ℕ) (d : MethodDef) → slice_get g.unit.methods m ≡ Some d → is_kind_of g.unit (result_of d) ≡ true
  result_known m d there = by (result_kind d) (well.methods m d there).result_there
    where
      by : (o : Option Kind) → option_map_or (is_kind_of g.unit) o true ≡ true → is_kind_of g.unit (kind_or o kind.Int) ≡ true
      by None is = refl
      by (Some k) is = is

  module _ (inline : Inline) (inlines : InlineFits p args g inline) where
    -- ## a call

    -- a method that is inlined between its target, its arguments and what it gives
    called_fits : (m : ℕ) (d : MethodDef) (t : Option Expr) (as_ : List Expr) (wanted : Bool) (k : Around) (f : Spots) (b : ℕ) → slice_get g.unit.methods m ≡ Some d
        → MaybeFits p args g well same inline t → EachFits p args g well same inline as_ → FrameFits args g k f → IsRow g b
        → (is_target_of k d t && are_arguments k d.params (map sort_of as_)) ≡ true
        → FitsAt p args g (with_target g inline m (map (low_expr g inline) as_) wanted f b (target_low g (option_map (low_expr g inline) t) (class_of_method g m) f b)) (result_of d)
    called_fits m d t as_ wanted k f b there on_target on_args frame row fits =
        let both = and_parts (is_target_of k d t) (are_arguments k d.params (map sort_of as_)) fits in
        let class_is : class_of_method g m ≡ d.class = ap (λ o. option_map_or (λ d. d.class) o 0) there in
        let kinds_are : kinds_of_params g m ≡ param_kinds d = ap (λ o. option_map_or param_kinds o []) there in
        let result_is : kind_or (kind_of_result g m) kind.Int ≡ result_of d = ap (λ o. kind_or (option_map_or result_kind o None) kind.Int) there in
        let lows : List Low = map (low_expr g inline) as_ in
        let target : Target = target_low g (option_map (low_expr g inline) t) (class_of_method g m) f b in
        let target_ok : TargetFits p args g d target =
        subst (λ c. TargetFits p args g d (target_low g (option_map (low_expr g inline) t) c f b)) (sym class_is)
        (target_fits p args g well same inline d t k f b on_target frame row (class_there m d there) both.0) in
        let values : Arguments = arguments_low g lows (kinds_of_params g m) target.throws f target.free in
        let values_ok : ArgumentsFit p args g values (param_kinds d) =
        subst (λ ks. ArgumentsFit p args g (arguments_low g lows ks target.throws f target.free) (param_kinds d)) (sym kinds_are)
        (arguments_fit p args g well same inline d.params as_ target.throws k f target.free on_args frame target_ok.row (params_known m d there) both.1) in
        let body : Lowered = inline m target.place values.places wanted f values.free in
        let body_ok : FitsAt p args g body (result_of d) =
        inlines.fits m d target.place values.places wanted k f values.free there frame values_ok.row (receiver_at p args g well same inline d target.place target_ok.place) values_ok.places in
        let r : ℕ = b + slot g (kind_or (kind_of_result g m) kind.Int) in
        let known : is_kind_of g.unit (kind_or (kind_of_result g m) kind.Int) ≡ true = ap (is_kind_of g.unit) result_is ∙ result_known m d there in
        let spot : Spot args g r (result_of d) = subst (Spot args g r) result_is (at_slot args g b (kind_or (kind_of_result g m) kind.Int) row known) in
        let last : List Plan = with_value_at wanted r body in
        let entered : List Plan = entered_low g f values.free (class_of_method g m) target.place last in
        let last_ok : Fit p (Spot args g) last = value_fits p args g well same inline wanted r (result_of d) body spot body_ok in
        let entered_ok : Fit p (Spot args g) entered =
        subst (λ c. Fit p (Spot args g) (entered_low g f values.free c target.place last)) (sym class_is)
        (entered_fits p args g well same inline d k f values.free target.place last frame values_ok.row (class_there m d there) target_ok.place last_ok) in
        record {
          steps = fit_append p (Spot args g) target.steps (values.steps ++ guarded f values.throws entered) target_ok.steps
              (fit_append p (Spot args g) values.steps (guarded f values.throws entered) values_ok.steps (guarded_fits p args g f values.throws entered frame.done entered_ok));
          place = spot;
        }

    -- a call that fits its method fits, and what it gives stands where one of the result's kind does
    pub call_fits : (c : Call) (d : MethodDef) (wanted : Bool) (k : Around) (f : Spots) (b : ℕ) → MaybeFits p args g well same inline (out-Call c).target
        → EachFits p args g well same inline (out-Call c).args → slice_get g.unit.methods (out-Call c).method ≡ Some d → FrameFits args g k f → IsRow g b
        → (is_target_of k d (out-Call c).target && are_arguments k d.params (map sort_of (out-Call c).args)) ≡ true → FitsAt p args g ((low_call g inline c).low wanted f b) (result_of d)
    call_fits c d wanted k f b on_target on_args there frame row fits =
        subst (λ z. FitsAt p args g (z.low wanted f b) (result_of d)) (sym (is_called g inline c))
        (called_fits (out-Call c).method d (out-Call c).target (out-Call c).args wanted k f b there on_target on_args frame row fits)
