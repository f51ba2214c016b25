-- The kinds of lowered operators and calls, and with them of every expression of code.
use Rattle.std.proofs.Common.{◌≡◌, ℕ, ◌+◌, Bool, true, false, List, [], ◌∷◌, length, Option, Some, None, refl, sym, ◌∙◌, subst}
use Rattle.std.specs.Prelude.{not, ◌&&◌, ◌||◌, nat_lt, map, slice_get, option_map}
use Rattle.std.specs.List.{list_all}
use Rattle.std.proofs.lemmas.Bool.{false≢true, and_parts}
use Rattle.taco_unit.specs.declared.kind.Kind.{Kind}
use Rattle.taco_unit.specs.declared.kind.Kind.TheVariants as kind
use Rattle.taco_unit.specs.declared.expr.Expr.{Expr}
use Rattle.taco_unit.specs.declared.expr.Op.{Op}
use Rattle.taco_unit.specs.declared.expr.Op.TheVariants as op
use Rattle.taco_unit.specs.declared.unit.MethodDef.{MethodDef}
use Rattle.taco_unit.specs.declared.unit.ParamDef.{ParamDef}
use Rattle.taco_unit.specs.Kinds.{Of, Sorted, Around, suits, alike, sort_of, is_kind_of, is_object_of, are_arguments, binary_sort, operator_sort}
use Rattle.taco_unit.specs.Well.{IsWell, receiver_of, param_kinds}
use Rattle.taco_unit.proofs.KindForms.{is_target_of}
use Rattle.heap_core.specs.declared.value.Value.TheVariants.{Flag}
use Rattle.heap_core.specs.Posed.{Posed}
use Rattle.dyn_core.specs.declared.prog.Act.TheVariants.{Copy, Const, Sum, Diff, Product, Same, Below}
use Rattle.dyn_plan.specs.declared.plan.Plan.{Plan}
use Rattle.dyn_plan.specs.declared.plan.Plan.TheVariants as l
use Rattle.dyn_plan.specs.Places.{Ground, Spots, behind}
use Rattle.dyn_plan.specs.Guards.{Lowered, guarded}
use Rattle.dyn_plan.specs.Expressions.{Low, Inline, Arguments, Target, common_kind, as_truth, combined_low, arguments_low, target_low, entered_low, with_value_at, low_expr}
use Rattle.dyn_plan.specs.Frames.{result_of}
use Rattle.dyn_plan.proofs.FitSteps.{Fit, fit_none, fit_append, fit_do}
use Rattle.dyn_plan.proofs.FitPlaces.{IsRow, Spot, row_behind, at_flag, FrameFits, FitsAt, guarded_fits, constant_fits, through_fits}
use Rattle.dyn_plan.proofs.FitExprs.{ExprFits, common_suits, both_fit, truth_fits, short_fits, then_turned}
use Rattle.dyn_plan.proofs.EndParts.{kinds_same, where_suits, in_clause_never}
use Rattle.dyn_plan.proofs.EndCalls.{object_suits}

pub as_wanted : (p : Posed) (args : List Kind) (g : Ground) (x : Lowered) (w r : Kind) → w ≡ r → FitsAt p args g x r → FitsAt p args g x w
as_wanted p args g x w r same fits = subst (FitsAt p args g x) (sym same) fits

-- each variable has its kind
abbrev pub AllAt : List Kind → Ground → List ℕ → List Kind → Type 0
AllAt args g [] [] = Unit {0}
AllAt args g (x ∷ xs) (k ∷ ks) = Spot args g x k × AllAt args g xs ks
AllAt args g _ _ = ⊥

-- the receiver of a method that is inlined
pub record ReceiverAt (args : List Kind) (g : Ground) (c : ℕ) (this : Option ℕ) : Type 0 where
  pub place : ℕ
  pub there : this ≡ Some place
  pub spot : Spot args g place (kind.Ref c)

-- each method that is inlined, where its receiver and its arguments stand, fits
pub record InlineFits (p : Posed) (args : List Kind) (g : Ground) (inline : Inline) : Type 0 where
  pub fits : (m : ℕ) (d : MethodDef) (this : Option ℕ) (xs : List ℕ) (wanted : Bool) (k : Around) (f : Spots) (b : ℕ) → slice_get g.unit.methods m ≡ Some d → FrameFits args g k f → IsRow g b
      → ((c : ℕ) → receiver_of d.fixed d.class ≡ Some c → ReceiverAt args g c this) → AllAt args g xs (param_kinds d) → FitsAt p args g (inline m this xs wanted f b) (result_of d)

-- arguments that stand where those of these kinds do
pub record ArgumentsFit (p : Posed) (args : List Kind) (g : Ground) (x : Arguments) (ks : List Kind) : Type 0 where
  pub steps : Fit p (Spot args g) x.steps
  pub places : AllAt args g x.places ks
  pub row : IsRow g x.free

abbrev pub TargetAt : List Kind → Ground → MethodDef → Option ℕ → Type 0
TargetAt args g d None = d.fixed ≡ true
TargetAt args g d (Some x) = Spot args g x (kind.Ref d.class)

pub record TargetFits (p : Posed) (args : List Kind) (g : Ground) (d : MethodDef) (x : Target) : Type 0 where
  pub steps : Fit p (Spot args g) x.steps
  pub place : TargetAt args g d x.place
  pub row : IsRow g x.free

module _ (p : Posed) (args : List Kind) (g : Ground) (well : IsWell g.unit) (same : p.unit ≡ g.unit) where
  -- ## operators

  pub combined_fits : (o : Op) (s t : Sorted) (a c : Low) (w : Kind) (k : Around) (f : Spots) (b : ℕ) → ExprFits p args g s a → ExprFits p args g t c → FrameFits args g k f → IsRow g b
      → suits w (operator_sort o k.form (binary_sort o (s k) (t k))) ≡ true → FitsAt p args g (combined_low g o a c f b) w
  combined_fits op.Add s t a c w k f b first second frame row is =
      let parts = where_suits (suits kind.Int (s k) && suits kind.Int (t k)) (Of kind.Int) w is in
      let both = and_parts (suits kind.Int (s k)) (suits kind.Int (t k)) parts.0 in
      as_wanted p args g (combined_low g op.Add a c f b) w kind.Int (kinds_same w kind.Int parts.1)
      (both_fit p args g well same op.Add s t a c kind.Int k f b first second frame row refl both.0 both.1 refl (λ r z x y sr sz sx sy. fit_do p (Spot args g) (Sum r x y) (sr, sx, sy)))
  combined_fits op.Sub s t a c w k f b first second frame row is =
      let parts = where_suits (suits kind.Int (s k) && suits kind.Int (t k)) (Of kind.Int) w is in
      let both = and_parts (suits kind.Int (s k)) (suits kind.Int (t k)) parts.0 in
      as_wanted p args g (combined_low g op.Sub a c f b) w kind.Int (kinds_same w kind.Int parts.1)
      (both_fit p args g well same op.Sub s t a c kind.Int k f b first second frame row refl both.0 both.1 refl (λ r z x y sr sz sx sy. fit_do p (Spot args g) (Diff r x y) (sr, sx, sy)))
  combined_fits op.Mul s t a c w k f b first second frame row is =
      let parts = where_suits (suits kind.Int (s k) && suits kind.Int (t k)) (Of kind.Int) w is in
      let both = and_parts (suits kind.Int (s k)) (suits kind.Int (t k)) parts.0 in
      as_wanted p args g (combined_low g op.Mul a c f b) w kind.Int (kinds_same w kind.Int parts.1)
      (both_fit p args g well same op.Mul s t a c kind.Int k f b first second frame row refl both.0 both.1 refl (λ r z x y sr sz sx sy. fit_do p (Spot args g) (Product r x y) (sr, sx, sy)))
  combined_fits op.Lt s t a c w k f b first second frame row is =
      let parts = where_suits (suits kind.Int (s k) && suits kind.Int (t k)) (Of kind.Flag) w is in
      let both = and_parts (suits kind.Int (s k)) (suits kind.Int (t k)) parts.0 in
      as_wanted p args g (combined_low g op.Lt a c f b) w kind.Flag (kinds_same w kind.Flag parts.1)
      (both_fit p args g well same op.Lt s t a c kind.Int k f b first second frame row refl both.0 both.1 refl (λ r z x y sr sz sx sy. fit_do p (Spot args g) (Below r x y) (sr, sx, sy)))
  combined_fits op.Gt s t a c w k f b first second frame row is =
      let parts = where_suits (suits kind.Int (s k) && suits kind.Int (t k)) (Of kind.Flag) w is in
      let both = and_parts (suits kind.Int (s k)) (suits kind.Int (t k)) parts.0 in
      as_wanted p args g (combined_low g op.Gt a c f b) w kind.Flag (kinds_same w kind.Flag parts.1)
      (both_fit p args g well same op.Gt s t a c kind.Int k f b first second frame row refl both.0 both.1 refl (λ r z x y sr sz sx sy. fit_do p (Spot args g) (Below r y x) (sr, sy, sx)))
  combined_fits op.Le s t a c w k f b first second frame row is =
      let parts = where_suits (suits kind.Int (s k) && suits kind.Int (t k)) (Of kind.Flag) w is in
      let both = and_parts (suits kind.Int (s k)) (suits kind.Int (t k)) parts.0 in
      as_wanted p args g (combined_low g op.Le a c f b) w kind.Flag (kinds_same w kind.Flag parts.1)
      (both_fit p args g well same op.Le s t a c kind.Int k f b first second frame row refl both.0 both.1 refl
      (λ r z x y sr sz sx sy. then_turned p args g well same (Below r y x) r sr (sr, sy, sx)))
  combined_fits op.Ge s t a c w k f b first second frame row is =
      let parts = where_suits (suits kind.Int (s k) && suits kind.Int (t k)) (Of kind.Flag) w is in
      let both = and_parts (suits kind.Int (s k)) (suits kind.Int (t k)) parts.0 in
      as_wanted p args g (combined_low g op.Ge a c f b) w kind.Flag (kinds_same w kind.Flag parts.1)
      (both_fit p args g well same op.Ge s t a c kind.Int k f b first second frame row refl both.0 both.1 refl
      (λ r z x y sr sz sx sy. then_turned p args g well same (Below r x y) r sr (sr, sx, sy)))
  combined_fits op.Eq s t a c w k f b first second frame row is =
      let parts = where_suits (alike (s k) (t k)) (Of kind.Flag) w is in
      let v : Kind = common_kind (a.kind f) (c.kind f) in
      let common = common_suits g.unit (s k) (t k) (a.kind f) (c.kind f) (first.kind k f frame) (second.kind k f frame) parts.0 frame.some_class in
      as_wanted p args g (combined_low g op.Eq a c f b) w kind.Flag (kinds_same w kind.Flag parts.1)
      (both_fit p args g well same op.Eq s t a c v k f b first second frame row common.known common.left common.right refl
      (λ r z x y sr sz sx sy. fit_do p (Spot args g) (Same r x y) (sr, (v, sx, sy))))
  combined_fits op.Ne s t a c w k f b first second frame row is =
      let parts = where_suits (alike (s k) (t k)) (Of kind.Flag) w is in
      let v : Kind = common_kind (a.kind f) (c.kind f) in
      let common = common_suits g.unit (s k) (t k) (a.kind f) (c.kind f) (first.kind k f frame) (second.kind k f frame) parts.0 frame.some_class in
      as_wanted p args g (combined_low g op.Ne a c f b) w kind.Flag (kinds_same w kind.Flag parts.1)
      (both_fit p args g well same op.Ne s t a c v k f b first second frame row common.known common.left common.right refl
      (λ r z x y sr sz sx sy. then_turned p args g well same (Same r x y) r sr (sr, (v, sx, sy))))
  combined_fits op.And s t a c w k f b first second frame row is =
      let parts = where_suits (suits kind.Flag (s k) && suits kind.Flag (t k)) (Of kind.Flag) w is in
      let both = and_parts (suits kind.Flag (s k)) (suits kind.Flag (t k)) parts.0 in
      let flag = at_flag args g b row in
      as_wanted p args g (combined_low g op.And a c f b) w kind.Flag (kinds_same w kind.Flag parts.1) (record {
        steps = short_fits p args g well same s a (as_truth g f (b + 1) (c.low kind.Flag f b)) (l.Do (Const (b + 1) (Flag false)) ∷ []) k f b first frame row both.0
            (truth_fits p args g well same t c k f b second frame row both.1) (constant_fits p args g (b + 1) false flag);
        place = flag;
      })
  combined_fits op.Or s t a c w k f b first second frame row is =
      let parts = where_suits (suits kind.Flag (s k) && suits kind.Flag (t k)) (Of kind.Flag) w is in
      let both = and_parts (suits kind.Flag (s k)) (suits kind.Flag (t k)) parts.0 in
      let flag = at_flag args g b row in
      as_wanted p args g (combined_low g op.Or a c f b) w kind.Flag (kinds_same w kind.Flag parts.1) (record {
        steps = short_fits p args g well same s a (l.Do (Const (b + 1) (Flag true)) ∷ []) (as_truth g f (b + 1) (c.low kind.Flag f b)) k f b first frame row both.0
            (constant_fits p args g (b + 1) true flag) (truth_fits p args g well same t c k f b second frame row both.1);
        place = flag;
      })
  combined_fits op.Implies s t a c w k f b first second frame row is = absurd (in_clause_never k.form (binary_sort op.Implies (s k) (t k)) w frame.form is)
  combined_fits op.Iff s t a c w k f b first second frame row is = absurd (in_clause_never k.form (binary_sort op.Iff (s k) (t k)) w frame.form is)

  module _ (inline : Inline) where
    -- ## arguments and target

    abbrev pub EachFits : List Expr → Type 0
    EachFits [] = Unit {0}
    EachFits (a ∷ as_) = ExprFits p args g (sort_of a) (low_expr g inline a) × EachFits as_

    abbrev pub MaybeFits : Option Expr → Type 0
    MaybeFits None = Unit {0}
    MaybeFits (Some a) = ExprFits p args g (sort_of a) (low_expr g inline a)

    pub arguments_fit : (qs : List ParamDef) (as_ : List Expr) (t : Bool) (k : Around) (f : Spots) (b : ℕ) → EachFits as_ → FrameFits args g k f → IsRow g b
        → list_all (is_kind_of g.unit) (map (λ q. q.kind) qs) ≡ true → are_arguments k qs (map sort_of as_) ≡ true
        → ArgumentsFit p args g (arguments_low g (map (low_expr g inline) as_) (map (λ q. q.kind) qs) t f b) (map (λ q. q.kind) qs)
    arguments_fit [] [] t k f b claims frame row known is = record { steps = fit_none p (Spot args g); places = tt; row = row }
    arguments_fit [] (a ∷ as_) t k f b claims frame row known is = absurd (false≢true is)
    arguments_fit (q ∷ qs) [] t k f b claims frame row known is = absurd (false≢true is)
    arguments_fit (q ∷ qs) (a ∷ as_) t k f b claims frame row known is =
        let both = and_parts (suits q.kind (sort_of a k)) (are_arguments k qs (map sort_of as_)) is in
        let kinds = and_parts (is_kind_of g.unit q.kind) (list_all (is_kind_of g.unit) (map (λ q. q.kind) qs)) known in
        let x : Lowered = (low_expr g inline a).low q.kind f b in
        let first = claims.0.fits q.kind k f b frame row kinds.0 both.0 in
        let rest = arguments_fit qs as_ (t || x.throws) k f (behind g b x.place) claims.1 frame (row_behind g b x.place row) kinds.1 both.1 in
        let others : Arguments = arguments_low g (map (low_expr g inline) as_) (map (λ q. q.kind) qs) (t || x.throws) f (behind g b x.place) in
        record {
          steps = fit_append p (Spot args g) (guarded f t x.steps) others.steps (guarded_fits p args g f t x.steps frame.done first.steps) rest.steps;
          places = (first.place, rest.places);
          row = rest.row;
        }

    pub target_fits : (d : MethodDef) (t : Option Expr) (k : Around) (f : Spots) (b : ℕ) → MaybeFits t → FrameFits args g k f → IsRow g b → nat_lt d.class (length g.unit.classes) ≡ true
        → is_target_of k d t ≡ true → TargetFits p args g d (target_low g (option_map (low_expr g inline) t) d.class f b)
    target_fits d None k f b claim frame row known is = record { steps = fit_none p (Spot args g); place = is; row = row }
    target_fits d (Some a) k f b claim frame row known is =
        let both = and_parts (not d.fixed) (is_object_of d.class (sort_of a k)) is in
        let x = claim.fits (kind.Ref d.class) k f b frame row known (object_suits d.class (sort_of a k) both.1) in
        record { steps = x.steps; place = x.place; row = row_behind g b ((low_expr g inline a).low (kind.Ref d.class) f b).place row }

    -- ## calls

    pub receiver_at : (d : MethodDef) (o : Option ℕ) → TargetAt args g d o → (c : ℕ) → receiver_of d.fixed d.class ≡ Some c → ReceiverAt args g c o
    receiver_at d o at c is = by d.fixed refl o at is
      where
        by : (fixed : Bool) → d.fixed ≡ fixed → (o : Option ℕ) → TargetAt args g d o → receiver_of fixed d.class ≡ Some c → ReceiverAt args g c o
        by true f o at is = absurd (cc)
        by false f None at is = absurd (false≢true (sym f ∙ at))
        by false f (Some x) at is =
            let equal : d.class ≡ c = cc in
            record { place = x; there = refl; spot = subst (λ z. Spot args g x (kind.Ref z)) equal at }

    pub value_fits : (wanted : Bool) (r : ℕ) (w : Kind) (x : Lowered) → Spot args g r w → FitsAt p args g x w → Fit p (Spot args g) (with_value_at wanted r x)
    value_fits true r w x spot fits = fit_append p (Spot args g) x.steps (l.Do (Copy r x.place) ∷ []) fits.steps (fit_do p (Spot args g) (Copy r x.place) (w, spot, fits.place))
    value_fits false r w x spot fits = fits.steps

    pub entered_fits : (d : MethodDef) (k : Around) (f : Spots) (b : ℕ) (o : Option ℕ) (steps : List Plan) → FrameFits args g k f → IsRow g b → nat_lt d.class (length g.unit.classes) ≡ true
        → TargetAt args g d o → Fit p (Spot args g) steps → Fit p (Spot args g) (entered_low g f b d.class o steps)
    entered_fits d k f b None steps frame row known at fits = fits
    entered_fits d k f b (Some x) steps frame row known at fits = through_fits p args g f b d.class x steps frame.done frame.thrown row known at fits
