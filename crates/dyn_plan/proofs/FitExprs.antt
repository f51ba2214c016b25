-- The kinds of lowered expressions of code, form by form.
use Rattle.std.proofs.Common.{◌≡◌, ℕ, ◌+◌, Bool, true, false, List, [], ◌∷◌, ◌++◌, length, Option, Some, None, refl, sym, ◌∙◌, ap, subst}
use Rattle.std.specs.Prelude.{◌==◌, ◌&&◌, ◌||◌, nat_lt, slice_get}
use Rattle.std.specs.Option.{option_map_or}
use Rattle.std.proofs.lemmas.Bool.{false≢true, lt-ltb}
use Rattle.taco_unit.specs.declared.kind.Kind.{Kind}
use Rattle.taco_unit.specs.declared.kind.Kind.TheVariants as kind
use Rattle.taco_unit.specs.declared.expr.Op.{Op}
use Rattle.taco_unit.specs.declared.expr.Op.TheVariants as op
use Rattle.taco_unit.specs.declared.unit.FieldDef.{FieldDef}
use Rattle.taco_unit.specs.Parts.{Parts}
use Rattle.taco_unit.specs.Kinds.{Sort, Of, NullOnly, Faulty, NoValue, Sorted, Around, Form, Code as InCode, Entry, Exit, Past, suits, alike, where_, is_kind_of, field_sort}
use Rattle.taco_unit.specs.Kinds.{binary_sort, operator_sort, in_clause}
use Rattle.taco_unit.specs.Well.{IsWell}
use Rattle.heap_core.specs.Posed.{Posed}
use Rattle.dyn_core.specs.declared.prog.Act.{Act}
use Rattle.dyn_core.specs.declared.prog.Act.TheVariants.{Same, Read}
use Rattle.dyn_plan.specs.declared.plan.Plan.{Plan}
use Rattle.dyn_plan.specs.declared.plan.Plan.TheVariants as l
use Rattle.dyn_plan.specs.Places.{Ground, Spots, slot, behind, flag_of}
use Rattle.dyn_plan.specs.Guards.{Lowered, guarded, through}
use Rattle.dyn_plan.specs.Expressions.{Low, kind_of_field, class_of_field, kind_of_op, common_kind, operation, behind_both, after_both, as_truth, after_one, read_low}
use Rattle.dyn_plan.proofs.FitSteps.{Fit, FitAct, fit_append, fit_do, fit_if}
use Rattle.dyn_plan.proofs.FitPlaces.{IsRow, Spot, row_behind, at_slot, at_flag, flag_spot, FrameFits, FitsAt, guarded_fits, through_fits}
use Rattle.dyn_plan.proofs.EndParts.{kinds_same, same_itself}
use Rattle.dyn_plan.proofs.EndExprs.{field_sorted}

-- the kind of an expression in its frame is that of its sort
abbrev pub Agrees : Parts → Sort → Option Kind → Type 0
Agrees u (Of k) o = (o ≡ Some k) × (is_kind_of u k ≡ true)
Agrees u NullOnly o = o ≡ None
Agrees u _ o = Unit {0}

-- an expression of this sort is lowered to steps that fit, and its value stands where one of the kind that is wanted does
pub record ExprFits (p : Posed) (args : List Kind) (g : Ground) (sort : Sorted) (x : Low) : Type 0 where
  pub kind : (k : Around) (f : Spots) → FrameFits args g k f → Agrees g.unit (sort k) (x.kind f)
  pub fits : (w : Kind) (k : Around) (f : Spots) (b : ℕ) → FrameFits args g k f → IsRow g b → is_kind_of g.unit w ≡ true → suits w (sort k) ≡ true → FitsAt p args g (x.low w f b) w

pub where_agrees : (u : Parts) (t : Bool) (r : Kind) → is_kind_of u r ≡ true → Agrees u (where_ t (Of r)) (Some r)
where_agrees u true r is = (refl, is)
where_agrees u false r is = tt

clause_agrees : (u : Parts) (f : Form) (s : Sort) (o : Option Kind) → Agrees u s o → Agrees u (in_clause f s) o
clause_agrees u InCode s o is = tt
clause_agrees u Entry s o is = is
clause_agrees u Exit s o is = is
clause_agrees u Past s o is = is

pub binary_agrees : (u : Parts) (o : Op) (f : Form) (s t : Sort) → Agrees u (operator_sort o f (binary_sort o s t)) (Some (kind_of_op o))
binary_agrees u op.Add f s t = where_agrees u (suits kind.Int s && suits kind.Int t) kind.Int refl
binary_agrees u op.Sub f s t = where_agrees u (suits kind.Int s && suits kind.Int t) kind.Int refl
binary_agrees u op.Mul f s t = where_agrees u (suits kind.Int s && suits kind.Int t) kind.Int refl
binary_agrees u op.Eq f s t = where_agrees u (alike s t) kind.Flag refl
binary_agrees u op.Ne f s t = where_agrees u (alike s t) kind.Flag refl
binary_agrees u op.Lt f s t = where_agrees u (suits kind.Int s && suits kind.Int t) kind.Flag refl
binary_agrees u op.Le f s t = where_agrees u (suits kind.Int s && suits kind.Int t) kind.Flag refl
binary_agrees u op.Gt f s t = where_agrees u (suits kind.Int s && suits kind.Int t) kind.Flag refl
binary_agrees u op.Ge f s t = where_agrees u (suits kind.Int s && suits kind.Int t) kind.Flag refl
binary_agrees u op.And f s t = where_agrees u (suits kind.Flag s && suits kind.Flag t) kind.Flag refl
binary_agrees u op.Or f s t = where_agrees u (suits kind.Flag s && suits kind.Flag t) kind.Flag refl
binary_agrees u op.Implies f s t =
    clause_agrees u f (where_ (suits kind.Flag s && suits kind.Flag t) (Of kind.Flag)) (Some kind.Flag) (where_agrees u (suits kind.Flag s && suits kind.Flag t) kind.Flag refl)
binary_agrees u op.Iff f s t =
    clause_agrees u f (where_ (suits kind.Flag s && suits kind.Flag t) (Of kind.Flag)) (Some kind.Flag) (where_agrees u (suits kind.Flag s && suits kind.Flag t) kind.Flag refl)

pub field_agrees : (u : Parts) (o : Option FieldDef) (s : Sort) → ((d : FieldDef) → o ≡ Some d → is_kind_of u d.kind ≡ true)
    → Agrees u (field_sort o s) (Some (option_map_or (λ d. d.kind) o kind.Int))
field_agrees u None s known = tt
field_agrees u (Some d) (Of (kind.Ref c)) known = where_agrees u (d.class == c) d.kind (known d refl)
field_agrees u (Some d) (Of kind.Int) known = tt
field_agrees u (Some d) (Of kind.Flag) known = tt
field_agrees u (Some d) NullOnly known = tt
field_agrees u (Some d) NoValue known = tt
field_agrees u (Some d) Faulty known = tt

-- the common kind of two operands that are compared suits both
pub record Common (u : Parts) (k : Kind) (s t : Sort) : Type 0 where
  pub known : is_kind_of u k ≡ true
  pub left : suits k s ≡ true
  pub right : suits k t ≡ true

common_by : (u : Parts) (k j : Kind) (s t : Sort) → j ≡ k → Common u k s t → Common u j s t
common_by u k j s t same common = subst (λ z. Common u z s t) (sym same) common

pub common_suits : (u : Parts) (s t : Sort) (x y : Option Kind) → Agrees u s x → Agrees u t y → alike s t ≡ true → is_kind_of u (kind.Ref 0) ≡ true → Common u (common_kind x y) s t
common_suits u (Of k) t x y left right is some = common_by u k (common_kind x y) (Of k) t (ap (λ z. common_kind z y) left.0) (record { known = left.1; left = same_itself k; right = is })
common_suits u NullOnly (Of k) x y left right is some =
    common_by u k (common_kind x y) NullOnly (Of k) (ap (λ z. common_kind z y) left ∙ ap (common_kind None) right.0) (record { known = right.1; left = is; right = same_itself k })
common_suits u NullOnly NullOnly x y left right is some =
    common_by u (kind.Ref 0) (common_kind x y) NullOnly NullOnly (ap (λ z. common_kind z y) left ∙ ap (common_kind None) right) (record { known = some; left = refl; right = refl })
common_suits u NullOnly NoValue x y left right is some = absurd (false≢true is)
common_suits u NullOnly Faulty x y left right is some = absurd (false≢true is)
common_suits u NoValue t x y left right is some = absurd (false≢true is)
common_suits u Faulty t x y left right is some = absurd (false≢true is)

module _ (p : Posed) (args : List Kind) (g : Ground) (well : IsWell g.unit) (same : p.unit ≡ g.unit) where
  -- ## one operand

  -- an operand, and an action on it
  pub one_fits : (sort : Sorted) (x : Low) (v w : Kind) (r : ℕ) (act : Act) (k : Around) (f : Spots) (b : ℕ) → ExprFits p args g sort x → FrameFits args g k f → IsRow g b
      → is_kind_of g.unit v ≡ true → suits v (sort k) ≡ true → Spot args g r w → (Spot args g (x.low v f b).place v → FitAct p (Spot args g) act)
      → FitsAt p args g (after_one f (x.low v f b) r act) w
  one_fits sort x v w r act k f b claim frame row known is spot fit =
      let operand = claim.fits v k f b frame row known is in
      record {
        steps = fit_append p (Spot args g) (x.low v f b).steps (guarded f (x.low v f b).throws (l.Do act ∷ [])) operand.steps
            (guarded_fits p args g f (x.low v f b).throws (l.Do act ∷ []) frame.done (fit_do p (Spot args g) act (fit operand.place)));
        place = spot;
      }

  field_known : (k : Around) (i : ℕ) (d : FieldDef) (f : Spots) → FrameFits args g k f → slice_get k.unit.fields i ≡ Some d → slice_get g.unit.fields i ≡ Some d
  field_known k i d f frame there = ap (λ u. slice_get u.fields i) (sym frame.unit) ∙ there

  class_known : (i : ℕ) (d : FieldDef) → slice_get g.unit.fields i ≡ Some d → nat_lt d.class (length g.unit.classes) ≡ true
  class_known i d there = lt-ltb d.class (length g.unit.classes) (well.fields i d there).in_class

  -- a field is read
  pub read_fits : (sort : Sorted) (x : Low) (i : ℕ) (w : Kind) (k : Around) (f : Spots) (b : ℕ) → ExprFits p args g sort x → FrameFits args g k f → IsRow g b
      → suits w (field_sort (slice_get k.unit.fields i) (sort k)) ≡ true → FitsAt p args g (read_low g i f b (x.low (kind.Ref (class_of_field g i)) f b)) w
  read_fits sort x i w k f b claim frame row is =
      let sorted = field_sorted (slice_get k.unit.fields i) (sort k) w is in
      let d = sorted.0.declared in
      let there = field_known k i d f frame sorted.0.there in
      let class_is : class_of_field g i ≡ d.class = ap (λ o. option_map_or (λ d. d.class) o 0) there in
      let kind_is : kind_of_field g i ≡ d.kind = ap (λ o. option_map_or (λ d. d.kind) o kind.Int) there in
      let known = class_known i d there in
      let known_class : nat_lt (class_of_field g i) (length g.unit.classes) ≡ true = ap (λ c. nat_lt c (length g.unit.classes)) class_is ∙ known in
      let known_kind : is_kind_of g.unit (kind_of_field g i) ≡ true = ap (is_kind_of g.unit) kind_is ∙ (well.fields i d there).kind_there in
      let object_fits : suits (kind.Ref (class_of_field g i)) (sort k) ≡ true = ap (λ c. suits (kind.Ref c) (sort k)) class_is ∙ sorted.0.object in
      let operand = claim.fits (kind.Ref (class_of_field g i)) k f b frame row known_class object_fits in
      let o : Lowered = x.low (kind.Ref (class_of_field g i)) f b in
      let r : ℕ = b + slot g (kind_of_field g i) in
      let spot : Spot args g r (kind_of_field g i) = at_slot args g b (kind_of_field g i) row known_kind in
      let same_kinds : w ≡ kind_of_field g i = kinds_same w d.kind sorted.1 ∙ sym kind_is in
      let object : Spot args g o.place (kind.Ref d.class) = subst (λ c. Spot args g o.place (kind.Ref c)) class_is operand.place in
      let value : Spot args g r d.kind = subst (Spot args g r) kind_is spot in
      let act = fit_do p (Spot args g) (Read r o.place i) (record { declared = d; there = ap (λ u. slice_get u.fields i) same ∙ there; object = object; value = value }) in
      let inner = through_fits p args g f (behind g b o.place) (class_of_field g i) o.place (l.Do (Read r o.place i) ∷ []) frame.done frame.thrown
      (row_behind g b o.place row) known_class operand.place act in
      let steps : List Plan = through g f (behind g b o.place) (class_of_field g i) o.place (l.Do (Read r o.place i) ∷ []) in
      record {
        steps = fit_append p (Spot args g) o.steps (guarded f o.throws steps) operand.steps (guarded_fits p args g f o.throws steps frame.done inner);
        place = subst (Spot args g r) (sym same_kinds) spot;
      }

  -- ## two operands

  -- the opposite of a flag
  turned : (r : ℕ) → Spot args g r kind.Flag → Fit p (Spot args g) (l.Do (Same r r (flag_of g false)) ∷ [])
  turned r spot = fit_do p (Spot args g) (Same r r (flag_of g false)) (spot, (kind.Flag, spot, flag_spot args g false))

  pub then_turned : (a : Act) (r : ℕ) → Spot args g r kind.Flag → FitAct p (Spot args g) a → Fit p (Spot args g) (l.Do a ∷ l.Do (Same r r (flag_of g false)) ∷ [])
  then_turned a r spot fit = fit_append p (Spot args g) (l.Do a ∷ []) (l.Do (Same r r (flag_of g false)) ∷ []) (fit_do p (Spot args g) a fit) (turned r spot)

  -- both operands of a kind, and the operation
  pub both_fit : (o : Op) (s t : Sorted) (a c : Low) (v : Kind) (k : Around) (f : Spots) (b : ℕ) → ExprFits p args g s a → ExprFits p args g t c → FrameFits args g k f → IsRow g b
      → is_kind_of g.unit v ≡ true → suits v (s k) ≡ true → suits v (t k) ≡ true → is_kind_of g.unit (kind_of_op o) ≡ true
      → ((r t x y : ℕ) → Spot args g r (kind_of_op o) → Spot args g t kind.Flag → Spot args g x v → Spot args g y v → Fit p (Spot args g) (operation g o r t x y))
      → FitsAt p args g (after_both g o f b (a.low v f b) (c.low v f (behind g b (a.low v f b).place))) (kind_of_op o)
  both_fit o s t a c v k f b first second frame row known left right known_op fit =
      let x : Lowered = a.low v f b in
      let y : Lowered = c.low v f (behind g b x.place) in
      let fits_x = first.fits v k f b frame row known left in
      let behind_x = row_behind g b x.place row in
      let fits_y = second.fits v k f (behind g b x.place) frame behind_x known right in
      let behind_y = row_behind g (behind g b x.place) y.place behind_x in
      let r : ℕ = b + slot g (kind_of_op o) in
      let spot = at_slot args g b (kind_of_op o) row known_op in
      let steps : List Plan = operation g o r (behind_both g b x y + 1) x.place y.place in
      let done = fit r (behind_both g b x y + 1) x.place y.place spot (at_flag args g (behind_both g b x y) behind_y) fits_x.place fits_y.place in
      record {
        steps = fit_append p (Spot args g) x.steps (guarded f x.throws y.steps ++ guarded f (x.throws || y.throws) steps) fits_x.steps
            (fit_append p (Spot args g) (guarded f x.throws y.steps) (guarded f (x.throws || y.throws) steps) (guarded_fits p args g f x.throws y.steps frame.done fits_y.steps)
            (guarded_fits p args g f (x.throws || y.throws) steps frame.done done));
        place = spot;
      }

  -- the right operand as a truth value
  pub truth_fits : (t : Sorted) (c : Low) (k : Around) (f : Spots) (b : ℕ) → ExprFits p args g t c → FrameFits args g k f → IsRow g b → suits kind.Flag (t k) ≡ true
      → Fit p (Spot args g) (as_truth g f (b + 1) (c.low kind.Flag f b))
  truth_fits t c k f b claim frame row is =
      let y : Lowered = c.low kind.Flag f b in
      let fits_y = claim.fits kind.Flag k f b frame row refl is in
      let act = fit_do p (Spot args g) (Same (b + 1) y.place (flag_of g true)) (at_flag args g b row, (kind.Flag, fits_y.place, flag_spot args g true)) in
      fit_append p (Spot args g) y.steps (guarded f y.throws (l.Do (Same (b + 1) y.place (flag_of g true)) ∷ [])) fits_y.steps
      (guarded_fits p args g f y.throws (l.Do (Same (b + 1) y.place (flag_of g true)) ∷ []) frame.done act)

  -- the left operand decides between two ways
  pub short_fits : (s : Sorted) (a : Low) (taken other : List Plan) (k : Around) (f : Spots) (b : ℕ) → ExprFits p args g s a → FrameFits args g k f → IsRow g b → suits kind.Flag (s k) ≡ true
      → Fit p (Spot args g) taken → Fit p (Spot args g) other
      → Fit p (Spot args g) ((a.low kind.Flag f b).steps ++ guarded f (a.low kind.Flag f b).throws (l.If (a.low kind.Flag f b).place taken other ∷ []))
  short_fits s a taken other k f b claim frame row is first second =
      let x : Lowered = a.low kind.Flag f b in
      let fits_x = claim.fits kind.Flag k f b frame row refl is in
      let branch = fit_if p (Spot args g) x.place taken other fits_x.place first second in
      fit_append p (Spot args g) x.steps (guarded f x.throws (l.If x.place taken other ∷ [])) fits_x.steps (guarded_fits p args g f x.throws (l.If x.place taken other ∷ []) frame.done branch)
