-- The kinds of every lowered expression of code, where inlined methods fit.
use Rattle.std.proofs.Common.{◌≡◌, ℕ, ◌+◌, Bool, true, false, List, length, Option, Some, None, refl, sym, ◌∙◌, ap, subst}
use Rattle.std.specs.Prelude.{ℤ, nat_lt, slice_get}
use Rattle.std.proofs.lemmas.Bool.{false≢true}
use Rattle.taco_unit.specs.declared.kind.Kind.{Kind}
use Rattle.taco_unit.specs.declared.kind.Kind.TheVariants as kind
use Rattle.taco_unit.specs.declared.expr.Expr.{Expr}
use Rattle.taco_unit.specs.declared.expr.Expr.TheOpen.{Expr-F}
use Rattle.taco_unit.specs.declared.expr.Expr.TheVariants as e
use Rattle.taco_unit.specs.Kinds.{Sort, Of, NullOnly, Faulty, Sorted, Around, Form, Code as InCode, Entry, Exit, Past, suits, where_, is_kind_of, sort_of, sort_of_kind}
use Rattle.taco_unit.specs.Kinds.{sort_of_class, field_sort, in_code}
use Rattle.taco_unit.specs.Well.{IsWell}
use Rattle.taco_unit.proofs.KindForms.{sort_num, sort_flag, sort_null, sort_this, sort_local, sort_read, sort_neg, sort_not, sort_new}
use Rattle.heap_core.specs.declared.value.Value.TheVariants.{Num}
use Rattle.heap_core.specs.Posed.{Posed}
use Rattle.dyn_core.specs.declared.prog.Act.TheVariants.{Const, Diff, Same, Make}
use Rattle.dyn_plan.specs.Places.{Ground, Spots, slot, zero_number, flag_of}
use Rattle.dyn_plan.specs.Guards.{in_place, null_at}
use Rattle.dyn_plan.specs.Expressions.{Low, Inline, this_low, found, kind_of_field, expr_step, low_expr}
use Rattle.dyn_plan.proofs.LowForms.{is_num, is_flag, is_null, is_this, is_local, is_read, is_neg, is_not, is_new}
use Rattle.dyn_plan.proofs.FitSteps.{fit_none, fit_do}
use Rattle.dyn_plan.proofs.FitPlaces.{Spot, at_slot, at_number, at_flag, zero_spot, flag_spot, FrameFits, ThisFits, FitsAt, null_fits}
use Rattle.dyn_plan.proofs.FitExprs.{Agrees, ExprFits, where_agrees, field_agrees, one_fits, read_fits}
use Rattle.dyn_plan.proofs.FitCalls.{as_wanted}
use Rattle.dyn_plan.proofs.EndParts.{kinds_same, where_suits, in_code_suits}

module _ (p : Posed) (args : List Kind) (g : Ground) where
  pub formed : (s t : Sorted) (x y : Low) → ((k : Around) → s k ≡ t k) → x ≡ y → ExprFits p args g t y → ExprFits p args g s x
  formed s t x y sorts lows claim = record {
    kind = λ k f frame. subst (λ z. Agrees g.unit (s k) (z.kind f)) (sym lows) (subst (λ z. Agrees g.unit z (y.kind f)) (sym (sorts k)) (claim.kind k f frame));
    fits = λ w k f b frame row known is.
        subst (λ z. FitsAt p args g (z.low w f b) w) (sym lows) (claim.fits w k f b frame row known (subst (λ z. suits w z ≡ true) (sorts k) is));
  }

  -- forms that do not stand in code
  pub never : (s : Sorted) (x : Low) → ((k : Around) (f : Spots) → FrameFits args g k f → s k ≡ Faulty) → ExprFits p args g s x
  never s x faulty = record {
    kind = λ k f frame. subst (λ z. Agrees g.unit z (x.kind f)) (sym (faulty k f frame)) tt;
    fits = λ w k f b frame row known is. absurd (false≢true (subst (λ z. suits w z ≡ true) (faulty k f frame) is));
  }

  pub code_agrees : (f : Form) (s : Sort) (o : Option Kind) → Agrees g.unit s o → Agrees g.unit (in_code f s) o
  code_agrees InCode s o is = is
  code_agrees Entry s o is = tt
  code_agrees Exit s o is = tt
  code_agrees Past s o is = tt

  null_by : (w : Kind) (b : ℕ) → is_kind_of g.unit w ≡ true → suits w NullOnly ≡ true → FitsAt p args g (null_at g b w) w
  null_by kind.Int b known is = absurd (false≢true is)
  null_by kind.Flag b known is = absurd (false≢true is)
  null_by (kind.Ref c) b known is = null_fits p args g b c known

  this_agrees : (f : Spots) (o : Option ℕ) → ((c : ℕ) → o ≡ Some c → ThisFits args g c f) → Agrees g.unit (sort_of_class o) (Some (kind.Ref f.class))
  this_agrees f None this = tt
  this_agrees f (Some c) this = let t = this c refl in (ap (λ c. Some (kind.Ref c)) t.class, t.known)

  this_fits : (f : Spots) (w : Kind) (b : ℕ) (o : Option ℕ) → ((c : ℕ) → o ≡ Some c → ThisFits args g c f) → suits w (sort_of_class o) ≡ true → FitsAt p args g (this_low g w f b f.this) w
  this_fits f w b None this is = absurd (false≢true is)
  this_fits f w b (Some c) this is =
      let t = this c refl in
      subst (λ o. FitsAt p args g (this_low g w f b o) w) (sym t.there)
      (as_wanted p args g (in_place t.place) w (kind.Ref c) (kinds_same w (kind.Ref c) is) (record { steps = fit_none p (Spot args g); place = t.spot }))

  local_agrees : (k : Around) (f : Spots) (i : ℕ) → FrameFits args g k f → (o : Option Kind) → slice_get k.locals i ≡ o → Agrees g.unit (sort_of_kind o) (slice_get f.kinds i)
  local_agrees k f i frame None there = tt
  local_agrees k f i frame (Some l) there = (ap (λ ks. slice_get ks i) frame.kinds ∙ there, (frame.locals i l there).known)

  local_fits : (k : Around) (f : Spots) (i b : ℕ) (w : Kind) → FrameFits args g k f → (o : Option Kind) → slice_get k.locals i ≡ o → suits w (sort_of_kind o) ≡ true
      → FitsAt p args g (found b (slice_get f.locals i)) w
  local_fits k f i b w frame None there is = absurd (false≢true is)
  local_fits k f i b w frame (Some l) there is =
      let t = frame.locals i l there in
      subst (λ o. FitsAt p args g (found b o) w) (sym t.there)
      (as_wanted p args g (in_place t.place) w l (kinds_same w l is) (record { steps = fit_none p (Spot args g); place = t.spot }))

  new_agrees : (c : ℕ) (t : Bool) → nat_lt c (length g.unit.classes) ≡ t → Agrees g.unit (where_ t (Of (kind.Ref c))) (Some (kind.Ref c))
  new_agrees c true is = (refl, is)
  new_agrees c false is = tt

module _ (p : Posed) (args : List Kind) (g : Ground) (well : IsWell g.unit) (same : p.unit ≡ g.unit) (inline : Inline) where
  -- ## forms without a call

  pub num_fits : (z : ℤ) → ExprFits p args g (sort_of (e.Num z)) (low_expr g inline (e.Num z))
  num_fits z = formed p args g (sort_of (e.Num z)) (λ k. Of kind.Int) (low_expr g inline (e.Num z)) (expr_step g (Expr-F.Num z)) (sort_num z) (is_num g inline z) (record {
    kind = λ k f frame. (refl, refl);
    fits = λ w k f b frame row known is.
        as_wanted p args g ((expr_step g (Expr-F.Num z)).low w f b) w kind.Int (kinds_same w kind.Int is)
        (record { steps = fit_do p (Spot args g) (Const b (Num z)) (kind.Int, at_number args g b row, refl); place = at_number args g b row });
  })

  pub flag_fits : (x : Bool) → ExprFits p args g (sort_of (e.Flag x)) (low_expr g inline (e.Flag x))
  flag_fits x = formed p args g (sort_of (e.Flag x)) (λ k. Of kind.Flag) (low_expr g inline (e.Flag x)) (expr_step g (Expr-F.Flag x)) (sort_flag x) (is_flag g inline x) (record {
    kind = λ k f frame. (refl, refl);
    fits = λ w k f b frame row known is.
        as_wanted p args g (in_place (flag_of g x)) w kind.Flag (kinds_same w kind.Flag is) (record { steps = fit_none p (Spot args g); place = flag_spot args g x });
  })

  pub null_form : ExprFits p args g (sort_of e.Null) (low_expr g inline e.Null)
  null_form = formed p args g (sort_of e.Null) (λ k. NullOnly) (low_expr g inline e.Null) (expr_step g Expr-F.Null) sort_null (is_null g inline)
      (record { kind = λ k f frame. refl; fits = λ w k f b frame row known is. null_by p args g w b known is })

  pub this_form : ExprFits p args g (sort_of e.This) (low_expr g inline e.This)
  this_form = formed p args g (sort_of e.This) (λ k. sort_of_class k.this) (low_expr g inline e.This) (expr_step g Expr-F.This) sort_this (is_this g inline) (record {
    kind = λ k f frame. this_agrees p args g f k.this frame.this;
    fits = λ w k f b frame row known is. this_fits p args g f w b k.this frame.this is;
  })

  pub local_form : (i : ℕ) → ExprFits p args g (sort_of (e.Local i)) (low_expr g inline (e.Local i))
  local_form i =
      formed p args g (sort_of (e.Local i)) (λ k. sort_of_kind (slice_get k.locals i)) (low_expr g inline (e.Local i)) (expr_step g (Expr-F.Local i)) (sort_local i)
      (is_local g inline i) (record {
        kind = λ k f frame. local_agrees p args g k f i frame (slice_get k.locals i) refl;
        fits = λ w k f b frame row known is. local_fits p args g k f i b w frame (slice_get k.locals i) refl is;
      })

  pub read_form : (a : Expr) (i : ℕ) → ExprFits p args g (sort_of a) (low_expr g inline a) → ExprFits p args g (sort_of (e.Read a i)) (low_expr g inline (e.Read a i))
  read_form a i claim =
      formed p args g (sort_of (e.Read a i)) (λ k. field_sort (slice_get k.unit.fields i) (sort_of a k)) (low_expr g inline (e.Read a i)) (expr_step g (Expr-F.Read (low_expr g inline a) i))
      (sort_read a i) (is_read g inline a i) (record {
        kind = λ k f frame.
            subst (λ u. Agrees g.unit (field_sort (slice_get u.fields i) (sort_of a k)) (Some (kind_of_field g i))) (sym frame.unit)
            (field_agrees g.unit (slice_get g.unit.fields i) (sort_of a k) (λ d there. (well.fields i d there).kind_there));
        fits = λ w k f b frame row known is. read_fits p args g well same (sort_of a) (low_expr g inline a) i w k f b claim frame row is;
      })

  pub neg_form : (a : Expr) → ExprFits p args g (sort_of a) (low_expr g inline a) → ExprFits p args g (sort_of (e.Neg a)) (low_expr g inline (e.Neg a))
  neg_form a claim =
      formed p args g (sort_of (e.Neg a)) (λ k. where_ (suits kind.Int (sort_of a k)) (Of kind.Int)) (low_expr g inline (e.Neg a)) (expr_step g (Expr-F.Neg (low_expr g inline a))) (sort_neg a)
      (is_neg g inline a) (record {
        kind = λ k f frame. where_agrees g.unit (suits kind.Int (sort_of a k)) kind.Int refl;
        fits = λ w k f b frame row known is.
            let parts = where_suits (suits kind.Int (sort_of a k)) (Of kind.Int) w is in
            let low : Low = low_expr g inline a in
            as_wanted p args g ((expr_step g (Expr-F.Neg low)).low w f b) w kind.Int (kinds_same w kind.Int parts.1)
            (one_fits p args g well same (sort_of a) low kind.Int kind.Int b (Diff b (zero_number g) (low.low kind.Int f b).place) k f b claim frame row refl parts.0 (at_number args g b row)
            (λ place. (at_number args g b row, zero_spot args g, place)));
      })

  pub not_form : (a : Expr) → ExprFits p args g (sort_of a) (low_expr g inline a) → ExprFits p args g (sort_of (e.Not a)) (low_expr g inline (e.Not a))
  not_form a claim =
      formed p args g (sort_of (e.Not a)) (λ k. where_ (suits kind.Flag (sort_of a k)) (Of kind.Flag)) (low_expr g inline (e.Not a)) (expr_step g (Expr-F.Not (low_expr g inline a))) (sort_not a)
      (is_not g inline a) (record {
        kind = λ k f frame. where_agrees g.unit (suits kind.Flag (sort_of a k)) kind.Flag refl;
        fits = λ w k f b frame row known is.
            let parts = where_suits (suits kind.Flag (sort_of a k)) (Of kind.Flag) w is in
            let low : Low = low_expr g inline a in
            as_wanted p args g ((expr_step g (Expr-F.Not low)).low w f b) w kind.Flag (kinds_same w kind.Flag parts.1)
            (one_fits p args g well same (sort_of a) low kind.Flag kind.Flag (b + 1) (Same (b + 1) (low.low kind.Flag f b).place (flag_of g false)) k f b claim frame row refl parts.0
            (at_flag args g b row) (λ place. (at_flag args g b row, (kind.Flag, place, flag_spot args g false))));
      })

  pub new_form : (c : ℕ) → ExprFits p args g (sort_of (e.New c)) (low_expr g inline (e.New c))
  new_form c =
      formed p args g (sort_of (e.New c)) (λ k. in_code k.form (where_ (nat_lt c (length k.unit.classes)) (Of (kind.Ref c)))) (low_expr g inline (e.New c)) (expr_step g
      (Expr-F.New c)) (sort_new c)
      (is_new g inline c) (record {
        kind = λ k f frame.
            subst (λ u. Agrees g.unit (in_code k.form (where_ (nat_lt c (length u.classes)) (Of (kind.Ref c)))) (Some (kind.Ref c))) (sym frame.unit)
            (code_agrees p args g k.form (where_ (nat_lt c (length g.unit.classes)) (Of (kind.Ref c))) (Some (kind.Ref c)) (new_agrees p args g c (nat_lt c (length g.unit.classes)) refl));
        fits = λ w k f b frame row known is.
            let inner = in_code_suits k.form (where_ (nat_lt c (length k.unit.classes)) (Of (kind.Ref c))) w frame.form is in
            let parts = where_suits (nat_lt c (length k.unit.classes)) (Of (kind.Ref c)) w inner in
            let there : nat_lt c (length g.unit.classes) ≡ true = ap (λ u. nat_lt c (length u.classes)) (sym frame.unit) ∙ parts.0 in
            let spot = at_slot args g b (kind.Ref c) row there in
            as_wanted p args g ((expr_step g (Expr-F.New c)).low w f b) w (kind.Ref c) (kinds_same w (kind.Ref c) parts.1)
            (record { steps = fit_do p (Spot args g) (Make (b + slot g (kind.Ref c)) c) spot; place = spot });
      })
