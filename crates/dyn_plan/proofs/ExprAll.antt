-- Each expression and each call of code shows what it does, where inlined methods do.
use Rattle.std.proofs.Common.{◌≡◌, ℕ, ◌+◌, ◌<◌, ◌≤◌, Bool, true, false, List, [], ◌∷◌, Option, Some, None, refl, sym, ◌∙◌, ap, subst, arith}
use Rattle.std.specs.Prelude.{nat_lt, if◌then◌else◌, option_map, map, length, slice_get}
use Rattle.std.proofs.lemmas.Bool.Decides.{nat_tests}
use Rattle.taco_unit.specs.declared.kind.Kind.{Kind}
use Rattle.taco_unit.specs.declared.kind.Kind.TheVariants as kind
use Rattle.taco_unit.specs.declared.expr.Op.{Op}
use Rattle.taco_unit.specs.declared.expr.Op.TheVariants as op
use Rattle.heap_core.specs.declared.value.Value.TheVariants.{Null, Num, Flag}
use Rattle.heap_core.specs.Posed.{Posed}
use Rattle.heap_core.specs.Outcomes.{number, negative, opposite, operated, same}
use Rattle.heap_core.specs.Exec.{Memory, Gives, Leaves, Frame, Code, then_with, ends_as, on_object, gives_in, read, make, combined}
use Rattle.dyn_core.specs.declared.prog.Act.TheVariants.{Const, Diff, Same}
use Rattle.dyn_core.specs.States.{var_at}
use Rattle.dyn_core.specs.Actions.{with_given}
use Rattle.dyn_plan.specs.Plans.{go}
use Rattle.dyn_plan.specs.Places.{Ground, Spots, width, slot, flag_of}
use Rattle.dyn_plan.specs.Guards.{Lowered, nowhere, at_once, in_place, null_at}
use Rattle.dyn_plan.specs.Expressions.{Low, kind_of_field, combined_low, this_low}
use Rattle.dyn_plan.proofs.Shown.{moving, IsFrame, HasGiven, Shows}
use Rattle.dyn_plan.proofs.Operations.{number_defined, opposite_defined, negative_defined, did, same_false}
use Rattle.taco_unit.specs.declared.expr.Expr.{Expr, ind-Expr, roll-Expr, map-Expr}
use Rattle.taco_unit.specs.declared.expr.Expr.TheOpen.{Expr-F, Call-F}
use Rattle.taco_unit.specs.declared.expr.Quant.{Quant}
use Rattle.taco_unit.specs.declared.expr.Reach.{Reach}
use Rattle.taco_unit.specs.declared.expr.Call.{Call, out-Call, roll-Call, map-Call}
use Rattle.taco_unit.specs.declared.expr.Expr.TheVariants as e
use Rattle.heap_core.specs.Exec.{Run, code, call_of}
use Rattle.heap_core.proofs.ExecForms.{code_num, code_flag, code_null, code_this, code_local, code_read, code_neg, code_not, code_bin}
use Rattle.heap_core.proofs.ExecForms.{code_new, code_call, code_result, code_bound, code_quant, code_old, code_has, code_size, call_form}
use Rattle.dyn_plan.specs.Places.{zero_number}
use Rattle.dyn_plan.specs.Expressions.{Inline, kind_or, class_of_method, kind_of_result, target_low, with_target, expr_step, low_expr, low_call}
use Rattle.dyn_plan.proofs.LowForms.{is_num, is_flag, is_null, is_this, is_result, is_local, is_bound, is_read, is_neg, is_not, is_bin, is_quant, is_old, is_has, is_size, is_new}
use Rattle.dyn_plan.proofs.LowForms.{is_call, is_called}
use Rattle.dyn_plan.proofs.ExprShown.{slot_below, Claim, stays, goes_nowhere}
use Rattle.dyn_plan.proofs.FormShown.{null_shows, this_shows, found_near, local_shows, neg_is, one_shows, read_shows, make_shows, combined_shows}
use Rattle.dyn_plan.proofs.CallShown.{as_wanted, CallResult, Inlines, CallClaim, call_gives, Claims, TargetClaim, called_shows}

-- ## where values stand

null_near : (g : Ground) (b : ℕ) (k : Kind) → moving g ≤ b → (null_at g b k).place < b + width g
null_near g b kind.Int low = omega arith
null_near g b kind.Flag low = omega arith
null_near g b (kind.Ref c) low = by (nat_lt c (length g.unit.classes)) refl
  where
    by : (t : Bool) → nat_lt c (length g.unit.classes) ≡ t → (if t then in_place (g.first + (2 + c)) else at_once b (Const b Null)).place < b + width g
    by true is = let few : c < length g.unit.classes = grind (arith, nat_tests, is) in omega arith
    by false is = omega arith

this_near : (g : Ground) (start : ℕ) (f : Spots) (k : Kind) (b : ℕ) → IsFrame g start f → f.base ≤ b → (this_low g k f b f.this).place < b + width g
this_near g start f k b frame above = by f.this refl
  where
    by : (o : Option ℕ) → f.this ≡ o → (this_low g k f b o).place < b + width g
    by (Some x) is = let below = frame.this_below x is in let ordered = frame.flags.ordered in omega arith
    by None is = let far = frame.flags.still in let ordered = frame.flags.ordered in null_near g b k (omega arith)

combined_near : (g : Ground) (o : Op) (a c : Low) (f : Spots) (b : ℕ) → (combined_low g o a c f b).place < b + width g
combined_near g op.And a c f b = omega arith
combined_near g op.Or a c f b = omega arith
combined_near g op.Add a c f b = omega arith
combined_near g op.Sub a c f b = omega arith
combined_near g op.Mul a c f b = omega arith
combined_near g op.Eq a c f b = omega arith
combined_near g op.Ne a c f b = omega arith
combined_near g op.Lt a c f b = omega arith
combined_near g op.Le a c f b = omega arith
combined_near g op.Gt a c f b = omega arith
combined_near g op.Ge a c f b = omega arith
combined_near g op.Implies a c f b = omega arith
combined_near g op.Iff a c f b = omega arith

-- ## claims by the form

formed : (p : Posed) (n : ℕ) (g : Ground) (l j : Low) (c d : Code) → l ≡ j → ((fr : Frame) (m : Memory) → c fr m ≡ d fr m) → Claim p n g j d → Claim p n g l c
formed p n g l j c d is same claim = subst (λ z. Claim p n g z c) (sym is) (record {
  near = claim.near;
  shows = λ start f k b s fr m frame above ready.
      subst (λ z. Shows (j.low k f b).throws start f s (HasGiven b (j.low k f b).place s) z (go p n (j.low k f b).steps s)) (sym (same fr m))
      (claim.shows start f k b s fr m frame above ready);
})

low_enough : (g : Ground) (start : ℕ) (f : Spots) (b : ℕ) → IsFrame g start f → f.base ≤ b → moving g ≤ b
low_enough g start f b frame above = let far = frame.flags.still in let ordered = frame.flags.ordered in omega arith

-- the forms that do not stand in code
nowhere_claim : (p : Posed) (n : ℕ) (g : Ground) (kinds : Spots → Option Kind) → Claim p n g (record { kind = kinds; low = λ k f b. nowhere b }) (λ fr m. Leaves)
nowhere_claim p n g kinds = record {
  near = λ start f k b frame above. omega arith;
  shows = λ start f k b s fr m frame above ready. goes_nowhere p n false start f s s (HasGiven b b s);
}

abbrev E : Posed → ℕ → Ground → Run → Inline → Type 0
E p n g run inline = (a : Expr) × Claim p n g (low_expr g inline a) (code p run a)

abbrev C : Posed → ℕ → Ground → Run → Inline → Type 0
C p n g run inline = (c : Call) × CallClaim p n g (low_call g inline c).low (call_of p run c)

abbrev Q : Type 0
Q = (q : Quant) × Unit {0}

abbrev R : Type 0
R = (r : Reach) × Unit {0}

abbrev shaped : (p : Posed) (n : ℕ) (g : Ground) (run : Run) (inline : Inline) → Expr-F (E p n g run inline) (C p n g run inline) Q R → Expr
shaped p n g run inline y = roll-Expr (map-Expr (E p n g run inline) (C p n g run inline) Q R Expr Call Quant Reach (λ a. a.0) (λ c. c.0) (λ q. q.0) (λ q. q.0) y)

code_layer : (p : Posed) (n : ℕ) (g : Ground) (run : Run) (inline : Inline) (y : Expr-F (E p n g run inline) (C p n g run inline) Q R)
    → Claim p n g (low_expr g inline (shaped p n g run inline y)) (code p run (shaped p n g run inline y))
code_layer p n g run inline (Expr-F.Num z) = rw (e.rolls-Num z)
    (formed p n g (low_expr g inline (e.Num z)) (expr_step g (Expr-F.Num z)) (code p run (e.Num z)) (λ fr m. ends_as m (number p.scope.ints z)) (is_num g inline z)
    (code_num p run z) (record {
      near = λ start f k b frame above. omega arith;
      shows = λ start f k b s fr m frame above ready. did p n false start b b f m s (Const b (Num z)) (number p.scope.ints z) refl (number_defined p.scope.ints z)
          (omega arith) ready.opened.memory;
    }))
code_layer p n g run inline (Expr-F.Flag x) = rw (e.rolls-Flag x)
    (formed p n g (low_expr g inline (e.Flag x)) (expr_step g (Expr-F.Flag x)) (code p run (e.Flag x)) (λ fr m. Gives (Flag x) m) (is_flag g inline x) (code_flag p run x) (record {
      near = λ start f k b frame above. flag_near x start f b frame above;
      shows = λ start f k b s fr m frame above ready. stays false start b (flag_of g x) f m s (Flag x) (ready.opened.still.flags x) ready.opened.memory;
    }))
  where
    flag_near : (x : Bool) (start : ℕ) (f : Spots) (b : ℕ) → IsFrame g start f → f.base ≤ b → flag_of g x < b + width g
    flag_near true start f b frame above = let low = low_enough g start f b frame above in omega arith
    flag_near false start f b frame above = let low = low_enough g start f b frame above in omega arith
code_layer p n g run inline Expr-F.Null = rw e.rolls-Null (formed p n g (low_expr g inline e.Null) (expr_step g Expr-F.Null) (code p run e.Null) (λ fr m. Gives Null m)
    (is_null g inline) (code_null p run) (record {
      near = λ start f k b frame above. null_near g b k (low_enough g start f b frame above);
      shows = λ start f k b s fr m frame above ready. null_shows p n g start f k b s m (low_enough g start f b frame above) ready.opened.still ready.opened.memory;
    }))
code_layer p n g run inline Expr-F.This = rw e.rolls-This (formed p n g (low_expr g inline e.This) (expr_step g Expr-F.This) (code p run e.This) (λ fr m. Gives fr.this m)
    (is_this g inline) (code_this p run) (record {
      near = λ start f k b frame above. this_near g start f k b frame above;
      shows = λ start f k b s fr m frame above ready. this_shows p n g start f k b s m fr.this f.this (low_enough g start f b frame above) ready.opened.still ready.opened.memory ready.this;
    }))
code_layer p n g run inline Expr-F.Result = rw e.rolls-Result (formed p n g (low_expr g inline e.Result) (expr_step g Expr-F.Result) (code p run e.Result) (λ fr m. Leaves)
    (is_result g inline) (code_result p run) (nowhere_claim p n g (λ f. None)))
code_layer p n g run inline (Expr-F.Local i) = rw (e.rolls-Local i) (formed p n g (low_expr g inline (e.Local i)) (expr_step g (Expr-F.Local i)) (code p run (e.Local i))
    (λ fr m. gives_in (slice_get fr.locals i) m) (is_local g inline i) (code_local p run i) (record {
      near = λ start f k b frame above. found_near g start f b i frame above;
      shows = λ start f k b s fr m frame above ready. local_shows p n g start f b i s fr m ready;
    }))
code_layer p n g run inline (Expr-F.Bound i) = rw (e.rolls-Bound i) (formed p n g (low_expr g inline (e.Bound i)) (expr_step g (Expr-F.Bound i)) (code p run (e.Bound i))
    (λ fr m. Leaves) (is_bound g inline i) (code_bound p run i) (nowhere_claim p n g (λ f. None)))
code_layer p n g run inline (Expr-F.Read a i) = rw (e.rolls-Read a.0 i) (formed p n g (low_expr g inline (e.Read a.0 i)) (expr_step g (Expr-F.Read (low_expr g inline a.0) i))
    (code p run (e.Read a.0 i)) (λ fr m. then_with (code p run a.0 fr m) (on_object (read p i))) (is_read g inline a.0 i) (code_read p run a.0 i) (record {
      near = λ start f k b frame above. let below = slot_below g (kind_of_field g i) in omega arith;
      shows = λ start f k b s fr m frame above ready. read_shows p n g (low_expr g inline a.0) (code p run a.0) i start f b s fr m a.1 frame above ready;
    }))
code_layer p n g run inline (Expr-F.Neg a) = rw (e.rolls-Neg a.0)
    (formed p n g (low_expr g inline (e.Neg a.0)) (expr_step g (Expr-F.Neg (low_expr g inline a.0))) (code p run (e.Neg a.0))
    (λ fr m. then_with (code p run a.0 fr m) (λ v h. ends_as h (negative p.scope.ints v))) (is_neg g inline a.0) (code_neg p run a.0) (record {
      near = λ start f k b frame above. omega arith;
      shows = λ start f k b s fr m frame above ready.
          let place = ((low_expr g inline a.0).low kind.Int f b).place in
          one_shows p n g kind.Int (low_expr g inline a.0) (code p run a.0) b (Diff b (zero_number g) place) (negative p.scope.ints) start f b s fr m a.1 frame above ready
          (omega arith) (negative_defined p.scope.ints)
          (λ u still. ap (λ v. with_given b u (operated op.Sub p.scope.ints v (var_at u.vars place))) still.zero ∙ ap (with_given b u) (neg_is p.scope.ints (var_at u.vars place)));
    }))
code_layer p n g run inline (Expr-F.Not a) = rw (e.rolls-Not a.0)
    (formed p n g (low_expr g inline (e.Not a.0)) (expr_step g (Expr-F.Not (low_expr g inline a.0))) (code p run (e.Not a.0))
    (λ fr m. then_with (code p run a.0 fr m) (λ v h. ends_as h (opposite v))) (is_not g inline a.0) (code_not p run a.0) (record {
      near = λ start f k b frame above. omega arith;
      shows = λ start f k b s fr m frame above ready.
          let place = ((low_expr g inline a.0).low kind.Flag f b).place in
          one_shows p n g kind.Flag (low_expr g inline a.0) (code p run a.0) (b + 1) (Same (b + 1) place (flag_of g false)) opposite start f b s fr m a.1 frame above ready
          (omega arith) opposite_defined
          (λ u still. ap (λ v. with_given (b + 1) u (same (var_at u.vars place) v)) (still.flags false) ∙ ap (with_given (b + 1) u) (same_false (var_at u.vars place)));
    }))
code_layer p n g run inline (Expr-F.Bin o a c) = rw (e.rolls-Bin o a.0 c.0)
    (formed p n g (low_expr g inline (e.Bin o a.0 c.0)) (expr_step g (Expr-F.Bin o (low_expr g inline a.0) (low_expr g inline c.0))) (code p run (e.Bin o a.0 c.0))
    (λ fr m. combined o p.scope.ints (code p run a.0) (code p run c.0) fr m) (is_bin g inline o a.0 c.0) (code_bin p run o a.0 c.0) (record {
      near = λ start f k b frame above. combined_near g o (low_expr g inline a.0) (low_expr g inline c.0) f b;
      shows = λ start f k b s fr m frame above ready. combined_shows p n g o (low_expr g inline a.0) (low_expr g inline c.0) (code p run a.0) (code p run c.0) start f b s fr m a.1 c.1
          frame above ready;
    }))
code_layer p n g run inline (Expr-F.Quant q) = rw (e.rolls-Quant q.0) (formed p n g (low_expr g inline (e.Quant q.0)) (expr_step g (Expr-F.Quant tt)) (code p run (e.Quant q.0))
    (λ fr m. Leaves) (is_quant g inline q.0) (code_quant p run q.0) (nowhere_claim p n g (λ f. None)))
code_layer p n g run inline (Expr-F.Old a) = rw (e.rolls-Old a.0)
    (formed p n g (low_expr g inline (e.Old a.0)) (expr_step g (Expr-F.Old (low_expr g inline a.0))) (code p run (e.Old a.0)) (λ fr m. Leaves) (is_old g inline a.0)
    (code_old p run a.0) (nowhere_claim p n g (λ f. None)))
code_layer p n g run inline (Expr-F.Has q a) = rw (e.rolls-Has q.0 a.0) (formed p n g (low_expr g inline (e.Has q.0 a.0)) (expr_step g (Expr-F.Has tt (low_expr g inline a.0)))
    (code p run (e.Has q.0 a.0)) (λ fr m. Leaves) (is_has g inline q.0 a.0) (code_has p run q.0 a.0) (nowhere_claim p n g (λ f. None)))
code_layer p n g run inline (Expr-F.Size q) = rw (e.rolls-Size q.0) (formed p n g (low_expr g inline (e.Size q.0)) (expr_step g (Expr-F.Size tt)) (code p run (e.Size q.0))
    (λ fr m. Leaves) (is_size g inline q.0) (code_size p run q.0) (nowhere_claim p n g (λ f. None)))
code_layer p n g run inline (Expr-F.New c) = rw (e.rolls-New c)
    (formed p n g (low_expr g inline (e.New c)) (expr_step g (Expr-F.New c)) (code p run (e.New c)) (λ fr m. make p c m) (is_new g inline c) (code_new p run c) (record {
      near = λ start f k b frame above. let below = slot_below g (kind.Ref c) in omega arith;
      shows = λ start f k b s fr m frame above ready. make_shows p n false start b (b + slot g (kind.Ref c)) c f m s (omega arith) ready.opened.memory;
    }))
code_layer p n g run inline (Expr-F.Call c) = rw (e.rolls-Call c.0)
    (formed p n g (low_expr g inline (e.Call c.0)) (expr_step g (Expr-F.Call (low_call g inline c.0))) (code p run (e.Call c.0))
    (λ fr m. then_with (call_of p run c.0 fr m) gives_in) (is_call g inline c.0) (code_call p run c.0) (record {
      near = λ start f k b frame above. c.1.near true f b;
      shows = λ start f k b s fr m frame above ready.
          let x : Lowered = (low_call g inline c.0).low true f b in
          call_gives x.throws start b x.place f s (call_of p run c.0 fr m) (go p n x.steps s) (c.1.shows true start f b s fr m frame above ready);
    }))

-- ## calls

claims_of : (p : Posed) (n : ℕ) (g : Ground) (run : Run) (inline : Inline) (as_ : List (E p n g run inline)) → Claims p n g (map (low_expr g inline) (map (λ a. a.0) as_))
    (map (code p run) (map (λ a. a.0) as_))
claims_of p n g run inline [] = tt
claims_of p n g run inline (a ∷ as_) = (a.1, claims_of p n g run inline as_)

target_claim : (p : Posed) (n : ℕ) (g : Ground) (run : Run) (inline : Inline) (a : Option (E p n g run inline))
    → TargetClaim p n g (option_map (low_expr g inline) (option_map (λ a. a.0) a)) (option_map (code p run) (option_map (λ a. a.0) a))
target_claim p n g run inline None = tt
target_claim p n g run inline (Some a) = a.1

-- what a call is and does, by its parts
call_claim : (p : Posed) (n : ℕ) (g : Ground) (run : Run) (inline : Inline) (c : Call) → Inlines p n g run inline
    → TargetClaim p n g (option_map (low_expr g inline) (out-Call c).target) (option_map (code p run) (out-Call c).target)
    → Claims p n g (map (low_expr g inline) (out-Call c).args) (map (code p run) (out-Call c).args)
    → CallClaim p n g (low_call g inline c).low (call_of p run c)
call_claim p n g run inline c inlines target args = subst (λ z. CallClaim p n g z.low (call_of p run c)) (sym (is_called g inline c)) (record {
  near = λ w f b. let below = slot_below g (kind_or (kind_of_result g (out-Call c).method) kind.Int) in omega arith;
  shows = λ w start f b s fr m frame above ready.
      let x : Lowered = with_target g inline (out-Call c).method (map (low_expr g inline) (out-Call c).args) w f b
      (target_low g (option_map (low_expr g inline) (out-Call c).target) (class_of_method g (out-Call c).method) f b) in
      subst (λ z. Shows x.throws start f s (CallResult w b x.place s) (as_wanted w z) (go p n x.steps s)) (sym (call_form p run c fr m))
      (called_shows p n g run inline (out-Call c).method (option_map (low_expr g inline) (out-Call c).target) (option_map (code p run) (out-Call c).target)
      (map (low_expr g inline) (out-Call c).args) (map (code p run) (out-Call c).args) w start f b s fr m inlines target args frame above ready);
})

-- the claims of a call's parts
record PartsClaim (p : Posed) (n : ℕ) (g : Ground) (run : Run) (inline : Inline) (c : Call-F Expr Call Quant Reach) : Type 0 where
  pub target : TargetClaim p n g (option_map (low_expr g inline) c.target) (option_map (code p run) c.target)
  pub args : Claims p n g (map (low_expr g inline) c.args) (map (code p run) c.args)

call_parts : (p : Posed) (n : ℕ) (g : Ground) (run : Run) (inline : Inline) (method : ℕ) (target : Option (E p n g run inline)) (args : List (E p n g run inline))
    → PartsClaim p n g run inline (map-Call (E p n g run inline) (C p n g run inline) Q R Expr Call Quant Reach (λ a. a.0) (λ c. c.0) (λ q. q.0) (λ q. q.0)
    (record { method = method; target = target; args = args }))
call_parts p n g run inline method None args = record { target = tt; args = claims_of p n g run inline args }
call_parts p n g run inline method (Some t) args = record { target = t.1; args = claims_of p n g run inline args }

call_layer : (p : Posed) (n : ℕ) (g : Ground) (run : Run) (inline : Inline) (y : Call-F (E p n g run inline) (C p n g run inline) Q R)
    → PartsClaim p n g run inline (map-Call (E p n g run inline) (C p n g run inline) Q R Expr Call Quant Reach (λ a. a.0) (λ c. c.0) (λ q. q.0) (λ q. q.0) y)
call_layer p n g run inline y = call_parts p n g run inline y.method y.target y.args

of_parts : (p : Posed) (n : ℕ) (g : Ground) (run : Run) (inline : Inline) (x : Call-F Expr Call Quant Reach) → Inlines p n g run inline → PartsClaim p n g run inline x
    → CallClaim p n g (low_call g inline (roll-Call x)).low (call_of p run (roll-Call x))
of_parts p n g run inline x inlines parts = call_claim p n g run inline (roll-Call x) inlines parts.target parts.args

pub expr_shows : (p : Posed) (n : ℕ) (g : Ground) (run : Run) (inline : Inline) → Inlines p n g run inline → (a : Expr) → Claim p n g (low_expr g inline a) (code p run a)
expr_shows p n g run inline inlines =
    ind-Expr (λ a. Claim p n g (low_expr g inline a) (code p run a)) (λ c. CallClaim p n g (low_call g inline c).low (call_of p run c)) (λ q. Unit {0}) (λ r. Unit {0})
    (λ x y is. subst (λ z. Claim p n g (low_expr g inline (roll-Expr z)) (code p run (roll-Expr z))) is (code_layer p n g run inline y))
    (λ x y is. of_parts p n g run inline x inlines (subst (PartsClaim p n g run inline) is (call_layer p n g run inline y)))
    (λ x y is. tt) (λ x y is. tt)

each_claim : (p : Posed) (n : ℕ) (g : Ground) (run : Run) (inline : Inline) → Inlines p n g run inline → (as_ : List Expr) → Claims p n g (map (low_expr g inline) as_) (map (code p run) as_)
each_claim p n g run inline inlines [] = tt
each_claim p n g run inline inlines (a ∷ as_) = (expr_shows p n g run inline inlines a, each_claim p n g run inline inlines as_)

maybe_claim : (p : Posed) (n : ℕ) (g : Ground) (run : Run) (inline : Inline) → Inlines p n g run inline → (a : Option Expr)
    → TargetClaim p n g (option_map (low_expr g inline) a) (option_map (code p run) a)
maybe_claim p n g run inline inlines None = tt
maybe_claim p n g run inline inlines (Some a) = expr_shows p n g run inline inlines a

pub call_shows : (p : Posed) (n : ℕ) (g : Ground) (run : Run) (inline : Inline) → Inlines p n g run inline → (c : Call) → CallClaim p n g (low_call g inline c).low (call_of p run c)
call_shows p n g run inline inlines c =
    call_claim p n g run inline c inlines (maybe_claim p n g run inline inlines (out-Call c).target) (each_claim p n g run inline inlines (out-Call c).args)
