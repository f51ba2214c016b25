-- Inlined methods, of every depth, show what methods do.
use Rattle.std.proofs.Common.{◌≡◌, ℕ, zero, suc, ◌+◌, ◌<◌, ◌≤◌, Bool, true, false, List, [], ◌∷◌, ◌++◌, Option, Some, None, refl, sym, ◌∙◌, ap, subst, arith}
use Rattle.std.specs.Prelude.{◌&&◌, option_and_then, option_map, map, slice_get, is_none, if◌then◌else◌}
use Rattle.std.proofs.lemmas.Bool.{false≢true}
use Rattle.taco_unit.specs.declared.kind.Kind.{Kind}
use Rattle.taco_unit.specs.declared.kind.Kind.TheVariants.{Int}
use Rattle.taco_unit.specs.declared.unit.MethodDef.{MethodDef}
use Rattle.heap_core.specs.declared.value.Value.{Value}
use Rattle.heap_core.specs.declared.value.Value.TheVariants.{Flag}
use Rattle.heap_core.specs.Posed.{Posed}
use Rattle.heap_core.specs.Outcomes.{zero_of}
use Rattle.heap_core.specs.Exec.{Memory, Gives, Throws, Leaves, Exit, Goes, Returns, Raises, Stops, Frame, Run, exec, returned, run_body, calls}
use Rattle.dyn_core.specs.declared.prog.Act.TheVariants.{Copy}
use Rattle.dyn_core.specs.declared.state.DynState.{DynState}
use Rattle.dyn_core.specs.States.{var_at}
use Rattle.dyn_core.proofs.Vars.{var_set, var_apart}
use Rattle.dyn_plan.specs.declared.plan.Plan.{Plan}
use Rattle.dyn_plan.specs.declared.plan.Plan.TheVariants as l
use Rattle.dyn_plan.specs.Plans.{go}
use Rattle.dyn_plan.specs.Places.{Ground, Spots, slot}
use Rattle.dyn_plan.specs.Guards.{guarded}
use Rattle.dyn_plan.specs.Expressions.{Inline, kind_or, kind_of_result}
use Rattle.dyn_plan.specs.Statements.{Laid, lay, stops}
use Rattle.dyn_plan.specs.Frames.{result_of, frame_of, prologue, epilogue, passed_on, inline_body, inlined}
use Rattle.dyn_plan.proofs.PlanForms.{next_fail}
use Rattle.dyn_plan.proofs.Shown.{set, IsKept, kept_set, moving, Remembers, ThisIs, HasFlags, IsFrame, IsOpen, Each, HasThrown, Shows, go_one, go_append, guard_opens, guard_skips}
use Rattle.dyn_plan.proofs.Operations.{go_do}
use Rattle.dyn_plan.proofs.ExprShown.{or_left, or_right, goes_nowhere}
use Rattle.dyn_plan.proofs.CallShown.{as_wanted, InlineResult, Inlines}
use Rattle.dyn_plan.proofs.StmtShown.{exit_wanted, Ended}
use Rattle.dyn_plan.proofs.StmtAll.{stmt_shows}
use Rattle.dyn_plan.proofs.FrameRows.{frame_is, begins, set_same}

-- ## the caller's flags

-- where the method has not thrown, nothing changes
record Passed (p : Posed) (n : ℕ) (r : DynState) (steps : List Plan) : Type 0 where
  pub state : DynState
  pub leads : go p n steps r ≡ Some state
  pub memory : state.objects ≡ r.objects
  pub same : (y : ℕ) → var_at state.vars y ≡ var_at r.vars y

passed_quiet : (p : Posed) (n : ℕ) (caller f : Spots) (t : Bool) (r : DynState) → (caller.done ≡ f.thrown → ⊥) → var_at r.vars caller.done ≡ Flag false
    → var_at r.vars caller.thrown ≡ Flag false → var_at r.vars f.thrown ≡ Flag false
    → Passed p n r (passed_on caller f t)
passed_quiet p n caller f false r apart done thrown quiet = record { state = r; leads = refl; memory = refl; same = λ y. refl }
passed_quiet p n caller f true r apart done thrown quiet =
    let one : DynState = set caller.done (var_at r.vars f.thrown) r in
    let first : (y : ℕ) → var_at one.vars y ≡ var_at r.vars y = set_same r caller.done (var_at r.vars f.thrown) (done ∙ sym quiet) in
    record {
      state = set caller.thrown (var_at one.vars f.thrown) one;
      leads = go_do p n (Copy caller.done f.thrown) (l.Do (Copy caller.thrown f.thrown) ∷ []) r ∙ go_do p n (Copy caller.thrown f.thrown) [] one;
      memory = refl;
      same = λ y. set_same one caller.thrown (var_at one.vars f.thrown) (first caller.thrown ∙ thrown ∙ sym (first f.thrown ∙ quiet)) y ∙ first y;
    }

passed_loud : (p : Posed) (n : ℕ) (g : Ground) (start : ℕ) (caller f : Spots) (t : Bool) (m : Memory) (s r : DynState) → t ≡ true → HasFlags g start caller
    → (caller.done ≡ f.thrown → ⊥) → var_at r.vars f.thrown ≡ Flag true → Remembers m r → IsKept start s r
    → (z : DynState) × (go p n (passed_on caller f t) r ≡ Some z) × HasThrown start caller s m z
passed_loud p n g start caller f false m s r is flags apart loud memory kept = absurd (false≢true is)
passed_loud p n g start caller f true m s r is flags apart loud memory kept =
    let one : DynState = set caller.done (var_at r.vars f.thrown) r in
    let last : DynState = set caller.thrown (var_at one.vars f.thrown) one in
    let seen : var_at one.vars f.thrown ≡ Flag true = var_apart r.vars caller.done (var_at r.vars f.thrown) f.thrown (λ same. apart (sym same)) ∙ loud in (
      last,
      go_do p n (Copy caller.done f.thrown) (l.Do (Copy caller.thrown f.thrown) ∷ []) r ∙ go_do p n (Copy caller.thrown f.thrown) [] one,
      record {
        memory = memory;
        done = var_apart one.vars caller.thrown (var_at one.vars f.thrown) caller.done flags.apart ∙ var_set r.vars caller.done (var_at r.vars f.thrown) ∙ loud;
        thrown = var_set one.vars caller.thrown (var_at one.vars f.thrown) ∙ seen;
        kept = λ z low. kept_set start caller.thrown (var_at one.vars f.thrown) one flags.thrown_above z low
            ∙ kept_set start caller.done (var_at r.vars f.thrown) r flags.done_above z low ∙ kept z low;
      },
    )

-- ## the end

-- a frame that is done leaves the epilogue out
ending_skips : (p : Posed) (n : ℕ) (d : MethodDef) (f : Spots) (body : Laid) (r : DynState) → stops body ≡ true → var_at r.vars f.done ≡ Flag true → go p n (epilogue d f body) r ≡ Some r
ending_skips p n d f body r is done = by (f.wanted && is_none d.result)
  where
    by : (c : Bool) → go p n (if c then guarded f (stops body) (l.Fail ∷ []) else []) r ≡ Some r
    by true = guard_skips p n f (stops body) (l.Fail ∷ []) is r done
    by false = refl

-- the epilogue, and then the caller's flags
ending : (p : Posed) (n : ℕ) (first second : List Plan) (r : DynState) → go p n first r ≡ Some r → go p n (first ++ second) r ≡ go p n second r
ending p n first second r is = go_append p n first second r ∙ ap (option_and_then (go p n second)) is

-- behind the body: what the method gives
behind : (p : Posed) (n : ℕ) (g : Ground) (d : MethodDef) (start b : ℕ) (caller f : Spots) (body : Laid) (fr : Frame) (m : Memory) (s t : DynState) (e : Exit) (o : Option DynState)
    → HasFlags g start caller → caller.base ≤ b → IsOpen g caller m s → IsFrame g b f → f.gives ≡ result_of d → IsKept b s t
    → Ended g body.throws body.returns b f fr t (exit_wanted f.wanted e) o
    → Shows body.throws start caller s (InlineResult f.wanted b f.result s) (as_wanted f.wanted (returned d e))
    (option_and_then (go p n (epilogue d f body ++ passed_on caller f body.throws)) o)
behind p n g d start b caller f body fr m s t e o flags above opened frame gives kept = by f.wanted refl e o
  where
    far_from : caller.done ≡ f.thrown → ⊥
    far_from same = let below = flags.done_below in let high = frame.flags.thrown_above in omega arith

    -- from a state in which the method has not thrown and the epilogue does nothing
    quiet : (w : Bool) (v : Value) (h : Memory) (r : DynState) → go p n (epilogue d f body) r ≡ Some r → Remembers h r → IsKept b t r → var_at r.vars f.thrown ≡ Flag false
        → var_at r.vars f.result ≡ v
        → Shows body.throws start caller s (InlineResult w b f.result s) (Gives (Some v) h) (go p n (epilogue d f body ++ passed_on caller f body.throws) r)
    quiet w v h r none memory since unthrown value =
        let whole : IsKept b s r = λ z low. since z low ∙ kept z low in
        let passed = passed_quiet p n caller f body.throws r far_from (let below = flags.done_below in whole caller.done (omega arith) ∙ opened.done)
        (let below = flags.thrown_below in whole caller.thrown (omega arith) ∙ opened.thrown) unthrown in
        subst (Shows body.throws start caller s (InlineResult w b f.result s) (Gives (Some v) h))
        (sym (ending p n (epilogue d f body) (passed_on caller f body.throws) r none ∙ passed.leads))
        (record { memory = passed.memory ∙ memory; value = passed.same f.result ∙ value; kept = λ z low. passed.same z ∙ whole z low })

    empty : (h : Memory) (r : DynState) → go p n (epilogue d f body) r ≡ Some r → Remembers h r → IsKept b t r → var_at r.vars f.thrown ≡ Flag false
        → Shows body.throws start caller s (InlineResult false b f.result s) (Gives None h) (go p n (epilogue d f body ++ passed_on caller f body.throws) r)
    empty h r none memory since unthrown =
        let whole : IsKept b s r = λ z low. since z low ∙ kept z low in
        let passed = passed_quiet p n caller f body.throws r far_from (let below = flags.done_below in whole caller.done (omega arith) ∙ opened.done)
        (let below = flags.thrown_below in whole caller.thrown (omega arith) ∙ opened.thrown) unthrown in
        subst (Shows body.throws start caller s (InlineResult false b f.result s) (Gives None h))
        (sym (ending p n (epilogue d f body) (passed_on caller f body.throws) r none ∙ passed.leads))
        (refl, passed.memory ∙ memory, λ z low. passed.same z ∙ whole z low)

    loud : (w : Bool) (h : Memory) (r : DynState) → (body.throws ≡ true) × HasThrown b f t h r → Shows body.throws start caller s (InlineResult w b f.result s) (Throws h)
        (go p n (epilogue d f body ++ passed_on caller f body.throws) r)
    loud w h r has =
        let passed = passed_loud p n g start caller f body.throws h s r has.0 flags far_from has.1.thrown has.1.memory
        (λ z low. let ordered = flags.ordered in has.1.kept z (omega arith) ∙ kept z (omega arith)) in
        subst (Shows body.throws start caller s (InlineResult w b f.result s) (Throws h))
        (sym (ending p n (epilogue d f body) (passed_on caller f body.throws) r (ending_skips p n d f body r (or_left body.throws body.returns has.0) has.1.done) ∙ passed.1))
        (has.0, passed.2)

    -- the epilogue of a method that goes to its end
    plain : f.wanted ≡ false → (r : DynState) → go p n (epilogue d f body) r ≡ Some r
    plain is r = ap (λ w. go p n (if w && is_none d.result then guarded f (stops body) (l.Fail ∷ []) else []) r) is

    gone : (w : Bool) → f.wanted ≡ w → (o : Option (Kind × Bool)) → d.result ≡ o → (h : Memory) (r : DynState) → Remembers h r → IsKept b t r → var_at r.vars f.thrown ≡ Flag false
        → var_at r.vars f.done ≡ Flag false → var_at r.vars f.result ≡ zero_of f.gives
        → Shows body.throws start caller s (InlineResult w b f.result s) (as_wanted w (Gives (option_map (λ r. zero_of r.0) d.result) h))
        (go p n (epilogue d f body ++ passed_on caller f body.throws) r)
    gone w is (Some k) result h r memory since unthrown undone begins_at =
        let none : go p n (epilogue d f body) r ≡ Some r = rest_of (f.wanted) in
        subst (λ z. Shows body.throws start caller s (InlineResult w b f.result s) z (go p n (epilogue d f body ++ passed_on caller f body.throws) r))
        (sym (ap (λ z. as_wanted w (Gives (option_map (λ (r : Kind × Bool). zero_of r.0) z) h)) result ∙ wanted w (zero_of k.0) h))
        (quiet w (zero_of k.0) h r none memory since unthrown (begins_at ∙ ap zero_of (gives ∙ kind_is result)))
      where
        wanted : (w : Bool) (v : Value) (h : Memory) → as_wanted w (Gives (Some v) h) ≡ Gives (Some v) h
        wanted true v h = refl
        wanted false v h = refl

        kind_is : d.result ≡ Some k → result_of d ≡ k.0
        kind_is is = rw is refl

        rest_of : (c : Bool) → go p n (if c && is_none d.result then guarded f (stops body) (l.Fail ∷ []) else []) r ≡ Some r
        rest_of true = rw result refl
        rest_of false = refl
    gone true is None result h r memory since unthrown undone begins_at =
        let stuck : go p n (epilogue d f body) r ≡ None =
        ap (λ w. go p n (if w && is_none d.result then guarded f (stops body) (l.Fail ∷ []) else []) r) is
        ∙ ap (λ z. go p n (if is_none z then guarded f (stops body) (l.Fail ∷ []) else []) r) result
        ∙ guard_opens p n f (stops body) (l.Fail ∷ []) r undone ∙ go_one p n l.Fail r ∙ next_fail p n r in
        subst (λ z. Shows body.throws start caller s (InlineResult true b f.result s) (as_wanted true (Gives (option_map (λ (r : Kind × Bool). zero_of r.0) z) h))
        (go p n (epilogue d f body ++ passed_on caller f body.throws) r)) (sym result)
        (subst (Shows body.throws start caller s (InlineResult true b f.result s) Leaves)
        (sym (go_append p n (epilogue d f body) (passed_on caller f body.throws) r ∙ ap (option_and_then (go p n (passed_on caller f body.throws))) stuck)) tt)
    gone false is None result h r memory since unthrown undone begins_at =
        subst (λ z. Shows body.throws start caller s (InlineResult false b f.result s) (Gives (option_map (λ (r : Kind × Bool). zero_of r.0) z) h)
        (go p n (epilogue d f body ++ passed_on caller f body.throws) r)) (sym result)
        (empty h r (plain is r) memory since unthrown)

    by : (w : Bool) → f.wanted ≡ w → (e : Exit) (o : Option DynState) → Ended g body.throws body.returns b f fr t (exit_wanted w e) o
        → Shows body.throws start caller s (InlineResult w b f.result s) (as_wanted w (returned d e)) (option_and_then (go p n (epilogue d f body ++ passed_on caller f body.throws)) o)
    by true is (Goes ls h) (Some r) ended = gone true is d.result refl h r ended.0.opened.memory ended.1 ended.0.opened.thrown ended.0.opened.done ended.0.result
    by true is (Goes ls h) None ended = absurd ended
    by false is (Goes ls h) (Some r) ended = gone false is d.result refl h r ended.0.opened.memory ended.1 ended.0.opened.thrown ended.0.opened.done ended.0.result
    by false is (Goes ls h) None ended = absurd ended
    by true is (Returns (Some v) h) (Some r) ended = quiet true v h r (ending_skips p n d f body r (or_right body.throws body.returns ended.0) ended.1.done) ended.1.memory
        ended.1.kept ended.1.thrown ended.1.result
    by true is (Returns (Some v) h) None ended = absurd ended
    by true is (Returns None h) (Some r) ended = absurd ended
    by true is (Returns None h) None ended = tt
    by false is (Returns (Some v) h) (Some r) ended = quiet false v h r (ending_skips p n d f body r (or_right body.throws body.returns ended.0) ended.1.done) ended.1.memory
        ended.1.kept ended.1.thrown ended.1.result
    by false is (Returns (Some v) h) None ended = absurd ended
    by false is (Returns None h) (Some r) ended = empty h r (plain is r) ended.1.memory ended.1.kept ended.1.thrown
    by false is (Returns None h) None ended = absurd ended
    by true is (Raises h) (Some r) ended = loud true h r ended
    by true is (Raises h) None ended = absurd ended
    by false is (Raises h) (Some r) ended = loud false h r ended
    by false is (Raises h) None ended = absurd ended
    by true is Stops (Some r) ended = absurd ended
    by true is Stops None ended = tt
    by false is Stops (Some r) ended = absurd ended
    by false is Stops None ended = tt

-- ## the method

pub body_shows : (p : Posed) (g : Ground) (run : Run) (inline : Inline) (d : MethodDef) (this : Option ℕ) (args : List ℕ) (w : Bool) (caller : Spots) (b start : ℕ) (s : DynState)
    (m : Memory) (v : Value) (vs : List Value)
    → (g.turnless ≡ true → p.scope.loops ≡ 0) → Inlines p p.scope.loops g run inline
    → HasFlags g start caller → caller.base ≤ b → IsOpen g caller m s → ThisIs this v s → ((x : ℕ) → this ≡ Some x → x < b) → Each (λ x. x < b) args → map (var_at s.vars) args ≡ vs
    → Shows (inline_body g inline (Some d) this args w caller b).throws start caller s (InlineResult w b (inline_body g inline (Some d) this args w caller b).place s)
    (as_wanted w (run_body p run (Some d) v vs m))
    (go p p.scope.loops (inline_body g inline (Some d) this args w caller b).steps s)
body_shows p g run inline d this args w caller b start s m v vs none inlines flags above opened this_is below each values =
    let n : ℕ = p.scope.loops in
    let f : Spots = frame_of g d this args w b in
    let fr : Frame = record { this = v; locals = vs ++ map zero_of d.locals } in
    let body : Laid = lay g inline d.body f in
    let still : moving g ≤ b = let far = flags.still in let ordered = flags.ordered in omega arith in
    let frame = frame_is g d this args w b still below in
    let begun = begins p n g d this args w b m s v vs still opened.still opened.memory this_is below each values in
    let rest : List Plan = epilogue d f body ++ passed_on caller f body.throws in
    subst (Shows body.throws start caller s (InlineResult w b f.result s) (as_wanted w (returned d (exec p run d.body fr m))))
    (sym (go_append p n (prologue f args) (body.steps ++ rest) s ∙ ap (option_and_then (go p n (body.steps ++ rest))) begun.leads ∙ go_append p n body.steps rest begun.state))
    (behind p n g d start b caller f body fr m s begun.state (exec p run d.body fr m) (go p n body.steps begun.state) flags above opened frame refl begun.kept
    ((stmt_shows p g run inline none inlines d.body).shows b f begun.state fr m frame begun.ready))

no_more : (w : Bool) → as_wanted w Leaves ≡ Leaves
no_more true = refl
no_more false = refl

-- ## every depth

pub inlines : (p : Posed) (g : Ground) → g.unit ≡ p.unit → (g.turnless ≡ true → p.scope.loops ≡ 0) → (d : ℕ) → Inlines p p.scope.loops g (calls p d) (inlined g d)
inlines p g same none zero = record {
  shows = λ method this args w f b start s m v vs flags above opened this_is below each values.
      let x : ℕ = b + slot g (kind_or (kind_of_result g method) Int) in
      subst (λ e. Shows false start f s (InlineResult w b x s) e (go p p.scope.loops (l.Fail ∷ []) s)) (sym (no_more w))
      (goes_nowhere p p.scope.loops false start f s s (InlineResult w b x s));
}
inlines p g same none (suc d) = record {
  shows = λ method this args w f b start s m v vs flags above opened this_is below each values.
      subst (λ u. Shows (inline_body g (inlined g d) (slice_get u.methods method) this args w f b).throws start f s
      (InlineResult w b (inline_body g (inlined g d) (slice_get u.methods method) this args w f b).place s)
      (as_wanted w (run_body p (calls p d) (slice_get p.unit.methods method) v vs m))
      (go p p.scope.loops (inline_body g (inlined g d) (slice_get u.methods method) this args w f b).steps s))
      (sym same) (by (inlines p g same none d) (slice_get p.unit.methods method) this args w f b start s m v vs flags above opened this_is below each values);
}
  where
    by : Inlines p p.scope.loops g (calls p d) (inlined g d) → (o : Option MethodDef) (this : Option ℕ) (args : List ℕ) (w : Bool) (f : Spots) (b start : ℕ) (s : DynState)
        (m : Memory) (v : Value) (vs : List Value)
        → HasFlags g start f → f.base ≤ b → IsOpen g f m s → ThisIs this v s → ((x : ℕ) → this ≡ Some x → x < b) → Each (λ x. x < b) args → map (var_at s.vars) args ≡ vs
        → Shows (inline_body g (inlined g d) o this args w f b).throws start f s (InlineResult w b (inline_body g (inlined g d) o this args w f b).place s)
        (as_wanted w (run_body p (calls p d) o v vs m)) (go p p.scope.loops (inline_body g (inlined g d) o this args w f b).steps s)
    by deeper None this args w f b start s m v vs flags above opened this_is below each values =
        subst (λ e. Shows false start f s (InlineResult w b b s) e (go p p.scope.loops (l.Fail ∷ []) s)) (sym (no_more w))
        (goes_nowhere p p.scope.loops false start f s s (InlineResult w b b s))
    by deeper (Some def) this args w f b start s m v vs flags above opened this_is below each values =
        body_shows p g (calls p d) (inlined g d) def this args w f b start s m v vs none deeper flags above opened this_is below each values
