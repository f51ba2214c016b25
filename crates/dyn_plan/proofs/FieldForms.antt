-- Statements that set fields, choose, return and call: each shows what it does.
use Rattle.std.proofs.Common.{◌≡◌, ℕ, ◌<◌, ◌≤◌, Bool, true, false, not, List, [], ◌∷◌, ◌++◌, Option, Some, None, refl, sym, ◌∙◌, ap, subst, arith}
use Rattle.std.specs.Prelude.{◌||◌, if◌then◌else◌, option_map}
use Rattle.std.proofs.lemmas.Bool.{false≢true}
use Rattle.taco_unit.specs.declared.kind.Kind.{Kind}
use Rattle.taco_unit.specs.declared.kind.Kind.TheVariants as kind
use Rattle.heap_core.specs.declared.value.Value.{Value}
use Rattle.heap_core.specs.declared.value.Value.TheVariants.{Null, Obj, Num, Flag}
use Rattle.heap_core.specs.Posed.{Posed}
use Rattle.heap_core.specs.Heap.{Heap, put}
use Rattle.heap_core.specs.Exec.{Memory, Ends, Goes, Returns, Frame, Code, Body, then_with, on_object, read, write, with_heap, after, on_branch, after_test, stepped, step_field}
use Rattle.dyn_core.specs.declared.prog.Act.TheVariants.{Copy, Const, Read, Write}
use Rattle.dyn_core.specs.declared.state.DynState.{DynState}
use Rattle.dyn_core.specs.States.{var_at}
use Rattle.dyn_core.specs.Actions.{put_through}
use Rattle.dyn_core.proofs.Vars.{var_set, var_apart}
use Rattle.dyn_plan.specs.declared.plan.Plan.{Plan}
use Rattle.dyn_plan.specs.declared.plan.Plan.TheVariants as l
use Rattle.dyn_plan.specs.Plans.{by_flag, go}
use Rattle.dyn_plan.specs.Places.{Ground, Spots, behind, is_receiver}
use Rattle.dyn_plan.specs.Guards.{Lowered, guarded, set_done, through}
use Rattle.dyn_plan.specs.Expressions.{Low, class_of_field, kind_of_field, behind_both}
use Rattle.dyn_plan.specs.Statements.{Lay, step_by_one, write_low, step_field_low, if_low}
use Rattle.dyn_plan.proofs.PlanForms.{next_do, next_if}
use Rattle.dyn_plan.proofs.Shown.{set, IsKept, kept_set, kept_same, kept_then, Stands, stands_on, Remembers, IsFrame}
use Rattle.dyn_plan.proofs.Shown.{IsReady, HasGiven, Shows, shows_from, then_shows, ready_on, go_one, skips_both, guard_skips, guard_opens}
use Rattle.dyn_plan.proofs.Operations.{go_do}
use Rattle.dyn_plan.proofs.NullTests.{through_shows}
use Rattle.dyn_plan.proofs.ExprShown.{behind_above, or_left, or_right, Claim}
use Rattle.dyn_plan.proofs.FormShown.{field_shows}
use Rattle.dyn_plan.specs.Statements.{return_bare, return_value}
use Rattle.dyn_plan.proofs.CallShown.{CallResult, CallClaim, first_of_three, second_of_three, third_of_three}
use Rattle.dyn_plan.proofs.StmtShown.{exit_wanted, ResultIs, Ended, StmtClaim, ended_from, ended_weaker, ends_nowhere, wanted_stops, operand_does, ended_all}
use Rattle.dyn_plan.proofs.StmtForms.{step_shows}

-- the heap is as after the write, and nothing below b was changed
abbrev pub Wrote : ℕ → DynState → Unit {0} → Memory → DynState → Type 0
Wrote b s z m t = Remembers m t × IsKept b s t

put_shows : (p : Posed) (n : ℕ) (t : Bool) (start b x i y o : ℕ) (f : Spots) (w : Value) (m : Memory) (s : DynState) → Remembers m s → var_at s.vars x ≡ Obj o → var_at s.vars y ≡ w
    → Shows t start f s (Wrote b s) (write p i o w m) (go p n (l.Do (Write x i y) ∷ []) s)
put_shows p n t start b x i y o f w m s memory object value =
    subst (Shows t start f s (Wrote b s) (write p i o w m))
    (sym (go_one p n (l.Do (Write x i y)) s ∙ next_do p n (Write x i y) s
    ∙ ap (λ v. option_map (λ h. record s { objects = h }) (put_through p.unit.classes s.objects i v (var_at s.vars y))) object
    ∙ ap (λ v. option_map (λ h. record s { objects = h }) (put p.unit.classes s.objects i o v)) value))
    (subst (λ h. Shows t start f s (Wrote b s) (with_heap tt (put p.unit.classes h i o w) m) (option_map (λ h. record s { objects = h }) (put p.unit.classes s.objects i o w)))
    memory (by (put p.unit.classes s.objects i o w)))
  where
    by : (c : Option Heap) → Shows t start f s (Wrote b s) (with_heap tt c m) (option_map (λ h. record s { objects = h }) c)
    by (Some h) = (refl, kept_same b s)
    by None = tt

-- the statement goes to its end, where nothing of the frame was changed
goes_on : (g : Ground) (start b : ℕ) (f : Spots) (fr : Frame) (m l : Memory) (s t : DynState) → IsFrame g start f → f.base ≤ b → IsReady g f fr m s → Remembers l t → IsKept b s t
    → IsReady g f fr l t × IsKept start s t
goes_on g start b f fr m l s t frame above ready memory kept = (
  ready_on g start b f fr m l s t frame above ready memory kept,
  λ z low. kept z
      (let ordered = frame.flags.ordered in omega arith),
)

pub write_shows : (p : Posed) (n : ℕ) (g : Ground) (a c : Low) (d e : Code) (i : ℕ) (start : ℕ) (f : Spots) (s : DynState) (fr : Frame) (m : Memory)
    → Claim p n g a d → Claim p n g c e → IsFrame g start f → IsReady g f fr m s
    → Ended g (write_low g i f (a.low (kind.Ref (class_of_field g i)) f f.base)
    (c.low (kind_of_field g i) f (behind g f.base (a.low (kind.Ref (class_of_field g i)) f f.base).place))).throws false start f fr s
    (exit_wanted f.wanted (after (d fr m) (λ v h. after (e fr h) (λ u j. after (on_object (λ o. write p i o u) v j) (λ z. Goes fr.locals)))))
    (go p n (write_low g i f (a.low (kind.Ref (class_of_field g i)) f f.base) (c.low (kind_of_field g i) f (behind g f.base (a.low (kind.Ref (class_of_field g i)) f f.base).place))).steps s)
write_shows p n g a c d e i start f s fr m one two frame ready =
    let k : Kind = kind.Ref (class_of_field g i) in
    let x : Lowered = a.low k f f.base in
    let b2 : ℕ = behind g f.base x.place in
    let y : Lowered = c.low (kind_of_field g i) f b2 in
    let b3 : ℕ = behind_both g f.base x y in
    let x_behind = behind_above g f.base x.place (one.near start f k f.base frame (omega arith)) in
    let far = x_behind.0 in
    let y_behind = behind_above g b2 y.place (two.near start f (kind_of_field g i) b2 frame (omega arith)) in
    let farther = y_behind.0 in
    let t : Bool = x.throws || y.throws || not (is_receiver f x.place) in
    let act : List Plan = l.Do (Write x.place i y.place) ∷ [] in
    let body : List Plan = through g f b3 (class_of_field g i) x.place act in
    let last : List Plan = guarded f (x.throws || y.throws) body in
    operand_does p n g a d false t false start f k f.base s s fr m (λ v h. after (e fr h) (λ u j. after (on_object (λ o. write p i o u) v j) (λ z. Goes fr.locals)))
    (guarded f x.throws y.steps ++ last) one frame (omega arith) (kept_same start s) ready
    (λ is. skips_both p n f (guarded f x.throws y.steps) last (guard_skips p n f x.throws y.steps is) (guard_skips p n f (x.throws || y.throws) body (or_left x.throws y.throws is)))
    (first_of_three x.throws y.throws (not (is_receiver f x.place)))
    (λ v h u given now since.
    operand_does p n g c e x.throws t false start f (kind_of_field g i) b2 s u fr h (λ w j. after (on_object (λ o. write p i o w) v j) (λ z. Goes fr.locals)) last two frame
    (omega arith) since now
    (λ is. guard_skips p n f (x.throws || y.throws) body (or_right x.throws y.throws is)) (second_of_three x.throws y.throws (not (is_receiver f x.place)))
    (λ w j q again later after_both.
    subst (Ended g t false start f fr s (exit_wanted f.wanted (after (on_object (λ o. write p i o w) v j) (λ z. Goes fr.locals))))
    (sym (guard_opens p n f (x.throws || y.throws) body q later.opened.done))
    (ended_from g t false start f fr s q (exit_wanted f.wanted (after (on_object (λ o. write p i o w) v j) (λ z. Goes fr.locals))) (go p n body q) after_both
    (ended_all g t start f fr q (Wrote b3 q) (on_object (λ o. write p i o w) v j) (go p n body q) (λ z l r wrote. goes_on g start b3 f fr j l q r frame (omega arith) later wrote.0 wrote.1)
    (through_shows p n g t start b3 f (class_of_field g i) x.place j q fr.this v (Wrote b3 q) (λ o. write p i o w) act
    (third_of_three x.throws y.throws (not (is_receiver f x.place))) frame.flags (omega arith) later.opened later.this
    (again.kept x.place x_behind.1 ∙ given.value) (let below = x_behind.1 in omega arith)
    (λ o r is memory kept.
    shows_from t start b3 f q r (Wrote b3 r) (Wrote b3 q) (write p i o w j) (go p n act r) (let ordered = frame.flags.ordered in omega arith) kept
    (λ z l r2 wrote. (wrote.0, kept_then b3 b3 b3 q r r2 (omega arith) (omega arith) kept wrote.1))
    (put_shows p n t start b3 x.place i y.place o f w j r memory
    (kept x.place (let below = x_behind.1 in omega arith) ∙ again.kept x.place x_behind.1 ∙ given.value ∙ is)
    (kept y.place y_behind.1 ∙ again.value))))))))

pub step_field_shows : (p : Posed) (n : ℕ) (g : Ground) (a : Low) (d : Code) (i : ℕ) (up : Bool) (start : ℕ) (f : Spots) (s : DynState) (fr : Frame) (m : Memory)
    → Claim p n g a d → IsFrame g start f → IsReady g f fr m s
    → Ended g (step_field_low g i up f (a.low (kind.Ref (class_of_field g i)) f f.base) (behind g f.base (a.low (kind.Ref (class_of_field g i)) f f.base).place)).throws false start f fr s
    (exit_wanted f.wanted (after (d fr m) (λ v h. after (on_object (step_field p i up) v h) (λ z. Goes fr.locals))))
    (go p n (step_field_low g i up f (a.low (kind.Ref (class_of_field g i)) f f.base) (behind g f.base (a.low (kind.Ref (class_of_field g i)) f f.base).place)).steps s)
step_field_shows p n g a d i up start f s fr m claim frame ready =
    let k : Kind = kind.Ref (class_of_field g i) in
    let x : Lowered = a.low k f f.base in
    let r : ℕ = behind g f.base x.place in
    let x_behind = behind_above g f.base x.place (claim.near start f k f.base frame (omega arith)) in
    let far = x_behind.0 in
    let t : Bool = x.throws || not (is_receiver f x.place) in
    let act : List Plan = l.Do (Read r x.place i) ∷ l.Do (step_by_one g up r) ∷ l.Do (Write x.place i r) ∷ [] in
    let body : List Plan = through g f r (class_of_field g i) x.place act in
    operand_does p n g a d false t false start f k f.base s s fr m (λ v h. after (on_object (step_field p i up) v h) (λ z. Goes fr.locals)) (guarded f x.throws body) claim frame
    (omega arith) (kept_same start s) ready
    (guard_skips p n f x.throws body) (or_left x.throws (not (is_receiver f x.place)))
    (λ v h q given now since.
    subst (Ended g t false start f fr s (exit_wanted f.wanted (after (on_object (step_field p i up) v h) (λ z. Goes fr.locals)))) (sym (guard_opens p n f x.throws body q now.opened.done))
    (ended_from g t false start f fr s q (exit_wanted f.wanted (after (on_object (step_field p i up) v h) (λ z. Goes fr.locals))) (go p n body q) since
    (ended_all g t start f fr q (Wrote r q) (on_object (step_field p i up) v h) (go p n body q) (λ z l j wrote. goes_on g start r f fr h l q j frame (omega arith) now wrote.0 wrote.1)
    (through_shows p n g t start r f (class_of_field g i) x.place h q fr.this v (Wrote r q) (step_field p i up) act (or_right x.throws (not (is_receiver f x.place))) frame.flags
    (omega arith) now.opened now.this given.value x_behind.1
    (λ o w is memory kept.
    shows_from t start r f q w (Wrote r w) (Wrote r q) (step_field p i up o h) (go p n act w) (let ordered = frame.flags.ordered in omega arith) kept
    (λ z l j wrote. (wrote.0, kept_then r r r q w j (omega arith) (omega arith) kept wrote.1))
    (stepped_field start f r x.place o h w t frame far memory (kept x.place x_behind.1 ∙ given.value ∙ is) x_behind.1
    (let ordered = frame.flags.ordered in let still = frame.flags.still in stands_on g r q w (omega arith) kept now.opened.still)))))))
  where
    stepped_field : (start : ℕ) (f : Spots) (r x o : ℕ) (h : Memory) (w : DynState) (t : Bool) → IsFrame g start f → f.base ≤ r → Remembers h w → var_at w.vars x ≡ Obj o → x < r → Stands g w
        → Shows t start f w (Wrote r w) (step_field p i up o h) (go p n (l.Do (Read r x i) ∷ l.Do (step_by_one g up r) ∷ l.Do (Write x i r) ∷ []) w)
    stepped_field start f r x o h w t frame above memory object below still =
        then_shows p n false t start f w w (HasGiven r r w) (Wrote r w) (read p i o h) (λ v j. then_with (stepped p.scope.ints up v j) (λ u l. write p i o u l))
        (l.Do (Read r x i) ∷ []) (l.Do (step_by_one g up r) ∷ l.Do (Write x i r) ∷ [])
        (λ is. absurd (false≢true is)) (λ is. absurd (false≢true is))
        (field_shows p n false start r r x i o f h w (omega arith) memory object)
        (λ v j q given.
        let low : start ≤ r = let ordered = frame.flags.ordered in omega arith in
        let q_still : Stands g q = let far = frame.flags.still in stands_on g r w q (omega arith) given.kept still in
        then_shows p n false t start f w q (HasGiven r r q) (Wrote r w) (stepped p.scope.ints up v j) (λ u l. write p i o u l) (l.Do (step_by_one g up r) ∷ []) (l.Do (Write x i r) ∷ [])
        (λ is. absurd (false≢true is)) (λ is. absurd (false≢true is))
        (shows_from false start r f w q (HasGiven r r q) (HasGiven r r q) (stepped p.scope.ints up v j) (go p n (l.Do (step_by_one g up r) ∷ []) q) low given.kept (λ a b c has. has)
        (step_shows p n g false start r r f j q up v (omega arith) q_still given.memory given.value))
        (λ u j2 z again.
        let kept : IsKept r w z = kept_then r r r w q z (omega arith) (omega arith) given.kept again.kept in
        shows_from t start r f w z (Wrote r z) (Wrote r w) (write p i o u j2) (go p n (l.Do (Write x i r) ∷ []) z) low kept
        (λ a b c wrote. (wrote.0, kept_then r r r w z c (omega arith) (omega arith) kept wrote.1))
        (put_shows p n t start r x i r o f u j2 z again.memory (kept x below ∙ object) again.value)))

-- ## choices

pub if_shows : (p : Posed) (n : ℕ) (g : Ground) (a : Low) (d : Code) (first second : Lay) (c e : Body) (start : ℕ) (f : Spots) (s : DynState) (fr : Frame) (m : Memory)
    → Claim p n g a d → StmtClaim p n g first c → StmtClaim p n g second e → IsFrame g start f → IsReady g f fr m s
    → Ended g (if_low f (a.low kind.Flag f f.base) (first f) (second f)).throws (if_low f (a.low kind.Flag f f.base) (first f) (second f)).returns start f fr s
    (exit_wanted f.wanted (after_test (d fr m) (λ b h. if b then c fr h else e fr h))) (go p n (if_low f (a.low kind.Flag f f.base) (first f) (second f)).steps s)
if_shows p n g a d first second c e start f s fr m claim one two frame ready =
    let x : Lowered = a.low kind.Flag f f.base in
    let t : Bool = x.throws || (first f).throws || (second f).throws in
    let r : Bool = (first f).returns || (second f).returns in
    let body : List Plan = l.If x.place (first f).steps (second f).steps ∷ [] in
    operand_does p n g a d false t r start f kind.Flag f.base s s fr m (on_branch (λ b h. if b then c fr h else e fr h)) (guarded f x.throws body) claim frame (omega arith)
    (kept_same start s) ready
    (guard_skips p n f x.throws body) (first_of_three x.throws (first f).throws (second f).throws)
    (λ v h q given now since.
    subst (Ended g t r start f fr s (exit_wanted f.wanted (on_branch (λ b h. if b then c fr h else e fr h) v h))) (sym (guard_opens p n f x.throws body q now.opened.done
    ∙ go_one p n (l.If x.place (first f).steps (second f).steps) q ∙ next_if p n x.place (first f).steps (second f).steps q
    ∙ ap (λ z. by_flag z (go p n (first f).steps q) (go p n (second f).steps q)) given.value))
    (by v h q now since))
  where
    by : (v : Value) (h : Memory) (q : DynState) → IsReady g f fr h q → IsKept start s q
        → Ended g ((a.low kind.Flag f f.base).throws || (first f).throws || (second f).throws) ((first f).returns || (second f).returns) start f fr s
        (exit_wanted f.wanted (on_branch (λ b h. if b then c fr h else e fr h) v h)) (by_flag v (go p n (first f).steps q) (go p n (second f).steps q))
    by (Flag true) h q now since =
        ended_weaker g (first f).throws (first f).returns ((a.low kind.Flag f f.base).throws || (first f).throws || (second f).throws) ((first f).returns || (second f).returns)
        start f fr s (exit_wanted f.wanted (c fr h)) (go p n (first f).steps q)
        (second_of_three (a.low kind.Flag f f.base).throws (first f).throws (second f).throws) (or_left (first f).returns (second f).returns)
        (ended_from g (first f).throws (first f).returns start f fr s q (exit_wanted f.wanted (c fr h)) (go p n (first f).steps q) since (one.shows start f q fr h frame now))
    by (Flag false) h q now since =
        ended_weaker g (second f).throws (second f).returns ((a.low kind.Flag f f.base).throws || (first f).throws || (second f).throws) ((first f).returns || (second f).returns)
        start f fr s (exit_wanted f.wanted (e fr h)) (go p n (second f).steps q)
        (third_of_three (a.low kind.Flag f f.base).throws (first f).throws (second f).throws) (or_right (first f).returns (second f).returns)
        (ended_from g (second f).throws (second f).returns start f fr s q (exit_wanted f.wanted (e fr h)) (go p n (second f).steps q) since (two.shows start f q fr h frame now))
    by Null h q now since = rw (wanted_stops f.wanted) tt
    by (Obj o) h q now since = rw (wanted_stops f.wanted) tt
    by (Num z) h q now since = rw (wanted_stops f.wanted) tt

-- ## returns

-- the frame is done
done_shows : (p : Posed) (n : ℕ) (g : Ground) (start : ℕ) (f : Spots) (fr : Frame) (s q : DynState) (v : Option Value) (m : Memory) → IsFrame g start f → Remembers m q
    → var_at q.vars f.thrown ≡ Flag false → ResultIs f.result v q → IsKept start s q
    → Ended g false true start f fr s (Returns v m) (go p n (set_done f) q)
done_shows p n g start f fr s q v m frame memory thrown result kept =
    subst (Ended g false true start f fr s (Returns v m)) (sym (go_do p n (Const f.done (Flag true)) [] q)) (
      refl,
      record {
        memory = memory;
        done = var_set q.vars f.done (Flag true);
        thrown = var_apart q.vars f.done (Flag true) f.thrown (λ same. frame.flags.apart (sym same)) ∙ thrown;
        result = by v result;
        kept = λ z low. kept_set start f.done (Flag true) q frame.flags.done_above z low ∙ kept z low;
      },
    )
  where
    by : (v : Option Value) → ResultIs f.result v q → ResultIs f.result v (set f.done (Flag true) q)
    by (Some v) is = var_apart q.vars f.done (Flag true) f.result frame.result_apart ∙ is
    by None is = tt

pub bare_shows : (p : Posed) (n : ℕ) (g : Ground) (start : ℕ) (f : Spots) (fr : Frame) (s : DynState) (m : Memory) → IsFrame g start f → IsReady g f fr m s
    → Ended g (return_bare f).throws (return_bare f).returns start f fr s (exit_wanted f.wanted (Returns None m)) (go p n (return_bare f).steps s)
bare_shows p n g start f fr s m frame ready = by f.wanted
  where
    by : (w : Bool) → Ended g false true start f fr s (exit_wanted w (Returns None m)) (go p n (if w then l.Fail ∷ [] else set_done f) s)
    by true = ends_nowhere p n g false true start f fr s s
    by false = done_shows p n g start f fr s s None m frame ready.opened.memory ready.opened.thrown tt (kept_same start s)

wanted_value : (w : Bool) (v : Value) (m : Memory) → exit_wanted w (Returns (Some v) m) ≡ Returns (Some v) m
wanted_value true v m = refl
wanted_value false v m = refl

pub return_shows : (p : Posed) (n : ℕ) (g : Ground) (a : Low) (d : Code) (k : Kind) (start : ℕ) (f : Spots) (s : DynState) (fr : Frame) (m : Memory)
    → Claim p n g a d → IsFrame g start f → IsReady g f fr m s
    → Ended g (return_value f (a.low k f f.base)).throws true start f fr s (exit_wanted f.wanted (after (d fr m) (λ v h. Returns (Some v) h)))
    (go p n (return_value f (a.low k f f.base)).steps s)
return_shows p n g a d k start f s fr m claim frame ready =
    let x : Lowered = a.low k f f.base in
    let body : List Plan = l.Do (Copy f.result x.place) ∷ set_done f in
    operand_does p n g a d false x.throws true start f k f.base s s fr m (λ v h. Returns (Some v) h) (guarded f x.throws body) claim frame (omega arith) (kept_same start s) ready
    (guard_skips p n f x.throws body) (λ t. t)
    (λ v h q given now since.
    let last : DynState = set f.result (var_at q.vars x.place) q in
    subst (λ z. Ended g x.throws true start f fr s z (go p n (guarded f x.throws body) q)) (sym (wanted_value f.wanted v h))
    (subst (Ended g x.throws true start f fr s (Returns (Some v) h)) (sym (guard_opens p n f x.throws body q now.opened.done ∙ go_do p n (Copy f.result x.place) (set_done f) q))
    (ended_weaker g false true x.throws true start f fr s (Returns (Some v) h) (go p n (set_done f) last) (λ is. absurd (false≢true is)) (λ t. t)
    (done_shows p n g start f fr s last (Some v) h frame now.opened.memory
    (var_apart q.vars f.result (var_at q.vars x.place) f.thrown (λ same. frame.result_apart_thrown (sym same)) ∙ now.opened.thrown)
    (var_set q.vars f.result (var_at q.vars x.place) ∙ given.value)
    (λ z low. kept_set start f.result (var_at q.vars x.place) q frame.result_above z low ∙ since z low)))))

-- ## calls

pub run_shows : (p : Posed) (n : ℕ) (g : Ground) (low : Bool → Spots → ℕ → Lowered) (c : Frame → Memory → Ends (Option Value)) (start : ℕ) (f : Spots) (s : DynState) (fr : Frame)
    (m : Memory)
    → CallClaim p n g low c → IsFrame g start f → IsReady g f fr m s
    → Ended g (low false f f.base).throws false start f fr s (exit_wanted f.wanted (after (c fr m) (λ v. Goes fr.locals))) (go p n (low false f f.base).steps s)
run_shows p n g low c start f s fr m claim frame ready =
    ended_all g (low false f f.base).throws start f fr s (CallResult false f.base (low false f f.base).place s) (c fr m) (go p n (low false f f.base).steps s)
    (λ v h q has. goes_on g start f.base f fr m h s q frame (omega arith) ready has.0 has.1)
    (claim.shows false start f f.base s fr m frame (omega arith) ready)
