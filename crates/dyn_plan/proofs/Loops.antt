-- Loops: their steps show what they do, by induction on the turns.
use Rattle.std.proofs.Common.{◌≡◌, ℕ, zero, suc, ◌+◌, Bool, true, false, List, [], ◌∷◌, ◌++◌, Option, Some, None, refl, sym, ◌∙◌, ap, subst, arith}
use Rattle.std.specs.Prelude.{◌||◌, if◌then◌else◌, option_and_then}
use Rattle.std.proofs.lemmas.Bool.{false≢true}
use Rattle.taco_unit.specs.declared.kind.Kind.TheVariants as kind
use Rattle.heap_core.specs.declared.value.Value.{Value}
use Rattle.heap_core.specs.declared.value.Value.TheVariants.{Null, Obj, Num, Flag}
use Rattle.heap_core.specs.Posed.{Posed}
use Rattle.heap_core.specs.Exec.{Memory, Ends, Gives, Throws, Leaves, Exit, Goes, Returns, Raises, Stops, Frame, Code, Body, after, on_branch, then_do, then_body}
use Rattle.dyn_core.specs.declared.prog.Act.TheVariants.{Copy, Const}
use Rattle.dyn_core.specs.declared.state.DynState.{DynState}
use Rattle.dyn_core.specs.States.{var_at}
use Rattle.dyn_core.proofs.Vars.{var_set}
use Rattle.dyn_plan.specs.declared.plan.Plan.{Plan}
use Rattle.dyn_plan.specs.declared.plan.Plan.TheVariants as l
use Rattle.dyn_plan.specs.Plans.{by_flag, go}
use Rattle.dyn_plan.specs.Places.{Ground, Spots}
use Rattle.dyn_plan.specs.Guards.{Lowered, guarded}
use Rattle.dyn_plan.specs.Expressions.{Low}
use Rattle.dyn_plan.specs.Statements.{Laid, Lay, stops}
use Rattle.dyn_plan.proofs.PlanForms.{next_do, next_if, next_fail}
use Rattle.dyn_plan.proofs.Shown.{set, IsKept, kept_set, kept_same, IsFrame, IsReady, HasGiven, HasThrown, Shows, ready_on, go_one, go_append, guard_skips, guard_opens}
use Rattle.dyn_plan.proofs.ExprShown.{or_left, or_right, Claim}
use Rattle.dyn_plan.proofs.StmtForms.{wanted_then_do}
use Rattle.dyn_plan.proofs.StmtShown.{exit_wanted, ResultIs, with_locals, Ended, StmtClaim, ended_from, ended_weaker, wanted_after, wanted_goes, wanted_stops}
use Rattle.heap_core.specs.Exec.{turns}
use Rattle.dyn_plan.specs.Plans.{while_true}
use Rattle.dyn_plan.specs.Statements.{settled, asked, loop_low, turnless_low, while_low}
use Rattle.dyn_plan.proofs.PlanForms.{next_while}

-- ## the test

-- the test shows: its value at x; that it has thrown, with x false; or nowhere
abbrev Asked : Ground → Bool → ℕ → Spots → Frame → ℕ → DynState → Ends Value → Option DynState → Type 0
Asked g t start f fr x s (Gives v h) (Some q) = IsReady g f fr h q × (var_at q.vars x ≡ v) × IsKept start s q
Asked g t start f fr x s (Gives v h) None = ⊥
Asked g t start f fr x s (Throws h) (Some q) = (t ≡ true) × HasThrown start f s h q × (var_at q.vars x ≡ Flag false)
Asked g t start f fr x s (Throws h) None = ⊥
Asked g t start f fr x s Leaves (Some q) = ⊥
Asked g t start f fr x s Leaves None = Unit {0}

-- where the frame is not done, the flag has the value at y
settled_open : (p : Posed) (n : ℕ) (f : Spots) (t : Bool) (x y : ℕ) (s : DynState) → var_at s.vars f.done ≡ Flag false → go p n (settled f t x y) s ≡ Some (set x (var_at s.vars y) s)
settled_open p n f false x y s done = go_one p n (l.Do (Copy x y)) s ∙ next_do p n (Copy x y) s
settled_open p n f true x y s done =
    go_one p n (l.If f.done (l.Do (Const x (Flag false)) ∷ []) (l.Do (Copy x y) ∷ [])) s
    ∙ next_if p n f.done (l.Do (Const x (Flag false)) ∷ []) (l.Do (Copy x y) ∷ []) s
    ∙ ap (λ v. by_flag v (go p n (l.Do (Const x (Flag false)) ∷ []) s) (go p n (l.Do (Copy x y) ∷ []) s)) done
    ∙ go_one p n (l.Do (Copy x y)) s ∙ next_do p n (Copy x y) s

-- where it is done, the flag is false
settled_done : (p : Posed) (n : ℕ) (f : Spots) (t : Bool) (x y : ℕ) (s : DynState) → t ≡ true → var_at s.vars f.done ≡ Flag true → go p n (settled f t x y) s ≡ Some (set x (Flag false) s)
settled_done p n f false x y s is done = absurd (false≢true is)
settled_done p n f true x y s is done =
    go_one p n (l.If f.done (l.Do (Const x (Flag false)) ∷ []) (l.Do (Copy x y) ∷ [])) s
    ∙ next_if p n f.done (l.Do (Const x (Flag false)) ∷ []) (l.Do (Copy x y) ∷ []) s
    ∙ ap (λ v. by_flag v (go p n (l.Do (Const x (Flag false)) ∷ []) s) (go p n (l.Do (Copy x y) ∷ []) s)) done
    ∙ go_one p n (l.Do (Const x (Flag false))) s ∙ next_do p n (Const x (Flag false)) s

-- the whole test, where the frame is done before it
asked_done : (p : Posed) (n : ℕ) (f : Spots) (t : Bool) (a : Lowered) (x : ℕ) (s : DynState) → t ≡ true → var_at s.vars f.done ≡ Flag true
    → go p n (asked f t a x) s ≡ Some (set x (Flag false) s)
asked_done p n f t a x s is done =
    go_append p n (guarded f t a.steps) (settled f (t || a.throws) x a.place) s
    ∙ ap (option_and_then (go p n (settled f (t || a.throws) x a.place))) (guard_skips p n f t a.steps is s done)
    ∙ settled_done p n f (t || a.throws) x a.place s (or_left t a.throws is) done

asked_shows : (p : Posed) (n : ℕ) (g : Ground) (a : Low) (d : Code) (t : Bool) (start : ℕ) (f : Spots) (s q : DynState) (fr : Frame) (m : Memory)
    → Claim p n g a d → IsFrame g start f → IsReady g f fr m q → IsKept start s q
    → Asked g (a.low kind.Flag f f.base).throws start f fr (f.base + 1) s (d fr m) (go p n (asked f t (a.low kind.Flag f f.base) (f.base + 1)) q)
asked_shows p n g a d t start f s q fr m claim frame ready kept =
    subst (Asked g x.throws start f fr y s (d fr m)) (sym leads) (both (d fr m) (go p n x.steps q) (claim.shows start f kind.Flag f.base q fr m frame (omega arith) ready))
  where
    x : Lowered
    x = a.low kind.Flag f f.base

    y : ℕ
    y = f.base + 1

    last : List Plan
    last = settled f (t || (a.low kind.Flag f f.base).throws) (f.base + 1) (a.low kind.Flag f f.base).place

    leads : go p n (asked f t (a.low kind.Flag f f.base) (f.base + 1)) q ≡ option_and_then
        (go p n (settled f (t || (a.low kind.Flag f f.base).throws) (f.base + 1) (a.low kind.Flag f f.base).place)) (go p n (a.low kind.Flag f f.base).steps q)
    leads = go_append p n (guarded f t x.steps) last q ∙ ap (option_and_then (go p n last)) (guard_opens p n f t x.steps q ready.opened.done)

    both : (e : Ends Value) (o : Option DynState) → Shows x.throws start f q (HasGiven f.base x.place q) e o → Asked g x.throws start f fr y s e (option_and_then (go p n last) o)
    both (Gives v h) (Some z) given =
        let now : IsReady g f fr h z = ready_on g start f.base f fr m h q z frame (omega arith) ready given.memory given.kept in
        let further : IsKept f.base z (set y (var_at z.vars x.place) z) = kept_set f.base y (var_at z.vars x.place) z (omega arith) in
        subst (Asked g x.throws start f fr y s (Gives v h)) (sym (settled_open p n f (t || x.throws) y x.place z now.opened.done)) (
          ready_on g start f.base f fr h h z (set y (var_at z.vars x.place) z) frame (omega arith) now given.memory further,
          var_set z.vars y (var_at z.vars x.place) ∙ given.value,
          λ w low. let ordered = frame.flags.ordered in further w (omega arith) ∙ given.kept w (omega arith) ∙ kept w low,
        )
    both (Gives v h) None given = absurd given
    both (Throws h) (Some z) given =
        let ordered = frame.flags.ordered in
        let done_below = frame.flags.done_below in
        let thrown_below = frame.flags.thrown_below in
        let further : IsKept f.base z (set y (Flag false) z) = kept_set f.base y (Flag false) z (omega arith) in
        subst (Asked g x.throws start f fr y s (Throws h)) (sym (settled_done p n f (t || x.throws) y x.place z (or_right t x.throws given.0) given.1.done)) (
          given.0,
          record {
            memory = given.1.memory;
            done = further f.done done_below ∙ given.1.done;
            thrown = further f.thrown thrown_below ∙ given.1.thrown;
            kept = λ w low. further w (omega arith) ∙ given.1.kept w low ∙ kept w low;
          },
          var_set z.vars y (Flag false),
        )
    both (Throws h) None given = absurd given
    both Leaves (Some z) given = absurd given
    both Leaves None given = tt

-- ## the turns

-- what follows the test's value, where so many turns are left
abbrev branch : ℕ → Code → Body → Frame → Bool → Memory → Exit
branch zero d c fr b h = if b then Stops else Goes fr.locals h
branch (suc k) d c fr b h = if b then then_body (c fr h) fr (turns k d c) else Goes fr.locals h

turns_are : (k : ℕ) (d : Code) (c : Body) (fr : Frame) (m : Memory) → turns k d c fr m ≡ after (d fr m) (on_branch (branch k d c fr))
turns_are zero d c fr m = refl
turns_are (suc k) d c fr m = refl

-- a loop whose flag is false ends at once
loop_ends : (k x : ℕ) (e : DynState → Option DynState) (s : DynState) → var_at s.vars x ≡ Flag false → while_true k x e s ≡ Some s
loop_ends zero x e s is = rw is refl
loop_ends (suc k) x e s is = rw is refl

-- a frame that is done stays so, where the flag of the loop is set
done_on : (g : Ground) (t r : Bool) (start : ℕ) (f : Spots) (fr : Frame) (s q : DynState) (w : Value) (e : Exit) → IsFrame g start f → ((ls : List Value) (m : Memory) → e ≡ Goes ls m → ⊥)
    → Ended g t r start f fr s e (Some q) → Ended g t r start f fr s e (Some (set (f.base + 1) w q))
done_on g t r start f fr s q w (Goes ls m) frame none ended = absurd (none ls m refl)
done_on g t r start f fr s q w (Returns v m) frame none ended =
    let ordered = frame.flags.ordered in
    let further : IsKept f.base q (set (f.base + 1) w q) = kept_set f.base (f.base + 1) w q (omega arith) in (
      ended.0,
      record {
        memory = ended.1.memory;
        done = further f.done frame.flags.done_below ∙ ended.1.done;
        thrown = further f.thrown frame.flags.thrown_below ∙ ended.1.thrown;
        result = by v further ended.1.result;
        kept = λ z low. further z (omega arith) ∙ ended.1.kept z low;
      },
    )
  where
    by : (v : Option Value) → IsKept f.base q (set (f.base + 1) w q) → ResultIs f.result v q → ResultIs f.result v (set (f.base + 1) w q)
    by (Some v) further is = further f.result frame.result_below ∙ is
    by None further is = tt
done_on g t r start f fr s q w (Raises m) frame none ended =
    let ordered = frame.flags.ordered in
    let further : IsKept f.base q (set (f.base + 1) w q) = kept_set f.base (f.base + 1) w q (omega arith) in (
      ended.0,
      record {
        memory = ended.1.memory;
        done = further f.done frame.flags.done_below ∙ ended.1.done;
        thrown = further f.thrown frame.flags.thrown_below ∙ ended.1.thrown;
        kept = λ z low. further z (omega arith) ∙ ended.1.kept z low;
      },
    )
done_on g t r start f fr s q w Stops frame none ended = absurd ended

-- the rest of a loop, whose test has the value at the flag
abbrev LoopRest : Posed → ℕ → Ground → Bool → Bool → ℕ → Spots → Code → Body → List Plan → ℕ → Type 0
LoopRest p n g t r start f d c turn k = (fr : Frame) (s q : DynState) (v : Value) (h : Memory) → IsReady g f fr h q → IsKept start s q → var_at q.vars (f.base + 1) ≡ v
    → Ended g t r start f fr s (exit_wanted f.wanted (on_branch (branch k d c fr) v h)) (while_true k (f.base + 1) (go p n turn) q)

-- from what the test shows
from_test : (p : Posed) (n : ℕ) (g : Ground) (t r : Bool) (start : ℕ) (f : Spots) (d : Code) (c : Body) (turn : List Plan) (k : ℕ) (u : Bool) (fr : Frame) (s : DynState)
    (e : Ends Value) (o : Option DynState)
    → LoopRest p n g t r start f d c turn k → (u ≡ true → t ≡ true) → Asked g u start f fr (f.base + 1) s e o
    → Ended g t r start f fr s (after e (λ v h. exit_wanted f.wanted (on_branch (branch k d c fr) v h))) (option_and_then (while_true k (f.base + 1) (go p n turn)) o)
from_test p n g t r start f d c turn k u fr s (Gives v h) (Some q) rest more asked_ = rest fr s q v h asked_.0 asked_.2 asked_.1
from_test p n g t r start f d c turn k u fr s (Gives v h) None rest more asked_ = absurd asked_
from_test p n g t r start f d c turn k u fr s (Throws h) (Some q) rest more asked_ =
    subst (Ended g t r start f fr s (Raises h)) (sym (loop_ends k (f.base + 1) (go p n turn) q asked_.2)) (more asked_.0, asked_.1)
from_test p n g t r start f d c turn k u fr s (Throws h) None rest more asked_ = absurd asked_
from_test p n g t r start f d c turn k u fr s Leaves (Some q) rest more asked_ = absurd asked_
from_test p n g t r start f d c turn k u fr s Leaves None rest more asked_ = tt

-- what happens behind the body
behind_body : (p : Posed) (n : ℕ) (g : Ground) (a : Low) (d : Code) (c : Body) (y : Laid) (t r : Bool) (start : ℕ) (f : Spots) (k : ℕ) (fr : Frame) (s : DynState) (e : Exit)
    (o : Option DynState)
    → Claim p n g a d → IsFrame g start f → (y.throws ≡ true → t ≡ true) → (y.returns ≡ true → r ≡ true) → ((a.low kind.Flag f f.base).throws ≡ true → t ≡ true)
    → LoopRest p n g t r start f d c (y.steps ++ asked f (stops y) (a.low kind.Flag f f.base) (f.base + 1)) k
    → Ended g y.throws y.returns start f fr s e o
    → Ended g t r start f fr s (then_do e (λ ls m. exit_wanted f.wanted (turns k d c (with_locals fr ls) m)))
    (option_and_then (while_true k (f.base + 1) (go p n (y.steps ++ asked f (stops y) (a.low kind.Flag f f.base) (f.base + 1))))
    (option_and_then (go p n (asked f (stops y) (a.low kind.Flag f f.base) (f.base + 1))) o))
behind_body p n g a d c y t r start f k fr s (Goes ls m) (Some q) claim frame more again tests rest ended =
    let x : Lowered = a.low kind.Flag f f.base in
    let turn : List Plan = y.steps ++ asked f (stops y) x (f.base + 1) in
    subst (λ z. Ended g t r start f fr s z (option_and_then (while_true k (f.base + 1) (go p n turn)) (go p n (asked f (stops y) x (f.base + 1)) q)))
    (wanted_after f.wanted (d (with_locals fr ls) m) (on_branch (branch k d c (with_locals fr ls))) ∙ ap (exit_wanted f.wanted) (sym (turns_are k d c (with_locals fr ls) m)))
    (from_test p n g t r start f d c turn k x.throws (with_locals fr ls) s (d (with_locals fr ls) m) (go p n (asked f (stops y) x (f.base + 1)) q) rest tests
    (asked_shows p n g a d (stops y) start f s q (with_locals fr ls) m claim frame ended.0 ended.1))
behind_body p n g a d c y t r start f k fr s (Goes ls m) None claim frame more again tests rest ended = absurd ended
behind_body p n g a d c y t r start f k fr s (Returns v m) (Some q) claim frame more again tests rest ended =
    let x : Lowered = a.low kind.Flag f f.base in
    let turn : List Plan = y.steps ++ asked f (stops y) x (f.base + 1) in
    let last : DynState = set (f.base + 1) (Flag false) q in
    subst (Ended g t r start f fr s (Returns v m))
    (sym (ap (option_and_then (while_true k (f.base + 1) (go p n turn))) (asked_done p n f (stops y) x (f.base + 1) q (or_right y.throws y.returns ended.0) ended.1.done)
    ∙ loop_ends k (f.base + 1) (go p n turn) last (var_set q.vars (f.base + 1) (Flag false))))
    (ended_weaker g y.throws y.returns t r start f fr s (Returns v m) (Some last) more again
    (done_on g y.throws y.returns start f fr s q (Flag false) (Returns v m) frame (λ ls h is. is_no_end ls h v m is) ended))
  where
    is_end : Exit → Bool
    is_end (Goes ls h) = true
    is_end (Returns v h) = false
    is_end (Raises h) = false
    is_end Stops = false

    is_no_end : (ls : List Value) (h : Memory) (v : Option Value) (m : Memory) → Returns v m ≡ Goes ls h → ⊥
    is_no_end ls h v m is = false≢true (ap is_end is)
behind_body p n g a d c y t r start f k fr s (Returns v m) None claim frame more again tests rest ended = absurd ended
behind_body p n g a d c y t r start f k fr s (Raises m) (Some q) claim frame more again tests rest ended =
    let x : Lowered = a.low kind.Flag f f.base in
    let turn : List Plan = y.steps ++ asked f (stops y) x (f.base + 1) in
    let last : DynState = set (f.base + 1) (Flag false) q in
    subst (Ended g t r start f fr s (Raises m))
    (sym (ap (option_and_then (while_true k (f.base + 1) (go p n turn))) (asked_done p n f (stops y) x (f.base + 1) q (or_left y.throws y.returns ended.0) ended.1.done)
    ∙ loop_ends k (f.base + 1) (go p n turn) last (var_set q.vars (f.base + 1) (Flag false))))
    (ended_weaker g y.throws y.returns t r start f fr s (Raises m) (Some last) more again
    (done_on g y.throws y.returns start f fr s q (Flag false) (Raises m) frame (λ ls h is. is_no_end ls h m is) ended))
  where
    is_end : Exit → Bool
    is_end (Goes ls h) = true
    is_end (Returns v h) = false
    is_end (Raises h) = false
    is_end Stops = false

    is_no_end : (ls : List Value) (h m : Memory) → Raises m ≡ Goes ls h → ⊥
    is_no_end ls h m is = false≢true (ap is_end is)
behind_body p n g a d c y t r start f k fr s (Raises m) None claim frame more again tests rest ended = absurd ended
behind_body p n g a d c y t r start f k fr s Stops (Some q) claim frame more again tests rest ended = absurd ended
behind_body p n g a d c y t r start f k fr s Stops None claim frame more again tests rest ended = tt

-- the value ends the loop, or leaves the scope
loop_stays : (g : Ground) (t r : Bool) (start : ℕ) (f : Spots) (fr : Frame) (s q : DynState) (h : Memory) → IsReady g f fr h q → IsKept start s q
    → Ended g t r start f fr s (exit_wanted f.wanted (Goes fr.locals h)) (Some q)
loop_stays g t r start f fr s q h ready kept = subst (λ z. Ended g t r start f fr s z (Some q)) (sym (wanted_goes f.wanted fr.locals h)) (ready, kept)

loop_rest : (p : Posed) (n : ℕ) (g : Ground) (a : Low) (d : Code) (lay : Lay) (c : Body) (t r : Bool) (start : ℕ) (f : Spots) (k : ℕ)
    → Claim p n g a d → StmtClaim p n g lay c → IsFrame g start f → ((lay f).throws ≡ true → t ≡ true) → ((lay f).returns ≡ true → r ≡ true)
    → ((a.low kind.Flag f f.base).throws ≡ true → t ≡ true)
    → LoopRest p n g t r start f d c ((lay f).steps ++ asked f (stops (lay f)) (a.low kind.Flag f f.base) (f.base + 1)) k
loop_rest p n g a d lay c t r start f zero claim body frame more again tests fr s q v h ready kept is = rw is (by v)
  where
    by : (v : Value) → Ended g t r start f fr s (exit_wanted f.wanted (on_branch (branch zero d c fr) v h)) (by_flag v None (Some q))
    by (Flag true) = rw (wanted_stops f.wanted) tt
    by (Flag false) = loop_stays g t r start f fr s q h ready kept
    by Null = rw (wanted_stops f.wanted) tt
    by (Obj o) = rw (wanted_stops f.wanted) tt
    by (Num z) = rw (wanted_stops f.wanted) tt
loop_rest p n g a d lay c t r start f (suc k) claim body frame more again tests fr s q v h ready kept is =
    rw is (by v (loop_rest p n g a d lay c t r start f k claim body frame more again tests))
  where
    x : Lowered
    x = a.low kind.Flag f f.base

    turn : List Plan
    turn = (lay f).steps ++ asked f (stops (lay f)) (a.low kind.Flag f f.base) (f.base + 1)

    one : LoopRest p n g t r start f d c ((lay f).steps ++ asked f (stops (lay f)) (a.low kind.Flag f f.base) (f.base + 1)) k
        → Ended g t r start f fr s (exit_wanted f.wanted (then_body (c fr h) fr (turns k d c)))
        (option_and_then (while_true k (f.base + 1) (go p n ((lay f).steps ++ asked f (stops (lay f)) (a.low kind.Flag f f.base) (f.base + 1))))
        (go p n ((lay f).steps ++ asked f (stops (lay f)) (a.low kind.Flag f f.base) (f.base + 1)) q))
    one rest =
        subst (λ z. Ended g t r start f fr s z (option_and_then (while_true k (f.base + 1) (go p n turn)) (go p n turn q)))
        (wanted_then_do f.wanted (c fr h) (λ ls m. turns k d c (with_locals fr ls) m))
        (subst (λ o. Ended g t r start f fr s (then_do (exit_wanted f.wanted (c fr h)) (λ ls m. exit_wanted f.wanted (turns k d c (with_locals fr ls) m)))
        (option_and_then (while_true k (f.base + 1) (go p n turn)) o))
        (sym (go_append p n (lay f).steps (asked f (stops (lay f)) x (f.base + 1)) q))
        (behind_body p n g a d c (lay f) t r start f k fr s (exit_wanted f.wanted (c fr h)) (go p n (lay f).steps q) claim frame more again tests rest
        (ended_from g (lay f).throws (lay f).returns start f fr s q (exit_wanted f.wanted (c fr h)) (go p n (lay f).steps q) kept (body.shows start f q fr h frame ready))))

    by : (v : Value) → LoopRest p n g t r start f d c ((lay f).steps ++ asked f (stops (lay f)) (a.low kind.Flag f f.base) (f.base + 1)) k
        → Ended g t r start f fr s (exit_wanted f.wanted (on_branch (branch (suc k) d c fr) v h))
        (by_flag v (option_and_then (while_true k (f.base + 1) (go p n ((lay f).steps ++ asked f (stops (lay f)) (a.low kind.Flag f f.base) (f.base + 1))))
        (go p n ((lay f).steps ++ asked f (stops (lay f)) (a.low kind.Flag f f.base) (f.base + 1)) q)) (Some q))
    by (Flag true) rest = one rest
    by (Flag false) rest = loop_stays g t r start f fr s q h ready kept
    by Null rest = rw (wanted_stops f.wanted) tt
    by (Obj o) rest = rw (wanted_stops f.wanted) tt
    by (Num z) rest = rw (wanted_stops f.wanted) tt

-- ## whole loops

-- a loop is its first test, and then the rest
whole : (p : Posed) (n : ℕ) (g : Ground) (a : Low) (d : Code) (c : Body) (turn : List Plan) (last : List Plan) (t r : Bool) (start : ℕ) (f : Spots) (k : ℕ) (s : DynState)
    (fr : Frame) (m : Memory)
    → Claim p n g a d → IsFrame g start f → IsReady g f fr m s → ((a.low kind.Flag f f.base).throws ≡ true → t ≡ true)
    → ((q : DynState) → go p n last q ≡ while_true k (f.base + 1) (go p n turn) q)
    → LoopRest p n g t r start f d c turn k
    → Ended g t r start f fr s (exit_wanted f.wanted (turns k d c fr m)) (go p n (asked f false (a.low kind.Flag f f.base) (f.base + 1) ++ last) s)
whole p n g a d c turn last t r start f k s fr m claim frame ready tests is rest =
    let x : Lowered = a.low kind.Flag f f.base in
    let first : List Plan = asked f false x (f.base + 1) in
    subst (λ z. Ended g t r start f fr s z (go p n (first ++ last) s)) (wanted_after f.wanted (d fr m) (on_branch (branch k d c fr)) ∙ ap (exit_wanted f.wanted) (sym (turns_are k d c fr m)))
    (subst (Ended g t r start f fr s (after (d fr m) (λ v h. exit_wanted f.wanted (on_branch (branch k d c fr) v h)))) (sym (go_append p n first last s ∙ alike (go p n first s)))
    (from_test p n g t r start f d c turn k x.throws fr s (d fr m) (go p n first s) rest tests (asked_shows p n g a d false start f s s fr m claim frame ready (kept_same start s))))
  where
    alike : (o : Option DynState) → option_and_then (go p n last) o ≡ option_and_then (while_true k (f.base + 1) (go p n turn)) o
    alike None = refl
    alike (Some q) = is q

pub while_shows : (p : Posed) (g : Ground) (a : Low) (d : Code) (lay : Lay) (c : Body) (start : ℕ) (f : Spots) (s : DynState) (fr : Frame) (m : Memory)
    → (g.turnless ≡ true → p.scope.loops ≡ 0) → Claim p p.scope.loops g a d → StmtClaim p p.scope.loops g lay c → IsFrame g start f → IsReady g f fr m s
    → Ended g (while_low g f (a.low kind.Flag f f.base) (lay f)).throws (while_low g f (a.low kind.Flag f f.base) (lay f)).returns start f fr s
    (exit_wanted f.wanted (turns p.scope.loops d c fr m)) (go p p.scope.loops (while_low g f (a.low kind.Flag f f.base) (lay f)).steps s)
while_shows p g a d lay c start f s fr m none claim body frame ready = by g.turnless none
  where
    n : ℕ
    n = p.scope.loops

    x : Lowered
    x = a.low kind.Flag f f.base

    turn : List Plan
    turn = (lay f).steps ++ asked f (stops (lay f)) (a.low kind.Flag f f.base) (f.base + 1)

    stopped : (k : ℕ) → k ≡ 0 → LoopRest p n g x.throws false start f d c turn k
    stopped zero is fr s q v h ready kept value = rw value (at v)
      where
        at : (v : Value) → Ended g x.throws false start f fr s (exit_wanted f.wanted (on_branch (branch zero d c fr) v h)) (by_flag v None (Some q))
        at (Flag true) = rw (wanted_stops f.wanted) tt
        at (Flag false) = loop_stays g x.throws false start f fr s q h ready kept
        at Null = rw (wanted_stops f.wanted) tt
        at (Obj o) = rw (wanted_stops f.wanted) tt
        at (Num z) = rw (wanted_stops f.wanted) tt
    stopped (suc k) is fr s q v h ready kept value = absurd (omega arith)

    last_is : (k : ℕ) → k ≡ 0 → (q : DynState) → go p n (l.If (f.base + 1) (l.Fail ∷ []) [] ∷ []) q ≡ while_true k (f.base + 1) (go p n turn) q
    last_is zero is q =
        go_one p n (l.If (f.base + 1) (l.Fail ∷ []) []) q ∙ next_if p n (f.base + 1) (l.Fail ∷ []) [] q
        ∙ ap (λ o. by_flag (var_at q.vars (f.base + 1)) o (Some q)) (go_one p n l.Fail q ∙ next_fail p n q)
    last_is (suc k) is q = absurd (omega arith)

    by : (b : Bool) → (b ≡ true → p.scope.loops ≡ 0)
        → Ended g (if b then turnless_low f (a.low kind.Flag f f.base) (f.base + 1) else loop_low f (a.low kind.Flag f f.base) (lay f) (f.base + 1)).throws
        (if b then turnless_low f (a.low kind.Flag f f.base) (f.base + 1) else loop_low f (a.low kind.Flag f f.base) (lay f) (f.base + 1)).returns start f fr s
        (exit_wanted f.wanted (turns p.scope.loops d c fr m))
        (go p p.scope.loops (if b then turnless_low f (a.low kind.Flag f f.base) (f.base + 1) else loop_low f (a.low kind.Flag f f.base) (lay f) (f.base + 1)).steps s)
    by true none =
        whole p n g a d c turn (l.If (f.base + 1) (l.Fail ∷ []) [] ∷ []) x.throws false start f n s fr m claim frame ready (λ t. t) (last_is n (none refl)) (stopped n (none refl))
    by false none =
        whole p n g a d c turn (l.While (f.base + 1) turn ∷ []) (x.throws || (lay f).throws) (lay f).returns start f n s fr m claim frame ready (or_left x.throws (lay f).throws)
        (λ q. go_one p n (l.While (f.base + 1) turn) q ∙ next_while p n (f.base + 1) turn q)
        (loop_rest p n g a d lay c (x.throws || (lay f).throws) (lay f).returns start f n claim body frame (or_right x.throws (lay f).throws) (λ t. t) (or_left x.throws (lay f).throws))
