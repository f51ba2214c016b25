-- Statements: the relation of their steps to what they do, how parts are put together, and assignments.
use Rattle.std.proofs.Common.{◌≡◌, ℕ, zero, suc, ◌<◌, ◌≤◌, Bool, true, false, List, [], ◌∷◌, ◌++◌, Option, Some, None, refl, sym, ◌∙◌, ap, subst, arith}
use Rattle.std.specs.Prelude.{nat_lt, if◌then◌else◌, option_and_then, map, length, slice_get, slice_set, is_some}
use Rattle.std.proofs.lemmas.Bool.Decides.{nat_tests}
use Rattle.taco_unit.specs.declared.kind.Kind.{Kind}
use Rattle.heap_core.specs.declared.value.Value.{Value}
use Rattle.heap_core.specs.declared.value.Value.TheVariants.{Flag}
use Rattle.heap_core.specs.Posed.{Posed}
use Rattle.heap_core.specs.Exec.{Memory, Ends, Gives, Throws, Leaves, Exit, Goes, Returns, Raises, Stops, Frame, Code, Body, after, set_local}
use Rattle.heap_core.proofs.FieldLaws.{none_some, some_same}
use Rattle.dyn_core.specs.declared.prog.Act.TheVariants.{Copy}
use Rattle.dyn_core.specs.declared.state.DynState.{DynState}
use Rattle.dyn_core.specs.States.{var_at, with_var}
use Rattle.dyn_core.proofs.Vars.{var_set, var_apart}
use Rattle.dyn_plan.specs.declared.plan.Plan.{Plan}
use Rattle.dyn_plan.specs.declared.plan.Plan.TheVariants as l
use Rattle.dyn_plan.specs.Plans.{go}
use Rattle.dyn_plan.specs.Places.{Ground, Spots}
use Rattle.dyn_plan.specs.Guards.{guarded}
use Rattle.dyn_plan.specs.Expressions.{Low}
use Rattle.dyn_plan.specs.Statements.{Lay, set_to}
use Rattle.dyn_plan.proofs.PlanForms.{next_do, next_fail}
use Rattle.dyn_plan.proofs.Shown.{set, IsKept, kept_set, stands_on, Remembers, IsFrame, IsReady, Each, Rising}
use Rattle.dyn_plan.proofs.Shown.{HasGiven, HasThrown, Shows, shows_from, this_on, ready_on, go_one, go_append, Skips, guard_opens}
use Rattle.dyn_plan.proofs.ExprShown.{Claim}
use Rattle.dyn_plan.proofs.FormShown.{each_at}

-- ## what is shown

-- where a value is wanted, a return without one leaves the scope
abbrev pub exit_wanted : Bool → Exit → Exit
exit_wanted false e = e
exit_wanted true (Goes locals m) = Goes locals m
exit_wanted true (Returns (Some v) m) = Returns (Some v) m
exit_wanted true (Returns None m) = Stops
exit_wanted true (Raises m) = Raises m
exit_wanted true Stops = Stops

-- the result has the value, where there is one
abbrev pub ResultIs : ℕ → Option Value → DynState → Type 0
ResultIs x (Some v) s = var_at s.vars x ≡ v
ResultIs x None s = Unit {0}

pub record HasReturned (start : ℕ) (f : Spots) (s : DynState) (v : Option Value) (m : Memory) (t : DynState) : Type 0 where
  pub memory : Remembers m t
  pub done : var_at t.vars f.done ≡ Flag true
  pub thrown : var_at t.vars f.thrown ≡ Flag false
  pub result : ResultIs f.result v t
  pub kept : IsKept start s t

-- a frame whose locals have these values
abbrev pub with_locals : Frame → List Value → Frame
with_locals fr locals = record fr { locals = locals }

-- the steps lead where the statement does: to a state that is ready with its locals; to one that has returned or thrown,
-- which may be only where that is said; or nowhere
abbrev pub Ended : Ground → Bool → Bool → ℕ → Spots → Frame → DynState → Exit → Option DynState → Type 0
Ended g throws returns start f fr s (Goes locals m) (Some t) = IsReady g f (with_locals fr locals) m t × IsKept start s t
Ended g throws returns start f fr s (Goes locals m) None = ⊥
Ended g throws returns start f fr s (Returns v m) (Some t) = (returns ≡ true) × HasReturned start f s v m t
Ended g throws returns start f fr s (Returns v m) None = ⊥
Ended g throws returns start f fr s (Raises m) (Some t) = (throws ≡ true) × HasThrown start f s m t
Ended g throws returns start f fr s (Raises m) None = ⊥
Ended g throws returns start f fr s Stops (Some t) = ⊥
Ended g throws returns start f fr s Stops None = Unit {0}

-- the lowered statement shows what the statement does, from every ready state
pub record StmtClaim (p : Posed) (n : ℕ) (g : Ground) (lay : Lay) (body : Body) : Type 0 where
  pub shows : (start : ℕ) (f : Spots) (s : DynState) (fr : Frame) (m : Memory) → IsFrame g start f → IsReady g f fr m s
      → Ended g (lay f).throws (lay f).returns start f fr s (exit_wanted f.wanted (body fr m)) (go p n (lay f).steps s)

-- ## putting together

pub ended_from : (g : Ground) (t r : Bool) (start : ℕ) (f : Spots) (fr : Frame) (s u : DynState) (e : Exit) (o : Option DynState) → IsKept start s u → Ended g t r start f fr u e o
    → Ended g t r start f fr s e o
ended_from g t r start f fr s u (Goes locals m) (Some q) kept ended = (ended.0, λ z low. ended.1 z low ∙ kept z low)
ended_from g t r start f fr s u (Goes locals m) None kept ended = absurd ended
ended_from g t r start f fr s u (Returns v m)
    (Some q) kept ended = (
      ended.0,
      record {
        memory = ended.1.memory;
        done = ended.1.done;
        thrown = ended.1.thrown;
        result = ended.1.result;
        kept = λ z low. ended.1.kept z low
            ∙ kept z low;
      },
    )
ended_from g t r start f fr s u (Returns v m) None kept ended = absurd ended
ended_from g t r start f fr s u (Raises m)
    (Some q) kept ended = (ended.0, record { memory = ended.1.memory; done = ended.1.done; thrown = ended.1.thrown; kept = λ z low. ended.1.kept z low ∙ kept z low })
ended_from g t r start f fr s u (Raises m) None kept ended = absurd ended
ended_from g t r start f fr s u Stops (Some q) kept ended = absurd ended
ended_from g t r start f fr s u Stops None kept ended = tt

pub ended_weaker : (g : Ground) (t r u w : Bool) (start : ℕ) (f : Spots) (fr : Frame) (s : DynState) (e : Exit) (o : Option DynState) → (t ≡ true → u ≡ true)
    → (r ≡ true → w ≡ true) → Ended g t r start f fr s e o → Ended g u w start f fr s e o
ended_weaker g t r u w start f fr s (Goes locals m) (Some q) more again ended = ended
ended_weaker g t r u w start f fr s (Goes locals m) None more again ended = absurd ended
ended_weaker g t r u w start f fr s (Returns v m) (Some q) more again ended = (again ended.0, ended.1)
ended_weaker g t r u w start f fr s (Returns v m) None more again ended = absurd ended
ended_weaker g t r u w start f fr s (Raises m) (Some q) more again ended = (more ended.0, ended.1)
ended_weaker g t r u w start f fr s (Raises m) None more again ended = absurd ended
ended_weaker g t r u w start f fr s Stops (Some q) more again ended = absurd ended
ended_weaker g t r u w start f fr s Stops None more again ended = tt

pub ends_nowhere : (p : Posed) (n : ℕ) (g : Ground) (t r : Bool) (start : ℕ) (f : Spots) (fr : Frame) (s u : DynState) → Ended g t r start f fr s Stops (go p n (l.Fail ∷ []) u)
ends_nowhere p n g t r start f fr s u = subst (Ended g t r start f fr s Stops) (sym (go_one p n l.Fail u ∙ next_fail p n u)) tt

pub wanted_after : (w : Bool) {A : Type 0} (e : Ends A) (k : A → Memory → Exit) → after e (λ a m. exit_wanted w (k a m)) ≡ exit_wanted w (after e k)
wanted_after w (Gives a m) k = refl
wanted_after true (Throws m) k = refl
wanted_after false (Throws m) k = refl
wanted_after true Leaves k = refl
wanted_after false Leaves k = refl

pub wanted_goes : (w : Bool) (locals : List Value) (m : Memory) → exit_wanted w (Goes locals m) ≡ Goes locals m
wanted_goes true locals m = refl
wanted_goes false locals m = refl

pub wanted_stops : (w : Bool) → exit_wanted w Stops ≡ Stops
wanted_stops true = refl
wanted_stops false = refl

-- an evaluation, and then steps that are left out where the frame is done
pub after_shows : (p : Posed) (n : ℕ) (g : Ground) (t u r : Bool) (start : ℕ) (f : Spots) (fr : Frame) (s w : DynState) {A : Type 0} (Q : A → Memory → DynState → Type 0)
    (e : Ends A) (k : A → Memory → Exit) (first rest : List Plan)
    → (t ≡ true → Skips p n f rest) → (t ≡ true → u ≡ true)
    → Shows t start f s Q e (go p n first w)
    → ((a : A) (m : Memory) (q : DynState) → Q a m q → Ended g u r start f fr s (k a m) (go p n rest q))
    → Ended g u r start f fr s (after e k) (go p n (first ++ rest) w)
after_shows p n g t u r start f fr s w {A} Q e k first rest skips more shows on =
    subst (Ended g u r start f fr s (after e k)) (sym (go_append p n first rest w)) (both e (go p n first w) shows)
  where
    both : (e : Ends A) (o : Option DynState) → Shows t start f s Q e o → Ended g u r start f fr s (after e k) (option_and_then (go p n rest) o)
    both (Gives a m) (Some q) shows = on a m q shows
    both (Gives a m) None shows = absurd shows
    both (Throws m) (Some q) shows = subst (Ended g u r start f fr s (Raises m)) (sym (skips shows.0 q shows.1.done)) (more shows.0, shows.1)
    both (Throws m) None shows = absurd shows
    both Leaves (Some q) shows = absurd shows
    both Leaves None shows = tt

-- an operand, and then what comes behind it
pub operand_does : (p : Posed) (n : ℕ) (g : Ground) (low : Low) (c : Code) (before t r : Bool) (start : ℕ) (f : Spots) (k : Kind) (b : ℕ) (s u : DynState) (fr : Frame)
    (m : Memory) (on : Value → Memory → Exit) (rest : List Plan)
    → Claim p n g low c → IsFrame g start f → f.base ≤ b → IsKept start s u → IsReady g f fr m u
    → ((low.low k f b).throws ≡ true → Skips p n f rest) → ((low.low k f b).throws ≡ true → t ≡ true)
    → ((v : Value) (h : Memory) (q : DynState) → HasGiven b (low.low k f b).place u v h q → IsReady g f fr h q → IsKept start s q
    → Ended g t r start f fr s (exit_wanted f.wanted (on v h)) (go p n rest q))
    → Ended g t r start f fr s (exit_wanted f.wanted (after (c fr m) on)) (go p n (guarded f before (low.low k f b).steps ++ rest) u)
operand_does p n g low c before t r start f k b s u fr m on rest claim frame above kept ready skips more further =
    subst (λ z. Ended g t r start f fr s z (go p n (guarded f before (low.low k f b).steps ++ rest) u)) (wanted_after f.wanted (c fr m) on)
    (after_shows p n g (low.low k f b).throws t r start f fr s u (HasGiven b (low.low k f b).place u) (c fr m) (λ v h. exit_wanted f.wanted (on v h))
    (guarded f before (low.low k f b).steps) rest skips more first
    (λ v h q given. further v h q given (ready_on g start b f fr m h u q frame above ready given.memory given.kept)
    (λ z below. given.kept z (let ordered = frame.flags.ordered in omega arith) ∙ kept z below)))
  where
    first : Shows (low.low k f b).throws start f s (HasGiven b (low.low k f b).place u) (c fr m) (go p n (guarded f before (low.low k f b).steps) u)
    first =
        subst (Shows (low.low k f b).throws start f s (HasGiven b (low.low k f b).place u) (c fr m)) (sym (guard_opens p n f before (low.low k f b).steps u ready.opened.done))
        (shows_from (low.low k f b).throws start start f s u (HasGiven b (low.low k f b).place u) (HasGiven b (low.low k f b).place u) (c fr m) (go p n (low.low k f b).steps u)
        (omega arith) kept (λ v h r given. given)
        (claim.shows start f k b u fr m frame above ready))

-- an evaluation that changes nothing below the free rows, after which the statement goes to its end
pub ended_all : (g : Ground) (t : Bool) (start : ℕ) (f : Spots) (fr : Frame) (s : DynState) {A : Type 0} (Q : A → Memory → DynState → Type 0) (e : Ends A) (o : Option DynState)
    → ((a : A) (m : Memory) (q : DynState) → Q a m q → IsReady g f fr m q × IsKept start s q) → Shows t start f s Q e o
    → Ended g t false start f fr s (exit_wanted f.wanted (after e (λ z. Goes fr.locals))) o
ended_all g t start f fr s {A} Q e o holds shows = subst (λ z. Ended g t false start f fr s z o) (wanted_after f.wanted e (λ z. Goes fr.locals)) (by e o shows)
  where
    by : (e : Ends A) (o : Option DynState) → Shows t start f s Q e o → Ended g t false start f fr s (after e (λ z m. exit_wanted f.wanted (Goes fr.locals m))) o
    by (Gives a m) (Some q) shows = subst (λ z. Ended g t false start f fr s z (Some q)) (sym (wanted_goes f.wanted fr.locals m)) (holds a m q shows)
    by (Gives a m) None shows = absurd shows
    by (Throws m) (Some q) shows = shows
    by (Throws m) None shows = absurd shows
    by Leaves (Some q) shows = absurd shows
    by Leaves None shows = tt

-- ## locals

-- one of these variables is set
set_one : (xs : List ℕ) (i y : ℕ) (vars : List Value) (v : Value) → Rising xs → slice_get xs i ≡ Some y → map (var_at (with_var vars y v)) xs ≡ slice_set (map (var_at vars) xs) i v
set_one [] i y vars v rising at = absurd (none_some at)
set_one (x ∷ xs) zero y vars v rising at =
    let same : x ≡ y = some_same at in
    rw (ap (λ z. var_at (with_var vars z v) x) (sym same) ∙ var_set vars x v, others y xs (subst (λ z. Each (λ w. z < w) xs) same rising.0)) refl
  where
    others : (y : ℕ) (xs : List ℕ) → Each (λ w. y < w) xs → map (var_at (with_var vars y v)) xs ≡ map (var_at vars) xs
    others y [] each = refl
    others y (z ∷ zs) each = rw (var_apart vars y v z (λ same. let below = each.0 in omega arith), others y zs each.1) refl
set_one (x ∷ xs) (suc i) y vars v rising at =
    let below = each_at (λ w. x < w) xs i y rising.0 at in
    rw (var_apart vars y v x (λ same. omega arith), set_one xs i y vars v rising.1 at) refl

in_range : (h : ℕ → Value) (xs : List ℕ) (i : ℕ) → nat_lt i (length (map h xs)) ≡ is_some (slice_get xs i)
in_range h [] i = grind (arith, nat_tests)
in_range h (x ∷ xs) zero = grind (arith, nat_tests)
in_range h (x ∷ xs) (suc i) = shift i (length (map h xs)) ∙ in_range h xs i
  where
    shift : (i k : ℕ) → nat_lt (suc i) (suc k) ≡ nat_lt i k
    shift i k = grind (arith, nat_tests)

-- a state that is ready with one local set
pub local_set : (p : Posed) (n : ℕ) (g : Ground) (start : ℕ) (f : Spots) (fr : Frame) (m : Memory) (s : DynState) (i y : ℕ) (v : Value) → IsFrame g start f → IsReady g f fr m s
    → slice_get f.locals i ≡ Some y
    → IsReady g f (with_locals fr (slice_set fr.locals i v)) m (set y v s) × IsKept start s (set y v s)
local_set p n g start f fr m s i y v frame ready at =
    let here = each_at (λ y. (start ≤ y) × (y < f.base) × (y ≡ f.done → ⊥) × (y ≡ f.thrown → ⊥) × (y ≡ f.result → ⊥)) f.locals i y frame.locals at in
    let kept : IsKept start s (set y v s) = kept_set start y v s here.0 in (
      record {
        opened = record {
          memory = ready.opened.memory;
          done = var_apart s.vars y v f.done (λ same. here.2 (sym same)) ∙ ready.opened.done;
          thrown = var_apart s.vars y v f.thrown (λ same. here.3 (sym same)) ∙ ready.opened.thrown;
          still = stands_on g start s (set y v s) frame.flags.still kept ready.opened.still;
        };
        this = this_on start s (set y v s) f.this fr.this frame.this_below kept ready.this;
        locals = set_one f.locals i y s.vars v frame.rising at ∙ ap (λ vs. slice_set vs i v) ready.locals;
        result = var_apart s.vars y v f.result (λ same. here.4 (sym same)) ∙ ready.result;
      },
      kept,
    )

-- a local is set, where it is there
pub set_local_is : (h : ℕ → Value) (xs : List ℕ) (fr : Frame) (i : ℕ) (v : Value) (m : Memory) (t : Bool) → map h xs ≡ fr.locals → is_some (slice_get xs i) ≡ t
    → set_local fr i v m ≡ (if t then Goes (slice_set fr.locals i v) m else Stops)
set_local_is h xs fr i v m t same is = ap (λ b. if b then Goes (slice_set fr.locals i v) m else Stops) (ap (λ vs. nat_lt i (length vs)) (sym same) ∙ in_range h xs i ∙ is)

pub set_shows : (p : Posed) (n : ℕ) (g : Ground) (t : Bool) (start : ℕ) (f : Spots) (fr : Frame) (m : Memory) (s u : DynState) (i x : ℕ) (v : Value) → IsFrame g start f
    → IsReady g f fr m u → IsKept start s u → var_at u.vars x ≡ v
    → Ended g t false start f fr s (exit_wanted f.wanted (set_local fr i v m)) (go p n (set_to (slice_get f.locals i) x) u)
set_shows p n g t start f fr m s u i x v frame ready kept value = by (slice_get f.locals i) refl
  where
    by : (o : Option ℕ) → slice_get f.locals i ≡ o → Ended g t false start f fr s (exit_wanted f.wanted (set_local fr i v m)) (go p n (set_to o x) u)
    by (Some y) at =
        let both = local_set p n g start f fr m u i y v frame ready at in
        rw (
          set_local_is (var_at u.vars) f.locals fr i v m true ready.locals (ap is_some at),
          wanted_goes f.wanted (slice_set fr.locals i v) m,
          go_one p n (l.Do (Copy y x)) u,
          next_do p n (Copy y x) u,
          value,
        )
        (both.0, λ z low. both.1 z low ∙ kept z low)
    by None at =
        rw (set_local_is (var_at u.vars) f.locals fr i v m false ready.locals (ap is_some at), wanted_stops f.wanted)
        (ends_nowhere p n g t false start f fr s u)
