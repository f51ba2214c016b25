-- How a run goes on from what its machine has come to: what each thing that waits makes of what comes.
use Rattle.std.specs.Prelude.{ℕ, zero, suc, Bool, true, false, if◌then◌else◌, List, [], ◌∷◌, ◌++◌, map, fold, Option, Some, None, option_map, option_and_then}
use Rattle.taco_unit.specs.declared.expr.Expr.{Expr}
use Rattle.taco_unit.specs.declared.stmt.Stmt.{Stmt}
use Rattle.taco_unit.specs.declared.unit.MethodDef.{MethodDef}
use Rattle.heap_core.specs.declared.value.Value.{Value}
use Rattle.heap_core.specs.declared.value.Value.TheVariants.{Flag}
use Rattle.heap_core.specs.Posed.{Posed}
use Rattle.heap_core.specs.Outcomes.{zero_of, opposite, negative, operated}
use Rattle.heap_core.specs.Exec.{Memory, Ends, Gives, Throws, Leaves, Exit, Goes, Returns, Raises, Stops, Frame, Code, Body, then_with, ends_as, on_test, on_object, read, write, combined, in_order, entered, code, after, on_branch, then_body, in_turn, set_local, step_field, turns, exec, calls}
use Rattle.heap_core.specs.Start.{method_of}
use Rattle.heap_run.specs.declared.machine.Activation.{Activation}
use Rattle.heap_run.specs.declared.machine.Wait.{Wait}
use Rattle.heap_run.specs.declared.machine.Wait.TheVariants as w

-- how a whole run ends
abbrev pub Whole : Type 0
Whole = Ends (Option Value)

-- the receiver and the locals of a method that runs
abbrev pub frame_of : Activation → Frame
frame_of a = record { this = a.this; locals = a.locals }

-- what code and statements do in a method that runs
abbrev pub coded : Posed → Activation → Expr → Code
coded p a = code p (calls p a.left)

abbrev pub done : Posed → Activation → Stmt → Body
done p a = exec p (calls p a.left)

-- how a run goes on from a value, from the end of a statement, and from a `return`
pub record Onward : Type 0 where
  pub value : Activation → Value → Memory → Whole
  pub ended : Activation → Memory → Whole
  pub returned : Option Value → Memory → Whole

-- on from where a statement ends
abbrev pub exits : Onward → Activation → Exit → Whole
exits on a (Goes locals m) = on.ended (record a { locals = locals }) m
exits on a (Returns v m) = on.returned v m
exits on a (Raises m) = Throws m
exits on a Stops = Leaves

-- on from what a call gives, to the method that made it: it wants its value, or not
abbrev pub given_back : Onward → Activation → Bool → Option Value → Memory → Whole
given_back on a false r m = on.ended a m
given_back on a true (Some v) m = on.value a v m
given_back on a true None m = Leaves

-- a call of which the target and these arguments are known
abbrev pub arguments : Posed → Onward → Activation → ℕ → Option Value → List Value → List Expr → Bool → Memory → Whole
arguments p on a method target known rest wanted m =
    then_with (in_order (map (coded p a) rest) (frame_of a) m)
    (λ vs l. then_with (entered (calls p a.left) method target (known ++ vs) l) (given_back on a wanted))

-- the first operand is known
abbrev pub known : Value → Code
known v fr m = Gives v m

-- a loop, where the value of its test is known
abbrev pub turned : Posed → Activation → ℕ → Expr → Stmt → Bool → Memory → Exit
turned p a n test body false m = Goes a.locals m
turned p a zero test body true m = Stops
turned p a (suc n) test body true m =
    then_body (done p a body (frame_of a) m) (frame_of a) (turns n (coded p a test) (done p a body))

-- what waits for a value, and what for the end of a statement; a value that comes where none is waited
-- for, which the forms of code rule out, leaves the scope
abbrev pub on_value : Onward → (Activation → Value → Memory → Whole) → Onward
on_value on k = record { value = k; ended = λ a m. Leaves; returned = on.returned }

abbrev pub on_end : Onward → (Activation → Memory → Whole) → Onward
on_end on k = record { value = λ a v m. Leaves; ended = k; returned = on.returned }

-- how a run goes on where this waits before all that waited
abbrev pub onward : Posed → Onward → Wait → Onward
onward p on (w.Read f) = on_value on (λ a v m. then_with (on_object (read p f) v m) (on.value a))
onward p on w.Neg = on_value on (λ a v m. then_with (ends_as m (negative p.scope.ints v)) (on.value a))
onward p on w.Not = on_value on (λ a v m. then_with (ends_as m (opposite v)) (on.value a))
onward p on (w.Right o b) =
    on_value on (λ a v m. then_with (combined o p.scope.ints (known v) (coded p a b.now) (frame_of a) m) (on.value a))
onward p on (w.Apply o v) = on_value on (λ a u m. then_with (ends_as m (operated o p.scope.ints v u)) (on.value a))
onward p on w.Truth = on_value on (λ a v m. then_with (on_test (λ b n. Gives (Flag b) n) v m) (on.value a))
onward p on (w.Target method rest wanted) =
    on_value on (λ a v m. arguments p on a method (Some v) [] rest.now wanted m)
onward p on (w.Argument method target args rest wanted) =
    on_value on (λ a v m. arguments p on a method target (args ++ v ∷ []) rest.now wanted m)
onward p on (w.Set i) = on_value on (λ a v m. exits on a (set_local (frame_of a) i v m))
onward p on (w.Write f b) =
    on_value on (λ a v m. exits on a (after (coded p a b.now (frame_of a) m) (λ u l. after (on_object (λ o. write p f o u) v l) (λ z. Goes a.locals))))
onward p on (w.Store f v) =
    on_value on (λ a u m. exits on a (after (on_object (λ o. write p f o u) v m) (λ z. Goes a.locals)))
onward p on (w.Step f up) = on_value on (λ a v m. exits on a (after (on_object (step_field p f up) v m) (λ z. Goes a.locals)))
onward p on (w.Branch s t) =
    on_value on (λ a v m. exits on a (on_branch (λ b n. if b then done p a s.now (frame_of a) n else done p a t.now (frame_of a) n) v m))
onward p on (w.Turn n test body) = on_value on (λ a v m. exits on a (on_branch (turned p a n test.now body.now) v m))
onward p on w.Return = on_value on (λ a v m. on.returned (Some v) m)
onward p on (w.Rest ss) = on_end on (λ a m. exits on a (in_turn (map (done p a) ss.now) (frame_of a) m))
onward p on (w.Again n test body) =
    on_end on (λ a m. exits on a (turns n (coded p a test.now) (done p a body.now) (frame_of a) m))
onward p on (w.Caller caller otherwise wanted) = record {
  value = λ a v m. Leaves;
  ended = λ a m. given_back on caller wanted otherwise m;
  returned = given_back on caller wanted;
}

-- what a method gives that goes to its end
abbrev pub otherwise_of : MethodDef → Option Value
otherwise_of d = option_map (λ r. zero_of r.0) d.result

-- where nothing waits, the run ends
abbrev pub last : Posed → Onward
last p = record {
  value = λ a v m. Leaves;
  ended = λ a m. Gives (option_and_then otherwise_of (method_of p)) m;
  returned = Gives;
}

-- how a run goes on where all these wait, the latest last
abbrev pub all_onward : Posed → List Wait → Onward
all_onward p = fold (onward p) (last p)
