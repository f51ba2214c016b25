-- What a statement does.
--
-- The order of evaluation is Java's (Java Language Specification, "Evaluation Order", "Assignment
-- Operators", "Run-Time Evaluation of Method Invocation", "Blocks, Statements, and Patterns"). This
-- project's own is that a run ends where a number leaves its width, a loop has more turns than the scope
-- has, a call is nested deeper, or a heap has no room for a new object: it leaves the scope. What the
-- kinds of a well unit rule out leaves it too; only null throws.
use Rattle.std.specs.Prelude.{ℕ, zero, suc, pos, Bool, true, false, nat_lt, if◌then◌else◌, List, [], ◌∷◌, ◌++◌, length, map, slice_get, slice_set, Option, Some, None, option_map, option_and_then}
use Rattle.taco_unit.specs.declared.expr.Op.{Op}
use Rattle.taco_unit.specs.declared.expr.Op.TheVariants as op
use Rattle.taco_unit.specs.declared.expr.Expr.{Expr, fold-Expr}
use Rattle.taco_unit.specs.declared.expr.Call.{Call, fold-Call}
use Rattle.taco_unit.specs.declared.expr.Expr.TheOpen.{Expr-F, Call-F}
use Rattle.taco_unit.specs.declared.stmt.Stmt.{Stmt, fold-Stmt}
use Rattle.taco_unit.specs.declared.stmt.Stmt.TheOpen.{Stmt-F}
use Rattle.taco_unit.specs.declared.unit.MethodDef.{MethodDef}
use Rattle.heap_core.specs.declared.value.Value.{Value}
use Rattle.heap_core.specs.declared.value.Value.TheVariants.{Null, Obj, Num, Flag}
use Rattle.heap_core.specs.declared.value.Seen.{Seen}
use Rattle.heap_core.specs.declared.value.Seen.TheVariants.{Is, Bad, Out}
use Rattle.heap_core.specs.Posed.{Posed}
use Rattle.heap_core.specs.Outcomes.{number, zero_of, opposite, negative, operated}
use Rattle.heap_core.specs.Heap.{Heap, cell, put, grown}

-- what a run changes besides the locals
pub record Memory : Type 0 where
  pub heap : Heap

-- the memory in which a run begins: this heap, and nothing else was done so far
abbrev pub memory_of : Heap → Memory
memory_of heap = record { heap = heap }

-- how an evaluation in code ends: it gives what it is evaluated for, it throws NullPointerException, or
-- it leaves the scope (Out)
pub data Ends (A : Type 0) : Type 0 where
  Gives : A → Memory → Ends A
  Throws : Memory → Ends A
  Leaves : Ends A

-- how a statement ends: it goes to its end, with these locals; it returns, with a value or without one;
-- it throws; or it leaves the scope (Out)
pub data Exit : Type 0 where
  Goes : List Value → Memory → Exit
  Returns : Option Value → Memory → Exit
  Raises : Memory → Exit
  Stops : Exit

-- the receiver and the locals of a method that runs, parameters first
pub record Frame : Type 0 where
  pub this : Value
  pub locals : List Value

-- an expression of code; a statement; the method of this number, called on a receiver with arguments
abbrev pub Code : Type 0
Code = Frame → Memory → Ends Value

abbrev pub Body : Type 0
Body = Frame → Memory → Exit

abbrev pub Run : Type 0
Run = ℕ → Value → List Value → Memory → Ends (Option Value)

-- on from what an evaluation gives
abbrev pub then_with : {A B : Type 0} → Ends A → (A → Memory → Ends B) → Ends B
then_with (Gives a m) k = k a m
then_with (Throws m) k = Throws m
then_with Leaves k = Leaves

-- how code ends where a clause would evaluate to this: a Bad operand throws at once
abbrev pub ends_as : Memory → Seen → Ends Value
ends_as m (Is v) = Gives v m
ends_as m Bad = Throws m
ends_as m Out = Leaves

-- on from a truth value
abbrev pub on_test : {B : Type 0} → (Bool → Memory → Ends B) → Value → Memory → Ends B
on_test k (Flag b) m = k b m
on_test k _ m = Leaves

abbrev pub then_test : {B : Type 0} → Ends Value → (Bool → Memory → Ends B) → Ends B
then_test a k = then_with a (on_test k)

-- the same truth value, where it is one
abbrev pub as_test : Ends Value → Ends Value
as_test a = then_test a (λ b m. Gives (Flag b) m)

-- on from an object: null throws
abbrev pub on_object : {B : Type 0} → (ℕ → Memory → Ends B) → Value → Memory → Ends B
on_object k (Obj o) m = k o m
on_object k Null m = Throws m
on_object k _ m = Leaves

-- a value that may be missing; what the kinds rule out leaves the scope
abbrev pub gives_in : Option Value → Memory → Ends Value
gives_in (Some v) m = Gives v m
gives_in None m = Leaves

-- the value of a field of this object
abbrev pub read : Posed → ℕ → ℕ → Memory → Ends Value
read p f o m = gives_in (option_and_then (cell p.unit.classes f) (slice_get m.heap o)) m

-- a heap that may be missing, in place of the one before
abbrev pub with_heap : {A : Type 0} → A → Option Heap → Memory → Ends A
with_heap a (Some h) m = Gives a (record m { heap = h })
with_heap a None m = Leaves

-- a field of this object is set
abbrev pub write : Posed → ℕ → ℕ → Value → Memory → Ends (Unit {0})
write p f o v m = with_heap tt (put p.unit.classes m.heap f o v) m

-- `new`: the object has the next number
abbrev pub make : Posed → ℕ → Memory → Ends Value
make p class m = with_heap (Obj (length m.heap)) (grown p m.heap class) m

-- what two operands make; `&&` and `||` evaluate the right one only where it decides
abbrev pub combined : Op → ℕ → Code → Code → Code
combined op.And w a b fr m = then_test (a fr m) (λ x n. if x then as_test (b fr n) else Gives (Flag false) n)
combined op.Or w a b fr m = then_test (a fr m) (λ x n. if x then Gives (Flag true) n else as_test (b fr n))
combined o w a b fr m = then_with (a fr m) (λ x n. then_with (b fr n) (λ y l. ends_as l (operated o w x y)))

-- the arguments of a call, from left to right
abbrev pub in_order : List Code → Frame → Memory → Ends (List Value)
in_order [] fr m = Gives [] m
in_order (a ∷ as_) fr m = then_with (a fr m) (λ v n. then_with (in_order as_ fr n) (λ vs l. Gives (v ∷ vs) l))

-- the target of a call; a static method has none
abbrev pub target_of : Option Code → Frame → Memory → Ends (Option Value)
target_of None fr m = Gives None m
target_of (Some a) fr m = then_with (a fr m) (λ v n. Gives (Some v) n)

-- the method is run, after its target was tested for null
abbrev pub entered : Run → ℕ → Option Value → List Value → Memory → Ends (Option Value)
entered run method None args m = run method Null args m
entered run method (Some v) args m = on_object (λ o n. run method (Obj o) args n) v m

-- a call: its target, then its arguments, then the test for null, then the method
abbrev pub called : Run → Call-F Code (Frame → Memory → Ends (Option Value)) (Unit {0}) (Unit {0}) → Frame → Memory → Ends (Option Value)
called run c fr m =
    then_with (target_of c.target fr m) (λ this n. then_with (in_order c.args fr n) (λ args l. entered run c.method this args l))

-- the value of an expression of code, by cases on its form; the forms of clauses do not stand in code
abbrev pub step_code : Posed → Expr-F Code (Frame → Memory → Ends (Option Value)) (Unit {0}) (Unit {0}) → Code
step_code p (Expr-F.Num z) fr m = ends_as m (number p.scope.ints z)
step_code p (Expr-F.Flag b) fr m = Gives (Flag b) m
step_code p Expr-F.Null fr m = Gives Null m
step_code p Expr-F.This fr m = Gives fr.this m
step_code p Expr-F.Result fr m = Leaves
step_code p (Expr-F.Local i) fr m = gives_in (slice_get fr.locals i) m
step_code p (Expr-F.Bound i) fr m = Leaves
step_code p (Expr-F.Read a f) fr m = then_with (a fr m) (on_object (read p f))
step_code p (Expr-F.Neg a) fr m = then_with (a fr m) (λ v n. ends_as n (negative p.scope.ints v))
step_code p (Expr-F.Not a) fr m = then_with (a fr m) (λ v n. ends_as n (opposite v))
step_code p (Expr-F.Bin o a b) fr m = combined o p.scope.ints a b fr m
step_code p (Expr-F.Quant q) fr m = Leaves
step_code p (Expr-F.Old a) fr m = Leaves
step_code p (Expr-F.Has r a) fr m = Leaves
step_code p (Expr-F.Size r) fr m = Leaves
step_code p (Expr-F.New c) fr m = make p c m
step_code p (Expr-F.Call c) fr m = then_with (c fr m) gives_in

-- the value of an expression of code
abbrev pub code : Posed → Run → Expr → Code
code p run = fold-Expr Code (Frame → Memory → Ends (Option Value)) (Unit {0}) (Unit {0}) (step_code p) (called run) (λ q. tt) (λ r. tt)

-- a call as a statement: it may give no value
abbrev pub call_of : Posed → Run → Call → Frame → Memory → Ends (Option Value)
call_of p run = fold-Call Code (Frame → Memory → Ends (Option Value)) (Unit {0}) (Unit {0}) (step_code p) (called run) (λ q. tt) (λ r. tt)

-- a statement that evaluates and then goes on
abbrev pub after : {A : Type 0} → Ends A → (A → Memory → Exit) → Exit
after (Gives a m) k = k a m
after (Throws m) k = Raises m
after Leaves k = Stops

-- on from a truth value
abbrev pub on_branch : (Bool → Memory → Exit) → Value → Memory → Exit
on_branch k (Flag b) m = k b m
on_branch k _ m = Stops

abbrev pub after_test : Ends Value → (Bool → Memory → Exit) → Exit
after_test a k = after a (on_branch k)

-- on from where a statement goes to its end
abbrev pub then_do : Exit → (List Value → Memory → Exit) → Exit
then_do (Goes locals m) k = k locals m
then_do (Returns v m) k = Returns v m
then_do (Raises m) k = Raises m
then_do Stops k = Stops

-- one statement after the other
abbrev pub then_body : Exit → Frame → Body → Exit
then_body x fr s = then_do x (λ locals m. s (record fr { locals = locals }) m)

abbrev pub in_turn : List Body → Body
in_turn [] fr m = Goes fr.locals m
in_turn (s ∷ ss) fr m = then_body (s fr m) fr (in_turn ss)

-- a local is set
abbrev pub set_local : Frame → ℕ → Value → Memory → Exit
set_local fr i v m = if nat_lt i (length fr.locals) then Goes (slice_set fr.locals i v) m else Stops

-- one more, or one less
abbrev pub stepped : ℕ → Bool → Value → Memory → Ends Value
stepped w true v m = ends_as m (operated op.Add w v (Num (pos 1)))
stepped w false v m = ends_as m (operated op.Sub w v (Num (pos 1)))

-- `a.f++`: the object is evaluated once, and tested for null
abbrev pub step_field : Posed → ℕ → Bool → ℕ → Memory → Ends (Unit {0})
step_field p f up o m = then_with (read p f o m) (λ v n. then_with (stepped p.scope.ints up v n) (λ u l. write p f o u l))

-- a loop of at most n turns: where its test is true after them, it leaves the scope (this project's own)
abbrev pub turns : ℕ → Code → Body → Body
turns zero test s fr m = after_test (test fr m) (λ b n. if b then Stops else Goes fr.locals n)
turns (suc k) test s fr m = after_test (test fr m) (λ b n. if b then then_body (s fr n) fr (turns k test s) else Goes fr.locals n)

-- `return`
abbrev pub give_back : Option Code → Body
give_back None fr m = Returns None m
give_back (Some a) fr m = after (a fr m) (λ v n. Returns (Some v) n)

-- what a statement does, by cases on its form; of `a.f = e` the object is evaluated first, then the value,
-- and then the object is tested for null
abbrev pub step_stmt : Posed → Run → Stmt-F Body → Body
step_stmt p run (Stmt-F.Block parts) fr m = in_turn parts fr m
step_stmt p run (Stmt-F.Set i a) fr m = after (code p run a fr m) (set_local fr i)
step_stmt p run (Stmt-F.Write a f b) fr m =
    after (code p run a fr m) (λ v n. after (code p run b fr n) (λ u l. after (on_object (λ o. write p f o u) v l) (λ z. Goes fr.locals)))
step_stmt p run (Stmt-F.StepLocal i up) fr m =
    after (gives_in (slice_get fr.locals i) m) (λ v n. after (stepped p.scope.ints up v n) (set_local fr i))
step_stmt p run (Stmt-F.StepField a f up) fr m =
    after (code p run a fr m) (λ v n. after (on_object (step_field p f up) v n) (λ z. Goes fr.locals))
step_stmt p run (Stmt-F.If a s t) fr m = after_test (code p run a fr m) (λ b n. if b then s fr n else t fr n)
step_stmt p run (Stmt-F.While a s) fr m = turns p.scope.loops (code p run a) s fr m
step_stmt p run (Stmt-F.Return a) fr m = give_back (option_map (code p run) a) fr m
step_stmt p run (Stmt-F.Run c) fr m = after (call_of p run c fr m) (λ v. Goes fr.locals)

-- what a statement does, where calls do what `run` says
abbrev pub exec : Posed → Run → Stmt → Body
exec p run = fold-Stmt Body (step_stmt p run)

-- how a method ends: one with a result that goes to its end gives 0, false or null (this project's own)
abbrev pub returned : MethodDef → Exit → Ends (Option Value)
returned d (Goes locals m) = Gives (option_map (λ r. zero_of r.0) d.result) m
returned d (Returns v m) = Gives v m
returned d (Raises m) = Throws m
returned d Stops = Leaves

-- a method's body is run: behind the arguments, its locals begin with 0, false or null
abbrev pub run_body : Posed → Run → Option MethodDef → Value → List Value → Memory → Ends (Option Value)
run_body p run None this args m = Leaves
run_body p run (Some d) this args m = returned d (exec p run d.body (record { this = this; locals = args ++ map zero_of d.locals }) m)

-- calls that may be nested d deep: a deeper one leaves the scope (this project's own)
abbrev pub calls : Posed → ℕ → Run
calls p zero method this args m = Leaves
calls p (suc d) method this args m = run_body p (calls p d) (slice_get p.unit.methods method) this args m
