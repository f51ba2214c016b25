-- How ends of evaluations and of statements are joined.
use Rattle.std.proofs.Common.{◌≡◌, ℕ, zero, suc, Bool, true, false, List, [], ◌∷◌, ◌++◌, Option, Some, None, refl, ap, append_assoc, Bor}
use Rattle.std.specs.Prelude.{if◌then◌else◌}
use Rattle.taco_unit.specs.declared.expr.Op.{Op}
use Rattle.taco_unit.specs.declared.expr.Op.TheVariants as op
use Rattle.taco_unit.specs.declared.expr.Expr.{Expr}
use Rattle.taco_unit.specs.declared.stmt.Stmt.{Stmt}
use Rattle.taco_unit.specs.declared.unit.MethodDef.{MethodDef}
use Rattle.heap_core.specs.declared.value.Value.{Value}
use Rattle.heap_core.specs.declared.value.Value.TheVariants.{Null, Obj, Num, Flag}
use Rattle.heap_core.specs.Posed.{Posed}
use Rattle.heap_core.specs.Outcomes.{operated}
use Rattle.heap_core.specs.Exec.{Memory, Ends, Gives, Throws, Leaves, Exit, Goes, Returns, Raises, Stops, Frame, Code, then_with, ends_as, on_test, as_test, gives_in, combined, after, on_branch, then_body, turns, returned}
use Rattle.heap_run.specs.declared.machine.Activation.{Activation}
use Rattle.heap_run.specs.declared.machine.Wait.TheVariants as w
use Rattle.heap_run.specs.Onward.{Whole, Onward, frame_of, coded, done, exits, given_back, known, turned, onward, otherwise_of}

pub then_then : {A B C : Type 0} (x : Ends A) (f : A → Memory → Ends B) (g : B → Memory → Ends C) → then_with (then_with x f) g ≡ then_with x (λ a m. then_with (f a m) g)
then_then (Gives a m) f g = refl
then_then (Throws m) f g = refl
then_then Leaves f g = refl

pub combined_then : {C : Type 0} (o : Op) (i : ℕ) (a b : Code) (fr : Frame) (m : Memory) (g : Value → Memory → Ends C) → then_with (combined o i a b fr m) g ≡ then_with (a fr m) (λ v n. then_with (combined o i (known v) b fr n) g)
combined_then op.And i a b fr m g = then_then (a fr m) (on_test (λ x n. if x then as_test (b fr n) else Gives (Flag false) n)) g
combined_then op.Or i a b fr m g = then_then (a fr m) (on_test (λ x n. if x then Gives (Flag true) n else as_test (b fr n))) g
combined_then o i a b fr m g = then_then (a fr m) (λ x n. then_with (b fr n) (λ y l. ends_as l (operated o i x y))) g

-- the target of a call, then its arguments, then the method
pub target_then : (x : Ends Value) (f : Memory → Ends (List Value)) (h : Option Value → List Value → Memory → Ends (Option Value)) (g : Option Value → Memory → Whole) → then_with (then_with (then_with x (λ v n. Gives (Some v) n)) (λ this n. then_with (f n) (λ vs l. h this vs l))) g ≡ then_with x (λ v n. then_with (f n) (λ vs l. then_with (h (Some v) vs l) g))
target_then (Gives v m) f h g = then_then (f m) (λ vs l. h (Some v) vs l) g
target_then (Throws m) f h g = refl
target_then Leaves f h g = refl

-- the first argument, then the others
one_more : (y : Ends (List Value)) (v : Value) (front : List Value) (h : List Value → Memory → Whole) → then_with (then_with y (λ vs l. Gives (v ∷ vs) l)) (λ vs l. h (front ++ vs) l) ≡ then_with y (λ vs l. h ((front ++ v ∷ []) ++ vs) l)
one_more (Gives vs l) v front h = rw (append_assoc front (v ∷ []) vs) refl
one_more (Throws m) v front h = refl
one_more Leaves v front h = refl

pub argument_then : (x : Ends Value) (f : Memory → Ends (List Value)) (front : List Value) (h : List Value → Memory → Whole) → then_with (then_with x (λ v n. then_with (f n) (λ vs l. Gives (v ∷ vs) l))) (λ vs l. h (front ++ vs) l) ≡ then_with x (λ v n. then_with (f n) (λ vs l. h ((front ++ v ∷ []) ++ vs) l))
argument_then (Gives v m) f front h = one_more (f m) v front h
argument_then (Throws m) f front h = refl
argument_then Leaves f front h = refl

-- a call whose value is wanted; one that is a statement
pub wanted_then : (on : Onward) (a : Activation) (x : Ends (Option Value)) → then_with x (given_back on a true) ≡ then_with (then_with x gives_in) (on.value a)
wanted_then on a (Gives (Some v) m) = refl
wanted_then on a (Gives None m) = refl
wanted_then on a (Throws m) = refl
wanted_then on a Leaves = refl

pub unwanted_then : (on : Onward) (a : Activation) (x : Ends (Option Value)) → then_with x (given_back on a false) ≡ exits on a (after x (λ v. Goes a.locals))
unwanted_then on a (Gives v m) = refl
unwanted_then on a (Throws m) = refl
unwanted_then on a Leaves = refl

pub exits_after : {A : Type 0} (on : Onward) (a : Activation) (x : Ends A) (k : A → Memory → Exit) → then_with x (λ v n. exits on a (k v n)) ≡ exits on a (after x k)
exits_after on a (Gives v m) k = refl
exits_after on a (Throws m) k = refl
exits_after on a Leaves k = refl

-- only the locals at the end of a statement count
exits_from : (on : Onward) (a : Activation) (ls : List Value) (x : Exit) → exits on (record a { locals = ls }) x ≡ exits on a x
exits_from on a ls (Goes ks m) = refl
exits_from on a ls (Returns v m) = refl
exits_from on a ls (Raises m) = refl
exits_from on a ls Stops = refl

-- the body of a loop, then the turns that are left
pub exits_again : (p : Posed) (on : Onward) (a : Activation) (n : ℕ) (test : Bor Expr) (body : Bor Stmt) (x : Exit) → exits (onward p on (w.Again n test body)) a x ≡ exits on a (then_body x (frame_of a) (turns n (coded p a test.now) (done p a body.now)))
exits_again p on a n test body (Goes ls m) =
    exits_from on a ls (turns n (coded p a test.now) (done p a body.now) (frame_of (record a { locals = ls })) m)
exits_again p on a n test body (Returns v m) = refl
exits_again p on a n test body (Raises m) = refl
exits_again p on a n test body Stops = refl

-- the body of a called method, then the method that called it
pub exits_called : (p : Posed) (on : Onward) (caller : Activation) (d : MethodDef) (wanted : Bool) (a : Activation) (x : Exit) → exits (onward p on (w.Caller caller (otherwise_of d) wanted)) a x ≡ then_with (returned d x) (given_back on caller wanted)
exits_called p on caller d wanted a (Goes ls m) = refl
exits_called p on caller d wanted a (Returns v m) = refl
exits_called p on caller d wanted a (Raises m) = refl
exits_called p on caller d wanted a Stops = refl

-- the test of a loop, then what it says
branches : (on : Onward) (a : Activation) (x : Ends Value) (j k : Bool → Memory → Exit) → ((m : Memory) → j true m ≡ k true m) → ((m : Memory) → j false m ≡ k false m) → then_with x (λ v n. exits on a (on_branch j v n)) ≡ exits on a (after x (on_branch k))
branches on a (Gives (Flag true) m) j k yes_ no_ = ap (exits on a) (yes_ m)
branches on a (Gives (Flag false) m) j k yes_ no_ = ap (exits on a) (no_ m)
branches on a (Gives Null m) j k yes_ no_ = refl
branches on a (Gives (Obj o) m) j k yes_ no_ = refl
branches on a (Gives (Num z) m) j k yes_ no_ = refl
branches on a (Throws m) j k yes_ no_ = refl
branches on a Leaves j k yes_ no_ = refl

pub turns_first : (p : Posed) (on : Onward) (a : Activation) (n : ℕ) (test : Expr) (body : Stmt) (m : Memory) → then_with (coded p a test (frame_of a) m) (λ v l. exits on a (on_branch (turned p a n test body) v l)) ≡ exits on a (turns n (coded p a test) (done p a body) (frame_of a) m)
turns_first p on a zero test body m =
    branches on a (coded p a test (frame_of a) m) (turned p a zero test body) (λ b n. if b then Stops else Goes a.locals n) (λ n. refl) (λ n. refl)
turns_first p on a (suc k) test body m =
    branches on a (coded p a test (frame_of a) m) (turned p a (suc k) test body) (λ b n. if b then then_body (done p a body (frame_of a) n) (frame_of a) (turns k (coded p a test) (done p a body)) else Goes a.locals n) (λ n. refl) (λ n. refl)
