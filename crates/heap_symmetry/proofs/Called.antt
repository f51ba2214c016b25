-- Expressions of code, statements, methods and calls end alike under the new numbers.
use Rattle.std.proofs.Common.{◌≡◌, ℕ, zero, suc, Bool, true, false, cond, List, [], ◌∷◌, ◌++◌, length, map, Option, Some, None, refl, sym, ◌∙◌, ap, subst}
use Rattle.std.specs.Prelude.{slice_get, slice_set, option_map, nat_lt, ℤ, pos}
use Rattle.std.proofs.lemmas.List.{length-map, map-append}
use Rattle.std.proofs.lemmas.Option.{slice_get-map}
use Rattle.taco_unit.specs.declared.kind.Kind.{Kind}
use Rattle.taco_unit.specs.declared.unit.MethodDef.{MethodDef}
use Rattle.taco_unit.specs.declared.expr.Op.TheVariants as op
use Rattle.taco_unit.specs.declared.expr.Expr.{Expr, ind-Expr, roll-Expr, map-Expr}
use Rattle.taco_unit.specs.declared.expr.Expr.TheOpen.{Expr-F, Call-F}
use Rattle.taco_unit.specs.declared.expr.Quant.{Quant}
use Rattle.taco_unit.specs.declared.expr.Reach.{Reach}
use Rattle.taco_unit.specs.declared.expr.Call.{Call, out-Call, roll-Call, map-Call}
use Rattle.taco_unit.specs.declared.expr.Expr.TheVariants as e
use Rattle.taco_unit.specs.declared.stmt.Stmt.{Stmt, ind-Stmt, roll-Stmt, map-Stmt}
use Rattle.taco_unit.specs.declared.stmt.Stmt.TheOpen.{Stmt-F}
use Rattle.taco_unit.specs.declared.stmt.Stmt.TheVariants as s
use Rattle.heap_core.specs.declared.value.Value.{Value}
use Rattle.heap_core.specs.declared.value.Value.TheVariants.{Null, Obj, Num, Flag}
use Rattle.heap_core.specs.Posed.{Posed}
use Rattle.heap_core.specs.Outcomes.{number, opposite, negative, operated, zero_of}
use Rattle.heap_core.specs.Exec.{Memory, Ends, Gives, Exit, Goes, Returns, Raises, Stops, Frame, Code, Body, Run, then_with, ends_as, on_object, gives_in, read, write, in_order, target_of, entered, code, call_of, after, on_branch, after_test, then_do, then_body, in_turn, set_local, stepped, step_field, turns, give_back, exec, returned, run_body, calls}
use Rattle.heap_core.proofs.ExecForms.{code_num, code_flag, code_null, code_this, code_local, code_read, code_neg, code_not, code_bin, code_new, code_call, code_result, code_bound, code_quant, code_old, code_has, code_size, call_form, exec_block, exec_set, exec_write, exec_step_local, exec_step_field, exec_if, exec_while, exec_return, exec_run}
use Rattle.heap_symmetry.specs.Renaming.{IsNaming, value_as}
use Rattle.heap_symmetry.proofs.Evaluated.{operated_as, number_as, negative_as, opposite_as}
use Rattle.heap_symmetry.proofs.Coded.{SameMemory, SameEnds, gives, throws, leaves, frame_as, SameCode, then_same, seen_same, in_same, object_same, read_same, write_same, make_same, combined_same, nothing_as, zero_as, map-set}

abbrev pub returned_as : (ℕ → ℕ) → Option Value → Option Value
returned_as n = option_map (value_as n)

-- a call ends alike; a method does
record SameCalls (k : ℕ) (n : ℕ → ℕ) (c : Frame → Memory → Ends (Option Value)) : Type 0 where
  ends : (fr : Frame) (m m' : Memory) → SameMemory k n m m' → SameEnds k n (returned_as n) (c fr m) (c (frame_as n fr) m')

pub record SameRun (k : ℕ) (n : ℕ → ℕ) (run : Run) : Type 0 where
  pub ends : (method : ℕ) (this : Value) (args : List Value) (m m' : Memory) → SameMemory k n m m' → SameEnds k n (returned_as n) (run method this args m) (run method (value_as n this) (map (value_as n) args) m')

-- the same by equal forms
formed : {k : ℕ} {n : ℕ → ℕ} {A : Type 0} {as_ : A → A} {x x' y y' : Ends A} → x ≡ x' → y ≡ y' → SameEnds k n as_ x' y' → SameEnds k n as_ x y
formed {k} {n} {A} {as_} {x} {x'} {y} {y'} e f s = subst (λ z. SameEnds k n as_ z y) (sym e) (subst (λ z. SameEnds k n as_ x' z) (sym f) s)

-- ## expressions of code

number_same : {k : ℕ} {n : ℕ → ℕ} (w : ℕ) (z : ℤ) (m m' : Memory) → SameMemory k n m m' → SameEnds k n (value_as n) (ends_as m (number w z)) (ends_as m' (number w z))
number_same {k} {n} w z m m' s = subst (λ q. SameEnds k n (value_as n) (ends_as m (number w z)) (ends_as m' q)) (sym (number_as n w z)) (seen_same (number w z) m m' s)

read_code : {k : ℕ} {n : ℕ → ℕ} (p : Posed) (f : ℕ) (a : Code) → SameCode k n a → SameCode k n (λ fr m. then_with (a fr m) (on_object (read p f)))
read_code {k} {n} p f a sa = record { ends = λ fr m m' s. then_same (value_as n) (value_as n) (a fr m) (a (frame_as n fr) m') (sa.ends fr m m' s) (on_object (read p f)) (on_object (read p f)) (object_same (value_as n) (read p f) (read p f) (read_same p f)) }

neg_code : {k : ℕ} {n : ℕ → ℕ} (w : ℕ) (a : Code) → SameCode k n a → SameCode k n (λ fr m. then_with (a fr m) (λ v l. ends_as l (negative w v)))
neg_code {k} {n} w a sa = record { ends = λ fr m m' s. then_same (value_as n) (value_as n) (a fr m) (a (frame_as n fr) m') (sa.ends fr m m' s) (λ v l. ends_as l (negative w v)) (λ v l. ends_as l (negative w v)) (λ v l l' s'. subst (λ q. SameEnds k n (value_as n) (ends_as l (negative w v)) (ends_as l' q)) (sym (negative_as n w v)) (seen_same (negative w v) l l' s')) }

not_code : {k : ℕ} {n : ℕ → ℕ} (a : Code) → SameCode k n a → SameCode k n (λ fr m. then_with (a fr m) (λ v l. ends_as l (opposite v)))
not_code {k} {n} a sa = record { ends = λ fr m m' s. then_same (value_as n) (value_as n) (a fr m) (a (frame_as n fr) m') (sa.ends fr m m' s) (λ v l. ends_as l (opposite v)) (λ v l. ends_as l (opposite v)) (λ v l l' s'. subst (λ q. SameEnds k n (value_as n) (ends_as l (opposite v)) (ends_as l' q)) (sym (opposite_as n v)) (seen_same (opposite v) l l' s')) }

local_same : {k : ℕ} {n : ℕ → ℕ} (i : ℕ) (fr : Frame) (m m' : Memory) → SameMemory k n m m' → SameEnds k n (value_as n) (gives_in (slice_get fr.locals i) m) (gives_in (slice_get (map (value_as n) fr.locals) i) m')
local_same {k} {n} i fr m m' s = subst (λ v. SameEnds k n (value_as n) (gives_in (slice_get fr.locals i) m) (gives_in v m')) (sym (slice_get-map (value_as n) fr.locals i)) (in_same (slice_get fr.locals i) m m' s)

given_same : {k : ℕ} {n : ℕ → ℕ} (v : Option Value) (m m' : Memory) → SameMemory k n m m' → SameEnds k n (value_as n) (gives_in v m) (gives_in (returned_as n v) m')
given_same v m m' s = in_same v m m' s

-- what is known of one expression, and of one call
abbrev E : Posed → Run → (ℕ → ℕ) → Type 0
E p run n = (a : Expr) × SameCode p.scope.objects n (code p run a)

abbrev C : Posed → Run → (ℕ → ℕ) → Type 0
C p run n = (c : Call) × SameCalls p.scope.objects n (call_of p run c)

abbrev Q : Type 0
Q = (q : Quant) × Unit {0}

abbrev R : Type 0
R = (r : Reach) × Unit {0}

code_layer : (p : Posed) (run : Run) {n nb : ℕ → ℕ} → IsNaming n nb → (y : Expr-F (E p run n) (C p run n) Q R) → SameCode p.scope.objects n (code p run (roll-Expr (map-Expr (E p run n) (C p run n) Q R Expr Call Quant Reach (λ a. a.0) (λ c. c.0) (λ q. q.0) (λ q. q.0) y)))
code_layer p run naming (Expr-F.Num z) = rw (e.rolls-Num z) (record { ends = λ fr m m' s. formed (code_num p run z fr m) (code_num p run z _ m') (number_same p.scope.ints z m m' s) })
code_layer p run naming (Expr-F.Flag b) = rw (e.rolls-Flag b) (record { ends = λ fr m m' s. formed (code_flag p run b fr m) (code_flag p run b _ m') (gives (Flag b) m m' s) })
code_layer p run naming Expr-F.Null = rw e.rolls-Null (record { ends = λ fr m m' s. formed (code_null p run fr m) (code_null p run _ m') (gives Null m m' s) })
code_layer p run {n} naming Expr-F.This = rw e.rolls-This (record { ends = λ fr m m' s. formed (code_this p run fr m) (code_this p run (frame_as n fr) m') (gives fr.this m m' s) })
code_layer p run naming Expr-F.Result = rw e.rolls-Result (record { ends = λ fr m m' s. formed (code_result p run fr m) (code_result p run _ m') leaves })
code_layer p run {n} naming (Expr-F.Local i) = rw (e.rolls-Local i) (record { ends = λ fr m m' s. formed (code_local p run i fr m) (code_local p run i (frame_as n fr) m') (local_same i fr m m' s) })
code_layer p run naming (Expr-F.Bound i) = rw (e.rolls-Bound i) (record { ends = λ fr m m' s. formed (code_bound p run i fr m) (code_bound p run i _ m') leaves })
code_layer p run {n} naming (Expr-F.Read a f) = rw (e.rolls-Read a.0 f) (record { ends = λ fr m m' s. formed (code_read p run a.0 f fr m) (code_read p run a.0 f (frame_as n fr) m') ((read_code p f (code p run a.0) a.1).ends fr m m' s) })
code_layer p run {n} naming (Expr-F.Neg a) = rw (e.rolls-Neg a.0) (record { ends = λ fr m m' s. formed (code_neg p run a.0 fr m) (code_neg p run a.0 (frame_as n fr) m') ((neg_code p.scope.ints (code p run a.0) a.1).ends fr m m' s) })
code_layer p run {n} naming (Expr-F.Not a) = rw (e.rolls-Not a.0) (record { ends = λ fr m m' s. formed (code_not p run a.0 fr m) (code_not p run a.0 (frame_as n fr) m') ((not_code (code p run a.0) a.1).ends fr m m' s) })
code_layer p run {n} naming (Expr-F.Bin o a b) = rw (e.rolls-Bin o a.0 b.0) (record { ends = λ fr m m' s. formed (code_bin p run o a.0 b.0 fr m) (code_bin p run o a.0 b.0 (frame_as n fr) m') ((combined_same naming o p.scope.ints (code p run a.0) (code p run b.0) a.1 b.1).ends fr m m' s) })
code_layer p run naming (Expr-F.Quant q) = rw (e.rolls-Quant q.0) (record { ends = λ fr m m' s. formed (code_quant p run q.0 fr m) (code_quant p run q.0 _ m') leaves })
code_layer p run naming (Expr-F.Old a) = rw (e.rolls-Old a.0) (record { ends = λ fr m m' s. formed (code_old p run a.0 fr m) (code_old p run a.0 _ m') leaves })
code_layer p run naming (Expr-F.Has q a) = rw (e.rolls-Has q.0 a.0) (record { ends = λ fr m m' s. formed (code_has p run q.0 a.0 fr m) (code_has p run q.0 a.0 _ m') leaves })
code_layer p run naming (Expr-F.Size q) = rw (e.rolls-Size q.0) (record { ends = λ fr m m' s. formed (code_size p run q.0 fr m) (code_size p run q.0 _ m') leaves })
code_layer p run naming (Expr-F.New c) = rw (e.rolls-New c) (record { ends = λ fr m m' s. formed (code_new p run c fr m) (code_new p run c _ m') (make_same p c m m' s) })
code_layer p run {n} naming (Expr-F.Call c) = rw (e.rolls-Call c.0) (record { ends = λ fr m m' s. formed (code_call p run c.0 fr m) (code_call p run c.0 (frame_as n fr) m') (then_same (returned_as n) (value_as n) (call_of p run c.0 fr m) (call_of p run c.0 (frame_as n fr) m') (c.1.ends fr m m' s) gives_in gives_in given_same) })

-- ## calls

entered_same : {k : ℕ} {n : ℕ → ℕ} (run : Run) → SameRun k n run → (method : ℕ) (target : Option Value) (args : List Value) (m m' : Memory) → SameMemory k n m m' → SameEnds k n (returned_as n) (entered run method target args m) (entered run method (returned_as n target) (map (value_as n) args) m')
entered_same run sr method None args m m' s = sr.ends method Null args m m' s
entered_same {k} {n} run sr method (Some v) args m m' s = object_same (returned_as n) (λ o l. run method (Obj o) args l) (λ o l. run method (Obj o) (map (value_as n) args) l) (λ o l l' s'. sr.ends method (Obj o) args l l' s') v m m' s

args_same : (p : Posed) (run : Run) {n : ℕ → ℕ} (as_ : List (E p run n)) (fr : Frame) (m m' : Memory) → SameMemory p.scope.objects n m m' → SameEnds p.scope.objects n (map (value_as n)) (in_order (map (code p run) (map (λ a. a.0) as_)) fr m) (in_order (map (code p run) (map (λ a. a.0) as_)) (frame_as n fr) m')
args_same p run [] fr m m' s = gives [] m m' s
args_same p run {n} (a ∷ as_) fr m m' s =
    let rest = in_order (map (code p run) (map (λ b. b.0) as_)) in
    then_same (value_as n) (map (value_as n)) (code p run a.0 fr m) (code p run a.0 (frame_as n fr) m') (a.1.ends fr m m' s) (λ v l. then_with (rest fr l) (λ vs z. Gives (v ∷ vs) z)) (λ v l. then_with (rest (frame_as n fr) l) (λ vs z. Gives (v ∷ vs) z)) (λ v l l' s'.
    then_same (map (value_as n)) (map (value_as n)) (rest fr l) (rest (frame_as n fr) l') (args_same p run as_ fr l l' s') (λ vs z. Gives (v ∷ vs) z) (λ vs z. Gives (value_as n v ∷ vs) z) (λ vs z z' s''. gives (v ∷ vs) z z' s''))

target_same : (p : Posed) (run : Run) {n : ℕ → ℕ} (a : Option (E p run n)) (fr : Frame) (m m' : Memory) → SameMemory p.scope.objects n m m' → SameEnds p.scope.objects n (returned_as n) (target_of (option_map (code p run) (option_map (λ b. b.0) a)) fr m) (target_of (option_map (code p run) (option_map (λ b. b.0) a)) (frame_as n fr) m')
target_same p run None fr m m' s = gives None m m' s
target_same p run {n} (Some a) fr m m' s =
    then_same (value_as n) (returned_as n) (code p run a.0 fr m) (code p run a.0 (frame_as n fr) m') (a.1.ends fr m m' s) (λ v l. Gives (Some v) l) (λ v l. Gives (Some v) l) (λ v l l' s'. gives (Some v) l l' s')

-- what a call does, by its parts
abbrev does : Posed → Run → ℕ → Option Expr → List Expr → Frame → Memory → Ends (Option Value)
does p run method target args fr m =
    then_with (target_of (option_map (code p run) target) fr m) (λ this n. then_with (in_order (map (code p run) args) fr n) (λ vs l. entered run method this vs l))

does_same : (p : Posed) (run : Run) {n : ℕ → ℕ} → SameRun p.scope.objects n run → (method : ℕ) (target : Option (E p run n)) (args : List (E p run n)) → SameCalls p.scope.objects n (does p run method (option_map (λ b. b.0) target) (map (λ b. b.0) args))
does_same p run {n} sr method target args = record {
  ends = λ fr m m' s.
      let t = option_map (λ b. b.0) target in
      let as_ = map (λ b. b.0) args in
      then_same (returned_as n) (returned_as n) (target_of (option_map (code p run) t) fr m) (target_of (option_map (code p run) t) (frame_as n fr) m') (target_same p run target fr m m' s) (λ this l. then_with (in_order (map (code p run) as_) fr l) (λ vs z. entered run method this vs z)) (λ this l. then_with (in_order (map (code p run) as_) (frame_as n fr) l) (λ vs z. entered run method this vs z)) (λ this l l' s'.
      then_same (map (value_as n)) (returned_as n) (in_order (map (code p run) as_) fr l) (in_order (map (code p run) as_) (frame_as n fr) l') (args_same p run args fr l l' s') (λ vs z. entered run method this vs z) (λ vs z. entered run method (returned_as n this) vs z) (λ vs z z' s''. entered_same run sr method this vs z z' s''));
}

-- a call is known by its parts
record SameParts (p : Posed) (run : Run) (n : ℕ → ℕ) (c : Call-F Expr Call Quant Reach) : Type 0 where
  ends : SameCalls p.scope.objects n (does p run c.method c.target c.args)

call_parts : (p : Posed) (run : Run) {n : ℕ → ℕ} → SameRun p.scope.objects n run → (method : ℕ) (target : Option (E p run n)) (args : List (E p run n)) → SameParts p run n (map-Call (E p run n) (C p run n) Q R Expr Call Quant Reach (λ a. a.0) (λ c. c.0) (λ q. q.0) (λ q. q.0) (record { method = method; target = target; args = args }))
call_parts p run sr method None args = record { ends = does_same p run sr method None args }
call_parts p run sr method (Some t) args = record { ends = does_same p run sr method (Some t) args }

call_layer : (p : Posed) (run : Run) {n : ℕ → ℕ} → SameRun p.scope.objects n run → (y : Call-F (E p run n) (C p run n) Q R) → SameParts p run n (map-Call (E p run n) (C p run n) Q R Expr Call Quant Reach (λ a. a.0) (λ c. c.0) (λ q. q.0) (λ q. q.0) y)
call_layer p run sr y = call_parts p run sr y.method y.target y.args

of_parts : (p : Posed) (run : Run) {n : ℕ → ℕ} (x : Call-F Expr Call Quant Reach) → SameParts p run n x → SameCalls p.scope.objects n (call_of p run (roll-Call x))
of_parts p run {n} x parts = record { ends = λ fr m m' s. formed (call_form p run (roll-Call x) fr m) (call_form p run (roll-Call x) (frame_as n fr) m') (parts.ends.ends fr m m' s) }

pub same_code : (p : Posed) (run : Run) {n nb : ℕ → ℕ} → IsNaming n nb → SameRun p.scope.objects n run → (a : Expr) → SameCode p.scope.objects n (code p run a)
same_code p run {n} naming sr = ind-Expr (λ a. SameCode p.scope.objects n (code p run a)) (λ c. SameCalls p.scope.objects n (call_of p run c)) (λ q. Unit {0}) (λ r. Unit {0}) (λ x y is. subst (λ z. SameCode p.scope.objects n (code p run (roll-Expr z))) is (code_layer p run naming y)) (λ x y is. of_parts p run x (subst (SameParts p run n) is (call_layer p run sr y))) (λ x y is. tt) (λ x y is. tt)

-- the parts with what is known of them
known : (p : Posed) (run : Run) {n nb : ℕ → ℕ} → IsNaming n nb → SameRun p.scope.objects n run → (as_ : List Expr) → (bs : List (E p run n)) × (map (λ b. b.0) bs ≡ as_)
known p run naming sr [] = ([], refl)
known p run naming sr (a ∷ as_) =
    let rest = known p run naming sr as_ in
    ((a, same_code p run naming sr a) ∷ rest.0, ap (λ xs. a ∷ xs) rest.1)

known_target : (p : Posed) (run : Run) {n nb : ℕ → ℕ} → IsNaming n nb → SameRun p.scope.objects n run → (a : Option Expr) → (b : Option (E p run n)) × (option_map (λ x. x.0) b ≡ a)
known_target p run naming sr None = (None, refl)
known_target p run naming sr (Some a) = (Some (a, same_code p run naming sr a), refl)

same_call : (p : Posed) (run : Run) {n nb : ℕ → ℕ} → IsNaming n nb → SameRun p.scope.objects n run → (c : Call) → SameCalls p.scope.objects n (call_of p run c)
same_call p run {n} naming sr c =
    let args = known p run naming sr (out-Call c).args in
    let target = known_target p run naming sr (out-Call c).target in
    let same : SameCalls p.scope.objects n (does p run (out-Call c).method (out-Call c).target (out-Call c).args) =
    subst (λ t. SameCalls p.scope.objects n (does p run (out-Call c).method t (out-Call c).args)) target.1 (subst (λ xs. SameCalls p.scope.objects n (does p run (out-Call c).method (option_map (λ x. x.0) target.0) xs)) args.1 (does_same p run sr (out-Call c).method target.0 args.0))
    in
    record { ends = λ fr m m' s. formed (call_form p run c fr m) (call_form p run c (frame_as n fr) m') (same.ends fr m m' s) }

-- ## statements

-- two statements end alike
data SameExit (k : ℕ) (n : ℕ → ℕ) : Exit → Exit → Type 0 where
  goes : (locals : List Value) (m m' : Memory) → SameMemory k n m m' → SameExit k n (Goes locals m) (Goes (map (value_as n) locals) m')
  returns : (v : Option Value) (m m' : Memory) → SameMemory k n m m' → SameExit k n (Returns v m) (Returns (returned_as n v) m')
  raises : (m m' : Memory) → SameMemory k n m m' → SameExit k n (Raises m) (Raises m')
  stops : SameExit k n Stops Stops

record SameBody (k : ℕ) (n : ℕ → ℕ) (b : Body) : Type 0 where
  ends : (fr : Frame) (m m' : Memory) → SameMemory k n m m' → SameExit k n (b fr m) (b (frame_as n fr) m')

exit_formed : {k : ℕ} {n : ℕ → ℕ} {x x' y y' : Exit} → x ≡ x' → y ≡ y' → SameExit k n x' y' → SameExit k n x y
exit_formed {k} {n} {x} {x'} {y} {y'} e f s = subst (λ z. SameExit k n z y) (sym e) (subst (λ z. SameExit k n x' z) (sym f) s)

after_same : {k : ℕ} {n : ℕ → ℕ} {A : Type 0} (as_ : A → A) (x y : Ends A) → SameEnds k n as_ x y → (c d : A → Memory → Exit) → ((a : A) (m m' : Memory) → SameMemory k n m m' → SameExit k n (c a m) (d (as_ a) m')) → SameExit k n (after x c) (after y d)
after_same as_ _ _ (gives a m m' s) c d same = same a m m' s
after_same as_ _ _ (throws m m' s) c d same = raises m m' s
after_same as_ _ _ leaves c d same = stops

branch_same : {k : ℕ} {n : ℕ → ℕ} (c d : Bool → Memory → Exit) → ((b : Bool) (m m' : Memory) → SameMemory k n m m' → SameExit k n (c b m) (d b m')) → (v : Value) (m m' : Memory) → SameMemory k n m m' → SameExit k n (on_branch c v m) (on_branch d (value_as n v) m')
branch_same c d same (Flag b) m m' s = same b m m' s
branch_same c d same Null m m' s = stops
branch_same c d same (Obj o) m m' s = stops
branch_same c d same (Num z) m m' s = stops

after_test_same : {k : ℕ} {n : ℕ → ℕ} (x y : Ends Value) → SameEnds k n (value_as n) x y → (c d : Bool → Memory → Exit) → ((b : Bool) (m m' : Memory) → SameMemory k n m m' → SameExit k n (c b m) (d b m')) → SameExit k n (after_test x c) (after_test y d)
after_test_same {k} {n} x y s c d same = after_same (value_as n) x y s (on_branch c) (on_branch d) (branch_same c d same)

do_same : {k : ℕ} {n : ℕ → ℕ} (x y : Exit) → SameExit k n x y → (c d : List Value → Memory → Exit) → ((ls : List Value) (m m' : Memory) → SameMemory k n m m' → SameExit k n (c ls m) (d (map (value_as n) ls) m')) → SameExit k n (then_do x c) (then_do y d)
do_same _ _ (goes ls m m' s) c d same = same ls m m' s
do_same _ _ (returns v m m' s) c d same = returns v m m' s
do_same _ _ (raises m m' s) c d same = raises m m' s
do_same _ _ stops c d same = stops

body_same : {k : ℕ} {n : ℕ → ℕ} (x y : Exit) → SameExit k n x y → (fr : Frame) (b : Body) → SameBody k n b → SameExit k n (then_body x fr b) (then_body y (frame_as n fr) b)
body_same {k} {n} x y s fr b sb = do_same x y s (λ ls m. b (record fr { locals = ls }) m) (λ ls m. b (record (frame_as n fr) { locals = ls }) m) (λ ls m m' s'. sb.ends (record fr { locals = ls }) m m' s')

choice_same : {k : ℕ} {n : ℕ → ℕ} (b : Bool) (x x' y y' : Exit) → SameExit k n x x' → SameExit k n y y' → SameExit k n (cond b x y) (cond b x' y')
choice_same true x x' y y' s t = s
choice_same false x x' y y' s t = t

set_same : {k : ℕ} {n : ℕ → ℕ} (fr : Frame) (i : ℕ) (v : Value) (m m' : Memory) → SameMemory k n m m' → SameExit k n (set_local fr i v m) (set_local (frame_as n fr) i (value_as n v) m')
set_same {k} {n} fr i v m m' s =
    subst (λ l. SameExit k n (set_local fr i v m) (cond (nat_lt i l) (Goes (slice_set (map (value_as n) fr.locals) i (value_as n v)) m') Stops)) (sym (length-map fr.locals (value_as n))) (subst (λ ls. SameExit k n (set_local fr i v m) (cond (nat_lt i (length fr.locals)) (Goes ls m') Stops)) (map-set (value_as n) fr.locals i v) (choice_same (nat_lt i (length fr.locals)) (Goes (slice_set fr.locals i v) m) (Goes (map (value_as n) (slice_set fr.locals i v)) m') Stops Stops (goes (slice_set fr.locals i v) m m' s) stops))

stepped_same : {k : ℕ} {n nb : ℕ → ℕ} → IsNaming n nb → (w : ℕ) (up : Bool) (v : Value) (m m' : Memory) → SameMemory k n m m' → SameEnds k n (value_as n) (stepped w up v m) (stepped w up (value_as n v) m')
stepped_same {k} {n} naming w true v m m' s = subst (λ q. SameEnds k n (value_as n) (stepped w true v m) (ends_as m' q)) (sym (operated_as naming op.Add w v (Num (pos 1)))) (seen_same (operated op.Add w v (Num (pos 1))) m m' s)
stepped_same {k} {n} naming w false v m m' s = subst (λ q. SameEnds k n (value_as n) (stepped w false v m) (ends_as m' q)) (sym (operated_as naming op.Sub w v (Num (pos 1)))) (seen_same (operated op.Sub w v (Num (pos 1))) m m' s)

step_field_same : (p : Posed) {n nb : ℕ → ℕ} → IsNaming n nb → (f : ℕ) (up : Bool) (o : ℕ) (m m' : Memory) → SameMemory p.scope.objects n m m' → SameEnds p.scope.objects n nothing_as (step_field p f up o m) (step_field p f up (n o) m')
step_field_same p {n} naming f up o m m' s =
    then_same (value_as n) nothing_as (read p f o m) (read p f (n o) m') (read_same p f o m m' s) (λ v l. then_with (stepped p.scope.ints up v l) (λ u z. write p f o u z)) (λ v l. then_with (stepped p.scope.ints up v l) (λ u z. write p f (n o) u z)) (λ v l l' s'.
    then_same (value_as n) nothing_as (stepped p.scope.ints up v l) (stepped p.scope.ints up (value_as n v) l') (stepped_same naming p.scope.ints up v l l' s') (λ u z. write p f o u z) (λ u z. write p f (n o) u z) (λ u z z' s''. write_same naming p f o u z z' s''))

-- on with the same locals
on_same : {k : ℕ} {n : ℕ → ℕ} {A : Type 0} (as_ : A → A) (x y : Ends A) → SameEnds k n as_ x y → (fr : Frame) → SameExit k n (after x (λ z. Goes fr.locals)) (after y (λ z. Goes (map (value_as n) fr.locals)))
on_same as_ x y s fr = after_same as_ x y s (λ z. Goes fr.locals) (λ z. Goes (map _ fr.locals)) (λ a m m' s'. goes fr.locals m m' s')

turns_same : {k : ℕ} {n : ℕ → ℕ} (left : ℕ) (test : Code) (b : Body) → SameCode k n test → SameBody k n b → SameBody k n (turns left test b)
turns_same {k} {n} zero test b st sb = record { ends = λ fr m m' s. after_test_same (test fr m) (test (frame_as n fr) m') (st.ends fr m m' s) (λ x l. cond x Stops (Goes fr.locals l)) (λ x l. cond x Stops (Goes (map (value_as n) fr.locals) l)) (λ x l l' s'. choice_same x Stops Stops (Goes fr.locals l) (Goes (map (value_as n) fr.locals) l') stops (goes fr.locals l l' s')) }
turns_same {k} {n} (suc left) test b st sb = record { ends = λ fr m m' s. after_test_same (test fr m) (test (frame_as n fr) m') (st.ends fr m m' s) (λ x l. cond x (then_body (b fr l) fr (turns left test b)) (Goes fr.locals l)) (λ x l. cond x (then_body (b (frame_as n fr) l) (frame_as n fr) (turns left test b)) (Goes (map (value_as n) fr.locals) l)) (λ x l l' s'. choice_same x (then_body (b fr l) fr (turns left test b)) (then_body (b (frame_as n fr) l') (frame_as n fr) (turns left test b)) (Goes fr.locals l) (Goes (map (value_as n) fr.locals) l') (body_same (b fr l) (b (frame_as n fr) l') (sb.ends fr l l' s') fr (turns left test b) (turns_same left test b st sb)) (goes fr.locals l l' s')) }

-- what is known of a statement
abbrev S : Posed → Run → (ℕ → ℕ) → Type 0
S p run n = (t : Stmt) × SameBody p.scope.objects n (exec p run t)

parts_same : (p : Posed) (run : Run) {n : ℕ → ℕ} (ts : List (S p run n)) → SameBody p.scope.objects n (in_turn (map (exec p run) (map (λ t. t.0) ts)))
parts_same p run [] = record { ends = λ fr m m' s. goes fr.locals m m' s }
parts_same p run {n} (t ∷ ts) = record { ends = λ fr m m' s. body_same (exec p run t.0 fr m) (exec p run t.0 (frame_as n fr) m') (t.1.ends fr m m' s) fr (in_turn (map (exec p run) (map (λ u. u.0) ts))) (parts_same p run ts) }

back_same : (p : Posed) (run : Run) {n nb : ℕ → ℕ} → IsNaming n nb → SameRun p.scope.objects n run → (a : Option Expr) → SameBody p.scope.objects n (give_back (option_map (code p run) a))
back_same p run naming sr None = record { ends = λ fr m m' s. returns None m m' s }
back_same p run {n} naming sr (Some a) = record { ends = λ fr m m' s. after_same (value_as n) (code p run a fr m) (code p run a (frame_as n fr) m') ((same_code p run naming sr a).ends fr m m' s) (λ v l. Returns (Some v) l) (λ v l. Returns (Some v) l) (λ v l l' s'. returns (Some v) l l' s') }

stmt_layer : (p : Posed) (run : Run) {n nb : ℕ → ℕ} → IsNaming n nb → SameRun p.scope.objects n run → (y : Stmt-F (S p run n)) → SameBody p.scope.objects n (exec p run (roll-Stmt (map-Stmt (S p run n) Stmt (λ t. t.0) y)))
stmt_layer p run {n} naming sr (Stmt-F.Block ts) = rw (s.rolls-Block (map (λ t. t.0) ts)) (record { ends = λ fr m m' is. exit_formed (exec_block p run (map (λ t. t.0) ts) fr m) (exec_block p run (map (λ t. t.0) ts) (frame_as n fr) m') ((parts_same p run ts).ends fr m m' is) })
stmt_layer p run {n} naming sr (Stmt-F.Set i a) = rw (s.rolls-Set i a) (record { ends = λ fr m m' is. exit_formed (exec_set p run i a fr m) (exec_set p run i a (frame_as n fr) m') (after_same (value_as n) (code p run a fr m) (code p run a (frame_as n fr) m') ((same_code p run naming sr a).ends fr m m' is) (set_local fr i) (set_local (frame_as n fr) i) (set_same fr i)) })
stmt_layer p run {n} naming sr (Stmt-F.Write a f b) = rw (s.rolls-Write a f b) (record {
  ends = λ fr m m' is. exit_formed (exec_write p run a f b fr m) (exec_write p run a f b (frame_as n fr) m') (after_same (value_as n) (code p run a fr m) (code p run a (frame_as n fr) m') ((same_code p run naming sr a).ends fr m m' is) (λ v l. after (code p run b fr l) (λ u z. after (on_object (λ o. write p f o u) v z) (λ q. Goes fr.locals))) (λ v l. after (code p run b (frame_as n fr) l) (λ u z. after (on_object (λ o. write p f o u) v z) (λ q. Goes (map (value_as n) fr.locals)))) (λ v l l' is'.
      after_same (value_as n) (code p run b fr l) (code p run b (frame_as n fr) l') ((same_code p run naming sr b).ends fr l l' is') (λ u z. after (on_object (λ o. write p f o u) v z) (λ q. Goes fr.locals)) (λ u z. after (on_object (λ o. write p f o u) (value_as n v) z) (λ q. Goes (map (value_as n) fr.locals))) (λ u z z' is''.
      on_same nothing_as (on_object (λ o. write p f o u) v z) (on_object (λ o. write p f o (value_as n u)) (value_as n v) z') (object_same nothing_as (λ o. write p f o u) (λ o. write p f o (value_as n u)) (λ o q q' t. write_same naming p f o u q q' t) v z z' is'') fr)));
})
stmt_layer p run {n} naming sr (Stmt-F.StepLocal i up) = rw (s.rolls-StepLocal i up) (record { ends = λ fr m m' is. exit_formed (exec_step_local p run i up fr m) (exec_step_local p run i up (frame_as n fr) m') (after_same (value_as n) (gives_in (slice_get fr.locals i) m) (gives_in (slice_get (map (value_as n) fr.locals) i) m') (local_same i fr m m' is) (λ v l. after (stepped p.scope.ints up v l) (set_local fr i)) (λ v l. after (stepped p.scope.ints up v l) (set_local (frame_as n fr) i)) (λ v l l' is'. after_same (value_as n) (stepped p.scope.ints up v l) (stepped p.scope.ints up (value_as n v) l') (stepped_same naming p.scope.ints up v l l' is') (set_local fr i) (set_local (frame_as n fr) i) (set_same fr i))) })
stmt_layer p run {n} naming sr (Stmt-F.StepField a f up) = rw (s.rolls-StepField a f up) (record { ends = λ fr m m' is. exit_formed (exec_step_field p run a f up fr m) (exec_step_field p run a f up (frame_as n fr) m') (after_same (value_as n) (code p run a fr m) (code p run a (frame_as n fr) m') ((same_code p run naming sr a).ends fr m m' is) (λ v l. after (on_object (step_field p f up) v l) (λ q. Goes fr.locals)) (λ v l. after (on_object (step_field p f up) v l) (λ q. Goes (map (value_as n) fr.locals))) (λ v l l' is'. on_same nothing_as (on_object (step_field p f up) v l) (on_object (step_field p f up) (value_as n v) l') (object_same nothing_as (step_field p f up) (step_field p f up) (step_field_same p naming f up) v l l' is') fr)) })
stmt_layer p run {n} naming sr (Stmt-F.If a t u) = rw (s.rolls-If a t.0 u.0) (record { ends = λ fr m m' is. exit_formed (exec_if p run a t.0 u.0 fr m) (exec_if p run a t.0 u.0 (frame_as n fr) m') (after_test_same (code p run a fr m) (code p run a (frame_as n fr) m') ((same_code p run naming sr a).ends fr m m' is) (λ b l. cond b (exec p run t.0 fr l) (exec p run u.0 fr l)) (λ b l. cond b (exec p run t.0 (frame_as n fr) l) (exec p run u.0 (frame_as n fr) l)) (λ b l l' is'. choice_same b (exec p run t.0 fr l) (exec p run t.0 (frame_as n fr) l') (exec p run u.0 fr l) (exec p run u.0 (frame_as n fr) l') (t.1.ends fr l l' is') (u.1.ends fr l l' is'))) })
stmt_layer p run {n} naming sr (Stmt-F.While a t) = rw (s.rolls-While a t.0) (record { ends = λ fr m m' is. exit_formed (exec_while p run a t.0 fr m) (exec_while p run a t.0 (frame_as n fr) m') ((turns_same p.scope.loops (code p run a) (exec p run t.0) (same_code p run naming sr a) t.1).ends fr m m' is) })
stmt_layer p run {n} naming sr (Stmt-F.Return a) = rw (s.rolls-Return a) (record { ends = λ fr m m' is. exit_formed (exec_return p run a fr m) (exec_return p run a (frame_as n fr) m') ((back_same p run naming sr a).ends fr m m' is) })
stmt_layer p run {n} naming sr (Stmt-F.Run c) = rw (s.rolls-Run c) (record { ends = λ fr m m' is. exit_formed (exec_run p run c fr m) (exec_run p run c (frame_as n fr) m') (on_same (returned_as n) (call_of p run c fr m) (call_of p run c (frame_as n fr) m') ((same_call p run naming sr c).ends fr m m' is) fr) })

same_stmt : (p : Posed) (run : Run) {n nb : ℕ → ℕ} → IsNaming n nb → SameRun p.scope.objects n run → (t : Stmt) → SameBody p.scope.objects n (exec p run t)
same_stmt p run {n} naming sr = ind-Stmt (λ t. SameBody p.scope.objects n (exec p run t)) (λ x y is. subst (λ z. SameBody p.scope.objects n (exec p run (roll-Stmt z))) is (stmt_layer p run naming sr y))

-- ## methods

default_as : (n : ℕ → ℕ) (r : Option (Kind × Bool)) → returned_as n (option_map (λ q. zero_of q.0) r) ≡ option_map (λ q. zero_of q.0) r
default_as n None = refl
default_as n (Some q) = ap Some (zero_as n q.0)

returned_same : {k : ℕ} {n : ℕ → ℕ} (d : MethodDef) (x y : Exit) → SameExit k n x y → SameEnds k n (returned_as n) (returned d x) (returned d y)
returned_same {k} {n} d _ _ (goes ls m m' s) =
    subst (λ v. SameEnds k n (returned_as n) (Gives (option_map (λ q. zero_of q.0) d.result) m) (Gives v m')) (default_as n d.result) (gives (option_map (λ q. zero_of q.0) d.result) m m' s)
returned_same d _ _ (returns v m m' s) = gives v m m' s
returned_same d _ _ (raises m m' s) = throws m m' s
returned_same d _ _ stops = leaves

zeros_as : (n : ℕ → ℕ) (ks : List Kind) → map (value_as n) (map zero_of ks) ≡ map zero_of ks
zeros_as n [] = refl
zeros_as n (q ∷ ks) = rw (zero_as n q, zeros_as n ks) refl

pub run_body_same : (p : Posed) (run : Run) {n nb : ℕ → ℕ} → IsNaming n nb → SameRun p.scope.objects n run → (d : Option MethodDef) (this : Value) (args : List Value) (m m' : Memory) → SameMemory p.scope.objects n m m' → SameEnds p.scope.objects n (returned_as n) (run_body p run d this args m) (run_body p run d (value_as n this) (map (value_as n) args) m')
run_body_same p run naming sr None this args m m' s = leaves
run_body_same p run {n} naming sr (Some d) this args m m' s =
    let locals : map (value_as n) (args ++ map zero_of d.locals) ≡ map (value_as n) args ++ map zero_of d.locals =
    map-append (value_as n) args (map zero_of d.locals) ∙ ap (λ ls. map (value_as n) args ++ ls) (zeros_as n d.locals)
    in
    let fr : Frame = record { this = this; locals = args ++ map zero_of d.locals } in
    subst (λ ls. SameEnds p.scope.objects n (returned_as n) (returned d (exec p run d.body fr m)) (returned d (exec p run d.body (record { this = value_as n this; locals = ls }) m'))) locals (returned_same d (exec p run d.body fr m) (exec p run d.body (frame_as n fr) m') ((same_stmt p run naming sr d.body).ends fr m m' s))

pub calls_same : (p : Posed) {n nb : ℕ → ℕ} → IsNaming n nb → (depth : ℕ) → SameRun p.scope.objects n (calls p depth)
calls_same p naming zero = record { ends = λ method this args m m' s. leaves }
calls_same p naming (suc d) = record { ends = λ method this args m m' s. run_body_same p (calls p d) naming (calls_same p naming d) (slice_get p.unit.methods method) this args m m' s }
