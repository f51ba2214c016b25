-- Every statement and every method of a well unit ends so, and with them the executions from starts that fit.
use Rattle.std.proofs.Common.{◌≡◌, ℕ, zero, suc, Bool, true, false, List, [], ◌∷◌, ◌++◌, Option, Some, None, refl, sym, ◌∙◌, subst}
use Rattle.std.specs.Prelude.{◌&&◌, ◌^◌, ◌-◌, map, slice_get, option_map, if◌then◌else◌}
use Rattle.std.specs.List.{list_all}
use Rattle.std.specs.Option.{option_map_or}
use Rattle.std.specs.Cmp.Lexicographic.{pointwise}
use Rattle.std.proofs.lemmas.Bool.{false≢true, and_parts, and_from, lt-ltb}
use Rattle.std.proofs.lemmas.Nat.{pow_pos}
use Rattle.taco_unit.specs.declared.kind.Kind.{Kind}
use Rattle.taco_unit.specs.declared.kind.Kind.TheVariants as kind
use Rattle.taco_unit.specs.declared.stmt.Stmt.{Stmt, ind-Stmt, roll-Stmt, map-Stmt}
use Rattle.taco_unit.specs.declared.stmt.Stmt.TheOpen.{Stmt-F}
use Rattle.taco_unit.specs.declared.stmt.Stmt.TheVariants as s
use Rattle.taco_unit.specs.declared.expr.Expr.TheVariants as e
use Rattle.taco_unit.specs.declared.unit.MethodDef.{MethodDef}
use Rattle.taco_unit.specs.declared.unit.ParamDef.{ParamDef}
use Rattle.taco_unit.specs.Kinds.{Of, Around, Code as InCode, sort_of, sort_of_kind, is_condition}
use Rattle.taco_unit.specs.Bodies.{takes, place_sort, is_call, returns, Fitting, is_fitting}
use Rattle.taco_unit.specs.Well.{IsWell, receiver_of, param_kinds, around_method}
use Rattle.taco_unit.proofs.KindForms.{fitting_block, fitting_set, fitting_write, fitting_step_local, fitting_step_field, fitting_if, fitting_while, fitting_return, fitting_run}
use Rattle.heap_core.specs.declared.value.Value.{Value}
use Rattle.heap_core.specs.declared.value.Value.TheVariants.{Null, Obj, Num, Flag}
use Rattle.heap_core.specs.declared.start.Start.{Start}
use Rattle.heap_core.specs.Posed.{Posed}
use Rattle.heap_core.specs.Outcomes.{zero_of}
use Rattle.heap_core.specs.Heap.{Heap}
use Rattle.heap_core.specs.Start.{has_kind, is_receiver, is_argument}
use Rattle.heap_core.specs.Exec.{Memory, memory_of, Ends, Gives, Throws, Leaves, Exit, Goes, Returns, Raises, Stops, Frame, Body, Run, on_object, gives_in, write, code, call_of}
use Rattle.heap_core.specs.Exec.{after, after_test, in_turn, set_local, stepped, step_field, turns, give_back, exec, returned, run_body, calls}
use Rattle.heap_core.specs.Judge.{run_of}
use Rattle.heap_core.proofs.Lists.{beside_map}
use Rattle.heap_core.proofs.ExecForms.{exec_block, exec_set, exec_write, exec_step_local, exec_step_field, exec_if, exec_while, exec_return, exec_run}
use Rattle.dyn_plan.specs.Endings.{ComesAfter, IsOfKind, EndsWhole}
use Rattle.dyn_plan.specs.Laws.{ExecutionsEndWhole}
use Rattle.dyn_plan.proofs.EndParts.{later_self, IsKind, Ended, HoldsIn}
use Rattle.dyn_plan.proofs.EndCalls.{fits_param, IsResult, RunEnds}
use Rattle.dyn_plan.proofs.EndStmts.{Exits, StmtEnds, exits_then, turns_end, expr, assign_exits, write_exits, step_local_exits, step_field_exits, branch_exits, return_exits, run_exits}

-- ## every statement

formed : (p : Posed) (x y : Fitting) (b d : Body) → ((k : Around) → x k ≡ y k) → ((fr : Frame) (m : Memory) → b fr m ≡ d fr m) → StmtEnds p y d → StmtEnds p x b
formed p x y b d fits same claim = record {
  ends = λ k fr m holds whole is. subst (Exits p k m.heap) (sym (same fr m)) (claim.ends k fr m holds whole (sym (fits k) ∙ is));
}

abbrev S : Posed → Run → Type 0
S p run = (t : Stmt) × StmtEnds p (is_fitting t) (exec p run t)

block_ends : (p : Posed) (run : Run) (ts : List (S p run)) (k : Around) (fr : Frame) (m : Memory) → HoldsIn p k fr m.heap → ComesAfter p m.heap m.heap
    → list_all (λ x. x k) (map is_fitting (map (λ t. t.0) ts)) ≡ true → Exits p k m.heap (in_turn (map (exec p run) (map (λ t. t.0) ts)) fr m)
block_ends p run [] k fr m holds whole is = (whole, holds.locals)
block_ends p run (t ∷ ts) k fr m holds whole is =
    let both = and_parts (is_fitting t.0 k) (list_all (λ x. x k) (map is_fitting (map (λ t. t.0) ts))) is in
    exits_then p k fr m.heap (exec p run t.0 fr m) (in_turn (map (exec p run) (map (λ t. t.0) ts))) holds (t.1.ends k fr m holds whole both.0)
    (λ ls n after held. block_ends p run ts k (record fr { locals = ls }) n held (later_self p m.heap n.heap after) both.1)

layer : (p : Posed) → IsWell p.unit → (run : Run) → RunEnds p run → (y : Stmt-F (S p run))
    → StmtEnds p (is_fitting (roll-Stmt (map-Stmt (S p run) Stmt (λ t. t.0) y))) (exec p run (roll-Stmt (map-Stmt (S p run) Stmt (λ t. t.0) y)))
layer p well run runs (Stmt-F.Block ts) =
    let us : List Stmt = map (λ t. t.0) ts in
    rw (s.rolls-Block (map (λ t. t.0) ts)) (formed p (is_fitting (s.Block us)) (λ k. list_all (λ x. x k) (map is_fitting us)) (exec p run (s.Block us)) (in_turn (map (exec p run) us))
    (fitting_block us) (exec_block p run us) (record { ends = λ k fr m holds whole is. block_ends p run ts k fr m holds whole is }))
layer p well run runs (Stmt-F.Set i a) =
    rw (s.rolls-Set i a) (formed p (is_fitting (s.Set i a)) (λ k. takes (sort_of_kind (slice_get k.locals i)) (sort_of a k)) (exec p run (s.Set i a)) (λ fr m. after
    (code p run a fr m) (set_local fr i))
    (fitting_set i a) (exec_set p run i a) (record { ends = λ k fr m holds whole is. assign_exits p well run runs i a k fr m holds whole is }))
layer p well run runs (Stmt-F.Write a f c) =
    rw (s.rolls-Write a f c) (formed p (is_fitting (s.Write a f c)) (λ k. takes (place_sort k a f) (sort_of c k)) (exec p run (s.Write a f c))
    (λ fr m. after (code p run a fr m) (λ v n. after (code p run c fr n) (λ u l. after (on_object (λ o. write p f o u) v l) (λ z. Goes fr.locals)))) (fitting_write a f c) (exec_write p run a f c)
    (record { ends = λ k fr m holds whole is. write_exits p well run runs a c f k fr m holds whole is }))
layer p well run runs (Stmt-F.StepLocal i up) =
    rw (s.rolls-StepLocal i up) (formed p (is_fitting (s.StepLocal i up)) (λ k. takes (sort_of_kind (slice_get k.locals i)) (Of kind.Int)) (exec p run (s.StepLocal i up))
    (λ fr m. after (gives_in (slice_get fr.locals i) m) (λ v n. after (stepped p.scope.ints up v n) (set_local fr i))) (fitting_step_local i up) (exec_step_local p run i up)
    (record { ends = λ k fr m holds whole is. step_local_exits p well run runs i up k fr m holds whole is }))
layer p well run runs (Stmt-F.StepField a f up) =
    rw (s.rolls-StepField a f up) (formed p (is_fitting (s.StepField a f up)) (λ k. takes (place_sort k a f) (Of kind.Int)) (exec p run (s.StepField a f up))
    (λ fr m. after (code p run a fr m) (λ v n. after (on_object (step_field p f up) v n) (λ z. Goes fr.locals))) (fitting_step_field a f up) (exec_step_field p run a f up)
    (record { ends = λ k fr m holds whole is. step_field_exits p well run runs a f up k fr m holds whole is }))
layer p well run runs (Stmt-F.If a t u) =
    rw (s.rolls-If a t.0 u.0) (formed p (is_fitting (s.If a t.0 u.0)) (λ k. is_condition k a && is_fitting t.0 k && is_fitting u.0 k) (exec p run (s.If a t.0 u.0))
    (λ fr m. after_test (code p run a fr m) (λ b n. if b then exec p run t.0 fr n else exec p run u.0 fr n)) (fitting_if a t.0 u.0) (exec_if p run a t.0 u.0) (record {
      ends = λ k fr m holds whole is.
          let first = and_parts (is_condition k a && is_fitting t.0 k) (is_fitting u.0 k) is in
          let both = and_parts (is_condition k a) (is_fitting t.0 k) first.0 in
          branch_exits p well run runs a (is_fitting t.0) (is_fitting u.0) (exec p run t.0) (exec p run u.0) k fr m t.1 u.1 holds whole both.0 both.1 first.1;
    }))
layer p well run runs (Stmt-F.While a t) =
    rw (s.rolls-While a t.0) (formed p (is_fitting (s.While a t.0)) (λ k. is_condition k a && is_fitting t.0 k) (exec p run (s.While a t.0)) (turns p.scope.loops (code p run a) (exec p run t.0))
    (fitting_while a t.0) (exec_while p run a t.0) (record {
      ends = λ k fr m holds whole is.
          let both = and_parts (is_condition k a) (is_fitting t.0 k) is in
          turns_end p k (sort_of a) (code p run a) (is_fitting t.0) (exec p run t.0) (expr p well run runs a) t.1 both.0 both.1 p.scope.loops fr m holds whole;
    }))
layer p well run runs (Stmt-F.Return a) =
    rw (s.rolls-Return a) (formed p (is_fitting (s.Return a)) (λ k. returns k a) (exec p run (s.Return a)) (give_back (option_map (code p run) a)) (fitting_return a) (exec_return p run a)
    (record { ends = λ k fr m holds whole is. return_exits p well run runs a k fr m holds whole is }))
layer p well run runs (Stmt-F.Run c) =
    rw (s.rolls-Run c) (formed p (is_fitting (s.Run c)) (λ k. is_call (sort_of (e.Call c) k)) (exec p run (s.Run c)) (λ fr m. after (call_of p run c fr m) (λ v. Goes fr.locals)) (fitting_run c)
    (exec_run p run c) (record { ends = λ k fr m holds whole is. run_exits p well run runs c k fr m holds whole is }))

pub stmt_ends : (p : Posed) → IsWell p.unit → (run : Run) → RunEnds p run → (t : Stmt) → StmtEnds p (is_fitting t) (exec p run t)
stmt_ends p well run runs =
    ind-Stmt (λ t. StmtEnds p (is_fitting t) (exec p run t))
    (λ x y is. subst (λ z. StmtEnds p (is_fitting (roll-Stmt z)) (exec p run (roll-Stmt z))) is (layer p well run runs y))

-- ## a method

params_fit : (w : ℕ) (heap : Heap) (qs : List ParamDef) (vs : List Value) → pointwise (fits_param w heap) qs vs ≡ true → pointwise (has_kind w heap) (map (λ q. q.kind) qs) vs ≡ true
params_fit w heap [] [] is = refl
params_fit w heap [] (v ∷ vs) is = absurd (false≢true is)
params_fit w heap (q ∷ qs) [] is = absurd (false≢true is)
params_fit w heap (q ∷ qs) (v ∷ vs) is =
    let both = and_parts (fits_param w heap q v) (pointwise (fits_param w heap) qs vs) is in
    and_from (has_kind w heap q.kind v) (pointwise (has_kind w heap) (map (λ q. q.kind) qs) vs) both.0 (params_fit w heap qs vs both.1)

then_fit : (w : ℕ) (heap : Heap) (ks ls : List Kind) (vs us : List Value) → pointwise (has_kind w heap) ks vs ≡ true → pointwise (has_kind w heap) ls us ≡ true
    → pointwise (has_kind w heap) (ks ++ ls) (vs ++ us) ≡ true
then_fit w heap [] ls [] us first second = second
then_fit w heap [] ls (v ∷ vs) us first second = absurd (false≢true first)
then_fit w heap (k ∷ ks) ls [] us first second = absurd (false≢true first)
then_fit w heap (k ∷ ks) ls (v ∷ vs) us first second =
    let both = and_parts (has_kind w heap k v) (pointwise (has_kind w heap) ks vs) first in
    and_from (has_kind w heap k v) (pointwise (has_kind w heap) (ks ++ ls) (vs ++ us)) both.0 (then_fit w heap ks ls vs us both.1 second)

zero_fits : (w : ℕ) (heap : Heap) (k : Kind) → has_kind w heap k (zero_of k) ≡ true
zero_fits w heap kind.Int = lt-ltb 0 (2 ^ (w - 1)) (pow_pos (w - 1))
zero_fits w heap kind.Flag = refl
zero_fits w heap (kind.Ref c) = refl

zero_result : (w : ℕ) (heap : Heap) (r : Option (Kind × Bool)) → IsOfKind w heap (option_map (λ r. r.0) r) (option_map (λ r. zero_of r.0) r)
zero_result w heap None = tt
zero_result w heap (Some r) = zero_fits w heap r.0

-- around the body of a method
abbrev inside : Posed → MethodDef → Around
inside p d = around_method p.unit d InCode (param_kinds d ++ d.locals)

returned_ends : (p : Posed) (d : MethodDef) (heap : Heap) (x : Exit) → Exits p (inside p d) heap x → Ended p heap (IsResult p d) (returned d x)
returned_ends p d heap (Goes ls m) exits = (exits.0, zero_result p.scope.ints m.heap d.result)
returned_ends p d heap (Returns v m) exits = exits
returned_ends p d heap (Raises m) exits = exits
returned_ends p d heap Stops exits = tt

body_ends : (p : Posed) → IsWell p.unit → (run : Run) → RunEnds p run → (method : ℕ) (d : MethodDef) (this : Value) (vs : List Value) (m : Memory) → slice_get p.unit.methods method ≡ Some d
    → ComesAfter p m.heap m.heap → ((c : ℕ) → receiver_of d.fixed d.class ≡ Some c → IsKind p (kind.Ref c) this m.heap) → pointwise (fits_param p.scope.ints m.heap) d.params vs ≡ true
    → Ended p m.heap (IsResult p d) (run_body p run (Some d) this vs m)
body_ends p well run runs method d this vs m there whole receiver are =
    let w : ℕ = p.scope.ints in
    let fr : Frame = record { this = this; locals = vs ++ map zero_of d.locals } in
    let zeros = beside_map (has_kind w m.heap) zero_of d.locals (λ i k at. zero_fits w m.heap k) in
    let locals = then_fit w m.heap (param_kinds d) d.locals vs (map zero_of d.locals) (params_fit w m.heap d.params vs are) zeros in
    let holds : HoldsIn p (inside p d) fr m.heap = record { form = refl; unit = refl; this = receiver; locals = locals } in
    returned_ends p d m.heap (exec p run d.body fr m) ((stmt_ends p well run runs d.body).ends (inside p d) fr m holds whole (well.methods method d there).body)

-- every depth of calls
pub runs_end : (p : Posed) → IsWell p.unit → (depth : ℕ) → RunEnds p (calls p depth)
runs_end p well zero = record { ends = λ method d this vs m there whole receiver are. tt }
runs_end p well (suc depth) = record {
  ends = λ method d this vs m there whole receiver are.
      subst (λ o. Ended p m.heap (IsResult p d) (run_body p (calls p depth) o this vs m)) (sym there)
      (body_ends p well (calls p depth) (runs_end p well depth) method d this vs m there whole receiver are);
}

-- ## executions

ends_whole : (p : Posed) (d : MethodDef) (s : Start) (e : Ends (Option Value)) → Ended p s.objects (IsResult p d) e → EndsWhole p d s e
ends_whole p d s (Gives v m) ended = ended
ends_whole p d s (Throws m) ended = ended
ends_whole p d s Leaves ended = tt

receiver_fits : (p : Posed) (heap : Heap) (class : ℕ) (fixed : Bool) (this : Value) → is_receiver heap class fixed this ≡ true → (c : ℕ) → receiver_of fixed class ≡ Some c
    → IsKind p (kind.Ref c) this heap
receiver_fits p heap class true this is c there = absurd (cc)
receiver_fits p heap class false (Obj o) is c there =
    let same : class ≡ c = cc in
    subst (λ z. IsKind p (kind.Ref z) (Obj o) heap) same is
receiver_fits p heap class false Null is c there = absurd (false≢true is)
receiver_fits p heap class false (Num z) is c there = absurd (false≢true is)
receiver_fits p heap class false (Flag b) is c there = absurd (false≢true is)

pub executions_end_whole : ExecutionsEndWhole
executions_end_whole p d s well there fits =
    let whole : ComesAfter p s.objects s.objects = record { whole = fits.objects_whole; few = fits.few_objects; objects = λ class o is. is } in
    let receiver = subst (λ o. option_map_or (λ m. is_receiver s.objects m.class m.fixed s.this) o false ≡ true) there fits.receiver in
    let arguments = subst (λ o. option_map_or (λ m. pointwise (is_argument p.scope.ints s.objects) m.params s.args) o false ≡ true) there fits.arguments in
    let ended = body_ends p well (calls p p.scope.calls) (runs_end p well p.scope.calls) p.method d s.this s.args (memory_of s.objects) there whole
    (receiver_fits p s.objects d.class d.fixed s.this receiver) arguments in
    ends_whole p d s (run_of p s) (subst (λ o. Ended p s.objects (IsResult p d) (run_body p (calls p p.scope.calls) o s.this s.args (memory_of s.objects))) (sym there) ended)
