-- One step from what waits, and whole runs.
use Rattle.std.proofs.Common.{◌≡◌, ℕ, suc, ◌+◌, Bool, true, false, List, [], ◌∷◌, ◌++◌, Option, Some, None, Bor, refl, ap, sym, ◌∙◌, arith}
use Rattle.std.specs.Prelude.{option_and_then, map}
use Rattle.taco_unit.specs.declared.expr.Expr.{Expr}
use Rattle.taco_unit.specs.declared.stmt.Stmt.{Stmt}
use Rattle.taco_unit.specs.declared.unit.MethodDef.{MethodDef}
use Rattle.heap_core.specs.declared.value.Value.{Value}
use Rattle.heap_core.specs.Posed.{Posed}
use Rattle.heap_core.specs.Outcomes.{zero_of}
use Rattle.heap_core.specs.Exec.{Memory, Gives, Exit, Goes, Returns, Raises, Stops, returned, run_body, calls}
use Rattle.heap_run.specs.declared.machine.Activation.{Activation}
use Rattle.heap_run.specs.declared.machine.Machine.{Machine}
use Rattle.heap_run.specs.declared.machine.Wait.{Wait}
use Rattle.heap_run.specs.declared.machine.Wait.TheVariants as w
use Rattle.heap_core.specs.declared.start.Start.{Start}
use Rattle.heap_core.specs.Start.{method_of}
use Rattle.heap_core.specs.Judge.{run_of}
use Rattle.heap_run.specs.declared.machine.Outcome.{Outcome}
use Rattle.heap_run.specs.declared.machine.Outcome.TheVariants as outcome
use Rattle.heap_run.specs.declared.machine.Task.{Task}
use Rattle.heap_run.specs.declared.machine.Task.TheVariants as task
use Rattle.heap_run.specs.Tasks.{outcome_of, given_back as back}
use Rattle.heap_run.specs.Onward.{last, frame_of, done, exits, given_back, otherwise_of, all_onward}
use Rattle.heap_run.specs.Cost.{cost_of_turns, all_waiting, waits}
use Rattle.heap_run.specs.Machines.{memory, on_from, executed, Keeps, Blocks, cost, most, Steps, Ended, Returned, Resumed, Evaluates}
use Rattle.heap_run.specs.Runs.{ends_with}
use Rattle.heap_run.proofs.Keeping.{onward_more, waiting_more, keeps_from}
use Rattle.heap_run.proofs.Ends.{turns_first}

-- back in the method that made a call
pub back_at : (p : Posed) (m : Machine) (caller : Activation) (wanted : Bool) (r : Option Value) → Keeps p (given_back (on_from p m) caller wanted r (memory m)) (suc (1 + all_waiting p m.waits caller.left)) (record m { frame = caller }) (back wanted r)
back_at p m caller false r = record { same = refl; fewer = omega arith }
back_at p m caller true (Some v) = record { same = refl; fewer = omega arith }
back_at p m caller true None = record { same = refl; fewer = omega arith }

pub rest_at : (p : Posed) (m n : Machine) (t : Task) (rest : Bor (List Stmt)) → Blocks m rest.now n t → Ended p m (w.Rest rest) n t
rest_at p m n t rest k = keeps_from p _ _ _ _ n t (k p) refl (omega arith)

pub again_at : (p : Posed) (m n : Machine) (t : Task) (i : ℕ) (test : Bor Expr) (body : Bor Stmt) → Evaluates m test.now (w.Turn i test body) n t → Ended p m (w.Again i test body) n t
again_at p m n t i test body k = keeps_from p _ _ _ _ n t (k p) (turns_first p (on_from p m) m.frame i test.now body.now (memory m)) (omega arith)

pub nothing_ends : (p : Posed) (m : Machine) (w' : Wait) → ((ss : Bor (List Stmt)) → w' ≡ w.Rest ss → ⊥) → ((i : ℕ) (test : Bor Expr) (body : Bor Stmt) → w' ≡ w.Again i test body → ⊥) → ((caller : Activation) (otherwise : Option Value) (wanted : Bool) → w' ≡ w.Caller caller otherwise wanted → ⊥) → Ended p m w' m (task.End outcome.Unknown)
nothing_ends p m (w.Rest ss) a b c = absurd (a ss refl)
nothing_ends p m (w.Again i test body) a b c = absurd (b i test body refl)
nothing_ends p m (w.Caller caller otherwise wanted) a b c = absurd (c caller otherwise wanted refl)
nothing_ends p m w' a b c = record { same = refl; fewer = omega arith }

pub passes : (p : Posed) (m : Machine) (w' : Wait) (v : Option Value) → ((caller : Activation) (otherwise : Option Value) (wanted : Bool) → w' ≡ w.Caller caller otherwise wanted → ⊥) → Returned p m w' v m (task.Return v)
unfolding cost_of_turns
passes p m (w.Caller caller otherwise wanted) v c = absurd (c caller otherwise wanted refl)
passes p m w' v c = record { same = refl; fewer = omega arith }

-- what waited latest is taken off
pub popped_value : (p : Posed) (m n : Machine) (t : Task) (ws : List Wait) (w' : Wait) (v : Value) → m.waits ≡ ws ++ w' ∷ [] → Resumed p (record m { waits = ws }) w' v n t → Steps p m (task.Give v) n t
popped_value p m n t ws w' v is k =
    keeps_from p _ _ _ _ n t k
    (ap (λ o. o.value m.frame v (memory m)) (sym (onward_more p ws w') ∙ ap (all_onward p) (sym is)))
    (let q : all_waiting p m.waits m.frame.left ≡ waits p (all_waiting p ws) w' m.frame.left = ap (λ z. all_waiting p z m.frame.left) is ∙ ap (λ f. f m.frame.left) (waiting_more p ws w') in omega arith)

pub popped_end : (p : Posed) (m n : Machine) (t : Task) (ws : List Wait) (w' : Wait) → m.waits ≡ ws ++ w' ∷ [] → Ended p (record m { waits = ws }) w' n t → Steps p m task.Go n t
popped_end p m n t ws w' is k =
    keeps_from p _ _ _ _ n t k
    (ap (λ o. o.ended m.frame (memory m)) (sym (onward_more p ws w') ∙ ap (all_onward p) (sym is)))
    (let q : all_waiting p m.waits m.frame.left ≡ waits p (all_waiting p ws) w' m.frame.left = ap (λ z. all_waiting p z m.frame.left) is ∙ ap (λ f. f m.frame.left) (waiting_more p ws w') in omega arith)

pub popped_return : (p : Posed) (m n : Machine) (t : Task) (ws : List Wait) (w' : Wait) (v : Option Value) → m.waits ≡ ws ++ w' ∷ [] → Returned p (record m { waits = ws }) w' v n t → Steps p m (task.Return v) n t
popped_return p m n t ws w' v is k =
    keeps_from p _ _ _ _ n t k
    (ap (λ o. o.returned v (memory m)) (sym (onward_more p ws w') ∙ ap (all_onward p) (sym is)))
    (let q : all_waiting p m.waits m.frame.left ≡ waits p (all_waiting p ws) w' m.frame.left = ap (λ z. all_waiting p z m.frame.left) is ∙ ap (λ f. f m.frame.left) (waiting_more p ws w') in omega arith)

-- where nothing waits
pub empty_value : (p : Posed) (m : Machine) (ws : List Wait) (v : Value) → m.waits ≡ [] → Steps p m (task.Give v) (record m { waits = ws }) (task.End outcome.Unknown)
empty_value p m ws v is = record { same = ap (λ z. (all_onward p z).value m.frame v (memory m)) (sym is); fewer = omega arith }

gives_of_outcome : (r : Option Value) (m : Memory) → ends_with (outcome_of r) m ≡ Gives r m
gives_of_outcome None m = refl
gives_of_outcome (Some v) m = refl

pub empty_end : (p : Posed) (m : Machine) (ws : List Wait) (r : Option Value) → r ≡ option_and_then otherwise_of (method_of p) → m.waits ≡ [] → Steps p m task.Go (record m { waits = ws }) (task.End (outcome_of r))
empty_end p m ws r er is = record {
  same = gives_of_outcome r (memory m) ∙ ap (λ z. Gives z (memory m)) er ∙ ap (λ z. (all_onward p z).ended m.frame (memory m)) (sym is);
  fewer = omega arith;
}

pub empty_return : (p : Posed) (m : Machine) (ws : List Wait) (v : Option Value) → m.waits ≡ [] → Steps p m (task.Return v) (record m { waits = ws }) (task.End (outcome_of v))
empty_return p m ws v is = record {
  same = gives_of_outcome v (memory m) ∙ ap (λ z. (all_onward p z).returned v (memory m)) (sym is);
  fewer = omega arith;
}

-- a task that is no end
pub most_cost : (p : Posed) (m : Machine) (t : Task) → ((o : Outcome) → t ≡ task.End o → ⊥) → most p m t ≡ cost p m t
most_cost p m (task.End o) h = absurd (h o refl)
most_cost p m t h = refl

-- the whole run
exits_last : (p : Posed) (a : Activation) (d : MethodDef) (x : Exit) → method_of p ≡ Some d → exits (last p) a x ≡ returned d x
exits_last p a d (Goes ls m) is = ap (λ z. Gives (option_and_then otherwise_of z) m) is
exits_last p a d (Returns v m) is = refl
exits_last p a d (Raises m) is = refl
exits_last p a d Stops is = refl

pub whole_run : (p : Posed) (s' : Start) (d : MethodDef) (m : Machine) (body : Stmt) → method_of p ≡ Some d → body ≡ d.body → m.waits ≡ [] → m.frame ≡ record { this = s'.this; locals = s'.args ++ map zero_of d.locals; left = p.scope.calls } → m.heap.items ≡ s'.objects → executed p m body ≡ run_of p s'
whole_run p s' d m body is eb ew ef eh =
    ap (λ z. exits (on_from p m) m.frame (done p m.frame z (frame_of m.frame) (memory m))) eb
    ∙ ap (λ z. exits (all_onward p z) m.frame (done p m.frame d.body (frame_of m.frame) (memory m))) ew
    ∙ ap (λ z. exits (last p) z (done p z d.body (frame_of z) (memory m))) ef
    ∙ ap (λ z. exits (last p) (record { this = s'.this; locals = s'.args ++ map zero_of d.locals; left = p.scope.calls }) (done p (record { this = s'.this; locals = s'.args ++ map zero_of d.locals; left = p.scope.calls }) d.body (frame_of (record { this = s'.this; locals = s'.args ++ map zero_of d.locals; left = p.scope.calls })) (record { heap = z }))) eh
    ∙ exits_last p (record { this = s'.this; locals = s'.args ++ map zero_of d.locals; left = p.scope.calls }) d (done p (record { this = s'.this; locals = s'.args ++ map zero_of d.locals; left = p.scope.calls }) d.body (frame_of (record { this = s'.this; locals = s'.args ++ map zero_of d.locals; left = p.scope.calls })) (record { heap = s'.objects })) is
    ∙ ap (λ z. run_body p (calls p p.scope.calls) z s'.this s'.args (record { heap = s'.objects })) (sym is)
