-- Each statement shows what it does, where inlined methods do.
use Rattle.std.proofs.Common.{◌≡◌, ℕ, true, false, List, [], ◌∷◌, Option, Some, None, sym, subst}
use Rattle.std.specs.Prelude.{option_map, map, slice_get, if◌then◌else◌}
use Rattle.taco_unit.specs.declared.kind.Kind.TheVariants as kind
use Rattle.taco_unit.specs.declared.expr.Expr.{Expr}
use Rattle.taco_unit.specs.declared.stmt.Stmt.{Stmt, ind-Stmt, roll-Stmt, map-Stmt}
use Rattle.taco_unit.specs.declared.stmt.Stmt.TheOpen.{Stmt-F}
use Rattle.taco_unit.specs.declared.stmt.Stmt.TheVariants as s
use Rattle.heap_core.specs.Posed.{Posed}
use Rattle.heap_core.specs.Exec.{Memory, Goes, Frame, Body, Run, code, call_of, on_object, gives_in, write, after, after_test, in_turn, set_local, stepped, step_field, turns, give_back, exec}
use Rattle.heap_core.proofs.ExecForms.{exec_block, exec_set, exec_write, exec_step_local, exec_step_field, exec_if, exec_while, exec_return, exec_run}
use Rattle.dyn_plan.specs.Plans.{go}
use Rattle.dyn_plan.specs.Places.{Ground, Spots}
use Rattle.dyn_plan.specs.Expressions.{Inline, kind_or, low_expr, low_call}
use Rattle.dyn_plan.specs.Statements.{Lay, lay_step, lay}
use Rattle.dyn_plan.proofs.LowForms.{lay_block as block_is, lay_set, lay_write, lay_step_local, lay_step_field, lay_if, lay_while, lay_return, lay_run}
use Rattle.dyn_plan.proofs.Shown.{kept_same}
use Rattle.dyn_plan.proofs.CallShown.{Inlines}
use Rattle.dyn_plan.proofs.ExprAll.{expr_shows, call_shows}
use Rattle.dyn_plan.proofs.StmtShown.{exit_wanted, Ended, StmtClaim}
use Rattle.dyn_plan.proofs.StmtForms.{Statements, block_shows, assign_shows, step_local_shows}
use Rattle.dyn_plan.proofs.FieldForms.{write_shows, step_field_shows, if_shows, bare_shows, return_shows, run_shows}
use Rattle.dyn_plan.proofs.Loops.{while_shows}

formed : (p : Posed) (n : ℕ) (g : Ground) (x y : Lay) (b c : Body) → ((f : Spots) → x f ≡ y f) → ((fr : Frame) (m : Memory) → b fr m ≡ c fr m) → StmtClaim p n g y c → StmtClaim p n g x b
formed p n g x y b c same alike claim = record {
  shows = λ start f q fr m frame ready.
      subst (λ z. Ended g z.throws z.returns start f fr q (exit_wanted f.wanted (b fr m)) (go p n z.steps q)) (sym (same f))
      (subst (λ z. Ended g (y f).throws (y f).returns start f fr q (exit_wanted f.wanted z) (go p n (y f).steps q)) (sym (alike fr m)) (claim.shows start f q fr m frame ready));
}

-- what is known of a part
abbrev S : Posed → Ground → Run → Inline → Type 0
S p g run inline = (t : Stmt) × StmtClaim p p.scope.loops g (lay g inline t) (exec p run t)

parts : (p : Posed) (g : Ground) (run : Run) (inline : Inline) (ts : List (S p g run inline)) → Statements p p.scope.loops g (map (lay g inline) (map (λ t. t.0) ts))
    (map (exec p run) (map (λ t. t.0) ts))
parts p g run inline [] = tt
parts p g run inline (t ∷ ts) = (t.1, parts p g run inline ts)

returned : (p : Posed) (g : Ground) (run : Run) (inline : Inline) → Inlines p p.scope.loops g run inline → (a : Option Expr)
    → StmtClaim p p.scope.loops g (lay_step g inline (Stmt-F.Return a)) (give_back (option_map (code p run) a))
returned p g run inline inlines None = record { shows = λ start f q fr m frame ready. bare_shows p p.scope.loops g start f fr q m frame ready }
returned p g run inline inlines (Some a) = record {
  shows = λ start f q fr m frame ready. return_shows p p.scope.loops g (low_expr g inline a) (code p run a) f.gives start f q fr m
      (expr_shows p p.scope.loops g run inline inlines a) frame ready;
}

layer : (p : Posed) (g : Ground) (run : Run) (inline : Inline) → (g.turnless ≡ true → p.scope.loops ≡ 0) → Inlines p p.scope.loops g run inline → (y : Stmt-F (S p g run inline))
    → StmtClaim p p.scope.loops g (lay g inline (roll-Stmt (map-Stmt (S p g run inline) Stmt (λ t. t.0) y))) (exec p run (roll-Stmt (map-Stmt (S p g run inline) Stmt (λ t. t.0) y)))
layer p g run inline none inlines (Stmt-F.Block ts) =
    let us : List Stmt = map (λ t. t.0) ts in
    rw (s.rolls-Block (map (λ t. t.0) ts)) (formed p p.scope.loops g (lay g inline (s.Block us)) (lay_step g inline (Stmt-F.Block (map (lay g inline) us)))
    (exec p run (s.Block us)) (in_turn (map (exec p run) us)) (block_is g inline us) (exec_block p run us)
    (record {
      shows = λ start f q fr m frame ready. block_shows p p.scope.loops g false start f q q fr m (map (lay g inline) us) (map (exec p run) us)
          (parts p g run inline ts) frame ready (kept_same start q);
    }))
layer p g run inline none inlines (Stmt-F.Set i a) =
    rw (s.rolls-Set i a) (formed p p.scope.loops g (lay g inline (s.Set i a)) (lay_step g inline (Stmt-F.Set i a)) (exec p run (s.Set i a))
    (λ fr m. after (code p run a fr m) (set_local fr i)) (lay_set g inline i a) (exec_set p run i a)
    (record {
      shows = λ start f q fr m frame ready. assign_shows p p.scope.loops g (low_expr g inline a) (code p run a) i (kind_or (slice_get f.kinds i) kind.Int) start f q fr m
          (expr_shows p p.scope.loops g run inline inlines a) frame ready;
    }))
layer p g run inline none inlines (Stmt-F.Write a i c) =
    rw (s.rolls-Write a i c) (formed p p.scope.loops g (lay g inline (s.Write a i c)) (lay_step g inline (Stmt-F.Write a i c)) (exec p run (s.Write a i c))
    (λ fr m. after (code p run a fr m) (λ v n. after (code p run c fr n) (λ u j. after (on_object (λ o. write p i o u) v j) (λ z. Goes fr.locals)))) (lay_write g inline a i c)
    (exec_write p run a i c)
    (record {
      shows = λ start f q fr m frame ready. write_shows p p.scope.loops g (low_expr g inline a) (low_expr g inline c) (code p run a) (code p run c) i start f q fr m
          (expr_shows p p.scope.loops g run inline inlines a) (expr_shows p p.scope.loops g run inline inlines c) frame ready;
    }))
layer p g run inline none inlines (Stmt-F.StepLocal i up) =
    rw (s.rolls-StepLocal i up) (formed p p.scope.loops g (lay g inline (s.StepLocal i up)) (lay_step g inline (Stmt-F.StepLocal i up)) (exec p run (s.StepLocal i up))
    (λ fr m. after (gives_in (slice_get fr.locals i) m) (λ v n. after (stepped p.scope.ints up v n) (set_local fr i))) (lay_step_local g inline i up) (exec_step_local p run i up)
    (record { shows = λ start f q fr m frame ready. step_local_shows p p.scope.loops g start f fr m q i up frame ready }))
layer p g run inline none inlines (Stmt-F.StepField a i up) =
    rw (s.rolls-StepField a i up) (formed p p.scope.loops g (lay g inline (s.StepField a i up)) (lay_step g inline (Stmt-F.StepField a i up)) (exec p run (s.StepField a i up))
    (λ fr m. after (code p run a fr m) (λ v n. after (on_object (step_field p i up) v n) (λ z. Goes fr.locals))) (lay_step_field g inline a i up) (exec_step_field p run a i up)
    (record {
      shows = λ start f q fr m frame ready. step_field_shows p p.scope.loops g (low_expr g inline a) (code p run a) i up start f q fr m
          (expr_shows p p.scope.loops g run inline inlines a) frame ready;
    }))
layer p g run inline none inlines (Stmt-F.If a t u) =
    rw (s.rolls-If a t.0 u.0) (formed p p.scope.loops g (lay g inline (s.If a t.0 u.0)) (lay_step g inline (Stmt-F.If a (lay g inline t.0) (lay g inline u.0)))
    (exec p run (s.If a t.0 u.0)) (λ fr m. after_test (code p run a fr m) (λ b n. if b then exec p run t.0 fr n else exec p run u.0 fr n)) (lay_if g inline a t.0 u.0)
    (exec_if p run a t.0 u.0)
    (record {
      shows = λ start f q fr m frame ready. if_shows p p.scope.loops g (low_expr g inline a) (code p run a) (lay g inline t.0) (lay g inline u.0) (exec p run t.0)
          (exec p run u.0) start f q fr m (expr_shows p p.scope.loops g run inline inlines a) t.1 u.1 frame ready;
    }))
layer p g run inline none inlines (Stmt-F.While a t) =
    rw (s.rolls-While a t.0) (formed p p.scope.loops g (lay g inline (s.While a t.0)) (lay_step g inline (Stmt-F.While a (lay g inline t.0))) (exec p run (s.While a t.0))
    (turns p.scope.loops (code p run a) (exec p run t.0)) (lay_while g inline a t.0) (exec_while p run a t.0)
    (record {
      shows = λ start f q fr m frame ready. while_shows p g (low_expr g inline a) (code p run a) (lay g inline t.0) (exec p run t.0) start f q fr m none
          (expr_shows p p.scope.loops g run inline inlines a) t.1 frame ready;
    }))
layer p g run inline none inlines (Stmt-F.Return a) =
    rw (s.rolls-Return a) (formed p p.scope.loops g (lay g inline (s.Return a)) (lay_step g inline (Stmt-F.Return a)) (exec p run (s.Return a))
    (give_back (option_map (code p run) a)) (lay_return g inline a) (exec_return p run a) (returned p g run inline inlines a))
layer p g run inline none inlines (Stmt-F.Run c) =
    rw (s.rolls-Run c) (formed p p.scope.loops g (lay g inline (s.Run c)) (lay_step g inline (Stmt-F.Run c)) (exec p run (s.Run c))
    (λ fr m. after (call_of p run c fr m) (λ v. Goes fr.locals)) (lay_run g inline c) (exec_run p run c)
    (record {
      shows = λ start f q fr m frame ready. run_shows p p.scope.loops g (low_call g inline c).low (call_of p run c) start f q fr m
          (call_shows p p.scope.loops g run inline inlines c) frame ready;
    }))

pub stmt_shows : (p : Posed) (g : Ground) (run : Run) (inline : Inline) → (g.turnless ≡ true → p.scope.loops ≡ 0) → Inlines p p.scope.loops g run inline → (t : Stmt)
    → StmtClaim p p.scope.loops g (lay g inline t) (exec p run t)
stmt_shows p g run inline none inlines =
    ind-Stmt (λ t. StmtClaim p p.scope.loops g (lay g inline t) (exec p run t))
    (λ x y is. subst (λ z. StmtClaim p p.scope.loops g (lay g inline (roll-Stmt z)) (exec p run (roll-Stmt z))) is (layer p g run inline none inlines y))
