-- The judgement of a plain method's start.
use Rattle.std.proofs.Common.{◌≡◌, ℕ, ◌+◌, Bool, true, false, List, [], ◌∷◌, ◌++◌, length, map, Option, Some, None, refl, ap, ◌∙◌, append-nil}
use Rattle.std.specs.Prelude.{◌&&◌, ◌||◌, not, slice_get, option_map, filter_map, zip, if◌then◌else◌}
use Rattle.std.specs.List.{list_any, list_all, enumerate_from}
use Rattle.std.specs.Option.{option_map_or}
use Rattle.taco_unit.specs.declared.kind.Kind.{Kind}
use Rattle.taco_unit.specs.declared.kind.Kind.TheVariants as kind
use Rattle.taco_unit.specs.declared.stmt.Stmt.TheVariants as s
use Rattle.taco_unit.specs.declared.unit.Clause.{Clause}
use Rattle.taco_unit.specs.declared.unit.MethodDef.{MethodDef}
use Rattle.taco_unit.specs.declared.unit.ParamDef.{ParamDef}
use Rattle.taco_unit.specs.Kinds.{Form, Code, Entry, Exit, same_kind}
use Rattle.heap_core.specs.declared.value.Value.{Value}
use Rattle.heap_core.specs.declared.value.Value.TheVariants.{Null, Flag}
use Rattle.heap_core.specs.declared.value.Seen.{Seen}
use Rattle.heap_core.specs.declared.start.Start.{Start}
use Rattle.heap_core.specs.declared.judged.Part.TheVariants as part
use Rattle.heap_core.specs.declared.judged.Judged.{Judged}
use Rattle.heap_core.specs.declared.judged.Judged.TheVariants.{Outside, NotAsked, Breaks, Meets}
use Rattle.heap_core.specs.Posed.{Posed}
use Rattle.heap_core.specs.Outcomes.{flag, is_out, is_true, is_null, zero_of}
use Rattle.heap_core.specs.Eval.{Env}
use Rattle.heap_core.specs.Exec.{Frame, Memory, Gives, calls}
use Rattle.heap_core.specs.Judge.{values_of, entry_env, exit_env, must_be_there, not_true, first_broken, run_of, judged}
use Rattle.heap_core.proofs.ExecForms.{exec_block, exec_return}
use Rattle.boolean_trial.specs.Plain.{is_plain, are_plain, IsPlainMethod}
use Rattle.boolean_trial.specs.Truth.{truth_of}
use Rattle.boolean_trial.specs.Trial.{start_of, first_untrue}
use Rattle.boolean_trial.proofs.Says.{Sees, says}

-- both tests pass
pub record Both (a b : Bool) : Type 0 where
  pub first : a ≡ true
  pub second : b ≡ true

pub both : (a b : Bool) → (a && b) ≡ true → Both a b
both true true passes = record { first = refl; second = refl }
both true false passes = absurd (cc)
both false b passes = absurd (cc)

-- what clauses say, in order
abbrev said : List Bool → Bool → List Clause → List Seen
said args r = map (λ c. flag (truth_of c.expr args r))

values_said : (args : List Bool) (r : Bool) (form : Form) (env : Env) (cs : List Clause) → are_plain (length args) form cs ≡ true → Sees args r form env
    → values_of env cs ≡ said args r cs
values_said args r form env [] plain sees = refl
values_said args r form env (c ∷ cs) plain sees =
    let parts = both (is_plain c.expr (length args) form) (are_plain (length args) form cs) plain in
    rw ((says c.expr).clause args r form parts.first env sees, values_said args r form env cs parts.second sees) refl

none_out : (args : List Bool) (r : Bool) (cs : List Clause) → list_any is_out (said args r cs) ≡ false
none_out args r [] = refl
none_out args r (c ∷ cs) = none_out args r cs

all_true : (args : List Bool) (r : Bool) (cs : List Clause) → list_all is_true (said args r cs) ≡ list_all (λ c. truth_of c.expr args r) cs
all_true args r [] = refl
all_true args r (c ∷ cs) = ap (λ b. truth_of c.expr args r && b) (all_true args r cs)

-- the judgement by the first clause that is not true
abbrev pub broken_at : Option ℕ → Judged
broken_at None = Meets
broken_at (Some k) = Breaks (part.Ensures k)

first_said : (n : ℕ) (args : List Bool) (r : Bool) (cs : List Clause)
    → first_broken (filter_map (λ e. if is_true e.1 then None else Some (part.Ensures e.0)) (enumerate_from n (said args r cs))) ≡ broken_at (first_untrue n cs args r)
first_said n args r [] = refl
first_said n args r (c ∷ cs) = by_truth (truth_of c.expr args r) refl (first_said (n + 1) args r cs)
  where
    by_truth : (b : Bool) → truth_of c.expr args r ≡ b
        → first_broken (filter_map (λ e. if is_true e.1 then None else Some (part.Ensures e.0)) (enumerate_from (n + 1) (said args r cs))) ≡ broken_at (first_untrue (n + 1) cs args r)
        → first_broken (filter_map (λ e. if is_true e.1 then None else Some (part.Ensures e.0)) (enumerate_from n (said args r (c ∷ cs)))) ≡ broken_at (first_untrue n (c ∷ cs) args r)
    by_truth true is rest = rw is rest
    by_truth false is rest = rw is refl

-- a truth value must not be there
flag_is_there : (k : Kind) (nullable : Bool) → same_kind k kind.Flag ≡ true → must_be_there k nullable ≡ false
flag_is_there kind.Int nullable is = absurd (cc)
flag_is_there kind.Flag nullable is = refl
flag_is_there (kind.Ref c) nullable is = absurd (cc)

none_lacks : (params : List ParamDef) (vs : List Value) → list_all (λ p. same_kind p.kind kind.Flag) params ≡ true
    → list_any (λ e. must_be_there e.0.kind e.0.nullable && is_null e.1) (zip params vs) ≡ false
none_lacks [] vs flags = refl
none_lacks (p ∷ params) [] flags = refl
none_lacks (p ∷ params) (v ∷ vs) flags =
    let parts = both (same_kind p.kind kind.Flag) (list_all (λ q. same_kind q.kind kind.Flag) params) flags in
    rw (flag_is_there p.kind p.nullable parts.first) (none_lacks params vs parts.second)

-- the result of a plain method must not be there either
no_result_lacks : (d : Option (Kind × Bool)) (v : Value) → option_map (λ r. r.0) d ≡ Some kind.Flag → option_map_or (λ k. must_be_there k.0 k.1 && is_null v) d false ≡ false
no_result_lacks None v is = refl
no_result_lacks (Some (kind.Int, n)) v is = absurd (cc)
no_result_lacks (Some (kind.Flag, n)) v is = refl
no_result_lacks (Some (kind.Ref c, n)) v is = absurd (cc)

-- what the method returns
plain_run : (p : Posed) (m : MethodDef) (plain : IsPlainMethod m) (args : List Bool) → length args ≡ length m.params → slice_get p.unit.methods p.method ≡ Some m
    → run_of p (start_of args) ≡ Gives (Some (Flag (truth_of plain.value args false))) (record { heap = [] })
plain_run p m plain args same there =
    let run = calls p p.scope.calls in
    let memory : Memory = record { heap = [] } in
    let frame : Frame = record { this = Null; locals = map Flag args } in
    let no_more : map Flag args ++ map zero_of m.locals ≡ map Flag args = ap (λ l. map Flag args ++ map zero_of l) plain.no_locals ∙ append-nil (map Flag args) in
    let is_plain_too : is_plain plain.value (length args) Code ≡ true = rw same plain.plain_value in
    rw (there, no_more, plain.body, exec_block p run (s.Return (Some plain.value) ∷ []) frame memory, exec_return p run (Some plain.value) frame memory, (says plain.value).code_too args false is_plain_too p run frame memory refl) refl

-- once the precondition is known
by_needs : (args : List Bool) (t asked lacks : Bool) (gives : List Clause) (seen : List Seen) → seen ≡ said args t gives → lacks ≡ false
    → (if not (asked && true) then NotAsked
    else (if list_any is_out seen || false then Outside else first_broken (not_true part.Ensures seen ++ (if lacks then part.Result ∷ [] else []) ++ [])))
    ≡ (if asked then broken_at (first_untrue 1 gives args t) else NotAsked)
by_needs args t false lacks gives seen is no_lack = refl
by_needs args t true lacks gives seen is no_lack =
    rw (is, no_lack, none_out args t gives) (ap first_broken (append-nil _ ∙ append-nil _) ∙ first_said 1 args t gives)

-- the judgement of a plain method's start
pub judged_plain : (p : Posed) (m : MethodDef) (plain : IsPlainMethod m) (args : List Bool) → length args ≡ length m.params → slice_get p.unit.methods p.method ≡ Some m
    → judged p (start_of args)
    ≡ (if list_all (λ c. truth_of c.expr args false) m.needs then broken_at (first_untrue 1 m.gives args (truth_of plain.value args false)) else NotAsked)
judged_plain p m plain args same there =
    let s : Start = start_of args in
    let t = truth_of plain.value args false in
    let needs : values_of (entry_env p s) m.needs ≡ said args false m.needs =
    values_said args false Entry (entry_env p s) m.needs (rw same plain.needs) (record { locals = refl; result = λ h. absurd (cc) }) in
    let gives : values_of (exit_env p s (Some (Flag t)) []) m.gives ≡ said args t m.gives =
    values_said args t Exit (exit_env p s (Some (Flag t)) []) m.gives (rw same plain.gives) (record { locals = refl; result = λ h. refl }) in
    let lacks : list_any (λ e. must_be_there e.0.kind e.0.nullable && is_null e.1) (zip m.params (map Flag args)) ≡ false = none_lacks m.params (map Flag args) plain.params in
    rw (plain_run p m plain args same there, there, needs, none_out args false m.needs, all_true args false m.needs, lacks)
    (by_needs args t (list_all (λ c. truth_of c.expr args false) m.needs) _ m.gives _ gives (no_result_lacks m.result (Flag t) plain.result))
