-- Worked rows: methods as trees, lowered, with what their steps do from a start.
use Rattle.std.proofs.Common.{◌≡◌, ℕ, true, false, Bool, List, [], ◌∷◌, ◌++◌, Option, Some, None, refl}
use Rattle.std.specs.Prelude.{pos, option_map, slice_get, length}
use Rattle.std.specs.Option.{option_map_or}
use Rattle.std.specs.List.{range_with_len}
use Rattle.taco_unit.specs.declared.kind.Kind.{Kind}
use Rattle.taco_unit.specs.declared.kind.Kind.TheVariants.{Int, Flag, Ref}
use Rattle.taco_unit.specs.declared.expr.Op.TheVariants as op
use Rattle.taco_unit.specs.declared.expr.Expr.{Expr}
use Rattle.taco_unit.specs.declared.expr.Call.{Call, roll-Call}
use Rattle.taco_unit.specs.declared.expr.Expr.TheVariants as e
use Rattle.taco_unit.specs.declared.stmt.Stmt.{Stmt}
use Rattle.taco_unit.specs.declared.stmt.Stmt.TheVariants as s
use Rattle.taco_unit.specs.declared.unit.FieldDef.{FieldDef}
use Rattle.taco_unit.specs.declared.unit.ParamDef.{ParamDef}
use Rattle.taco_unit.specs.declared.unit.MethodDef.{MethodDef}
use Rattle.heap_core.specs.declared.value.Value.{Value}
use Rattle.heap_core.specs.declared.value.Value.TheVariants as v
use Rattle.heap_core.specs.declared.value.Object.{Object}
use Rattle.heap_core.specs.declared.start.Start.{Start}
use Rattle.heap_core.specs.Heap.{Heap}
use Rattle.heap_core.specs.Posed.{Posed}
use Rattle.dyn_core.specs.declared.prog.Act.TheVariants.{Const}
use Rattle.dyn_core.specs.declared.state.DynState.{DynState}
use Rattle.dyn_core.specs.States.{var_at}
use Rattle.dyn_plan.specs.Plans.{go}
use Rattle.dyn_plan.specs.declared.plan.Plan.TheVariants as l
use Rattle.dyn_plan.specs.Places.{Ground, Spots}
use Rattle.dyn_plan.specs.Statements.{Laid, lay}
use Rattle.dyn_plan.specs.Frames.{frame_of, in_frame, inlined}
use Rattle.dyn_plan.specs.Whole.{ground, outer_frame, run_inside, rows_up_to, zeros_but}
use Rattle.dyn_plan.proofs.PlanForms.{next_forms}
use Rattle.dyn_plan.proofs.Known as k

-- the parts of the rows. Names are left empty: no definition here reads them

abbrev param_of : Kind → ParamDef
param_of kind = record { name = []; kind = kind; nullable = true }

-- a method of class 0, static where that is said
abbrev method_with : Bool → List ParamDef → Option (Kind × Bool) → List Kind → Stmt → MethodDef
method_with fixed params result locals body =
    record { name = []; class = 0; fixed = fixed; params = params; result = result; locals = locals; needs = []; gives = []; body = body }

abbrev fields_of : List Kind → List FieldDef
fields_of [] = []
fields_of (k ∷ ks) = record { name = []; class = 0; kind = k; nullable = true } ∷ fields_of ks

-- the first method of a unit of one class with fields of these kinds, at K objects, 4 bits and d calls
abbrev posed : List Kind → List MethodDef → ℕ → ℕ → Posed
posed fields methods objects calls = record {
  unit = record {
    classes = record { name = []; fields = range_with_len 0 (length fields); methods = range_with_len 0 (length methods); invariants = [] } ∷ [];
    fields = fields_of fields;
    methods = methods;
  };
  method = 0;
  scope = record { objects = objects; ints = 4; loops = 0; calls = calls };
}

abbrev call_on : ℕ → Expr → List Expr → Call
call_on method target args = roll-Call (record { method = method; target = Some target; args = args })

abbrev static_call : ℕ → List Expr → Call
static_call method args = roll-Call (record { method = method; target = None; args = args })

abbrev object : List Value → Object
object cells = record { class = 0; cells = cells }

abbrev start : List Object → Value → List Value → Start
start objects this args = record { objects = objects; this = this; args = args }

abbrev num : ℕ → Value
num n = v.Num (pos n)

-- ## running

-- the first method, with what the lowering stands on and its frames
abbrev method : Posed → MethodDef
method p = option_map_or (λ d. d) (slice_get p.unit.methods 0) (method_with true [] None [] (s.Block []))

abbrev base_of : Posed → Ground
base_of p = ground p.unit false (method p)

abbrev outer : Posed → Spots
outer p = outer_frame (base_of p) (method p)

abbrev inner : Posed → Spots
inner p = frame_of (base_of p) (method p) (outer p).this (outer p).locals false (outer p).base

-- its body, lowered
abbrev body_of : Posed → Laid
body_of p = lay (base_of p) (inlined (base_of p) p.scope.calls) (method p).body (inner p)

-- the same, built of its parts, so that it computes
abbrev Body : Posed → Type 0
Body p = k.KnownStmt (base_of p) (inlined (base_of p) p.scope.calls) (inner p) (method p).body

-- what the end of a run shows: whether the method has thrown, its result, and the heap
record End : Type 0 where
  pub thrown : Value
  pub result : Value
  pub heap : Heap

abbrev end_of : Spots → DynState → End
end_of f t = record { thrown = var_at t.vars f.thrown; result = var_at t.vars f.result; heap = t.objects }

abbrev gave : Value → Heap → Option End
gave value heap = Some (record { thrown = v.Flag false; result = value; heap = heap })

abbrev thrown_with : Value → Heap → Option End
thrown_with value heap = Some (record { thrown = v.Flag true; result = value; heap = heap })

-- how the method's run from a start ends, with this body and at most n turns of each loop
abbrev run : Posed → Laid → ℕ → Start → Option End
run p x n s =
    option_map (end_of (outer p))
    (go p n (run_inside (base_of p) (outer p) (in_frame (method p) (outer p).locals (outer p) (inner p) x)) (record { vars = s.args ++ s.this ∷ []; objects = s.objects }))

-- ## static int inc(int x) { return x + 1; }
abbrev inc : Posed
inc = posed [] (method_with true (param_of Int ∷ []) (Some (Int, false)) [] (s.Return (Some (e.Bin op.Add (e.Local 0) (e.Num (pos 1))))) ∷ []) 3 2

abbrev inc_known : Body inc
inc_known = k.give (k.bin op.Add (k.local 0) (k.num (pos 1)))

-- at 7 the sum leaves 4 bits
inc_six : run inc (body_of inc) 3 (start [] v.Null (num 6 ∷ [])) ≡ gave (num 7) []
inc_six = rw inc_known.is (simp next_forms refl)

inc_seven : run inc (body_of inc) 3 (start [] v.Null (num 7 ∷ [])) ≡ None
inc_seven = rw inc_known.is (simp next_forms refl)

-- ## static int up(boolean go) { int i = 0; while (go && i < 3) { i++; } return i; }
abbrev up : Posed
up =
    posed []
    (method_with true (param_of Flag ∷ []) (Some (Int, false)) (Int ∷ [])
    (s.Block
    (s.Set 1 (e.Num (pos 0)) ∷ s.While (e.Bin op.And (e.Local 0) (e.Bin op.Lt (e.Local 1) (e.Num (pos 3)))) (s.StepLocal 1 true) ∷ s.Return (Some (e.Local 1)) ∷ [])) ∷ [])
    3
    2

abbrev up_known : Body up
up_known = k.block (k.then (k.set 1 (k.num (pos 0))) (k.then (k.loop (k.bin op.And (k.local 0) (k.bin op.Lt (k.local 1) (k.num (pos 3)))) (k.step 1 true))
    (k.then (k.give (k.local 1)) k.none)))

-- two turns are not enough, three are
up_two : run up (body_of up) 2 (start [] v.Null (v.Flag true ∷ [])) ≡ None
up_two = rw up_known.is (simp next_forms refl)

up_two_not : run up (body_of up) 2 (start [] v.Null (v.Flag false ∷ [])) ≡ gave (num 0) []
up_two_not = rw up_known.is (simp next_forms refl)

up_three : run up (body_of up) 3 (start [] v.Null (v.Flag true ∷ [])) ≡ gave (num 3) []
up_three = rw up_known.is (simp next_forms refl)

up_three_not : run up (body_of up) 3 (start [] v.Null (v.Flag false ∷ [])) ≡ gave (num 0) []
up_three_not = rw up_known.is (simp next_forms refl)

-- ## class C { int v; static int get(nullable C x) { return x.v; } }
abbrev get : Posed
get = posed (Int ∷ []) (method_with true (param_of (Ref 0) ∷ []) (Some (Int, false)) [] (s.Return (Some (e.Read (e.Local 0) 0))) ∷ []) 3 2

abbrev get_known : Body get
get_known = k.give (k.read (k.local 0) 0)

get_null : run get (body_of get) 3 (start [] v.Null (v.Null ∷ [])) ≡ thrown_with (num 0) []
get_null = rw get_known.is (simp next_forms refl)

get_five : run get (body_of get) 3 (start (object (num 5 ∷ []) ∷ []) v.Null (v.Obj 0 ∷ [])) ≡ gave (num 5) (object (num 5 ∷ []) ∷ [])
get_five = rw get_known.is (simp next_forms refl)

-- ## static int late(nullable C x) { return x.same(7 + 1); }, with int same(int y) { return y; }
abbrev late : Posed
late =
    posed (Int ∷ [])
    (method_with true (param_of (Ref 0) ∷ []) (Some (Int, false)) [] (s.Return (Some (e.Call (call_on 1 (e.Local 0) (e.Bin op.Add (e.Num (pos 7)) (e.Num (pos 1)) ∷ []))))) ∷
    method_with false (param_of Int ∷ []) (Some (Int, false)) [] (s.Return (Some (e.Local 0))) ∷ [])
    3
    0

abbrev late_known : Body late
late_known = k.give (k.call (k.call_on 1 (k.local 0) (k.bin op.Add (k.num (pos 7)) (k.num (pos 1)))))

-- the argument leaves 4 bits before the target is found to be null
late_null : run late (body_of late) 3 (start [] v.Null (v.Null ∷ [])) ≡ None
late_null = rw late_known.is (simp next_forms refl)

-- ## static int deep(nullable C x) { return x.same(5); }, where no call may be nested
abbrev deep : Posed
deep =
    posed (Int ∷ [])
    (method_with true (param_of (Ref 0) ∷ []) (Some (Int, false)) [] (s.Return (Some (e.Call (call_on 1 (e.Local 0) (e.Num (pos 5) ∷ []))))) ∷ method_with false
    (param_of Int ∷ []) (Some (Int, false)) [] (s.Return (Some (e.Local 0))) ∷ [])
    3
    0

abbrev deep_known : Body deep
deep_known = k.give (k.call (k.call_on 1 (k.local 0) (k.num (pos 5))))

-- null is looked at before the depth
deep_null : run deep (body_of deep) 3 (start [] v.Null (v.Null ∷ [])) ≡ thrown_with (num 0) []
deep_null = rw deep_known.is (simp next_forms refl)

deep_object : run deep (body_of deep) 3 (start (object (num 2 ∷ []) ∷ []) v.Null (v.Obj 0 ∷ [])) ≡ None
deep_object = rw deep_known.is (simp next_forms refl)

-- ## static int one(boolean b) { while (b) { return 1; } return 0; }
abbrev one : Posed
one =
    posed []
    (method_with true (param_of Flag ∷ []) (Some (Int, false)) [] (s.Block (s.While (e.Local 0) (s.Return (Some (e.Num (pos 1)))) ∷ s.Return (Some (e.Num (pos 0))) ∷ [])) ∷ [])
    3
    2

abbrev one_known : Body one
one_known = k.block (k.then (k.loop (k.local 0) (k.give (k.num (pos 1)))) (k.then (k.give (k.num (pos 0))) k.none))

-- one turn is enough, since it returns
one_true : run one (body_of one) 1 (start [] v.Null (v.Flag true ∷ [])) ≡ gave (num 1) []
one_true = rw one_known.is (simp next_forms refl)

one_false : run one (body_of one) 1 (start [] v.Null (v.Flag false ∷ [])) ≡ gave (num 0) []
one_false = rw one_known.is (simp next_forms refl)

one_without_turn : run one (body_of one) 0 (start [] v.Null (v.Flag true ∷ [])) ≡ None
one_without_turn = rw one_known.is (simp next_forms refl)

-- ## static int twice() { int i = next(); return next(); }, with static int next() { int i; i++; return i; }: the second
-- call finds its local at 0
abbrev next_method : MethodDef
next_method = method_with true [] (Some (Int, false)) (Int ∷ []) (s.Block (s.StepLocal 0 true ∷ s.Return (Some (e.Local 0)) ∷ []))

abbrev twice : Posed
twice =
    posed []
    (method_with true [] (Some (Int, false)) (Int ∷ []) (s.Block (s.Set 0 (e.Call (static_call 1 [])) ∷ s.Return (Some (e.Call (static_call 1 []))) ∷ [])) ∷ next_method ∷ [])
    3
    1

abbrev twice_known : Body twice
twice_known = k.block (k.then (k.set 0 (k.call (k.static_call 1))) (k.then (k.give (k.call (k.static_call 1))) k.none))

abbrev next_known : k.KnownStmt (base_of twice) (inlined (base_of twice) 0) (frame_of (base_of twice) next_method None [] true (inner twice).base) next_method.body
next_known = k.block (k.then (k.step 0 true) (k.then (k.give (k.local 0)) k.none))

twice_once : run twice (body_of twice) 0 (start [] v.Null []) ≡ gave (num 1) []
twice_once = rw twice_known.is (rw next_known.is (simp next_forms refl))

-- ## all variables behind the receiver begin anew at the end, but the result and whether the method has thrown
closing : zeros_but 4 8 2 (Int ∷ Flag ∷ Ref 0 ∷ Int ∷ Flag ∷ Ref 0 ∷ Int ∷ Flag ∷ []) ≡ l.Do (Const 2 (num 0)) ∷ l.Do (Const 3 (v.Flag false)) ∷ l.Do (Const 5 (num 0)) ∷ l.Do
    (Const 6 (v.Flag false)) ∷ l.Do (Const 7 v.Null) ∷ l.Do (Const 9 (v.Flag false)) ∷ []
closing = refl

-- rows as far as the greatest variable
rows_reach : rows_up_to 9 (base_of inc) 2 7 ≡ Int ∷ Flag ∷ Ref 0 ∷ Int ∷ Flag ∷ Ref 0 ∷ []
rows_reach = refl

-- ## a call beyond the depth would give its result at a variable of the result's kind, here a truth value
abbrev deeper : Posed
deeper = posed [] (method_with true [] (Some (Flag, false)) [] (s.Block []) ∷ []) 3 0

beyond : inlined (base_of deeper) 0 0 None [] true (inner deeper) 29 ≡ record { place = 30; steps = l.Fail ∷ []; throws = false }
beyond = refl
