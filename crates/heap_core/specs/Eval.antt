-- What a clause evaluates to.
--
-- The value is that of Java's expression or of JML's, where there is one (Java Language Specification,
-- "Evaluation Order"; JML Reference Manual, "Predicates and Specification Expressions"). This project's
-- own are the two other outcomes: Bad where null is read through (JML Reference Manual, "Expression
-- Evaluation and Undefinedness": such a clause is not true), Out where a number leaves its width. What the
-- kinds of a well unit rule out is Out.
use Rattle.std.specs.Prelude.{ℕ, pos, Bool, true, false, not, ◌&&◌, ◌||◌, if◌then◌else◌, List, [], ◌∷◌, ◌++◌, count_by, slice_get, Option, Some, None}
use Rattle.std.specs.List.{list_any, list_all, range_with_len}
use Rattle.taco_unit.specs.declared.unit.ClassDef.{ClassDef}
use Rattle.taco_unit.specs.declared.expr.Op.{Op}
use Rattle.taco_unit.specs.declared.expr.Op.TheVariants as op
use Rattle.taco_unit.specs.declared.expr.Expr.{Expr, fold-Expr}
use Rattle.taco_unit.specs.declared.expr.Expr.TheOpen.{Expr-F, Call-F, Quant-F, Reach-F}
use Rattle.heap_core.specs.declared.value.Value.{Value}
use Rattle.heap_core.specs.declared.value.Value.TheVariants.{Null, Obj, Num, Flag}
use Rattle.heap_core.specs.declared.value.Seen.{Seen}
use Rattle.heap_core.specs.declared.value.Seen.TheVariants.{Is, Bad, Out}
use Rattle.heap_core.specs.Outcomes.{number, flag, value_in, with_value, with_flag, as_flag, opposite, negative, operated, is_out, is_bad, is_true, is_object, gives_object}
use Rattle.heap_core.specs.Heap.{Heap, is_of, field}
use Rattle.heap_core.specs.Closure.{closure}

-- what a clause is evaluated in
pub record Env : Type 0 where
  pub classes : List ClassDef
  -- the most objects of a heap: all objects have numbers below it
  pub objects : ℕ
  -- the bits of a number
  pub ints : ℕ
  -- the receiver, null where there is none
  pub this : Value
  -- the parameters, with the values that the method was called with
  pub locals : List Value
  -- the objects of the quantified variables around, the outermost first
  pub bound : List Value
  -- the returned value, in an `ensures` clause of a method with a result
  pub result : Option Value
  pub heap : Heap
  -- the heap of the pre-state; in an invariant or a `requires` clause, where no `\old` can stand, the
  -- heap itself
  pub heap_before : Heap

abbrev pub Meaning : Type 0
Meaning = Env → Seen

-- what two operands make; `&&`, `||` and `==>` look at the right one only where it decides (Java
-- Language Specification, "Conditional-And Operator &&", "Conditional-Or Operator ||"; JML Reference
-- Manual, "Forward and Reverse Implication Operators")
abbrev pub binary : Op → ℕ → Seen → Seen → Seen
binary op.And w a b = with_flag a (λ x. if x then as_flag b else flag false)
binary op.Or w a b = with_flag a (λ x. if x then flag true else as_flag b)
binary op.Implies w a b = with_flag a (λ x. if x then as_flag b else flag true)
binary o w a b = with_value a (λ x. with_value b (operated o w x))

-- in the pre-state
abbrev pub before : Env → Env
before env = record env { heap = env.heap_before }

-- with one quantified variable more
abbrev pub bind : Env → ℕ → Env
bind env o = record env { bound = env.bound ++ Obj o ∷ [] }

-- the conjunction (or disjunction) of the instances at those numbers below n that are in the domain:
-- Out where one of them is Out, else Bad where one is Bad (JML Reference Manual, "Universal and
-- Existential Quantifiers"; the two other outcomes are this project's own)
abbrev pub over : Bool → (ℕ → Bool) → (ℕ → Seen) → ℕ → Seen
over all domain instance n =
    if list_any (λ o. domain o && is_out (instance o)) (range_with_len 0 n) then Out
    else (if list_any (λ o. domain o && is_bad (instance o)) (range_with_len 0 n) then Bad
    else (if all then flag (list_all (λ o. not (domain o) || is_true (instance o)) (range_with_len 0 n))
    else flag (list_any (λ o. domain o && is_true (instance o)) (range_with_len 0 n))))

-- one instance of a quantifier: `range ==> body`, or `range && body`
abbrev pub instance_of : Bool → Option Meaning → Meaning → Meaning
instance_of all None body env = as_flag (body env)
instance_of true (Some range) body env = binary op.Implies env.ints (range env) (body env)
instance_of false (Some range) body env = binary op.And env.ints (range env) (body env)

-- the part of a `\reach`: where it begins, and along which fields it goes
pub record Source : Type 0 where
  pub root : Meaning
  pub fields : List ℕ

-- a quantifier, over the objects of its class in the heap of the state in which it is evaluated
abbrev pub quantified : Quant-F Meaning (Unit {0}) Meaning Source → Meaning
quantified q env =
    over q.all (is_of env.heap q.class) (λ o. instance_of q.all q.range q.body (bind env o)) env.objects

-- one of the fields of object p holds object o
abbrev pub points : Env → List ℕ → ℕ → ℕ → Bool
points env fields p o = list_any (λ f. gives_object o (field env.classes env.heap f (Obj p))) fields

-- `\reach`: the least set that holds the value, if it is an object, and with each object the objects in
-- its fields (JML Reference Manual, "\reach", cut to the fields named: this project's own)
abbrev pub reached : Env → List ℕ → Value → ℕ → Bool
reached env fields v = closure (points env fields) env.objects (λ o. is_object o v)

-- whether a value is an object of the set
abbrev pub holds : (ℕ → Bool) → Value → Seen
holds set Null = flag false
holds set (Obj o) = flag (set o)
holds set _ = Out

-- `.has` and `.int_size` of a `\reach` from a value
abbrev pub has : Env → List ℕ → Value → Value → Seen
has env fields (Num z) x = Out
has env fields (Flag b) x = Out
has env fields v x = holds (reached env fields v) x

abbrev pub size : Env → List ℕ → Value → Seen
size env fields (Num z) = Out
size env fields (Flag b) = Out
size env fields v = number env.ints (pos (count_by (reached env fields v) (range_with_len 0 env.objects)))

-- the value of a clause, by cases on its form; `new` and calls do not stand in clauses
abbrev pub step_expr : Expr-F Meaning (Unit {0}) Meaning Source → Meaning
step_expr (Expr-F.Num z) env = number env.ints z
step_expr (Expr-F.Flag b) env = flag b
step_expr Expr-F.Null env = Is Null
step_expr Expr-F.This env = Is env.this
step_expr Expr-F.Result env = value_in env.result
step_expr (Expr-F.Local i) env = value_in (slice_get env.locals i)
step_expr (Expr-F.Bound i) env = value_in (slice_get env.bound i)
step_expr (Expr-F.Read a f) env = with_value (a env) (field env.classes env.heap f)
step_expr (Expr-F.Neg a) env = with_value (a env) (negative env.ints)
step_expr (Expr-F.Not a) env = with_value (a env) opposite
step_expr (Expr-F.Bin o a b) env = binary o env.ints (a env) (b env)
step_expr (Expr-F.Quant q) env = q env
step_expr (Expr-F.Old a) env = a (before env)
step_expr (Expr-F.Has r a) env = with_value (r.root env) (λ v. with_value (a env) (has env r.fields v))
step_expr (Expr-F.Size r) env = with_value (r.root env) (size env r.fields)
step_expr (Expr-F.New c) env = Out
step_expr (Expr-F.Call c) env = Out

abbrev pub step_call : Call-F Meaning (Unit {0}) Meaning Source → Unit {0}
step_call c = tt

abbrev pub step_reach : Reach-F Meaning (Unit {0}) Meaning Source → Source
step_reach r = record { root = r.from; fields = r.fields }

-- the value of a clause in an environment
abbrev pub eval : Expr → Meaning
eval = fold-Expr Meaning (Unit {0}) Meaning Source step_expr step_call quantified step_reach
